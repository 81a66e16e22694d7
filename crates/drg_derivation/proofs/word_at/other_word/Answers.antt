use Rattle.std.proofs.Common.{◌∙◌, arith}
use Rattle.drg_derivation.specs.Words.{word_text}
use Rattle.drg_derivation.specs.declared.word.Word.TheVariants.{Drg}
use Rattle.drg_derivation.specs.declared.word.TheConstants.{OTHER_WORDS}
use Rattle.drg_derivation.proofs.WordLaws.{named-next}
use Rattle.drg_derivation.proofs.word_at.other_word.Goals as goal

pub words-preserved : goal.words-preserved
words-preserved c =
    named-next word_text OTHER_WORDS c.words.word-index Drg _ _ (omega arith) (c.as_bytes.ensures.value ∙ c.text.ensures) c.if-eq.ensures
    ∙ c.words.invariant
