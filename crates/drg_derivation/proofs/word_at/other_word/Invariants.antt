use Rattle.std.proofs.Common.{◌≡◌, drop}
use Rattle.drg_derivation.specs.Words.{word_text}
use Rattle.drg_derivation.specs.WordReading.{named}
use Rattle.drg_derivation.specs.declared.word.TheConstants.{OTHER_WORDS}
use Rattle.drg_derivation.proofs.word_at.other_word.Given as goal

abbrev pub invariant-words : goal.invariant-words
invariant-words l = named word_text (drop l.word-index OTHER_WORDS) l.name ≡ named word_text OTHER_WORDS l.name
