use Rattle.std.proofs.Common.{◌∙◌, arith}
use Rattle.drg_derivation.specs.WordReading.{kind_word}
use Rattle.drg_derivation.specs.declared.kind.Kind.TheVariants.{K}
use Rattle.drg_derivation.specs.declared.kind.TheConstants.{KINDS}
use Rattle.drg_derivation.proofs.WordLaws.{named-next}
use Rattle.drg_derivation.proofs.word_at.kind_named.Goals as goal

pub kinds-preserved : goal.kinds-preserved
kinds-preserved c =
    named-next kind_word KINDS c.kinds.kind-index K _ _ (omega arith) (c.as_bytes.ensures.value ∙ c.name.ensures) c.if-eq.ensures
    ∙ c.kinds.invariant
