use Rattle.std.proofs.Common.{◌≡◌, drop}
use Rattle.drg_derivation.specs.WordReading.{kind_word, named}
use Rattle.drg_derivation.specs.declared.kind.TheConstants.{KINDS}
use Rattle.drg_derivation.proofs.word_at.kind_named.Given as goal

abbrev pub invariant-kinds : goal.invariant-kinds
invariant-kinds l = named kind_word (drop l.kind-index KINDS) l.name ≡ named kind_word KINDS l.name
