use Rattle.std.proofs.Common.{◌≡◌, drop}
use Rattle.std.specs.Prelude.{ℤ}
use Rattle.drg_whole.specs.Sums.{sum_from}
use Rattle.drg_whole.specs.ResidueOf.{IsResidueOf}
use Rattle.drg_whole.proofs.residue.Residue.plus_all.Given as goal

abbrev pub invariant-numbers : goal.invariant-numbers
invariant-numbers l =
    (l.sum.modulus ≡ l.fn.self.modulus)
    × ((x : ℤ) → IsResidueOf l.fn.self x → (y : ℤ) × IsResidueOf l.sum y × (sum_from y (drop l.number-index l.numbers) ≡ sum_from x l.numbers))
