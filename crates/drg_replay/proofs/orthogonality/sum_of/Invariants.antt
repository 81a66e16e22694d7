use Rattle.std.proofs.Common.{◌≡◌, drop, pos}
use Rattle.drg_whole.specs.Sums.{sum_from, sum_fits_from}
use Rattle.drg_replay.proofs.orthogonality.sum_of.Given as goal

abbrev pub invariant-numbers : goal.invariant-numbers
invariant-numbers l =
    let rest = drop l.number-index l.numbers in
    (sum_from l.sum.value rest ≡ sum_from (pos 0) l.numbers) × (sum_fits_from l.sum.value rest ≡ sum_fits_from (pos 0) l.numbers)
