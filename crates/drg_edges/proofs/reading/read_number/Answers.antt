use Rattle.std.proofs.Common.{sym, ◌∙◌, arith}
use Rattle.std.proofs.lemmas.Fmt.{decimal_injective}
use Rattle.drg_edges.proofs.reading.read_number.Goals as goal

pub returns-else-number-most-clause-none : goal.returns-else-number-most-clause-none
returns-else-number-most-clause-none c =
    λ n small same. (let number = c.in_ok-number.number in
    let equal = decimal_injective number n (omega (arith, c.in_ok-number.ensures)) (omega arith) (sym c.in_ok-number.ensures.whole ∙ same) in
    omega (arith, small, equal))
