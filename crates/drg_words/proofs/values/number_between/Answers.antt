use Rattle.std.proofs.Common.{sym, ◌∙◌, arith}
use Rattle.std.proofs.lemmas.Fmt.{decimal_injective}
use Rattle.drg_words.proofs.values.number_between.Goals as goal

pub returns-then-number-least-clause-none : goal.returns-then-number-least-clause-none
returns-then-number-least-clause-none c = λ n is.
    let number = c.in_ok-number.number in
    let most = c.ranges.most.fits in
    let equal = decimal_injective number n (omega arith) (omega (arith, is.1.1, most)) (sym c.in_ok-number.ensures.some ∙ is.0) in
    omega (arith, is.1.0, equal)

pub returns-else-number-most-clause-none : goal.returns-else-number-most-clause-none
returns-else-number-most-clause-none c = λ n is.
    let number = c.in_ok-number.number in
    let most = c.ranges.most.fits in
    let equal = decimal_injective number n (omega arith) (omega (arith, is.1.1, most)) (sym c.in_ok-number.ensures.some ∙ is.0) in
    omega (arith, is.1.1, equal)
