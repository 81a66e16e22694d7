use Rattle.std.proofs.Common.{◌∙◌, ap, sym}
use Rattle.std.specs.Prelude.{decimal}
use Rattle.drg_words.proofs.Digits.{other_digits, read_as, unread}
use Rattle.drg_words.proofs.Told.{if_none}
use Rattle.drg_words.proofs.values.number_of.Goals as goal

pub returns-in_err-number-clause-none : goal.returns-in_err-number-clause-none
returns-in_err-number-clause-none c =
    if_none c.from_residual.result _
    (λ n small same. unread c.args.digits.now n c.parse.result c.parse.ensures.value.0 c.in_err-number.ensures.value small same)

pub returns-else-eq-clause-none : goal.returns-else-eq-clause-none
returns-else-eq-clause-none c = λ n small same.
    let equal = read_as c.args.digits.now c.in_ok-number.number n c.parse.result c.parse.ensures.value.0 c.in_ok-number.ensures.value small same in
    other_digits c.format.result.now c.args.digits.now (sym c.eq.ensures ∙ c.if-eq.false) (c.format.ensures.text ∙ ap decimal equal ∙ sym same)
