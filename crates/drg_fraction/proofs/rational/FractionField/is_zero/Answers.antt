use Rattle.std.proofs.Common.{◌≡◌, pos, sym, ◌∙◌, arith}
use Rattle.std.proofs.lemmas.Int.{ints}
use Rattle.drg_algebra.proofs.WholeParts.{zero_value, value_zero}
use Rattle.drg_fraction.proofs.rational.FractionField.is_zero.Goals as goal

pub returns : goal.returns
returns c = (
  λ t. zero_value _ (sym c.num.ensures.value ∙ grind (arith, ints)),
  λ e. let n : c.num.result ≡ pos 0 = c.num.ensures.value ∙ value_zero _ e in grind (arith, ints),
)
