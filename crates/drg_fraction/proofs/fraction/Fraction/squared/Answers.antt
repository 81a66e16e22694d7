use Rattle.std.proofs.Common.{◌≡◌, ◌*ℤ◌, ap₂, ◌∙◌, rules}
use Rattle.drg_algebra.specs.Integer.{above_times}
use Rattle.drg_algebra.specs.Ratio.{ratio}
use Rattle.drg_algebra.specs.Reduced.{common}
use Rattle.drg_fraction.specs.Fraction.{rational_of}
use Rattle.drg_fraction.specs.Work.{product_work}
use Rattle.drg_fraction.proofs.Parts.{fits_is}
use Rattle.drg_algebra.proofs.Coprime.{square_reduced}
use Rattle.drg_fraction.proofs.Shortcuts.{square_fits, square_is}
use Rattle.drg_fraction.proofs.fraction.Fraction.squared.Goals as goal

pub invariant_of-result : goal.invariant_of-result
invariant_of-result c =
    let x = c.args.self in
    let over : c.in_ok-over.over.value ≡ x.num.value *ℤ x.num.value = cc c.in_ok-over.ensures.1 in
    let under : c.in_ok-under.under.value ≡ x.den.value *ℤ x.den.value = cc c.in_ok-under.ensures.1 in
    record {
      above = rw under (above_times x.den.value x.den.value x.above x.above);
      reduced = ap₂ common over under ∙ square_reduced x.num.value x.den.value x.reduced;
    }

pub returns-in_err-over : goal.returns-in_err-over
returns-in_err-over c =
    let x = c.args.self in
    let error = c.from_residual.ensures.0 in
    rw (fits_is product_work x x ∙ square_fits x.num.value x.den.value x.reduced) (search rules)

pub returns-in_err-under : goal.returns-in_err-under
returns-in_err-under c =
    let x = c.args.self in
    let error = c.from_residual-in_err-under.ensures.0 in
    rw (fits_is product_work x x ∙ square_fits x.num.value x.den.value x.reduced) (search rules)

pub returns : goal.returns
unfolding rational_of
returns c =
    let x = c.args.self in
    let over : c.in_ok-over.over.value ≡ x.num.value *ℤ x.num.value = cc c.in_ok-over.ensures.1 in
    let under : c.in_ok-under.under.value ≡ x.den.value *ℤ x.den.value = cc c.in_ok-under.ensures.1 in
    (rw (fits_is product_work x x ∙ square_fits x.num.value x.den.value x.reduced) (search rules), ap₂ ratio over under ∙ square_is x.num.value x.den.value x.above)
