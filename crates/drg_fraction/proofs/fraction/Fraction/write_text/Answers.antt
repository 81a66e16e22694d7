use Rattle.std.proofs.Common.{◌≡◌, [], ◌∷◌, ◌++◌, pos, ◌∙◌, arith}
use Rattle.std.proofs.lemmas.Grind.{common_steps}
use Rattle.std.proofs.lemmas.Int.{ints, to_z-of_z}
use Rattle.std.specs.Fmt.{signed_decimal}
use Rattle.drg_algebra.specs.Reduced.{numerator, denominator}
use Rattle.drg_algebra.proofs.Beginnings.{stops}
use Rattle.drg_fraction.specs.Fraction.{rational_of}
use Rattle.drg_fraction.proofs.Texts.{text_in_two, not_equal}
use Rattle.drg_fraction.proofs.fraction.Fraction.write_text.Goals as goal

pub returns-in_err-extend_from_slice-2-clause-err : goal.returns-in_err-extend_from_slice-2-clause-err
returns-in_err-extend_from_slice-2-clause-err c =
    let q = rational_of c.args.self.now in
    let not_one : ¬ (denominator q ≡ pos 1) = λ e. let d : c.den.result ≡ pos 1 = c.den.ensures.value ∙ e in omega (arith, ints) in
    stops _ _ (signed_decimal (numerator q) ++ 47 ∷ []) (signed_decimal (denominator q)) (grind (arith, common_steps, to_z-of_z))
    (text_in_two q (not_equal (denominator q) (pos 1) not_one))
