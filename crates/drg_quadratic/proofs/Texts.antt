-- The text of a value in two parts.
use Rattle.std.proofs.Common.{◌≡◌, ℕ, ◌++◌, pos, false}
use Rattle.std.specs.Ordering.{int_eq}
use Rattle.drg_algebra.specs.Reduced.{numerator}
use Rattle.drg_quadratic.specs.Values.{Value}
use Rattle.drg_quadratic.specs.Text.{value_text, first_text, second_text}

-- where b isn't 0 the text has two pieces
pub text_in_two : (root : ℕ) (z : Value) → int_eq (numerator z.b) (pos 0) ≡ false → value_text root z ≡ first_text z.a ++ second_text root z
text_in_two root z e = rw e
