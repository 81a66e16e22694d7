-- Halves of whole numbers, as values.
use Rattle.std.proofs.Common.{◌≡◌, ℕ, ℤ, pos, ap, ap₂, ◌∙◌}
use Rattle.drg_algebra.specs.Rational.{whole}
use Rattle.drg_algebra.specs.Rational as Rational
use Rattle.drg_algebra.specs.Ratio.{ratio}
use Rattle.drg_algebra.specs.Pairs.{pair_path}
use Rattle.drg_algebra.proofs.WholeParts.{two_halves}
use Rattle.drg_quadratic.specs.Values.{Value, plus, times, rational, square_root}
use Rattle.drg_quadratic.specs.Laws.{is_its_parts}

-- twice s/2 + f/2 √root is s + f √root
pub twice_halves : (root : ℕ) (s f : ℤ) → (root ≡ 0 → f ≡ pos 0) → (z : Value) → z.a ≡ ratio s (pos 2) → z.b ≡ ratio f (pos 2)
    → plus z z ≡ plus (rational (whole s)) (times root (rational (whole f)) (square_root root))
twice_halves root s f flat z p q =
    let whole_value : Value = record { a = whole s; b = whole f } in
    pair_path _ _ (ap₂ Rational.plus p p ∙ two_halves s) (ap₂ Rational.plus q q ∙ two_halves f) ∙ is_its_parts root whole_value (λ e. ap whole (flat e))
