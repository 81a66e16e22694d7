-- The residue of a product of two numbers that aren't negative, from those of its factors.
use Rattle.std.proofs.Common.{◌≡◌, ℕ, ◌*◌, ◌%◌, ap, sym, ◌∙◌}
use Rattle.std.specs.Prelude.{ℤ, pos, ◌*ℤ◌}
use Rattle.drg_whole.specs.ResidueOf.{IsResidueOf}
use Rattle.drg_whole.specs.declared.residue.Residue.{Residue}

pub product_rest : (m x y : ℕ) (left right product : Residue)
    → left.modulus ≡ m → left.value ≡ x % m → right.modulus ≡ m → right.value ≡ y % m → product.modulus ≡ left.modulus
    → ((w z : ℤ) → IsResidueOf left w → IsResidueOf right z → IsResidueOf product (w *ℤ z)) → product.value ≡ (x * y) % m
product_rest m x y left right product modulus value other factor same product_of =
    product_of (pos x) (pos y) (value ∙ ap (λ n. x % n) (sym modulus)) (factor ∙ ap (λ n. y % n) (sym other))
    ∙ ap (λ n. (x * y) % n) (same ∙ modulus)
