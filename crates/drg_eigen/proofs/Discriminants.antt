-- Squares among the discriminants.
use Rattle.std.proofs.Common.{◌≡◌, ℕ, eqb, IsTrue, true, false, zero, suc, ◌*◌, ◌<◌, ◌≤◌, refl, ap, sym, ◌∙◌, arith, ℤ, pos, negsuc}
use Rattle.std.specs.Prelude.{◌*ℤ◌, ◌-ℤ◌, ◌<ℤ◌, ◌≤ℤ◌, unsigned_abs, FitsSigned}
use Rattle.std.specs.Int.Signed.{le_z}
use Rattle.std.proofs.lemmas.Bool.Decides.{Decides-eqb, Decides-not, nat_tests}
use Rattle.std.proofs.lemmas.Int.{ints, fits_signed_from_abs, unsigned_abs-mul}
use Rattle.std.proofs.Math.Bool.{not}
use Rattle.std.proofs.lemmas.Nat.{mul-le}
use Rattle.std.proofs.lemmas.Nat.Gcd.{le_of_dvd}
use mir.Syntax.{w32, w64}
use Rattle.drg_eigen.specs.Factor.{discriminant}
use Rattle.drg_algebra.specs.Integer.{suc_above}
use Rattle.drg_algebra.specs.Root.{IsSquarefree}
use Rattle.drg_algebra.proofs.Divisors.{one_squarefree_part}
use Rattle.drg_eigen.proofs.SmallNumbers.{small}

one_is_squarefree : IsSquarefree 1
one_is_squarefree = record { free = λ k h d. omega (arith, le_of_dvd (omega arith) d, mul-le 2 2 k k h h) }

pub square_is : (n : ℤ) → n *ℤ n ≡ pos (unsigned_abs n * unsigned_abs n)
square_is (pos n) = refl
square_is (negsuc n) = refl

pub some_factor : (f m : ℕ) → 0 < (f * f) * m → 0 < f
some_factor zero m h = omega arith
some_factor (suc f) m h = omega arith

pub pos_inside : (m n : ℕ) → pos m ≡ pos n → m ≡ n
pos_inside m n e = omega (arith, ints)

-- f² root is a square only where the squarefree root is 1
pub root_of_square : (f root : ℕ) (d m : ℤ) → pos 0 <ℤ d → pos ((f * f) * root) ≡ d → IsSquarefree root → m *ℤ m ≡ d → root ≡ 1
root_of_square f root d m above e free square =
    let whole : (f * f) * root ≡ (unsigned_abs m * unsigned_abs m) * 1 =
    pos_inside _ _ (e ∙ sym square ∙ square_is m ∙ ap pos (omega arith)) in
    let some : 0 < (f * f) * root = omega (arith, ints, e) in
    let other : 0 < (unsigned_abs m * unsigned_abs m) * 1 = omega arith in
    (one_squarefree_part f (unsigned_abs m) root 1 free one_is_squarefree (some_factor f root some) (some_factor (unsigned_abs m) 1 other) whole).1

pub square_of_root : (f root : ℕ) (d : ℤ) → pos ((f * f) * root) ≡ d → root ≡ 1 → pos f *ℤ pos f ≡ d
square_of_root f root d e one =
    let whole : f * f ≡ (f * f) * root = rw one (omega arith) in
    ap pos whole ∙ e

-- so that x² - s x + t is irreducible exactly where the root isn't 1
pub irreducible_test : (f root : ℕ) (d e : ℤ) → pos 0 <ℤ d → pos ((f * f) * root) ≡ e → e ≡ d → IsSquarefree root
    → (IsTrue (not (eqb root 1)) → (m : ℤ) → ¬ (m *ℤ m ≡ d)) × (((m : ℤ) → ¬ (m *ℤ m ≡ d)) → IsTrue (not (eqb root 1)))
irreducible_test f root d e above whole same free =
    let test = Decides-not (eqb root 1) (Decides-eqb root 1) in
    (λ h m square. test.0 h (root_of_square f root d m above (whole ∙ same) free square), λ none. test.1 (λ one. none (pos f) (square_of_root f root d (whole ∙ same) one)))

-- ---- in 64 bits
square_size : (s : ℤ) → FitsSigned w32 s → unsigned_abs (s *ℤ s) ≤ 2147483648 * 2147483648
square_size s h = rw (unsigned_abs-mul s s) (mul-le (unsigned_abs s) (unsigned_abs s) 2147483648 2147483648 (small s h) (small s h))

four_size : (t : ℤ) → FitsSigned w32 t → unsigned_abs (pos 4 *ℤ t) ≤ 4 * 2147483648
four_size t h = rw (unsigned_abs-mul (pos 4) t) (mul-le 4 (unsigned_abs t) 4 2147483648 (omega arith) (small t h))

pub square_fits : (s : ℤ) → FitsSigned w32 s → FitsSigned w64 (s *ℤ s)
square_fits s h = fits_signed_from_abs w64 (s *ℤ s) (omega (arith, square_size s h))

pub four_fits : (t : ℤ) → FitsSigned w32 t → FitsSigned w64 (pos 4 *ℤ t)
four_fits t h = fits_signed_from_abs w64 (pos 4 *ℤ t) (omega (arith, four_size t h))

pub discriminant_fits : (s t : ℤ) → FitsSigned w32 s → FitsSigned w32 t → FitsSigned w64 (s *ℤ s -ℤ pos 4 *ℤ t)
discriminant_fits s t h k =
    let p = square_size s h in
    let q = four_size t k in
    fits_signed_from_abs w64 (s *ℤ s -ℤ pos 4 *ℤ t) (omega (arith, ints))

-- a positive discriminant says s² > 4 t
pub real : (s t d : ℤ) → d ≡ discriminant s t → pos 0 <ℤ d → (pos 4 *ℤ t) <ℤ (s *ℤ s)
real s t d e h = omega (arith, ints)

pub not_real : (s t d : ℤ) → d ≡ discriminant s t → d ≤ℤ pos 0 → ¬ ((pos 4 *ℤ t) <ℤ (s *ℤ s))
not_real s t d e h k = omega (arith, ints)

pub above_by_test : (d : ℤ) → le_z d (pos 0) ≡ false → pos 0 <ℤ d
above_by_test (pos zero) e = absurd (let h = e in cc)
above_by_test (pos (suc n)) e = suc_above n
above_by_test (negsuc n) e = absurd (let h = e in cc)

pub below_by_test : (d : ℤ) → le_z d (pos 0) ≡ true → d ≤ℤ pos 0
below_by_test (pos zero) e = omega (arith, ints)
below_by_test (pos (suc n)) e = absurd (grind (arith, nat_tests, e))
below_by_test (negsuc n) e = omega (arith, ints)
