-- The root of the spectrum of an array is below 2^32, so that a `frame` line can name it.
use Rattle.std.proofs.Common.{◌≡◌, ℕ, zero, suc, ◌+◌, ◌*◌, ◌^◌, ◌<◌, ◌≤◌, true, List, [], ◌∷◌, refl, sym, ap, ◌∙◌, arith, inl, inr, ℤ, pos, negsuc}
use Rattle.std.specs.Prelude.{◌⊎◌, ◌+ℤ◌, ◌*ℤ◌, neg_ℤ, unsigned_abs, slice_index}
use Rattle.std.specs.List.{AllByRecursion}
use Rattle.std.proofs.lemmas.Int.{ints, unsigned_abs-mul}
use Rattle.drg_array.specs.Entries.{Entries, IsArray, IsEntry, b_at}
use Rattle.drg_eigen.specs.Characteristic.{characteristic}
use Rattle.drg_eigen.specs.Factor.{Factor, linear, quadratic, discriminant, IsCandidate}
use Rattle.drg_eigen.specs.Spectrum.{IsLinear, IsOver, IsSpectrum}
use Rattle.drg_quadratic.specs.Values.{IsRoot}
use Rattle.drg_quadratic.specs.declared.eigenvalue.Eigenvalue.{Eigenvalue}
use Rattle.drg_replay.specs.Roots.{IsSquarefreeRoot, is_root}
use Rattle.drg_replay.proofs.RootLaws.{root_found}

more : (m n k l : ℕ) → m ≤ n → k ≤ l → m * k ≤ n * l
more zero n k l h g = omega arith
more (suc m) zero k l h g = absurd (omega arith)
more (suc m) (suc n) k l h g = let rest = more m n k l (omega arith) g in omega (arith, rest, g)

abs_plus : (x y : ℤ) → unsigned_abs (x +ℤ y) ≤ unsigned_abs x + unsigned_abs y
abs_plus x y = omega (arith, ints)

abs_neg : (x : ℤ) → unsigned_abs (neg_ℤ x) ≡ unsigned_abs x
abs_neg x = omega (arith, ints)

-- the discriminant of a candidate
small_discriminant : (k : ℕ) (s t : ℤ) → k ≤ 4095 → unsigned_abs s ≤ 2 * k → unsigned_abs t ≤ k * k → unsigned_abs (discriminant s t) < 2 ^ 32
small_discriminant k s t h u v =
    let square : unsigned_abs (s *ℤ s) ≤ 8190 * 8190 = rw (unsigned_abs-mul s s) (more _ 8190 _ 8190 (omega arith) (omega arith)) in
    let last : k * k ≤ 4095 * 4095 = more k 4095 k 4095 h h in
    let four : unsigned_abs (pos 4 *ℤ t) ≡ 4 * unsigned_abs t = unsigned_abs-mul (pos 4) t in
    let turned = abs_neg (pos 4 *ℤ t) in
    let sum = abs_plus (s *ℤ s) (neg_ℤ (pos 4 *ℤ t)) in
    omega (arith, square, last, four, turned, sum, v)

abs_zero : (z : ℤ) → unsigned_abs z ≡ 0 → z ≡ pos 0
abs_zero (pos zero) e = refl
abs_zero (pos (suc n)) e = absurd (omega (arith, e))
abs_zero (negsuc n) e = absurd (omega (arith, e))

times_some : (n r : ℕ) → ¬ (n ≡ 0) → r ≤ n * r
times_some zero r some = absurd (some refl)
times_some (suc n) r some = omega arith

module _ (k root : ℕ) (h : k ≤ 4095) where
  small_over : (s t : ℤ) → IsCandidate k (quadratic s t) → IsOver root (quadratic s t) → root < 2 ^ 32
  small_over s t (free, (u, v)) (m, e) =
      let small = small_discriminant k s t h u v in
      let size : unsigned_abs (m *ℤ m) * root ≡ unsigned_abs (discriminant s t) = sym (unsigned_abs-mul (m *ℤ m) (pos root)) ∙ ap unsigned_abs e in
      let apart : ¬ (unsigned_abs (m *ℤ m) ≡ 0) = λ none. (let flat = abs_zero (m *ℤ m) none in
      let gone : pos 0 ≡ pos 0 *ℤ pos root = omega (arith, ints) in
      free m (flat ∙ (gone ∙ (sym (ap (λ (z : ℤ). z *ℤ pos root) flat) ∙ e)))) in
      let low = times_some (unsigned_abs (m *ℤ m)) root apart in
      omega (arith, small, size, low)

  small_or_linear : (es : List Factor) → AllByRecursion (IsCandidate k) es → AllByRecursion (IsOver root) es → (root < 2 ^ 32) ⊎ AllByRecursion IsLinear es
  small_or_linear [] all over = inr tt
  small_or_linear (linear r ∷ es) all over = elim (small_or_linear es all.1 over.1) [ inl less ↦ inl less | inr rest ↦ inr (tt, rest) ]
  small_or_linear (quadratic s t ∷ es) all over = inl (small_over s t all.0 over.0)

first_small : (bs : List ℕ) → AllByRecursion IsEntry bs → slice_index bs 0 ≤ 4095
first_small [] all = omega arith
first_small (b ∷ bs) all = all.0.1

pub small_root : (a : Entries) → IsArray a → (root : ℕ) (thetas : List Eigenvalue) → IsSpectrum (b_at a 0) (characteristic a) root thetas → root < 2 ^ 32
small_root a array root thetas spectrum =
    elim (small_or_linear (b_at a 0) root (first_small a.b array.entries_b) spectrum.list spectrum.factors.candidates spectrum.common_root.shared) [
      | inl less ↦ less
      | inr rest ↦ (let none = spectrum.common_root.rational rest in omega (arith, none))
    ]

pub root_passes : (root : ℕ) → IsRoot root → root < 2 ^ 32 → is_root (pos root) ≡ true
root_passes zero h small = (root_found (pos 0)).1 (inl refl)
root_passes (suc n) h small =
    let is = h (omega arith) in
    let low = is.1 in
    let found : IsSquarefreeRoot (pos (suc n)) = record { number = suc n; is = refl; low = low; high = omega (arith, small); free = is.0 } in
    (root_found (pos (suc n))).1 (inr found)
