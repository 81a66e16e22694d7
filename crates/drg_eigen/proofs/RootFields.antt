-- Factors whose roots lie over one root, and factors whose roots lie in one field.
use Rattle.std.proofs.Common.{◌≡◌, ℕ, zero, suc, ◌+◌, ◌*◌, ◌<◌, ◌≤◌, eqb, IsTrue, ◌⊎◌, refl, ap, ap₂, sym, ◌∙◌, subst, arith, ℤ, pos, negsuc, List, [], ◌∷◌, inl, inr}
use Rattle.std.specs.Prelude.{◌+ℤ◌, ◌*ℤ◌, ◌<ℤ◌, neg_ℤ, unsigned_abs}
use Rattle.std.specs.List.{AllByRecursion}
use Rattle.std.proofs.lemmas.Bool.{cases_lt}
use Rattle.std.proofs.lemmas.Bool.Decides.{Decides-eqb}
use Rattle.std.proofs.lemmas.Int.{ints}
use Rattle.std.proofs.lemmas.Nat.{mul-le}
use Rattle.drg_algebra.specs.Ring.{none, ◌⊗◌, ring2, ring4}
use Rattle.drg_algebra.specs.Integer.{integers}
use Rattle.drg_algebra.specs.Root.{IsSquarefree}
use Rattle.drg_algebra.proofs.Divisors.{one_squarefree_part}
use Rattle.drg_quadratic.specs.Values.{IsRoot}
use Rattle.drg_eigen.specs.Factor.{Factor, linear, quadratic, discriminant, IsIrreducible}
use Rattle.drg_eigen.specs.Found.{IsReal}
use Rattle.drg_eigen.specs.Roots.{IsFirstNotOver}
use Rattle.drg_eigen.specs.Spectrum.{IsOver, IsCommonRoot, IsOneField, IsFirstOther}
use Rattle.drg_eigen.proofs.Discriminants.{square_is, some_factor, pos_inside, square_of_root}
use Rattle.drg_eigen.proofs.SquareParts.{square_part}

above_number : (d : ℤ) (n : ℕ) → pos n ≡ d → pos 0 <ℤ d → 0 < n
above_number d n e h = omega (arith, ints)

-- ---- f² root is a discriminant
module _ (s t : ℤ) (f root : ℕ) (is : pos ((f * f) * root) ≡ discriminant s t) (above : pos 0 <ℤ discriminant s t) (free : IsSquarefree root) where
  some : 0 < (f * f) * root
  some = above_number (discriminant s t) ((f * f) * root) is above

  pub root_above : 0 < root
  root_above = go root some
    where
      go : (n : ℕ) → 0 < (f * f) * n → 0 < n
      go zero h = absurd (let e : (f * f) * 0 ≡ 0 = omega arith in omega (arith, e))
      go (suc n) h = omega arith

  pub own_root : IsOver root (quadratic s t)
  own_root = (pos f, is)

  over_square : (m e : ℤ) → (m *ℤ m) *ℤ pos root ≡ e → ((pos f *ℤ m) *ℤ pos root) *ℤ ((pos f *ℤ m) *ℤ pos root) ≡ discriminant s t *ℤ e
  over_square m e h =
      ring4 integers (λ f m r x. ((f ⊗ m) ⊗ r) ⊗ ((f ⊗ m) ⊗ r)) (λ f m r x. ((f ⊗ f) ⊗ r) ⊗ ((m ⊗ m) ⊗ r)) refl (pos f) m (pos root) m
      ∙ ap₂ (λ (x y : ℤ). x *ℤ y) is h

  pub over_one_field : (d : Factor) → IsOver root d → IsOneField (quadratic s t) d
  over_one_field (linear r) h = tt
  over_one_field (quadratic u v) h = ((pos f *ℤ h.0) *ℤ pos root, over_square h.0 (discriminant u v) h.1)

  part_of : (e m : ℤ) → pos 0 <ℤ e → m *ℤ m ≡ discriminant s t *ℤ e → (k : ℤ) × ((k *ℤ k) *ℤ pos root ≡ e)
  part_of (pos y) m h k =
      let part = square_part root f y (unsigned_abs m) free root_above (some_factor f root some) (pos_inside _ _ (sym (square_is m) ∙ k ∙ ap (λ (z : ℤ). z *ℤ pos y) (sym is))) in
      (pos part.0, ap pos part.1)
  part_of (negsuc y) m h k = absurd (omega (arith, ints))

  pub one_field_over : (d : Factor) → IsReal d → IsOneField (quadratic s t) d → IsOver root d
  one_field_over (linear r) real h = tt
  one_field_over (quadratic u v) real h = part_of (discriminant u v) h.0 real.2 h.1

  -- ---- lists
  pub first_other : (ds : List Factor) (e : Factor) → AllByRecursion IsReal ds → IsFirstNotOver root ds e → IsFirstOther (quadratic s t) ds e
  first_other [] e real h = h
  first_other (d ∷ ds) e real (inl h) = inl (h.0, λ one. h.1 (one_field_over d real.0 one))
  first_other (d ∷ ds) e real (inr h) = inr (over_one_field d h.0, first_other ds e real.1 h.1)

  big : (n : ℕ) → 0 < n → (n ≡ 1 → ⊥) → 1 < n
  big zero h k = absurd (omega arith)
  big (suc zero) h k = absurd (k refl)
  big (suc (suc n)) h k = omega arith

  pub common_of_first : IsIrreducible (quadratic s t) → (ds : List Factor) → AllByRecursion (IsOver root) ds → IsCommonRoot (quadratic s t ∷ ds) root
  common_of_first irreducible ds h = record {
    is_root = λ p. (free, big root root_above (λ one. irreducible (pos f) (square_of_root f root (discriminant s t) is one)));
    shared = (own_root, h);
    rational = λ linear. absurd linear.0;
  }

-- two squarefree roots over which the roots of a factor lie are one
pub one_root : (f r root : ℕ) (s t m : ℤ) → pos ((f * f) * r) ≡ discriminant s t → pos 0 <ℤ discriminant s t → IsSquarefree r → IsSquarefree root
    → (m *ℤ m) *ℤ pos root ≡ discriminant s t → (f ≡ unsigned_abs m) × (r ≡ root)
one_root f r root s t m is above free other over =
    let whole : (f * f) * r ≡ (unsigned_abs m * unsigned_abs m) * root =
    pos_inside _ _ (is ∙ sym over ∙ ap (λ (z : ℤ). z *ℤ pos root) (square_is m)) in
    let some : 0 < (f * f) * r = above_number (discriminant s t) ((f * f) * r) is above in
    let also : 0 < (unsigned_abs m * unsigned_abs m) * root = omega (arith, whole, some) in
    let same = one_squarefree_part f (unsigned_abs m) r root free other (some_factor f r some) (some_factor (unsigned_abs m) root also) whole in
    (same.0, same.1)

pub over_test : (f r root : ℕ) (s t : ℤ) → pos ((f * f) * r) ≡ discriminant s t → pos 0 <ℤ discriminant s t → IsSquarefree r → IsSquarefree root
    → (IsTrue (eqb r root) → IsOver root (quadratic s t)) × (IsOver root (quadratic s t) → IsTrue (eqb r root))
over_test f r root s t is above free other =
    let test = Decides-eqb r root in (
      λ h. subst (λ (n : ℕ). IsOver n (quadratic s t)) (test.0 h) (pos f, is),
      λ h. test.1 (one_root f r root s t h.0 is above free other h.1).1,
    )

-- the root over which the roots of a factor with a positive discriminant lie isn't 0
pub some_root : (root : ℕ) (s t : ℤ) → IsOver root (quadratic s t) → pos 0 <ℤ discriminant s t → 0 < root
some_root root s t over above = go root over.1
  where
    nothing : (z d : ℤ) → pos 0 <ℤ d → z ≡ pos 0 → z ≡ d → ⊥
    nothing z d h e k = omega (arith, ints, h, e, k)

    go : (n : ℕ) → (over.0 *ℤ over.0) *ℤ pos n ≡ discriminant s t → 0 < n
    go zero e = absurd (nothing _ _ above (ring2 integers (λ m k. (m ⊗ m) ⊗ none) (λ m k. none) refl over.0 over.0) e)
    go (suc n) e = omega arith

pub squarefree_root : (root : ℕ) (s t : ℤ) → IsOver root (quadratic s t) → pos 0 <ℤ discriminant s t → IsRoot root → IsSquarefree root
squarefree_root root s t over above h = (h (some_root root s t over above)).0

-- ---- the multiple f of √root in a root
pub multiple_is : (f r root : ℕ) (s t : ℤ) → pos ((f * f) * r) ≡ discriminant s t → pos 0 <ℤ discriminant s t → IsSquarefree r → IsSquarefree root → IsOver root (quadratic s t)
    → (pos f *ℤ pos f) *ℤ pos root ≡ discriminant s t
multiple_is f r root s t is above free other over =
    subst (λ (n : ℕ). pos ((f * f) * n) ≡ discriminant s t) (one_root f r root s t over.0 is above free other over.1).1 is

pub multiple_small : (f r : ℕ) (s t : ℤ) → pos ((f * f) * r) ≡ discriminant s t → 0 < r → unsigned_abs s ≤ 8190 → unsigned_abs t ≤ 16769025 → f ≤ 65536
multiple_small f r s t is some small_s small_t = below f (square_below f r some) bound
  where
    square_below : (f r : ℕ) → 0 < r → f * f ≤ (f * f) * r
    square_below f zero h = absurd (omega (arith, h))
    square_below f (suc r) h = omega arith

    size : (f * f) * r ≤ unsigned_abs s * unsigned_abs s + 4 * unsigned_abs t
    size = number ((f * f) * r) (unsigned_abs s * unsigned_abs s) (s *ℤ s) t (square_is s) is
      where
        number : (n m : ℕ) (z t : ℤ) → z ≡ pos m → pos n ≡ z +ℤ neg_ℤ (pos 4 *ℤ t) → n ≤ m + 4 * unsigned_abs t
        number n m z t e h = omega (arith, ints, e, h)

    bound : (f * f) * r ≤ 8190 * 8190 + 4 * 16769025
    bound = omega (arith, size, mul-le (unsigned_abs s) (unsigned_abs s) 8190 8190 small_s small_s, small_t)

    below : (f : ℕ) → f * f ≤ (f * f) * r → (f * f) * r ≤ 8190 * 8190 + 4 * 16769025 → f ≤ 65536
    below f h k = go (cases_lt f 65537)
      where
        go : (f < 65537) ⊎ (65537 ≤ f) → f ≤ 65536
        go (inl l) = omega (arith, l)
        go (inr g) = absurd (omega (arith, mul-le 65537 65537 f f g g, h, k))

pub common_of_none : IsCommonRoot [] 0
common_of_none = record { is_root = λ p. absurd (omega arith); shared = tt; rational = λ h. refl }

pub common_of_linear : (r : ℤ) (es : List Factor) (root : ℕ) → IsCommonRoot es root → IsCommonRoot (linear r ∷ es) root
common_of_linear r es root h = record { is_root = h.is_root; shared = (tt, h.shared); rational = λ l. h.rational l.1 }
