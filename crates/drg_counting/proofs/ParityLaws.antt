-- What the numbers of an array fail, the array fails, and the claims before a failing one.
use Rattle.std.proofs.Common.{◌≡◌, ℕ, ◌<◌, ◌≤◌, List, [], ◌∷◌, sym, ap, ap₂, ◌∙◌, subst, arith, inl, inr}
use Rattle.std.specs.Prelude.{◌≢◌, ℤ, pos, ◌*ℤ◌, Contains}
use Rattle.drg_algebra.specs.Rational.{ℚ, whole, times}
use Rattle.drg_algebra.proofs.Maps.{whole_map}
use Rattle.drg_whole.specs.Residues.{residue}
use Rattle.drg_whole.proofs.Residues.{divided, undivided}
use Rattle.drg_array.specs.Entries.{Entries, IsArray, diameter}
use Rattle.drg_array.specs.Numbers.{size, vertex_count, IsIntersectionNumber, IsWholeMultiple}
use Rattle.drg_array.specs.Conditions.{CountsFail, IsPlace}
use Rattle.drg_array.specs.declared.test.Test.{Test}
use Rattle.drg_array.specs.declared.test.Test.TheVariants as test
use Rattle.drg_array.specs.declared.claim.Claim.{Claim}
use Rattle.drg_array.specs.declared.claim.Claim.TheVariants.{Handshake, Induced, Triangles}
use Rattle.drg_array.proofs.NumberLaws.{one_number}
use Rattle.drg_intersection.specs.Numbers.{Numbers, AreNumbersOf, k_at, n_of, p_at}
use Rattle.drg_intersection.proofs.Ranges.{one_whole}
use Rattle.drg_array.specs.ClaimOrder.{ComesBefore}
use Rattle.drg_counting.specs.Parity.{IsSelectedParity, IsDistance, NumbersFail}
use Rattle.drg_counting.proofs.ClaimLaws.{later_test, within, one_index, two_indices}

no_multiple : (m : ℕ) (z : ℤ) (x : ℚ) → 0 < m → x ≡ whole z → residue m z ≢ 0 → ¬ IsWholeMultiple m x
no_multiple m z x positive e rest (q, f) = rest (undivided m z positive (q, sym (one_whole z (pos m *ℤ q) (sym e ∙ f))))

rest_of : (m : ℕ) (z : ℤ) (x : ℚ) → 0 < m → x ≡ whole z → ¬ IsWholeMultiple m x → residue m z ≢ 0
rest_of m z x positive e failed none = let (q, f) = divided m z positive none in failed (q, e ∙ ap whole (sym f))

product_of : (x y : ℚ) (w z : ℤ) → x ≡ whole w → y ≡ whole z → times x y ≡ whole (w *ℤ z)
product_of x y w z e f = ap₂ times e f ∙ sym (whole_map.times w z)

module _ (a : Entries) (numbers : Numbers) (array : IsArray a) (are : AreNumbersOf a numbers) where
  place : (i : ℕ) → IsDistance numbers i → IsPlace a i
  place i (one, top) = (let same = are.same_d in (one, omega (arith, top, same)))

  index : (i : ℕ) → IsPlace a i → IsDistance numbers i
  index i (one, top) = (let same = are.same_d in (one, omega (arith, top, same)))

  handshake : (i : ℕ) → i ≤ diameter a → times (vertex_count a) (size a i) ≡ whole (pos (n_of numbers) *ℤ pos (k_at numbers i))
  handshake i top = product_of _ _ (pos (n_of numbers)) (pos (k_at numbers i)) are.vertices (are.sizes i top)

  induced : (i j : ℕ) (x : ℚ) → i ≤ diameter a → j ≤ diameter a → IsIntersectionNumber a i i j x → times (size a i) x ≡ whole (pos (k_at numbers i) *ℤ pos (p_at numbers i i j))
  induced i j x top right is =
      product_of _ _ (pos (k_at numbers i)) (pos (p_at numbers i i j)) (are.sizes i top) (one_number a i i j x _ array top right is (are.intersections i i j top top right))

  triangles : (i : ℕ) (x : ℚ) → i ≤ diameter a → IsIntersectionNumber a i i i x → times (vertex_count a) (times (size a i) x) ≡ whole (pos (n_of numbers) *ℤ (pos (k_at numbers i) *ℤ pos (p_at numbers i i i)))
  triangles i x top is = product_of _ _ (pos (n_of numbers)) (pos (k_at numbers i) *ℤ pos (p_at numbers i i i)) are.vertices (induced i i x top top is)

  pub fails_of : (claim : Claim) → NumbersFail numbers claim → CountsFail a claim
  fails_of (Handshake i) (at, rest) = (let here = place i at in (here, no_multiple 2 _ _ (omega arith) (handshake i here.1) rest))
  fails_of (Induced i j) (at, right, rest) =
      let here = place i at in
      let there = place j right in
      let is = are.intersections i i j here.1 here.1 there.1 in
      (here, there, _, is, no_multiple 2 _ _ (omega arith) (induced i j _ here.1 there.1 is) rest)
  fails_of (Triangles i) (at, rest) =
      let here = place i at in
      let is = are.intersections i i i here.1 here.1 here.1 in
      (here, _, is, no_multiple 6 _ _ (omega arith) (triangles i _ here.1 is) rest)
  fails_of claim failed = absurd failed

  pub fails_back : (tests : List Test) (claim : Claim) → IsSelectedParity tests claim → CountsFail a claim → NumbersFail numbers claim
  fails_back tests (Handshake i) selected (at, failed) = (index i at, rest_of 2 _ _ (omega arith) (handshake i at.1) failed)
  fails_back tests (Induced i j) selected (at, right, x, is, failed) = (index i at, index j right, rest_of 2 _ _ (omega arith) (induced i j x at.1 right.1 is) failed)
  fails_back tests (Triangles i) selected (at, x, is, failed) = (index i at, rest_of 6 _ _ (omega arith) (triangles i x at.1 is) failed)
  fails_back tests claim selected failed = absurd (omega (arith, selected.0, selected.1))

module _ (numbers : Numbers) (tests : List Test) where
  pub before_handshake : (i : ℕ) → ((l : ℕ) → l < i → NumbersFail numbers (Handshake l) → ⊥)
      → (earlier : Claim) → IsSelectedParity tests earlier → ComesBefore earlier (Handshake i) → NumbersFail numbers earlier → ⊥
  before_handshake i rows (Handshake l) selected before failed = rows l (one_index l i (within 7 (l ∷ []) (i ∷ []) before)) failed
  before_handshake i rows (Induced l m) selected before failed = later_test (Induced l m) (Handshake i) (omega arith) before
  before_handshake i rows (Triangles l) selected before failed = later_test (Triangles l) (Handshake i) (omega arith) before
  before_handshake i rows claim selected before failed = absurd failed

  module _ (no_handshake : Contains tests test.Handshake → (l : ℕ) → NumbersFail numbers (Handshake l) → ⊥) where
    pub before_induced : (i j : ℕ) → ((m n : ℕ) → m < i → NumbersFail numbers (Induced m n) → ⊥) → ((n : ℕ) → n < j → NumbersFail numbers (Induced i n) → ⊥)
        → (earlier : Claim) → IsSelectedParity tests earlier → ComesBefore earlier (Induced i j) → NumbersFail numbers earlier → ⊥
    before_induced i j rows row (Handshake l) selected before failed = no_handshake selected.2 l failed
    before_induced i j rows row (Induced l m) selected before failed =
        elim (two_indices l m i j (within 8 (l ∷ m ∷ []) (i ∷ j ∷ []) before)) [
          | inl less ↦ rows l m less failed
          | inr same ↦ row m same.1 (subst (λ n. NumbersFail numbers (Induced n m)) same.0 failed)
        ]
    before_induced i j rows row (Triangles l) selected before failed = later_test (Triangles l) (Induced i j) (omega arith) before
    before_induced i j rows row claim selected before failed = absurd failed

    module _ (no_induced : Contains tests test.Induced → (l m : ℕ) → NumbersFail numbers (Induced l m) → ⊥) where
      pub before_triangles : (i : ℕ) → ((l : ℕ) → l < i → NumbersFail numbers (Triangles l) → ⊥)
          → (earlier : Claim) → IsSelectedParity tests earlier → ComesBefore earlier (Triangles i) → NumbersFail numbers earlier → ⊥
      before_triangles i rows (Handshake l) selected before failed = no_handshake selected.2 l failed
      before_triangles i rows (Induced l m) selected before failed = no_induced selected.2 l m failed
      before_triangles i rows (Triangles l) selected before failed = rows l (one_index l i (within 9 (l ∷ []) (i ∷ []) before)) failed
      before_triangles i rows claim selected before failed = absurd failed

      pub none_fails : (Contains tests test.Triangles → (l : ℕ) → NumbersFail numbers (Triangles l) → ⊥)
          → (claim : Claim) → IsSelectedParity tests claim → NumbersFail numbers claim → ⊥
      none_fails no_triangles (Handshake l) selected failed = no_handshake selected.2 l failed
      none_fails no_triangles (Induced l m) selected failed = no_induced selected.2 l m failed
      none_fails no_triangles (Triangles l) selected failed = no_triangles selected.2 l failed
      none_fails no_triangles claim selected failed = absurd failed
