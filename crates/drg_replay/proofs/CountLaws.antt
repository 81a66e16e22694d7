-- The sum of the numbers of a full `k` line is the number of vertices of the array.
use Rattle.std.proofs.Common.{◌≡◌, ℕ, zero, suc, ◌<◌, ◌≤◌, List, [], ◌∷◌, length, refl, sym, ap, ◌∙◌, subst, arith, Option}
use Rattle.std.specs.Prelude.{ℤ, pos, ◌+ℤ◌, ◌*ℤ◌, slice_index_or}
use Rattle.drg_algebra.specs.Rational.{ℚ, whole, plus, times, rationals}
use Rattle.drg_algebra.specs.Ring.{◌⊗◌}
use Rattle.drg_algebra.specs.Integer.{integers, ring2}
use Rattle.drg_algebra.specs.Tables.{total}
use Rattle.drg_algebra.proofs.Maps.{whole_map}
use Rattle.drg_array.specs.Entries.{Entries, IsArray, diameter, b_at, c_at}
use Rattle.drg_array.specs.Numbers.{size, vertex_count}
use Rattle.drg_array.proofs.EntryLemmas.{c-positive}
use Rattle.drg_array.proofs.NumberLaws.{share-back, cancel-whole}
use Rattle.drg_graph.specs.Numbers.{AreSizes}
use Rattle.drg_whole.specs.Sums.{sum_from}
use Rattle.drg_replay.specs.Sizes as sizes
use Rattle.drg_replay.specs.Sizes.{values_of, size_at}
use Rattle.drg_replay.proofs.SizeLaws.{Sized}

module _ (a : Entries) (array : IsArray a) where
  next_is : (i : ℕ) (k : ℕ → ℤ) → suc i ≤ diameter a → size a i ≡ whole (k i) → k (suc i) *ℤ pos (c_at a (suc i)) ≡ k i *ℤ pos (b_at a i) → size a (suc i) ≡ whole (k (suc i))
  next_is i k inside last e =
      let c = c_at a (suc i) in
      let some = c-positive a i array inside in
      cancel-whole c (size a (suc i)) (whole (k (suc i))) some
      (share-back c (times (size a i) (whole (pos (b_at a i)))) some
      ∙ (ap (λ x. times x (whole (pos (b_at a i)))) last
      ∙ (sym (whole_map.times (k i) (pos (b_at a i)))
      ∙ (ap whole (sym e ∙ ring2 integers (λ x y. x ⊗ y) (λ x y. y ⊗ x) refl (k (suc i)) (pos c))
      ∙ whole_map.times (pos c) (k (suc i))))))

  pub size_is_stated : (m : ℕ) (k : ℕ → ℤ) → m ≤ diameter a → AreSizes a m k → (i : ℕ) → i ≤ m → size a i ≡ whole (k i)
  size_is_stated m k inside are zero h = ap whole (sym are.start)
  size_is_stated m k inside are (suc i) h = next_is i k (omega arith) (size_is_stated m k inside are i (omega arith)) (are.next i (omega arith))

sum_is : (f : ℕ → ℚ) (values : List ℤ) (front : ℤ) → ((i : ℕ) → i < length values → f i ≡ whole (slice_index_or values i (pos 0)))
    → plus (whole front) (total (whole (pos 0)) plus (length values) f) ≡ whole (sum_from front values)
sum_is f [] front are = rationals.plus_nil (whole front)
sum_is f (v ∷ vs) front are =
    sym (rationals.plus_assoc (whole front) (f 0) _)
    ∙ (ap (λ x. plus x (total (whole (pos 0)) plus (length vs) (λ i. f (suc i)))) (ap (plus (whole front)) (are 0 (omega arith)) ∙ sym (whole_map.plus front v))
    ∙ sum_is (λ i. f (suc i)) vs (front +ℤ v) (λ i less. are (suc i) (omega (arith, less))))

pub count_is : (a : Entries) → IsArray a → (k : Option (List ℤ)) → length (values_of k) ≡ suc (diameter a) → Sized a (values_of k) → vertex_count a ≡ whole (sizes.vertex_count k)
count_is a array k full are =
    let P : ℕ → Type 0 = λ n. total (whole (pos 0)) plus n (size a) ≡ whole (sum_from (pos 0) (values_of k)) in
    let each = λ (i : ℕ) (less : i < length (values_of k)). size_is_stated a array (diameter a) (size_at k) (omega arith) (are.are (diameter a) (omega (arith, full))) i (omega (arith, less, full)) in
    subst P full (sym (rationals.plus_nil _) ∙ (rationals.plus_comm _ (whole (pos 0)) ∙ sum_is (size a) (values_of k) (pos 0) each))
