-- The rational numbers of an array are the counts.
use Rattle.std.proofs.Common.{◌≡◌, ℕ, zero, suc, ◌+◌, ◌≤◌, ◌<◌, true, refl, sym, ap, ap₂, ◌∙◌, arith}
use Rattle.std.specs.Prelude.{ℤ, pos, ◌+ℤ◌, ◌-ℤ◌, ◌*ℤ◌, neg_ℤ}
use Rattle.drg_algebra.specs.Sums.{sum_over, below}
use Rattle.drg_algebra.specs.Tables.{total}
use Rattle.drg_algebra.specs.Rational.{ℚ, whole, plus, times, minus, rationals}
use Rattle.drg_algebra.proofs.Sums.{sum-first}
use Rattle.drg_algebra.proofs.Maps.{whole_map}
use Rattle.drg_array.specs.Entries.{Entries, IsArray, diameter, b_at, c_at, a_at}
use Rattle.drg_array.specs.Numbers.{size, before, numerator, AreIntersectionNumbers}
use Rattle.drg_array.proofs.EntryLemmas.{c-positive}
use Rattle.drg_array.proofs.NumberLaws.{sizes_meet, cancel-whole}
use Rattle.drg_graph.specs.Graph.{Graph, is_vertex, is_at_distance, sphere, pairs_at, IsDistanceRegular}
use Rattle.drg_graph.specs.Numbers.{before as whole_before, numerator as whole_numerator}
use Rattle.drg_graph.proofs.Distances.{distance-left, distance-right}
use Rattle.drg_graph.proofs.Sizes.{sphere-start, sphere-next}
use Rattle.drg_graph.proofs.Balance.{pairs-start}
use Rattle.drg_graph.proofs.Rows.{counts-next}

pub whole-times : (x y : ℤ) → times (whole x) (whole y) ≡ whole (x *ℤ y)
whole-times x y = sym (whole_map.times x y)

pub whole-plus : (x y : ℤ) → plus (whole x) (whole y) ≡ whole (x +ℤ y)
whole-plus x y = sym (whole_map.plus x y)

pub whole-minus : (x : ℤ) → minus (whole x) ≡ whole (neg_ℤ x)
whole-minus x = sym (whole_map.minus x)

before-whole : (f : ℕ → ℤ) (k : ℕ → ℚ) (j : ℕ) → ((l : ℕ) → k l ≡ whole (f l)) → before k j ≡ whole (whole_before f j)
before-whole f k zero same = refl
before-whole f k (suc j) same = same j

five-terms : (x y z u v : ℤ) → plus (plus (plus (plus (whole x) (whole y)) (whole z)) (minus (whole u))) (minus (whole v)) ≡ whole (x +ℤ y +ℤ z -ℤ u -ℤ v)
five-terms x y z u v =
    let two = whole-plus x y in
    let three = ap (λ t. plus t (whole z)) two ∙ whole-plus (x +ℤ y) z in
    let four = ap₂ plus three (whole-minus u) ∙ whole-plus (x +ℤ y +ℤ z) (neg_ℤ u) in
    ap₂ plus four (whole-minus v) ∙ whole-plus (x +ℤ y +ℤ z -ℤ u) (neg_ℤ v)

numerator-whole : (a : Entries) (q : ℕ → ℕ → ℤ) (i j : ℕ) → numerator a (λ m l. whole (q m l)) i j ≡ whole (whole_numerator a q i j)
numerator-whole a q i j =
    let one = before-whole (λ l. pos (b_at a l) *ℤ q i l) (λ l. times (whole (pos (b_at a l))) (whole (q i l))) j (λ l. whole-times _ _) in
    let four = before-whole (λ l. pos (b_at a l) *ℤ q l j) (λ l. times (whole (pos (b_at a l))) (whole (q l j))) i (λ l. whole-times _ _) in
    let two = whole-times (a_at a j) (q i j) in
    let three = whole-times (pos (c_at a (suc j))) (q i (suc j)) in
    let five = whole-times (a_at a i) (q i j) in
    rw (one, two, three, four, five) (five-terms _ _ _ _ _)

module _ (g : Graph) (a : Entries) (array : IsArray a) (r : IsDistanceRegular g a) where
  pub size-counts : (x i : ℕ) → is_vertex g x ≡ true → i ≤ diameter a → size a i ≡ whole (pos (sphere g i x))
  size-counts x zero v h = ap (λ n. whole (pos n)) (sym (sphere-start g a r x v))
  size-counts x (suc i) v h =
      let earlier = size-counts x i v (omega (arith, h)) in
      let c = whole (pos (c_at a (suc i))) in
      let count = whole (pos (sphere g (suc i) x)) in
      let edges : times (whole (pos (sphere g i x))) (whole (pos (b_at a i))) ≡ times count c =
      whole-times _ _ ∙ (ap (λ n. whole (pos n)) (sphere-next g a r x i) ∙ sym (whole-times _ _)) in
      cancel-whole (c_at a (suc i)) (size a (suc i)) count (c-positive a i array h)
      (rationals.times_comm c (size a (suc i))
      ∙ (sizes_meet a i array h ∙ (ap (λ z. times z (whole (pos (b_at a i)))) earlier ∙ (edges ∙ rationals.times_comm count c))))

  -- the counts for two vertices meet the recurrence
  pub counts-meet : (h x y : ℕ) → is_at_distance g h x y ≡ true → AreIntersectionNumbers a h (λ i j. whole (pos (pairs_at g i j x y)))
  counts-meet h x y e =
      let count = λ (i j : ℕ). pos (pairs_at g i j x y) in
      record {
        start = λ j hj. ap (λ n. whole (pos n)) (pairs-start g a r h j x y e);
        next = λ i j hi hj. (let recurs = counts-next g a r array x y i j (distance-left g h x y e) (distance-right g h x y e) (omega (arith, hi)) hj in
            whole-times (pos (c_at a (suc i))) (count (suc i) j) ∙ (ap whole (sym recurs) ∙ sym (numerator-whole a count i j)));
      }

-- a sum of whole numbers
pub total-whole : (f : ℕ → ℕ) (n : ℕ) → total (whole (pos 0)) plus n (λ i. whole (pos (f i))) ≡ whole (pos (sum_over f (below n)))
total-whole f zero = refl
total-whole f (suc n) =
    let rest = total-whole (λ i. f (suc i)) n in
    let first = sum-first f n in
    let turn : sum_over f (below (suc n)) ≡ f 0 + sum_over (λ i. f (suc i)) (below n) = omega (arith, first) in
    ap (plus (whole (pos (f 0)))) rest ∙ (whole-plus (pos (f 0)) _ ∙ ap (λ t. whole (pos t)) (sym turn))

pub total-same : (k l : ℕ → ℚ) (n : ℕ) → ((i : ℕ) → i < n → k i ≡ l i) → total (whole (pos 0)) plus n k ≡ total (whole (pos 0)) plus n l
total-same k l zero same = refl
total-same k l (suc n) same =
    ap₂ plus (same 0 (omega arith)) (total-same (λ i. k (suc i)) (λ i. l (suc i)) n (λ i h. same (suc i) (omega (arith, h))))
