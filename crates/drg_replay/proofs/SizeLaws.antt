-- A met `k` line holds the sizes of the array.
use Rattle.std.proofs.Common.{◌≡◌, ℕ, zero, suc, ◌+◌, ◌<◌, ◌≤◌, List, [], ◌∷◌, length, refl, subst, arith, Option}
use Rattle.std.specs.Prelude.{ℤ, pos, ◌+ℤ◌, ◌*ℤ◌, slice_index_or}
use Rattle.std.proofs.lemmas.Int.{ints}
use Rattle.drg_algebra.specs.Sums.{below, whole_sum}
use Rattle.drg_array.specs.Entries.{Entries, diameter, b_at, c_at}
use Rattle.drg_graph.specs.Numbers.{AreSizes}
use Rattle.drg_replay.specs.Steps.{EachHolds}
use Rattle.drg_whole.specs.Sums.{sum_from}
use Rattle.drg_replay.specs.Sizes.{size_at, sizes_from, size_steps, values_of, vertex_count}
use Rattle.drg_replay.proofs.StepLaws.{at_most, is_whole_same}

-- the numbers of the line, as far as they go, are the sizes from k_0 on
pub record Sized (a : Entries) (values : List ℤ) : Type 0 where
  pub short : length values ≤ suc (diameter a)
  pub are : (m : ℕ) → m < length values → AreSizes a m (λ i. slice_index_or values i (pos 0))

pub no_sizes : (a : Entries) → Sized a []
no_sizes a = record { short = omega arith; are = λ m h. absurd (omega arith) }

sizes_next : (a : Entries) (i : ℕ) (last : ℤ) (vs : List ℤ) (j n : ℕ) → EachHolds (sizes_from a i last vs) → n ≡ i + j → j < length vs
    → slice_index_or vs j (pos 0) *ℤ pos (c_at a (suc n)) ≡ slice_index_or (last ∷ vs) j (pos 0) *ℤ pos (b_at a n)
sizes_next a i last [] j n h e less = absurd (omega arith)
sizes_next a i last (v ∷ vs) zero n h e less = let same : n ≡ i = omega arith in rw same (is_whole_same _ _ h.1.1.0)
sizes_next a i last (v ∷ vs) (suc j) n h e less = sizes_next a (suc i) v vs j n h.1.1.1 (omega arith) (omega arith)

pub sized : (a : Entries) (sizes : Option (List ℤ)) (values : List ℤ) → EachHolds (size_steps a sizes values) → Sized a values
sized a sizes [] h = no_sizes a
sized a sizes (v ∷ vs) h = record {
  short = (let few = at_most (length vs) (diameter a) h.1.0 in omega arith);
  are = λ m less. record {
    start = is_whole_same v (pos 1) h.1.1.0;
    next = λ i short. sizes_next a 0 v vs i i h.1.1.1 (omega arith) (omega arith);
  };
}

-- a sum from the front is the sum over the places
sum_front : (f : ℕ → ℤ) (n : ℕ) → whole_sum f (below (suc n)) ≡ f 0 +ℤ whole_sum (λ i. f (suc i)) (below n)
sum_front f zero = refl
sum_front f (suc n) = let rest = sum_front f n in omega (arith, ints)

pub sum_is_whole_sum : (values : List ℤ) (total : ℤ) → sum_from total values ≡ total +ℤ whole_sum (λ i. slice_index_or values i (pos 0)) (below (length values))
sum_is_whole_sum [] total = omega (arith, ints)
sum_is_whole_sum (v ∷ vs) total =
    let rest = sum_is_whole_sum vs (total +ℤ v) in
    let front = sum_front (λ i. slice_index_or (v ∷ vs) i (pos 0)) (length vs) in
    omega (arith, ints)

pub count_is_sum : (sizes : Option (List ℤ)) (n : ℕ) → length (values_of sizes) ≡ n → vertex_count sizes ≡ whole_sum (size_at sizes) (below n)
count_is_sum sizes n e =
    let P : ℕ → Type 0 = λ m. vertex_count sizes ≡ whole_sum (size_at sizes) (below m) in
    let whole = sum_is_whole_sum (values_of sizes) (pos 0) in
    subst P e (omega (arith, ints))
