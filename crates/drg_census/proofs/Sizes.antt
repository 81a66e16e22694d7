-- The sizes and the number of vertices of an array of a census, as far as its first entries give them.
use Rattle.std.proofs.Common.{◌≡◌, ℕ, zero, suc, ◌+◌, ◌-◌, ◌*◌, ◌≤◌, ◌<◌, List, length, refl, sym, ap, ap₂, subst, ◌∙◌, arith, ◌⊎◌, inl, inr}
use Rattle.std.specs.Prelude.{ℤ, pos, negsuc, ◌*ℤ◌, ◌+ℤ◌, ◌<ℤ◌, unsigned_abs, slice_index}
use Rattle.std.proofs.Math.IntN.{pos-*ℤ-pos}
use Rattle.std.proofs.lemmas.Int.{ints, unsigned_abs-mul}
use Rattle.drg_algebra.specs.Order.{IsAbove}
use Rattle.drg_algebra.specs.Rational.{ℚ, whole, plus, times, rationals}
use Rattle.drg_algebra.specs.Tables.{total}
use Rattle.drg_algebra.proofs.Maps.{whole_map}
use Rattle.drg_algebra.proofs.NumberOrder.{sign_of_whole}
use Rattle.drg_algebra.proofs.Totals.{last_sum}
use Rattle.drg_algebra.proofs.WholeParts.{same_whole}
use Rattle.drg_array.specs.Entries.{Entries, IsArray, diameter, b_at, c_at}
use Rattle.drg_array.specs.Numbers.{size, vertex_count, IsWhole}
use Rattle.drg_array.specs.declared.test.Test.TheVariants as test
use Rattle.drg_array.proofs.EntryLemmas.{c-positive}
use Rattle.drg_array.proofs.NumberLaws.{sizes_meet}
use Rattle.drg_array.proofs.SizeSigns.{size_above}
use Rattle.drg_intersection.proofs.SizeLaws.{size_is, sum_next}
use Rattle.drg_census.specs.Begins.{BeginsWith, IsBeginning, NoneBegins}
use Rattle.drg_census.specs.Census.{InCensus}
use Rattle.drg_census.proofs.Cuts.{b_given, c_given}

-- the sum of the sizes before k_m
abbrev pub sum_before : Entries → ℕ → ℚ
sum_before a m = total (whole (pos 0)) plus m (size a)

-- The size k_i and the sum of the sizes up to it, of each array of the census that begins with these entries.
pub record AreFirstSizes (d k n : ℕ) (xs : List ℕ) (i last sum : ℕ) : Type 0 where
  pub last_is : (a : Entries) → InCensus d k n a → BeginsWith xs a → size a i ≡ whole (pos last)
  pub sum_is : (a : Entries) → InCensus d k n a → BeginsWith xs a → sum_before a (suc i) ≡ whole (pos sum)

pub first_size : (d k n : ℕ) (xs : List ℕ) → AreFirstSizes d k n xs 0 1 1
first_size d k n xs = record {
  last_is = λ a is b. refl;
  sum_is = λ a is b. sum_next (size a) 0 (pos 0) (pos 1) refl refl;
}

module _ (d k n : ℕ) (xs : List ℕ) (start : IsBeginning d k n xs) (i last sum : ℕ) (given : d + i < length xs)
    (known : AreFirstSizes d k n xs i last sum) where
  module _ (a : Entries) (is : InCensus d k n a) (b : BeginsWith xs a) where
    inside : i < diameter a
    inside = let e = is.diameter in let s = start.short in omega arith

    -- the entries that the next size is made of
    same_b : slice_index xs i ≡ b_at a i
    same_b = let e = is.diameter in let s = start.short in b_given d k n xs a start is b i (omega arith) (omega arith)

    same_c : slice_index xs (d + i) ≡ c_at a (suc i)
    same_c = c_given d k n xs a start is b i given

    next_is : (next : ℕ) → slice_index xs (d + i) * next ≡ last * slice_index xs i → size a (suc i) ≡ whole (pos next)
    next_is next e =
        let f : c_at a (suc i) * next ≡ last * b_at a i = ap (λ t. t * next) (sym same_c) ∙ e ∙ ap (λ t. last * t) same_b in
        size_is a i (pos last) is.array inside (known.last_is a is b) (pos next)
        (sym (pos-*ℤ-pos (c_at a (suc i)) next) ∙ ap pos f ∙ pos-*ℤ-pos last (b_at a i))

    some_next : (m : ℕ) × (1 ≤ slice_index xs (d + i)) × (slice_index xs (d + i) * m ≡ last * slice_index xs i)
    some_next = go (is.passes test.Size tt (suc i) (omega arith, inside))
      where
        go : IsWhole (size a (suc i)) → (m : ℕ) × (1 ≤ slice_index xs (d + i)) × (slice_index xs (d + i) * m ≡ last * slice_index xs i)
        go (z, e) =
            let q = pos 1 *ℤ z in
            let meet : q *ℤ pos (c_at a (suc i)) ≡ pos last *ℤ pos (b_at a i) =
            same_whole _ _ (whole_map.times q (pos (c_at a (suc i))) ∙ ap (λ x. times x (whole (pos (c_at a (suc i))))) (sym e)
            ∙ sizes_meet a i is.array inside ∙ ap (λ x. times x (whole (pos (b_at a i)))) (known.last_is a is b)
            ∙ sym (whole_map.times (pos last) (pos (b_at a i)))) in
            let sizes : unsigned_abs q * c_at a (suc i) ≡ last * b_at a i =
            sym (unsigned_abs-mul q (pos (c_at a (suc i)))) ∙ ap unsigned_abs meet ∙ unsigned_abs-mul (pos last) (pos (b_at a i)) in
            let some = c-positive a i is.array inside in
            let c = same_c in (
              unsigned_abs q,
              omega arith,
              ap (λ t. t * unsigned_abs q) same_c ∙ (let swap : c_at a (suc i) * unsigned_abs q ≡ unsigned_abs q * c_at a (suc i) = omega arith in swap)
                  ∙ sizes ∙ ap (λ t. last * t) (sym same_b),
            )

  pub no_size : ((m : ℕ) → 1 ≤ slice_index xs (d + i) → slice_index xs (d + i) * m ≡ last * slice_index xs i → ⊥) → NoneBegins d k n xs
  no_size none a is b = let m = some_next a is b in none m.0 m.1 m.2

  pub next_sizes : (next : ℕ) → slice_index xs (d + i) * next ≡ last * slice_index xs i → AreFirstSizes d k n xs (i + 1) next (sum + next)
  next_sizes next e =
      let one : i + 1 ≡ suc i = omega arith in
      subst (λ t. AreFirstSizes d k n xs t next (sum + next)) (sym one) (record {
        last_is = λ a is b. next_is a is b next e;
        sum_is = λ a is b. sum_next (size a) (suc i) (pos sum) (pos next) (known.sum_is a is b) (next_is a is b next e);
      })

-- ---- the sums grow up to the number of vertices
natural_size : (d k n : ℕ) (a : Entries) → InCensus d k n a → (i : ℕ) → i ≤ diameter a → (s : ℕ) × (size a i ≡ whole (pos s))
natural_size d k n a is zero h = (1, refl)
natural_size d k n a is (suc i) h = go (is.passes test.Size tt (suc i) (omega arith, h))
  where
    go : IsWhole (size a (suc i)) → (s : ℕ) × (size a (suc i) ≡ whole (pos s))
    go (z, e) = found (pos 1 *ℤ z) e ((sign_of_whole (pos 1 *ℤ z)).0 (subst IsAbove e (size_above a is.array (suc i) h)))
      where
        found : (q : ℤ) → size a (suc i) ≡ whole q → pos 0 <ℤ q → (s : ℕ) × (size a (suc i) ≡ whole (pos s))
        found (pos s) f above = (s, f)
        found (negsuc s) f above = absurd (omega (arith, ints, above))

grows : (d k n : ℕ) (a : Entries) → InCensus d k n a → (m sum t : ℕ) → sum_before a m ≡ whole (pos sum) → m + t ≤ suc (diameter a)
    → (total : ℕ) × (sum_before a (m + t) ≡ whole (pos total)) × (sum ≤ total)
grows d k n a is m sum zero e h = (sum, (let z : m + 0 ≡ m = omega arith in subst (λ x. sum_before a x ≡ whole (pos sum)) (sym z) e), omega arith)
grows d k n a is m sum (suc t) e h =
    let before = grows d k n a is m sum t e (omega arith) in
    let s = natural_size d k n a is (m + t) (omega arith) in
    let z : m + suc t ≡ suc (m + t) = omega arith in
    let f : sum_before a (suc (m + t)) ≡ whole (pos (before.0 + s.0)) = sum_next (size a) (m + t) (pos before.0) (pos s.0) before.1 s.1 in
    let l = before.2 in
    (before.0 + s.0, subst (λ x. sum_before a x ≡ whole (pos (before.0 + s.0))) (sym z) f, omega arith)

pub at_most_all : (d k n : ℕ) (a : Entries) → InCensus d k n a → (m sum : ℕ) → sum_before a m ≡ whole (pos sum) → m ≤ suc (diameter a) → sum ≤ n
at_most_all d k n a is m sum e h = go (suc (diameter a) - m) (omega arith)
  where
    go : (t : ℕ) → m + t ≡ suc (diameter a) → sum ≤ n
    go t f =
        let g = grows d k n a is m sum t e (omega arith) in
        let same = same_whole _ _ (sym (subst (λ x. sum_before a x ≡ whole (pos g.0)) f g.1) ∙ is.vertices) in
        let l = g.2 in
        omega (arith, ints, same, l)

module _ (d k n : ℕ) (xs : List ℕ) (start : IsBeginning d k n xs) (i last sum : ℕ) (known : AreFirstSizes d k n xs i last sum) where
  pub too_many : i ≤ d → n < sum → NoneBegins d k n xs
  too_many h more a is b = let e = is.diameter in let l = at_most_all d k n a is (suc i) sum (known.sum_is a is b) (omega arith) in omega arith

  pub other_count : i ≡ d → ¬ (sum ≡ n) → NoneBegins d k n xs
  other_count h differ a is b =
      let e = is.diameter in
      let all : suc i ≡ suc (diameter a) = omega arith in
      let same = same_whole _ _ (sym (known.sum_is a is b) ∙ ap (sum_before a) all ∙ is.vertices) in
      differ (omega (arith, ints, same))
