-- A `k` line with the sizes of the array passes.
use Rattle.std.proofs.Common.{◌≡◌, ℕ, suc, ◌+◌, ◌<◌, ◌≤◌, true, List, [], ◌∷◌, length, refl, sym, ap, ◌∙◌, arith}
use Rattle.std.specs.Prelude.{ℤ, pos, ◌*ℤ◌, slice_index_or, None}
use Rattle.std.specs.Ordering.{int_eq}
use Rattle.drg_algebra.specs.Rational.{whole, times}
use Rattle.drg_algebra.proofs.Maps.{whole_map}
use Rattle.drg_array.specs.Entries.{Entries, IsArray, diameter, b_at, c_at}
use Rattle.drg_array.specs.Numbers.{size}
use Rattle.drg_array.specs.declared.node.Node.TheVariants.{K}
use Rattle.drg_array.proofs.NumberLaws.{sizes_meet}
use Rattle.drg_intersection.specs.Fits.{Fits}
use Rattle.drg_intersection.proofs.Ranges.{one_whole}
use Rattle.drg_intersection.proofs.SizeLaws.{dividend}
use Rattle.drg_replay.specs.Steps.{EachHolds}
use Rattle.drg_whole.specs.Range.{in_range}
use Rattle.drg_replay.specs.Sizes.{sizes_from, size_steps}
use Rattle.drg_evidence.proofs.StepTests.{at_most, same_whole, in_the_range}

-- k_(n+1) after k_n, which is `last`
record SizeStep (a : Entries) (n : ℕ) (last value : ℤ) : Type 0 where
  left : in_range (value *ℤ pos (c_at a (suc n))) ≡ true
  right : in_range (last *ℤ pos (b_at a n)) ≡ true
  same : int_eq (value *ℤ pos (c_at a (suc n))) (last *ℤ pos (b_at a n)) ≡ true

size_step : (a : Entries) (n : ℕ) (last value : ℤ) → IsArray a → n < diameter a → size a n ≡ whole last → size a (suc n) ≡ whole value → Fits a (K (suc n)) → SizeStep a n last value
size_step a n last value array inside is next fits =
    let right_is = dividend a n last array inside is in
    let left_is : times (size a (suc n)) (whole (pos (c_at a (suc n)))) ≡ whole (value *ℤ pos (c_at a (suc n))) =
    ap (λ x. times x (whole (pos (c_at a (suc n))))) next ∙ sym (whole_map.times value (pos (c_at a (suc n)))) in
    let same : value *ℤ pos (c_at a (suc n)) ≡ last *ℤ pos (b_at a n) = one_whole _ _ (sym left_is ∙ (sizes_meet a n array inside ∙ right_is)) in
    let right = in_the_range _ _ right_is fits in
    record { left = ap in_range same ∙ right; right = right; same = same_whole _ _ same }

steps_hold : (a : Entries) (i : ℕ) (last : ℤ) (vs : List ℤ)
    → ((j n : ℕ) → n ≡ i + j → j < length vs → SizeStep a n (slice_index_or (last ∷ vs) j (pos 0)) (slice_index_or vs j (pos 0))) → EachHolds (sizes_from a i last vs)
steps_hold a i last [] steps = tt
steps_hold a i last (v ∷ vs) steps =
    let here = steps 0 i (omega arith) (omega arith) in
    (here.left, (here.right, (here.same, steps_hold a (suc i) v vs (λ j n e less. steps (suc j) n (omega (arith, e)) (omega (arith, less))))))

pub sizes_hold : (a : Entries) (m : ℕ) (values : List ℤ) → IsArray a → 1 ≤ m → m ≤ suc (diameter a) → length values ≡ m
    → ((i : ℕ) → i < m → size a i ≡ whole (slice_index_or values i (pos 0))) → ((i : ℕ) → i < m → Fits a (K i)) → EachHolds (size_steps a None values)
sizes_hold a m [] array some short count are fits = absurd (omega arith)
sizes_hold a m (v ∷ vs) array some short count are fits =
    let first : pos 1 ≡ v = one_whole (pos 1) v (are 0 some) in (
      refl,
      (
        at_most _ _ (omega arith),
        (
          same_whole _ _ (sym first),
          steps_hold a 0 v vs (λ j n e less.
              let same : n ≡ j = omega (arith, e) in
              rw same (size_step a j _ _ array (omega (arith, less, short, count)) (are j (omega (arith, less, count))) (are (suc j) (omega (arith, less, count))) (fits (suc j) (omega (arith, less, count))))),
        ),
      ),
    )
