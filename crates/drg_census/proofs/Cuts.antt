-- Why no array of a census begins with some entries.
use Rattle.std.proofs.Common.{◌≡◌, ℕ, zero, suc, ◌+◌, ◌-◌, ◌*◌, ◌≤◌, ◌<◌, List, [], ◌∷◌, length, refl, sym, ap, ap₂, subst, ◌∙◌, arith, ◌⊎◌, inl, inr}
use Rattle.std.specs.Prelude.{ℤ, pos, negsuc, ◌*ℤ◌, ◌+ℤ◌, ◌≤ℤ◌, slice_index}
use Rattle.std.proofs.Math.IntN.{pos-*ℤ-pos}
use Rattle.std.proofs.lemmas.Bool.{cases_lt}
use Rattle.std.proofs.lemmas.Int.{ints}
use Rattle.drg_algebra.specs.Rational.{ℚ, whole, plus, times, rationals}
use Rattle.drg_algebra.specs.Tables.{total}
use Rattle.drg_algebra.proofs.Maps.{whole_map}
use Rattle.drg_algebra.proofs.Totals.{last_sum}
use Rattle.drg_algebra.proofs.WholeParts.{same_whole}
use Rattle.drg_array.specs.Entries.{Entries, IsArray, diameter, b_at, c_at, a_at}
use Rattle.drg_array.specs.Numbers.{size, vertex_count, IsWhole}
use Rattle.drg_array.specs.declared.test.Test.TheVariants as test
use Rattle.drg_array.proofs.EntryLemmas.{b-positive, c-positive}
use Rattle.drg_array.proofs.NumberLaws.{sizes_meet, cancel-whole}
use Rattle.drg_census.specs.Begins.{BeginsWith, IsBeginning, NoneBegins}
use Rattle.drg_census.specs.Census.{InCensus, IsWithinLimits, in_order}
use Rattle.drg_census.proofs.Entering.{b_entry, c_entry, begun}
use Rattle.drg_census.proofs.Fitting.{together}

-- an array of the census that begins with these entries
module _ (d k n : ℕ) (xs : List ℕ) (a : Entries) (start : IsBeginning d k n xs) (is : InCensus d k n a) (begins : BeginsWith xs a) where
  pub b_given : (i : ℕ) → i < length xs → i < d → slice_index xs i ≡ b_at a i
  b_given i h l = let e = is.diameter in begun xs a begins i h ∙ b_entry a i (omega arith)

  pub c_given : (i : ℕ) → d + i < length xs → slice_index xs (d + i) ≡ c_at a (suc i)
  c_given i h = let e = is.diameter in begun xs a begins (d + i) h ∙ subst (λ t. slice_index (in_order a) (t + i) ≡ c_at a (suc i)) e (c_entry a i)

  pub b_descends : (i : ℕ) → suc i < length xs → suc i < d → slice_index xs (suc i) ≤ slice_index xs i
  b_descends i h l =
      let e = is.diameter in
      let x = b_given i (omega arith) (omega arith) in
      let y = b_given (suc i) h l in
      elim (cases_lt i 1) [
        | inl less ↦ (let z : i ≡ 0 = omega arith in
            let t = together d k n a start.limits is (suc i) (omega arith) (omega arith) in
            let v : slice_index xs i ≡ k = ap (slice_index xs) z ∙ start.valency in
            omega arith)
        | inr more ↦ (let o = (is.passes test.Order tt i more (omega arith)).0 in omega arith)
      ]

  pub c_first : d < length xs → slice_index xs d ≡ 1
  c_first h =
      let z : d + 0 ≡ d = omega arith in
      subst (λ t. slice_index xs t ≡ 1) z (c_given 0 (omega arith) ∙ is.passes test.First tt)

  pub c_ascends : (i : ℕ) → d + suc i < length xs → length xs ≤ d + d → slice_index xs (d + i) ≤ slice_index xs (d + suc i)
  c_ascends i h s =
      let e = is.diameter in
      let x = c_given i (omega arith) in
      let y = c_given (suc i) h in
      let o = (is.passes test.Order tt (suc i) (omega arith) (omega arith)).1 in
      omega arith

  pub room_left : (i : ℕ) → length xs ≡ d + suc i → b_at a (suc i) + slice_index xs (d + i) ≤ k
  room_left i l =
      let e = is.diameter in
      let s = start.short in
      let y = c_given i (omega arith) in
      let t = together d k n a start.limits is (suc i) (omega arith) (omega arith) in
      omega arith

  -- ---- the same at the last place
  pub b_descends_at : (last i : ℕ) → last ≡ suc i → last < length xs → last < d → slice_index xs last ≤ slice_index xs i
  b_descends_at last i e h l = subst (λ t. slice_index xs t ≤ slice_index xs i) (sym e) (b_descends i (omega arith) (omega arith))

  pub c_ascends_at : (last i : ℕ) → last ≡ suc i → d < last → last < length xs → slice_index xs i ≤ slice_index xs last
  c_ascends_at last i e l h = go (i - d) (omega arith)
    where
      go : (j : ℕ) → i ≡ d + j → slice_index xs i ≤ slice_index xs last
      go j f =
          let s = start.short in
          let z : last ≡ d + suc j = omega arith in
          let o = c_ascends j (omega arith) s in
          let one = ap (slice_index xs) f in
          let two = ap (slice_index xs) z in
          omega arith

  pub room_left_at : (i b : ℕ) → 1 ≤ i → length xs ≡ d + i → b ≤ b_at a i → b + slice_index xs (d + i - 1) ≤ k
  room_left_at i b some l h = go (i - 1) (omega arith)
    where
      go : (j : ℕ) → i ≡ suc j → b + slice_index xs (d + i - 1) ≤ k
      go j e =
          let r = room_left j (omega arith) in
          let z : d + i - 1 ≡ d + j = omega arith in
          let one = ap (slice_index xs) z in
          let two = ap (b_at a) e in
          omega arith
