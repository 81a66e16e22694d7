-- One size after the other, and their sum.
use Rattle.std.proofs.Common.{◌≡◌, ℕ, zero, suc, ◌+◌, ◌*◌, ◌<◌, ◌≤◌, true, false, refl, sym, ap, ap₂, subst, ◌∙◌, arith}
use Rattle.std.specs.Prelude.{ℤ, pos, negsuc, neg_ℤ, ◌+ℤ◌, ◌*ℤ◌, ◌≤ℤ◌}
use Rattle.std.proofs.lemmas.Int.{ints}
use Rattle.drg_algebra.specs.Rational.{ℚ, whole, plus, times, rationals}
use Rattle.drg_algebra.specs.Tables.{total}
use Rattle.drg_algebra.proofs.Maps.{whole_map}
use Rattle.drg_algebra.proofs.Totals.{last_sum}
use Rattle.drg_array.specs.Entries.{Entries, IsArray, diameter, b_at, c_at}
use Rattle.drg_array.specs.Numbers.{size, IsWhole}
use Rattle.drg_array.specs.declared.node.Node.TheVariants.{K}
use Rattle.drg_array.specs.declared.claim.Claim.TheVariants.{Size}
use Rattle.drg_array.proofs.EntryLemmas.{c-positive}
use Rattle.drg_array.proofs.NumberLaws.{sizes_meet, cancel-whole}
use Rattle.drg_whole.specs.Range.{in_range}
use Rattle.drg_intersection.specs.Faults.{Passes, IsReached, IsNumbersFault}
use Rattle.drg_intersection.specs.FirstNumbers.{IsSizeAt}
use Rattle.drg_intersection.specs.Fits.{Fits}
use Rattle.drg_intersection.specs.declared.fault.NumbersFault.TheVariants.{Fall, Wide}
use Rattle.drg_intersection.proofs.Ranges.{one_whole, is_whole, range_in, range_out}

quotient_natural : (c b : ℕ) (n q : ℤ) → 1 ≤ c → pos 0 ≤ℤ n → pos c *ℤ q ≡ n *ℤ pos b → pos 0 ≤ℤ q
quotient_natural c b n (pos q) positive natural e = omega (arith, ints)
quotient_natural zero b n (negsuc q) positive natural e = absurd (omega (arith, positive))
quotient_natural (suc c) b (pos n) (negsuc q) positive natural e =
    let left : pos (suc c) *ℤ negsuc q ≡ neg_ℤ (pos (suc c * suc q)) = refl in
    let right : pos n *ℤ pos b ≡ pos (n * b) = refl in
    let some : suc c * suc q ≡ suc (q + c * suc q) = omega arith in
    absurd (omega (arith, ints, e, left, right, some))
quotient_natural (suc c) b (negsuc n) (negsuc q) positive natural e = absurd (omega (arith, ints, natural))

module _ (a : Entries) (i : ℕ) (last : ℤ) (array : IsArray a) (inside : i < diameter a) (is : size a i ≡ whole last) where
  pub dividend : times (size a i) (whole (pos (b_at a i))) ≡ whole (last *ℤ pos (b_at a i))
  dividend = ap (λ x. times x (whole (pos (b_at a i)))) is ∙ sym (whole_map.times last (pos (b_at a i)))

  meet : times (whole (pos (c_at a (suc i)))) (size a (suc i)) ≡ whole (last *ℤ pos (b_at a i))
  meet = rationals.times_comm _ _ ∙ (sizes_meet a i array inside ∙ dividend)

  pub size_is : (q : ℤ) → pos (c_at a (suc i)) *ℤ q ≡ last *ℤ pos (b_at a i) → size a (suc i) ≡ whole q
  size_is q e =
      cancel-whole (c_at a (suc i)) _ _ (c-positive a i array inside)
      (meet ∙ (ap whole (sym e) ∙ whole_map.times (pos (c_at a (suc i))) q))

  pub no_size : ((q : ℤ) → pos (c_at a (suc i)) *ℤ q ≡ last *ℤ pos (b_at a i) → ⊥) → ¬ IsWhole (size a (suc i))
  no_size never (m, e) =
      let unit : pos 1 *ℤ m ≡ m = omega (arith, ints) in
      never m (one_whole _ _ (whole_map.times (pos (c_at a (suc i))) m ∙ (ap (times (whole (pos (c_at a (suc i))))) (sym (e ∙ ap whole unit)) ∙ meet)))

-- ---- k_(i+1), which is reached, after k_i, which is `last`
module _ (a : Entries) (i : ℕ) (last : ℤ) (array : IsArray a) (inside : i < diameter a) (is : IsSizeAt a i last) (reached : IsReached a (K (suc i))) where
  pub size_wide : in_range (last *ℤ pos (b_at a i)) ≡ false → IsNumbersFault a (Wide (K (suc i)))
  size_wide wide = record { is_node = inside; reached = reached; wide = range_out _ _ (dividend a i last array inside is.is) wide }

  size_fits : in_range (last *ℤ pos (b_at a i)) ≡ true → Fits a (K (suc i))
  size_fits fits = range_in _ _ (dividend a i last array inside is.is) fits

  pub size_falls : in_range (last *ℤ pos (b_at a i)) ≡ true → ((q : ℤ) → pos (c_at a (suc i)) *ℤ q ≡ last *ℤ pos (b_at a i) → ⊥)
      → IsNumbersFault a (Fall (Size (suc i)))
  size_falls fits never = record {
    is_node = inside;
    reached = reached;
    fits = size_fits fits;
    failed = ((omega arith, inside), no_size a i last array inside is.is never);
  }

  pub size_next : (q : ℤ) → pos (c_at a (suc i)) *ℤ q ≡ last *ℤ pos (b_at a i) → IsSizeAt a (suc i) q
  size_next q e = record {
    is = size_is a i last array inside is.is q e;
    natural = quotient_natural (c_at a (suc i)) (b_at a i) last q (c-positive a i array inside) is.natural e;
  }

  pub size_passes : (q : ℤ) → in_range (last *ℤ pos (b_at a i)) ≡ true → pos (c_at a (suc i)) *ℤ q ≡ last *ℤ pos (b_at a i) → Passes a (K (suc i))
  size_passes q fits e = record { fits = size_fits fits; right = subst IsWhole (sym (size_is a i last array inside is.is q e)) (is_whole q) }

-- one size more in the sum
pub sum_next : (f : ℕ → ℚ) (n : ℕ) (sum size : ℤ) → total (whole (pos 0)) plus n f ≡ whole sum → f n ≡ whole size
    → total (whole (pos 0)) plus (suc n) f ≡ whole (sum +ℤ size)
sum_next f n sum size e h = last_sum rationals n f ∙ (ap₂ plus e h ∙ sym (whole_map.plus sum size))
