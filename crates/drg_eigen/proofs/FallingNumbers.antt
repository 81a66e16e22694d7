-- Lists of numbers each of which is above the next.
use Rattle.std.proofs.Common.{◌≡◌, ◌≢◌, ℕ, zero, suc, ◌+◌, ◌*◌, ◌<◌, ◌≤◌, refl, ap, sym, ◌∙◌, subst, arith, ℤ, pos, negsuc, List, [], ◌∷◌, ◌++◌, ◌⊎◌, inl, inr}
use Rattle.std.specs.Prelude.{◌-ℤ◌, ◌*ℤ◌, neg_ℤ, ◌<ℤ◌, ◌≤ℤ◌, unsigned_abs, All, Contains, slice_index_or}
use Rattle.std.specs.Ordering.{int_cmp, MatchOrdering}
use Rattle.std.specs.Cmp.{int_ranks}
use Rattle.std.specs.declared.cmp.Ordering.{Ordering}
use Rattle.std.specs.declared.cmp.Ordering.TheVariants.{Less, Equal, Greater}
use Rattle.std.proofs.lemmas.Int.{ints, unsigned_abs-mul}
use Rattle.std.proofs.lemmas.List.Elements.{All-tail, All-push, Contains-push, Contains-append_left, Contains-append_right}
use Rattle.drg_algebra.specs.Ring.{none, ◌⊗◌, ring2}
use Rattle.drg_algebra.specs.Integer.{integers}
use Rattle.drg_whole.specs.Division.{Divides}
use Rattle.drg_eigen.specs.Products.{AreFalling, AreDivisors}
use Rattle.drg_eigen.proofs.Members.{in_none, in_cons}

pub falling_push : (l : List ℤ) (x : ℤ) → AreFalling l → All (λ u. x <ℤ u) l → AreFalling (l ++ x ∷ [])
falling_push [] x f h = tt
falling_push (y ∷ []) x f h = (h 0 y (omega arith), tt)
falling_push (y ∷ z ∷ l) x f h = (f.0, falling_push (z ∷ l) x f.1 (All-tail (λ u. x <ℤ u) y (z ∷ l) h))

-- the first number is above the others
pub head_above : (y : ℤ) (l : List ℤ) → AreFalling (y ∷ l) → (w : ℤ) → Contains l w → w <ℤ y
head_above y [] f w h = absurd (in_none w h)
head_above y (z ∷ l) f w h = go (in_cons z l w h) (head_above z l f.1 w)
  where
    go : (z ≡ w) ⊎ Contains l w → (Contains l w → w <ℤ z) → w <ℤ y
    go (inl e) below = subst (λ x. x <ℤ y) e f.0
    go (inr k) below = (let first : z <ℤ y = f.0 in let rest : w <ℤ z = below k in omega (arith, ints))

tail_falls : (y : ℤ) (l : List ℤ) → AreFalling (y ∷ l) → AreFalling l
tail_falls y [] f = tt
tail_falls y (z ∷ l) f = f.1

-- what stands in the first part is above what stands in the second
pub falls_apart : (l m : List ℤ) → AreFalling (l ++ m) → (u w : ℤ) → Contains l u → Contains m w → w <ℤ u
falls_apart [] m f u w h k = absurd (in_none u h)
falls_apart (y ∷ l) m f u w h k =
    elim (in_cons y l u h) [
      | inl e ↦ subst (λ z. w <ℤ z) e (head_above y (l ++ m) f w (Contains-append_right l m w k))
      | inr j ↦ falls_apart l m (tail_falls y (l ++ m) f) u w j k
    ]

-- ---- the divisors of n from the top down to above low
pub record AreDown (n : ℤ) (m : ℕ) (top low : ℤ) (ts : List ℤ) : Type 0 where
  pub falling : AreFalling ts
  pub above : All (λ t. low <ℤ t) ts
  pub divide : All (λ t. Divides t n × (t ≢ pos 0) × (unsigned_abs t ≤ m)) ts
  pub all : (t : ℤ) → Divides t n → t ≤ℤ top → low <ℤ t → Contains ts t

pub next_or_above : (low next t : ℤ) → next ≡ low -ℤ pos 1 → next <ℤ t → (t ≡ low) ⊎ (low <ℤ t)
next_or_above low next t e h = go (int_cmp low t) (int_ranks low t)
  where
    go : (o : Ordering) → MatchOrdering o (low <ℤ t) (low ≡ t) (t <ℤ low) → (t ≡ low) ⊎ (low <ℤ t)
    go Less k = inr k
    go Equal k = inl (sym k)
    go Greater k = absurd (let l : t <ℤ low = k in omega (arith, ints))

module _ (n : ℤ) (m : ℕ) (top low next : ℤ) (ts : List ℤ) (h : AreDown n m top low ts) (e : next ≡ low -ℤ pos 1) where
  lower : All (λ t. next <ℤ t) ts
  lower k d less = (let a : low <ℤ slice_index_or ts k d = h.above k d less in omega (arith, ints))

  own : next <ℤ low
  own = omega (arith, ints)

  pub down_taken : Divides low n → low ≢ pos 0 → unsigned_abs low ≤ m → AreDown n m top next (ts ++ low ∷ [])
  down_taken d some small = record {
    falling = falling_push ts low h.falling h.above;
    above = All-push (λ t. next <ℤ t) ts low lower own;
    divide = All-push (λ t. Divides t n × (t ≢ pos 0) × (unsigned_abs t ≤ m)) ts low h.divide (d, some, small);
    all = λ t dt within above. go t dt within (next_or_above low next t e above);
  }
    where
      go : (t : ℤ) → Divides t n → t ≤ℤ top → (t ≡ low) ⊎ (low <ℤ t) → Contains (ts ++ low ∷ []) t
      go t dt within (inl same) = subst (Contains (ts ++ low ∷ [])) (sym same) (Contains-push ts low)
      go t dt within (inr above) = Contains-append_left ts (low ∷ []) t (h.all t dt within above)

  pub down_passed : (¬ Divides low n) → AreDown n m top next ts
  down_passed apart = record {
    falling = h.falling;
    above = lower;
    divide = h.divide;
    all = λ t dt within above. go t dt within (next_or_above low next t e above);
  }
    where
      go : (t : ℤ) → Divides t n → t ≤ℤ top → (t ≡ low) ⊎ (low <ℤ t) → Contains ts t
      go t dt within (inl same) = absurd (apart (subst (λ (z : ℤ). Divides z n) same dt))
      go t dt within (inr above) = h.all t dt within above

-- a divisor is no larger
pub divisor_size : (t n : ℤ) → n ≢ pos 0 → Divides t n → unsigned_abs t ≤ unsigned_abs n
divisor_size t n some d = go (unsigned_abs d.0) (sym (ap unsigned_abs d.1) ∙ unsigned_abs-mul t d.0)
  where
    nothing : (z : ℤ) → unsigned_abs z ≡ 0 → z ≡ pos 0
    nothing (pos z) e = ap pos e
    nothing (negsuc z) e = absurd (omega (arith, e))

    go : (q : ℕ) → unsigned_abs n ≡ unsigned_abs t * q → unsigned_abs t ≤ unsigned_abs n
    go zero e = absurd (some (nothing n (omega (arith, e))))
    go (suc q) e = (let f : unsigned_abs t * suc q ≡ unsigned_abs t + unsigned_abs t * q = omega arith in omega (arith, e, f))

pub not_nothing : (t n : ℤ) → n ≢ pos 0 → Divides t n → t ≢ pos 0
not_nothing t n some d e = some (sym d.1 ∙ ap (λ (z : ℤ). z *ℤ d.0) e ∙ ring2 integers (λ q x. none ⊗ q) (λ q x. none) refl d.0 d.0)

-- at the end
pub all_divisors : (n : ℤ) (m limit : ℕ) (low : ℤ) (ts : List ℤ) → n ≢ pos 0 → AreDown n m (pos limit) low ts → low ≡ neg_ℤ (pos limit) -ℤ pos 1
    → ((k : ℕ) → k ≤ unsigned_abs n → k ≤ m → k ≤ limit) → AreDivisors n m ts
all_divisors n m limit low ts some h e least = record {
  divide = h.divide;
  falling = h.falling;
  all = λ t d small.
      let size = divisor_size t n some d in
      let within : unsigned_abs t ≤ limit = least (unsigned_abs t) size small in
      h.all t d (omega (arith, ints)) (omega (arith, ints));
}

pub down_start : (n : ℤ) (m limit : ℕ) (low : ℤ) (ts : List ℤ) → ts ≡ [] → pos limit ≤ℤ low → AreDown n m (pos limit) low ts
down_start n m limit low ts e h = subst (AreDown n m (pos limit) low) (sym e) nothing
  where
    nothing : AreDown n m (pos limit) low []
    nothing = record {
      falling = tt;
      above = λ k d less. absurd (let l : k < 0 = less in omega arith);
      divide = λ k d less. absurd (let l : k < 0 = less in omega arith);
      all = λ t dt within above. absurd (omega (arith, ints, within, above));
    }
