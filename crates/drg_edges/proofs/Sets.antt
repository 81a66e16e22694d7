-- Members of sets of bits.
use Rattle.std.proofs.Common.{◌≡◌, ℕ, zero, suc, ◌+◌, ◌-◌, ◌*◌, ◌/◌, ◌%◌, ◌^◌, ◌≤◌, ◌<◌, Bool, true, false, List, length, replicate, refl, sym, ap, subst, ◌∙◌, arith, inl, inr}
use Rattle.std.specs.Prelude.{◌==◌, ◌&&◌, ◌||◌, not, ◌⊎◌, bit_and, bit_or, bit_xor, count_ones, slice_index, slice_set}
use Rattle.std.specs.Int.{bit_at}
use Rattle.std.proofs.lemmas.Nat.{and_le_l, ones-le, pow-add, pow_below, shl-shr, shr_high, shr-shr}
use Rattle.std.proofs.Math.Nat.{mod-eq_of_lt}
use Rattle.std.proofs.lemmas.Bool.{cases_lt}
use Rattle.std.proofs.lemmas.List.{get_or-set_same, get_or-set_other, get_or_past}
use Rattle.std.proofs.lemmas.Nat.Bits.{bit_at-zero, bit_at_above}
use Rattle.drg_algebra.specs.Sums.{count_of, below}
use Rattle.drg_algebra.proofs.Tests.{decided, same-number, equal-test, differ-test, differ, or-comm, same-test, below-out}
use Rattle.drg_algebra.proofs.Counts.{count-same, count-zero}
use Rattle.drg_edges.proofs.Bits.{or-bit, and-bit, less-bit, count-bits}

-- the bit of v in a list of words of 64 bits
abbrev pub bit_of : List ℕ → ℕ → Bool
bit_of words v = bit_at (slice_index words (v / 64)) (v % 64) == 1

-- ---- the one bit of a power of 2
pub power-bit : (j k : ℕ) → (bit_at (2 ^ j) k == 1) ≡ (j == k)
power-bit j k = elim (order j k) [
  | inl (inl less) ↦ (let none : 2 ^ j / 2 ^ k ≡ 0 = subst (λ n. n / 2 ^ k ≡ 0) (omega arith) (shr_high 0 k (2 ^ j) (pow_below j k less)) in
      let no : (j == k) ≡ false = differ-test j k (λ e. omega (arith, e, less)) in
      rw (none, no) refl)
  | inl (inr same) ↦ (let one : 2 ^ j / 2 ^ k ≡ 1 = subst (λ n. 2 ^ j / 2 ^ n ≡ 1) same (subst (λ n. n / 2 ^ j ≡ 1) (omega arith) (shl-shr 1 j)) in
      let yes : (j == k) ≡ true = equal-test j k same in
      rw (one, yes) refl)
  | inr more ↦ (let whole : j ≡ suc (j - suc k) + k = omega (arith, more) in
      let power : 2 ^ j ≡ 2 ^ suc (j - suc k) * 2 ^ k = ap (λ n. 2 ^ n) whole ∙ pow-add 2 (suc (j - suc k)) k in
      let high : 2 ^ j / 2 ^ k ≡ 2 * 2 ^ (j - suc k) = ap (λ n. n / 2 ^ k) power ∙ (shl-shr (2 ^ suc (j - suc k)) k ∙ omega arith) in
      let even : (2 * 2 ^ (j - suc k)) % 2 ≡ 0 = omega arith in
      let no : (j == k) ≡ false = differ-test j k (λ e. omega (arith, e, more)) in
      rw (high, even, no) refl)
]
  where
    order : (m n : ℕ) → ((m < n) ⊎ (m ≡ n)) ⊎ (n < m)
    order zero zero = inl (inr refl)
    order zero (suc n) = inl (inl (omega arith))
    order (suc m) zero = inr (omega arith)
    order (suc m) (suc n) = elim (order m n) [ inl (inl e) ↦ inl (inl (omega (arith, e))) | inl (inr e) ↦ inl (inr (ap suc e)) | inr e ↦ inr (omega (arith, e)) ]

-- ---- one bit more
pub insert-bit : (words : List ℕ) (v u : ℕ) → v / 64 < length words
    → bit_of (slice_set words (v / 64) (bit_or (slice_index words (v / 64)) (2 ^ (v % 64)))) u ≡ (v == u || bit_of words u)
insert-bit words v u inside =
    elim (decided (v / 64 == u / 64)) [
      | inl e ↦ (let same = same-number (v / 64) (u / 64) e in
          let word : slice_index (slice_set words (v / 64) (bit_or (slice_index words (v / 64)) (2 ^ (v % 64)))) (u / 64) ≡ bit_or (slice_index words (u / 64)) (2 ^ (v % 64)) =
          subst (λ n. slice_index (slice_set words (v / 64) (bit_or (slice_index words (v / 64)) (2 ^ (v % 64)))) n ≡ bit_or (slice_index words n) (2 ^ (v % 64))) same
          (get_or-set_same words (v / 64) _ 0 inside) in
          let place : (v % 64 == u % 64) ≡ (v == u) =
          same-test _ _ (λ h. (let low = same-number _ _ h in equal-test v u (omega (arith, same, low)))) (λ h. (let equal = same-number v u h in equal-test _ _ (ap (λ n. n % 64) equal))) in
          ap (λ w. bit_at w (u % 64) == 1) word ∙ (or-bit (slice_index words (u / 64)) (2 ^ (v % 64)) (u % 64)
          ∙ (ap (λ b. bit_of words u || b) (power-bit (v % 64) (u % 64) ∙ place) ∙ or-comm (bit_of words u) (v == u))))
      | inr e ↦ (let apart = differ (v / 64) (u / 64) e in
          let no : (v == u) ≡ false = differ-test v u (λ h. apart (ap (λ n. n / 64) h)) in
          let word : slice_index (slice_set words (v / 64) (bit_or (slice_index words (v / 64)) (2 ^ (v % 64)))) (u / 64) ≡ slice_index words (u / 64) =
          get_or-set_other words (v / 64) (u / 64) _ 0 (λ e. apart (sym e)) in
          rw no (ap (λ w. bit_at w (u % 64) == 1) word))
    ]

-- ---- counts, a word at a time
count-from : (p : ℕ → Bool) (k m : ℕ) → count_of p (below (k + m)) ≡ count_of (λ j. p (j + m)) (below k) + count_of p (below m)
count-from p zero m = (let same : 0 + m ≡ m = omega arith in
    let none : count_of p (below m) ≡ count_of (λ j. p (j + m)) (below 0) + count_of p (below m) = omega arith in
    ap (λ n. count_of p (below n)) same ∙ none)
count-from p (suc k) m = (let rest = count-from p k m in let one : suc k + m ≡ suc (k + m) = omega arith in rw one (omega (arith, rest)))

pub count-word : (xs ys : List ℕ) (w : ℕ) → bit_and (slice_index xs w) (slice_index ys w) < 2 ^ 64
    → count_of (λ v. bit_of xs v && bit_of ys v) (below (64 + 64 * w)) ≡ count_ones (bit_and (slice_index xs w) (slice_index ys w)) + count_of (λ v. bit_of xs v && bit_of ys v) (below (64 * w))
count-word xs ys w small =
    let both = bit_and (slice_index xs w) (slice_index ys w) in
    let bits : count_of (λ j. bit_at both j == 1) (below 64) ≡ count_ones both = count-bits both 64 ∙ ap count_ones (low both small) in
    let same : count_of (λ j. bit_of xs (j + 64 * w) && bit_of ys (j + 64 * w)) (below 64) ≡ count_of (λ j. bit_at both j == 1) (below 64) =
    count-same (λ j. bit_of xs (j + 64 * w) && bit_of ys (j + 64 * w)) (λ j. bit_at both j == 1) (below 64) (λ j h. (let less = below-out 64 j h in
    let place : (j + 64 * w) / 64 ≡ w = omega (arith, less) in
    let at : (j + 64 * w) % 64 ≡ j = omega (arith, less) in
    rw (place, at) (sym (and-bit (slice_index xs w) (slice_index ys w) j)))) in
    count-from (λ v. bit_of xs v && bit_of ys v) 64 (64 * w) ∙ ap (λ n. n + count_of (λ v. bit_of xs v && bit_of ys v) (below (64 * w))) (same ∙ bits)
  where
    low : (n : ℕ) → n < 2 ^ 64 → n % 2 ^ 64 ≡ n
    low n h = mod-eq_of_lt h

-- ---- whole sets
-- past the last word nothing is held
pub bit-past : (words : List ℕ) (v : ℕ) → length words * 64 ≤ v → bit_of words v ≡ false
bit-past words v h =
    let none : slice_index words (v / 64) ≡ 0 = get_or_past words (v / 64) 0 (omega (arith, h)) in
    let zeros : bit_at 0 (v % 64) ≡ 0 = bit_at-zero (v % 64) in
    rw (none, zeros) refl

-- a set that is made word by word from two others
module _ (n : ℕ) (new old other : List ℕ) (long : length new ≡ n) (long-old : length old ≡ n) (long-other : length other ≡ n) where
  pub united : ((w : ℕ) → w < n → slice_index new w ≡ bit_or (slice_index old w) (slice_index other w)) → (v : ℕ) → bit_of new v ≡ (bit_of old v || bit_of other v)
  united h v = elim (cases_lt (v / 64) n) [
    | inl less ↦ ap (λ w. bit_at w (v % 64) == 1) (h (v / 64) less) ∙ or-bit (slice_index old (v / 64)) (slice_index other (v / 64)) (v % 64)
    | inr more ↦ (let one = bit-past new v (omega (arith, more, long)) in
        let two = bit-past old v (omega (arith, more, long-old)) in
        let three = bit-past other v (omega (arith, more, long-other)) in
        rw (one, two, three) refl)
  ]

  pub removed : ((w : ℕ) → w < n → slice_index new w ≡ bit_xor (bit_or (slice_index old w) (slice_index other w)) (slice_index other w))
      → (v : ℕ) → bit_of new v ≡ (bit_of old v && not (bit_of other v))
  removed h v = elim (cases_lt (v / 64) n) [
    | inl less ↦ ap (λ w. bit_at w (v % 64) == 1) (h (v / 64) less) ∙ less-bit (slice_index old (v / 64)) (slice_index other (v / 64)) (v % 64)
    | inr more ↦ (let one = bit-past new v (omega (arith, more, long)) in
        let two = bit-past old v (omega (arith, more, long-old)) in
        rw (one, two) refl)
  ]

-- a count is the same below any two numbers above all that is counted
count-above : (p : ℕ → Bool) (m n : ℕ) → ((v : ℕ) → m ≤ v → p v ≡ false) → m ≤ n → count_of p (below n) ≡ count_of p (below m)
count-above p m n none more =
    let whole : n ≡ (n - m) + m = omega (arith, more) in
    let rest : count_of (λ j. p (j + m)) (below (n - m)) ≡ 0 = count-zero (λ j. p (j + m)) (below (n - m)) (λ j h. none (j + m) (omega arith)) in
    let split = count-from p (n - m) m in
    ap (λ k. count_of p (below k)) whole ∙ omega (arith, split, rest)

pub count-bounds : (p : ℕ → Bool) (m n : ℕ) → ((v : ℕ) → m ≤ v → p v ≡ false) → ((v : ℕ) → n ≤ v → p v ≡ false) → count_of p (below m) ≡ count_of p (below n)
count-bounds p m n none-m none-n = elim (cases_lt m n) [
  | inl less ↦ sym (count-above p m n none-m (omega (arith, less)))
  | inr more ↦ count-above p n m none-n more
]

-- what is counted word by word, up to the last
pub common-all : (xs ys : List ℕ) (m n : ℕ) → m ≡ length xs * 64 → ((v : ℕ) → n ≤ v → bit_of xs v ≡ false)
    → count_of (λ v. bit_of xs v && bit_of ys v) (below m) ≡ count_of (λ v. bit_of xs v && bit_of ys v) (below n)
common-all xs ys m n whole none =
    count-bounds (λ v. bit_of xs v && bit_of ys v) m n
    (λ v h. (let past = bit-past xs v (omega (arith, h, whole)) in rw past refl))
    (λ v h. (let past = none v h in rw past refl))

-- the lowest bit from one on, in its word
module _ (words : List ℕ) (v word low : ℕ) (is : word ≡ slice_index words (v / 64) / 2 ^ (v % 64)) (small : slice_index words (v / 64) < 2 ^ 64) where
  bit-from : (k : ℕ) → bit_at word k ≡ bit_at (slice_index words (v / 64)) (v % 64 + k)
  bit-from k = ap (λ n. n / 2 ^ k % 2) is ∙ ap (λ n. n % 2) (shr-shr (slice_index words (v / 64)) (v % 64) k)

  pub low-inside : bit_at word low ≡ 1 → v % 64 + low < 64
  low-inside one = elim (cases_lt (v % 64 + low) 64) [
    | inl less ↦ less
    | inr more ↦ (let none = bit_at_above (slice_index words (v / 64)) 64 (v % 64 + low) small more in
        let same = bit-from low in absurd (omega (arith, one, none, same)))
  ]

  bit-here : (k : ℕ) → v % 64 + k < 64 → bit_of words (v + k) ≡ (bit_at word k == 1)
  bit-here k less =
      let place : (v + k) / 64 ≡ v / 64 = omega (arith, less) in
      let at : (v + k) % 64 ≡ v % 64 + k = omega (arith, less) in
      rw (place, at) (ap (λ n. n == 1) (sym (bit-from k)))

  pub low-member : bit_at word low ≡ 1 → bit_of words (v + low) ≡ true
  low-member one = bit-here low (low-inside one) ∙ ap (λ n. n == 1) one

  pub none-below : bit_at word low ≡ 1 → ((k : ℕ) → k < low → bit_at word k ≡ 0) → (u : ℕ) → v ≤ u → u < v + low → bit_of words u ≡ false
  none-below one zeros u more less =
      let inside = low-inside one in
      let whole : u ≡ v + (u - v) = omega (arith, more) in
      let zero : bit_at word (u - v) ≡ 0 = zeros (u - v) (omega (arith, more, less)) in
      ap (bit_of words) whole ∙ (bit-here (u - v) (omega (arith, more, less, inside)) ∙ ap (λ n. n == 1) zero)

-- ---- no bits, and one
zero_at : (n w : ℕ) → slice_index (replicate n 0) w ≡ 0
zero_at zero w = refl
zero_at (suc n) zero = refl
zero_at (suc n) (suc w) = zero_at n w

pub zeros-bit : (n v : ℕ) → bit_of (replicate n 0) v ≡ false
zeros-bit n v = (let none = zero_at n (v / 64) in let zeros : bit_at 0 (v % 64) ≡ 0 = bit_at-zero (v % 64) in rw (none, zeros) refl)

pub shifted : (k : ℕ) → k < 64 → 1 * 2 ^ k % 2 ^ 64 ≡ 2 ^ k
shifted k less = (let small = pow_below k 64 less in let one : 1 * 2 ^ k ≡ 2 ^ k = omega arith in ap (λ n. n % 2 ^ 64) one ∙ mod-eq_of_lt small)

pub insert-shifted : (words : List ℕ) (v u : ℕ) → v / 64 < length words
    → bit_of (slice_set words (v / 64) (bit_or (slice_index words (v / 64)) (1 * 2 ^ (v % 64) % 2 ^ 64))) u ≡ (v == u || bit_of words u)
insert-shifted words v u inside =
    ap (λ p. bit_of (slice_set words (v / 64) (bit_or (slice_index words (v / 64)) p)) u) (shifted (v % 64) (omega arith)) ∙ insert-bit words v u inside

-- no bit in the rest of a word that is 0
pub none-after : (words : List ℕ) (v u : ℕ) → v ≤ u → u < v + (64 - v % 64) → slice_index words (v / 64) / 2 ^ (v % 64) ≡ 0 → bit_of words u ≡ false
none-after words v u more less none =
    let place : u / 64 ≡ v / 64 = omega (arith, more, less) in
    let low : u % 64 ≡ v % 64 + (u - v) = omega (arith, more, less) in
    let word = slice_index words (v / 64) in
    let bit : bit_at word (u % 64) ≡ bit_at 0 (u - v) =
    ap (λ n. word / 2 ^ n % 2) low ∙ (ap (λ n. n % 2) (sym (shr-shr word (v % 64) (u - v))) ∙ ap (λ n. n / 2 ^ (u - v) % 2) none) in
    ap (λ w. bit_at (slice_index words w) (u % 64) == 1) place ∙ ap (λ n. n == 1) (bit ∙ bit_at-zero (u - v))

-- ---- a count, one word further
pub record IsCounted (xs ys : List ℕ) (place count : ℕ) : Type 0 where
  pub few : count ≤ 64 * place
  pub counted : (m : ℕ) → m ≡ 64 * place → count ≡ count_of (λ v. bit_of xs v && bit_of ys v) (below m)

pub count-next : (xs ys : List ℕ) (place count : ℕ) → slice_index xs place < 2 ^ 64 → count ≤ 64 * place
    → ((m : ℕ) → m ≡ 64 * place → count ≡ count_of (λ v. bit_of xs v && bit_of ys v) (below m))
    → IsCounted xs ys (place + 1) (count + count_ones (bit_and (slice_index xs place) (slice_index ys place)))
count-next xs ys place count small few counted =
    let both = bit_and (slice_index xs place) (slice_index ys place) in
    let both_small : both < 2 ^ 64 = and-small (slice_index xs place) (slice_index ys place) small in
    let ones : count_ones both ≤ 64 = ones-le 64 both both_small in
    let word = count-word xs ys place both_small in
    let so_far = counted (64 * place) refl in
    record {
      few = omega (arith, ones, few);
      counted = λ m same. (let whole : 64 + 64 * place ≡ m = omega (arith, same) in
          omega (arith, word, so_far) ∙ ap (λ k. count_of (λ v. bit_of xs v && bit_of ys v) (below k)) whole);
    }
  where
    and-small : (a b : ℕ) → a < 2 ^ 64 → bit_and a b < 2 ^ 64
    and-small a b h = (let less = and_le_l a b in omega (arith, less, h))
