-- The sizes and the intersection numbers of an array.
use Rattle.std.proofs.Common.{◌≡◌, ℕ, zero, suc, ◌≤◌, refl, sym, subst, ap, ap₂, ◌∙◌, arith, inl, inr}
use Rattle.std.specs.Prelude.{pos, ◌==◌}
use Rattle.std.proofs.lemmas.Int.{ints}
use Rattle.drg_algebra.specs.Sums.{bit}
use Rattle.drg_algebra.specs.Ring.{one, ◌⊗◌}
use Rattle.drg_algebra.specs.Integer.{suc_above, above_times, ring2}
use Rattle.drg_algebra.specs.Rational.{ℚ, whole, plus, times, minus, rationals}
use Rattle.drg_algebra.specs.Ratio.{ratio, one_above, ratio_one, ratio_same, times_ratio}
use Rattle.drg_algebra.specs.Fields.{rational_field}
use Rattle.drg_algebra.proofs.Tests.{decided, same-number, differ}
use Rattle.drg_algebra.proofs.Tables.{cancel_left}
use Rattle.drg_algebra.proofs.Maps.{whole_apart}
use Rattle.drg_algebra.proofs.WholeParts.{zero_times}
use Rattle.drg_array.specs.Entries.{Entries, IsArray, diameter, b_at, c_at, a_at}
use Rattle.drg_array.specs.Numbers.{share, size, before, numerator, AreIntersectionNumbers}
use Rattle.drg_array.specs.NumberLaws.{SizesMeet, NumbersExist, OneNumber}
use Rattle.drg_array.proofs.EntryLemmas.{c-positive, c-end}

-- n · (1 / n) = 1
share-unit : (n : ℕ) → 1 ≤ n → times (whole (pos n)) (ratio (pos 1) (pos n)) ≡ whole (pos 1)
share-unit zero positive = absurd (omega (arith, positive))
share-unit (suc n) positive =
    ap (λ z. times z (ratio (pos 1) (pos (suc n)))) (sym (ratio_one (pos (suc n))))
    ∙ (times_ratio (pos (suc n)) (pos 1) (pos 1) (pos (suc n)) one_above (suc_above n)
    ∙ (ratio_same _ _ (pos 1) (pos 1) (above_times (pos 1) (pos (suc n)) one_above (suc_above n)) one_above (omega (arith, ints))
    ∙ ratio_one (pos 1)))

pub share-back : (n : ℕ) (x : ℚ) → 1 ≤ n → times (whole (pos n)) (share x n) ≡ x
share-back n x positive =
    sym (rationals.times_assoc (whole (pos n)) (ratio (pos 1) (pos n)) x)
    ∙ (ap (λ z. times z x) (share-unit n positive) ∙ ring2 rationals (λ x y. one ⊗ x) (λ x y. x) refl x x)

-- a factor that isn't 0 is cancelled
pub cancel-whole : (c : ℕ) (x y : ℚ) → 1 ≤ c → times (whole (pos c)) x ≡ times (whole (pos c)) y → x ≡ y
cancel-whole zero x y positive e = absurd (omega (arith, positive))
cancel-whole (suc c) x y positive e = cancel_left rational_field (whole (pos (suc c))) x y (whole_apart c) e

pub sizes_meet : SizesMeet
sizes_meet a i array h = rationals.times_comm (size a (suc i)) (whole (pos (c_at a (suc i)))) ∙ share-back (c_at a (suc i)) _ (c-positive a i array h)

-- ---- row by row, with the row before it
record Rows : Type 0 where
  pub row : ℕ → ℚ
  pub last : ℕ → ℚ

-- what two rows make of the next
made : Entries → ℕ → Rows → ℕ → ℚ
made a i rows j =
    plus (plus (plus (plus (before (λ l. times (whole (pos (b_at a l))) (rows.row l)) j) (times (whole (a_at a j)) (rows.row j)))
    (times (whole (pos (c_at a (suc j)))) (rows.row (suc j))))
    (minus (before (λ l. times (whole (pos (b_at a l))) (rows.last j)) i)))
    (minus (times (whole (a_at a i)) (rows.row j)))

rows_of : Entries → ℕ → ℕ → Rows
rows_of a h zero = record { row = λ j. whole (pos (bit (j == h))); last = λ j. whole (pos 0) }
rows_of a h (suc i) = record { row = λ j. share (made a i (rows_of a h i) j) (c_at a (suc i)); last = (rows_of a h i).row }

made-is : (a : Entries) (h i j : ℕ) → made a i (rows_of a h i) j ≡ numerator a (λ m l. (rows_of a h m).row l) i j
unfolding made rows_of
made-is a h zero j = refl
made-is a h (suc i) j = refl

pub numbers_exist : NumbersExist
unfolding rows_of
numbers_exist a h array = (
  λ i j. (rows_of a h i).row j,
  record {
    start = λ j hj. refl;
    next = λ i j hi hj. share-back (c_at a (suc i)) _ (c-positive a i array hi) ∙ made-is a h i j;
  },
)

module _ (a : Entries) (array : IsArray a) where
  -- the last term is absent at d
  last-term : (p q : ℕ → ℚ) (j : ℕ) → j ≤ diameter a → ((l : ℕ) → l ≤ diameter a → p l ≡ q l)
      → times (whole (pos (c_at a (suc j)))) (p (suc j)) ≡ times (whole (pos (c_at a (suc j)))) (q (suc j))
  last-term p q j h same =
      elim (decided (j == diameter a)) [
        | inl end ↦ (let at = same-number j (diameter a) end in
            let none : c_at a (suc j) ≡ 0 = c-end a j array (omega (arith, at)) in
            rw none (zero_times (p (suc j)) ∙ sym (zero_times (q (suc j)))))
        | inr inside ↦ (let apart = differ j (diameter a) inside in
            ap (times (whole (pos (c_at a (suc j))))) (same (suc j) (omega (arith, h, apart))))
      ]

  before-same : (b p q : ℕ → ℚ) (j : ℕ) → ((l : ℕ) → suc l ≤ j → p l ≡ q l) → before (λ l. times (b l) (p l)) j ≡ before (λ l. times (b l) (q l)) j
  before-same b p q zero same = refl
  before-same b p q (suc j) same = ap (times (b j)) (same j (omega arith))

  -- two families whose rows agree up to row i make the same row after it
  numerator-agrees : (p q : ℕ → ℕ → ℚ) (i j : ℕ) → j ≤ diameter a → ((m l : ℕ) → m ≤ i → l ≤ diameter a → p m l ≡ q m l) → numerator a p i j ≡ numerator a q i j
  numerator-agrees p q i j h same =
      let b = λ (l : ℕ). whole (pos (b_at a l)) in
      let one = before-same b (p i) (q i) j (λ l m. same i l (omega arith) (omega (arith, m, h))) in
      let two = ap (times (whole (a_at a j))) (same i j (omega arith) h) in
      let three = last-term (p i) (q i) j h (λ l m. same i l (omega arith) m) in
      let four = before-same b (λ l. p l j) (λ l. q l j) i (λ l m. same l j (omega (arith, m)) h) in
      let five = ap (times (whole (a_at a i))) (same i j (omega arith) h) in
      ap₂ plus (ap₂ plus (ap₂ plus (ap₂ plus one two) three) (ap minus four)) (ap minus five)

  -- row by row, all columns at once
  rows-agree : (h : ℕ) (p q : ℕ → ℕ → ℚ) → AreIntersectionNumbers a h p → AreIntersectionNumbers a h q
      → (i t j : ℕ) → t ≤ i → i ≤ diameter a → j ≤ diameter a → p t j ≡ q t j
  rows-agree h p q ps qs zero t j ht hi hj =
      let none : 0 ≡ t = omega (arith, ht) in
      let P : ℕ → Type 0 = λ u. p u j ≡ q u j in
      subst P none (ps.start j hj ∙ sym (qs.start j hj))
  rows-agree h p q ps qs (suc i) t j ht hi hj =
      let inside : i ≤ diameter a = omega (arith, hi) in
      let earlier = λ (u l : ℕ) (hu : u ≤ i) (hl : l ≤ diameter a). rows-agree h p q ps qs i u l hu inside hl in
      elim (decided (t == suc i)) [
        | inl now ↦ (let same : suc i ≡ t = sym (same-number t (suc i) now) in
            let P : ℕ → Type 0 = λ u. p u j ≡ q u j in
            subst P same (cancel-whole (c_at a (suc i)) (p (suc i) j) (q (suc i) j) (c-positive a i array hi)
            (ps.next i j hi hj ∙ (numerator-agrees p q i j hj earlier ∙ sym (qs.next i j hi hj)))))
        | inr other ↦ (let apart = differ t (suc i) other in earlier t j (omega (arith, ht, apart)) hj)
      ]

pub one_number : OneNumber
one_number a h i j x y array hi hj (p, ps, px) (q, qs, qy) = sym px ∙ (rows-agree a array h p q ps qs i i j (omega arith) hi hj ∙ qy)
