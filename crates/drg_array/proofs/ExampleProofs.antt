-- The numbers of small arrays.
use Rattle.std.proofs.Common.{◌≡◌, ℕ, zero, suc, ◌≤◌, ◌<◌, [], ◌∷◌, refl, sym, ap, ap₂, ◌∙◌, arith}
use Rattle.std.specs.Prelude.{ℤ, pos, negsuc, ◌+ℤ◌, ◌-ℤ◌, ◌*ℤ◌, neg_ℤ, ◌==◌}
use Rattle.drg_algebra.specs.Sums.{bit}
use Rattle.std.proofs.lemmas.Int.{ints}
use Rattle.drg_algebra.specs.Rational.{ℚ, whole, plus, times, minus}
use Rattle.drg_algebra.proofs.Maps.{whole_map}
use Rattle.drg_algebra.proofs.WholeParts.{same_whole}
use Rattle.drg_array.specs.Entries.{Entries, b_at, c_at, a_at}
use Rattle.drg_array.specs.Numbers.{size, before, numerator, AreIntersectionNumbers}
use Rattle.drg_array.specs.Examples.{petersen, PetersenSizes, PetersenNumbers, SizeOfFiveFour, NumberOfFourOne}
use Rattle.drg_array.proofs.NumberLaws.{share-back, cancel-whole}

times-is : (x y : ℤ) → times (whole x) (whole y) ≡ whole (x *ℤ y)
times-is x y = sym (whole_map.times x y)

plus-is : (x y : ℤ) → plus (whole x) (whole y) ≡ whole (x +ℤ y)
plus-is x y = sym (whole_map.plus x y)

-- ---- whole sizes
next-times : (a : Entries) (i : ℕ) → 1 ≤ c_at a (suc i) → times (whole (pos (c_at a (suc i)))) (size a (suc i)) ≡ times (size a i) (whole (pos (b_at a i)))
next-times a i h = share-back (c_at a (suc i)) _ h

next-size : (a : Entries) (i k l : ℕ) → 1 ≤ c_at a (suc i) → size a i ≡ whole (pos k) → pos k *ℤ pos (b_at a i) ≡ pos (c_at a (suc i)) *ℤ pos l → size a (suc i) ≡ whole (pos l)
next-size a i k l h e is =
    cancel-whole (c_at a (suc i)) (size a (suc i)) (whole (pos l)) h
    (next-times a i h ∙ (ap (λ z. times z (whole (pos (b_at a i)))) e ∙ (times-is (pos k) (pos (b_at a i)) ∙ (ap whole is ∙ sym (times-is (pos (c_at a (suc i))) (pos l))))))

one : size petersen 1 ≡ whole (pos 3)
one = next-size petersen 0 1 3 (omega arith) refl refl

two : size petersen 2 ≡ whole (pos 6)
two = next-size petersen 1 3 6 (omega arith) one refl

pub petersen_sizes : PetersenSizes
petersen_sizes = record {
  first = one;
  second = two;
  vertices =
      ap₂ (λ x y. plus (whole (pos 1)) (plus x (plus y (whole (pos 0))))) one two
      ∙ (ap (λ z. plus (whole (pos 1)) (plus (whole (pos 3)) z)) (plus-is (pos 6) (pos 0))
      ∙ (ap (plus (whole (pos 1))) (plus-is (pos 3) (pos 6)) ∙ plus-is (pos 1) (pos 9)));
}

-- ---- whole intersection numbers
before_whole : (ℕ → ℤ) → ℕ → ℤ
before_whole f zero = pos 0
before_whole f (suc j) = f j

whole_numerator : Entries → (ℕ → ℕ → ℤ) → ℕ → ℕ → ℤ
whole_numerator a q i j =
    before_whole (λ l. pos (b_at a l) *ℤ q i l) j +ℤ a_at a j *ℤ q i j +ℤ pos (c_at a (suc j)) *ℤ q i (suc j)
    -ℤ before_whole (λ l. pos (b_at a l) *ℤ q l j) i -ℤ a_at a i *ℤ q i j

before-is : (f : ℕ → ℤ) (k : ℕ → ℚ) (j : ℕ) → ((l : ℕ) → k l ≡ whole (f l)) → before k j ≡ whole (before_whole f j)
unfolding before_whole
before-is f k zero same = refl
before-is f k (suc j) same = same j

five-terms : (x y z u v : ℤ) → plus (plus (plus (plus (whole x) (whole y)) (whole z)) (minus (whole u))) (minus (whole v)) ≡ whole (x +ℤ y +ℤ z -ℤ u -ℤ v)
five-terms x y z u v =
    let two = plus-is x y in
    let three = ap (λ t. plus t (whole z)) two ∙ plus-is (x +ℤ y) z in
    let four = ap₂ plus three (sym (whole_map.minus u)) ∙ plus-is (x +ℤ y +ℤ z) (neg_ℤ u) in
    ap₂ plus four (sym (whole_map.minus v)) ∙ plus-is (x +ℤ y +ℤ z -ℤ u) (neg_ℤ v)

numerator-is : (a : Entries) (q : ℕ → ℕ → ℤ) (i j : ℕ) → numerator a (λ m l. whole (q m l)) i j ≡ whole (whole_numerator a q i j)
unfolding whole_numerator
numerator-is a q i j =
    let first = before-is (λ l. pos (b_at a l) *ℤ q i l) (λ l. times (whole (pos (b_at a l))) (whole (q i l))) j (λ l. times-is _ _) in
    let fourth = before-is (λ l. pos (b_at a l) *ℤ q l j) (λ l. times (whole (pos (b_at a l))) (whole (q l j))) i (λ l. times-is _ _) in
    rw (first, times-is (a_at a j) (q i j), times-is (pos (c_at a (suc j))) (q i (suc j)), fourth, times-is (a_at a i) (q i j)) (five-terms _ _ _ _ _)

meets : (a : Entries) (q : ℕ → ℕ → ℤ) (i j : ℕ) → pos (c_at a (suc i)) *ℤ q (suc i) j ≡ whole_numerator a q i j
    → times (whole (pos (c_at a (suc i)))) (whole (q (suc i) j)) ≡ numerator a (λ m l. whole (q m l)) i j
meets a q i j e = times-is (pos (c_at a (suc i))) (q (suc i) j) ∙ (ap whole e ∙ sym (numerator-is a q i j))

-- rows 0 to 2 with columns 0 to 2
abbrev row : ℤ → ℤ → ℤ → ℕ → ℤ
row x y z zero = x
row x y z (suc zero) = y
row x y z (suc (suc zero)) = z
row x y z (suc (suc (suc j))) = pos 0

abbrev rows : (ℕ → ℤ) → (ℕ → ℤ) → (ℕ → ℤ) → ℕ → ℕ → ℤ
rows x y z zero = x
rows x y z (suc zero) = y
rows x y z (suc (suc i)) = z

-- pairs of neighbours
near : ℕ → ℕ → ℤ
near = rows (row (pos 0) (pos 1) (pos 0)) (row (pos 1) (pos 0) (pos 2)) (row (pos 0) (pos 2) (pos 4))

-- pairs at distance 2
far : ℕ → ℕ → ℤ
far = rows (row (pos 0) (pos 0) (pos 1)) (row (pos 0) (pos 1) (pos 2)) (row (pos 1) (pos 2) (pos 3))

past : (j : ℕ) {P : Type 0} → suc (suc (suc j)) ≤ 2 → P
past j h = absurd (omega (arith, h))

near_numbers : AreIntersectionNumbers petersen 1 (λ i j. whole (near i j))
unfolding near whole_numerator before_whole
near_numbers = record { start = start; next = next }
  where
    start : (j : ℕ) → j ≤ 2 → whole (near 0 j) ≡ whole (pos (bit (j == 1)))
    start zero h = refl
    start (suc zero) h = refl
    start (suc (suc zero)) h = refl
    start (suc (suc (suc j))) h = past j h

    next : (i j : ℕ) → i < 2 → j ≤ 2 → times (whole (pos (c_at petersen (suc i)))) (whole (near (suc i) j)) ≡ numerator petersen (λ m l. whole (near m l)) i j
    next zero zero h k = meets petersen near 0 0 refl
    next zero (suc zero) h k = meets petersen near 0 1 refl
    next zero (suc (suc zero)) h k = meets petersen near 0 2 refl
    next (suc zero) zero h k = meets petersen near 1 0 refl
    next (suc zero) (suc zero) h k = meets petersen near 1 1 refl
    next (suc zero) (suc (suc zero)) h k = meets petersen near 1 2 refl
    next i (suc (suc (suc j))) h k = past j k
    next (suc (suc i)) j h k = absurd (omega (arith, h))

far_numbers : AreIntersectionNumbers petersen 2 (λ i j. whole (far i j))
unfolding far whole_numerator before_whole
far_numbers = record { start = start; next = next }
  where
    start : (j : ℕ) → j ≤ 2 → whole (far 0 j) ≡ whole (pos (bit (j == 2)))
    start zero h = refl
    start (suc zero) h = refl
    start (suc (suc zero)) h = refl
    start (suc (suc (suc j))) h = past j h

    next : (i j : ℕ) → i < 2 → j ≤ 2 → times (whole (pos (c_at petersen (suc i)))) (whole (far (suc i) j)) ≡ numerator petersen (λ m l. whole (far m l)) i j
    next zero zero h k = meets petersen far 0 0 refl
    next zero (suc zero) h k = meets petersen far 0 1 refl
    next zero (suc (suc zero)) h k = meets petersen far 0 2 refl
    next (suc zero) zero h k = meets petersen far 1 0 refl
    next (suc zero) (suc zero) h k = meets petersen far 1 1 refl
    next (suc zero) (suc (suc zero)) h k = meets petersen far 1 2 refl
    next i (suc (suc (suc j))) h k = past j k
    next (suc (suc i)) j h k = absurd (omega (arith, h))

pub petersen_numbers : PetersenNumbers
unfolding near far
petersen_numbers = record {
  triangles = (λ i j. whole (near i j), near_numbers, refl);
  far_from_neighbours = (λ i j. whole (near i j), near_numbers, refl);
  common = (λ i j. whole (far i j), far_numbers, refl);
  far_from_both = (λ i j. whole (far i j), far_numbers, refl);
}

-- ---- a size that isn't whole
abbrev five_four : Entries
five_four = record { b = 5 ∷ 4 ∷ []; c = 1 ∷ 3 ∷ [] }

five : size five_four 1 ≡ whole (pos 5)
five = next-size five_four 0 1 5 (omega arith) refl refl

not_twenty : (m : ℤ) → pos 3 *ℤ (pos 1 *ℤ m) ≡ pos 20 → ⊥
not_twenty m e = omega (arith, ints)

pub size_of_five_four : SizeOfFiveFour
size_of_five_four = (
  (omega arith, omega arith),
  (λ (m, e). not_twenty m
      (same_whole _ _ (sym (times-is (pos 3) (pos 1 *ℤ m)) ∙ (ap (times (whole (pos 3))) (sym e) ∙ (next-times five_four 1 (omega arith) ∙ (ap (λ z. times z (whole (pos 4))) five ∙ times-is (pos 5) (pos 4))))))),
)

-- ---- a negative intersection number
abbrev four_one : Entries
four_one = record { b = 4 ∷ 1 ∷ []; c = 1 ∷ 2 ∷ [] }

below_zero : ℕ → ℕ → ℤ
below_zero = rows (row (pos 0) (pos 0) (pos 1)) (row (pos 0) (pos 2) (pos 2)) (row (pos 1) (pos 2) (negsuc 0))

below_zero_numbers : AreIntersectionNumbers four_one 2 (λ i j. whole (below_zero i j))
unfolding below_zero whole_numerator before_whole
below_zero_numbers = record { start = start; next = next }
  where
    start : (j : ℕ) → j ≤ 2 → whole (below_zero 0 j) ≡ whole (pos (bit (j == 2)))
    start zero h = refl
    start (suc zero) h = refl
    start (suc (suc zero)) h = refl
    start (suc (suc (suc j))) h = past j h

    next : (i j : ℕ) → i < 2 → j ≤ 2 → times (whole (pos (c_at four_one (suc i)))) (whole (below_zero (suc i) j)) ≡ numerator four_one (λ m l. whole (below_zero m l)) i j
    next zero zero h k = meets four_one below_zero 0 0 refl
    next zero (suc zero) h k = meets four_one below_zero 0 1 refl
    next zero (suc (suc zero)) h k = meets four_one below_zero 0 2 refl
    next (suc zero) zero h k = meets four_one below_zero 1 0 refl
    next (suc zero) (suc zero) h k = meets four_one below_zero 1 1 refl
    next (suc zero) (suc (suc zero)) h k = meets four_one below_zero 1 2 refl
    next i (suc (suc (suc j))) h k = past j k
    next (suc (suc i)) j h k = absurd (omega (arith, h))

pub number_of_four_one : NumberOfFourOne
unfolding below_zero
number_of_four_one = (
  omega arith,
  omega arith,
  omega arith,
  whole (negsuc 0),
  ((λ i j. whole (below_zero i j)), below_zero_numbers, refl),
  λ (m, e). (let same : negsuc 0 ≡ pos m = same_whole (negsuc 0) (pos m) e in cc),
)
