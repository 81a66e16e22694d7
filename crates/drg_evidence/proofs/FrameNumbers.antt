-- The numbers of values are field numbers in lowest terms, and stand for the values.
use Rattle.std.proofs.Common.{◌≡◌, ℕ, zero, suc, ◌+◌, ◌*◌, ◌<◌, ◌≤◌, true, List, [], ◌∷◌, length, refl, sym, ap₂, ◌∙◌, subst, arith, inl, inr, ℤ, pos}
use Rattle.std.specs.Prelude.{◌&&◌, not, int_lt, ◌<ℤ◌}
use Rattle.std.specs.Ordering.{int_eq}
use Rattle.std.proofs.lemmas.Bool.Decides.{nat_tests, Decides-int_eq}
use Rattle.std.proofs.lemmas.Int.{ints}
use Rattle.std.proofs.lemmas.List.{get_or_past}
use Rattle.drg_algebra.specs.Pairs.{pair_path}
use Rattle.drg_algebra.specs.Rational.{ℚ, whole}
use Rattle.drg_algebra.specs.Reduced.{numerator, denominator, denominator_above, ratio_of_parts}
use Rattle.drg_algebra.proofs.RatioLemmas.{parts_are_reduced}
use Rattle.drg_algebra.proofs.Tests.{and-in, not-in, decided}
use Rattle.drg_quadratic.specs.Values.{Value, nil, IsOver}
use Rattle.drg_replay.specs.FieldNumbers.{are_field_numbers, are_lowest, fraction_at, fraction_count, fraction_of, is_lowest, number_at, value_at}
use Rattle.drg_replay.proofs.StepLaws.{are_same}
use Rattle.drg_whole.specs.Range.{InRange, in_range}
use Rattle.drg_evidence.specs.FrameLines.{field_numbers, row_numbers}
use Rattle.drg_evidence.proofs.FieldWork.{IsShown, AreShown}

-- ---- numbers after the first two
pub shift_over : (x y : ℤ) (ns : List ℤ) (k : ℕ) → number_at (x ∷ y ∷ ns) (2 * suc k) ≡ number_at ns (2 * k)
shift_over x y ns k = let e : 2 * suc k ≡ suc (suc (2 * k)) = omega arith in rw e refl

pub shift_under : (x y : ℤ) (ns : List ℤ) (k : ℕ) → number_at (x ∷ y ∷ ns) (2 * suc k + 1) ≡ number_at ns (2 * k + 1)
shift_under x y ns k = let e : 2 * suc k + 1 ≡ suc (suc (2 * k + 1)) = omega arith in rw e refl

-- the fraction with this place has the numbers of a rational
pub record Has (ns : List ℤ) (k : ℕ) (q : ℚ) : Type 0 where
  pub over : number_at ns (2 * k) ≡ numerator q
  pub under : number_at ns (2 * k + 1) ≡ denominator q

here : (q : ℚ) (ns : List ℤ) → Has (numerator q ∷ denominator q ∷ ns) 0 q
here q ns = record { over = refl; under = refl }

later : (x y : ℤ) (ns : List ℤ) (k : ℕ) (q : ℚ) → Has ns k q → Has (x ∷ y ∷ ns) (suc k) q
later x y ns k q h = record { over = shift_over x y ns k ∙ h.over; under = shift_under x y ns k ∙ h.under }

at_place : (ns : List ℤ) (k l : ℕ) (q : ℚ) → k ≡ l → Has ns k q → Has ns l q
at_place ns k l q e h = subst (λ (m : ℕ). Has ns m q) e h

-- over root 0
flat_at : (x : ℕ → Value) (l n j m : ℕ) → j < n → m ≡ l + j → Has (row_numbers 0 x l n) j (x m).a
flat_at x l zero j m less e = absurd (omega arith)
flat_at x l (suc n) zero m less e = let same : m ≡ l = omega arith in rw same (here (x l).a (row_numbers 0 x (suc l) n))
flat_at x l (suc n) (suc j) m less e = later _ _ (row_numbers 0 x (suc l) n) j (x m).a (flat_at x (suc l) n j m (omega arith) (omega arith))

-- over another root the two parts of a value stand one after the other
first_at : (r : ℕ) (x : ℕ → Value) (l n j m : ℕ) → j < n → m ≡ l + j → Has (row_numbers (suc r) x l n) (2 * j) (x m).a
first_at r x l zero j m less e = absurd (omega arith)
first_at r x l (suc n) zero m less e = let same : m ≡ l = omega arith in rw same (here (x l).a (numerator (x l).b ∷ denominator (x l).b ∷ row_numbers (suc r) x (suc l) n))
first_at r x l (suc n) (suc j) m less e =
    at_place _ (suc (suc (2 * j))) (2 * suc j) (x m).a (omega arith)
    (later _ _ (numerator (x l).b ∷ denominator (x l).b ∷ row_numbers (suc r) x (suc l) n) (suc (2 * j)) (x m).a
    (later _ _ (row_numbers (suc r) x (suc l) n) (2 * j) (x m).a (first_at r x (suc l) n j m (omega arith) (omega arith))))

second_at : (r : ℕ) (x : ℕ → Value) (l n j m : ℕ) → j < n → m ≡ l + j → Has (row_numbers (suc r) x l n) (2 * j + 1) (x m).b
second_at r x l zero j m less e = absurd (omega arith)
second_at r x l (suc n) zero m less e =
    let same : m ≡ l = omega arith in
    rw same (later _ _ (numerator (x l).b ∷ denominator (x l).b ∷ row_numbers (suc r) x (suc l) n) 0 (x l).b (here (x l).b (row_numbers (suc r) x (suc l) n)))
second_at r x l (suc n) (suc j) m less e =
    at_place _ (suc (suc (2 * j + 1))) (2 * suc j + 1) (x m).b (omega arith)
    (later _ _ (numerator (x l).b ∷ denominator (x l).b ∷ row_numbers (suc r) x (suc l) n) (suc (2 * j + 1)) (x m).b
    (later _ _ (row_numbers (suc r) x (suc l) n) (2 * j + 1) (x m).b (second_at r x (suc l) n j m (omega arith) (omega arith))))

-- ---- the values that they stand for
in_range_is : (z : ℤ) → InRange z → in_range z ≡ true
in_range_is z h = grind (arith, nat_tests)

not_zero : (q : ℚ) → not (int_eq (denominator q) (pos 0)) ≡ true
not_zero q =
    elim (decided (int_eq (denominator q) (pos 0))) [
      | inl e ↦ absurd (let none : denominator q ≡ pos 0 = (Decides-int_eq _ _).0 e in let above = denominator_above q in omega (arith, ints, none, above))
      | inr e ↦ not-in _ e
    ]

fraction_is : (q : ℚ) → IsShown q → fraction_of (numerator q) (denominator q) ≡ q
fraction_is q s =
    let fits = and-in (in_range (numerator q) && in_range (denominator q)) _ (and-in (in_range (numerator q)) _ (in_range_is (numerator q) s.over) (in_range_is (denominator q) s.under)) (not_zero q) in
    rw fits (ratio_of_parts q)

pub fraction_there : (ns : List ℤ) (k : ℕ) (q : ℚ) → IsShown q → Has ns k q → fraction_at ns k ≡ q
fraction_there ns k q s h = ap₂ fraction_of h.over h.under ∙ fraction_is q s

pub value_there : (root : ℕ) (x : ℕ → Value) (l n j m : ℕ) → j < n → m ≡ l + j → IsOver root (x m) → AreShown (x m) → value_at root (row_numbers root x l n) j ≡ x m
value_there zero x l n j m less e over s = pair_path _ _ (fraction_there _ j (x m).a s.first (flat_at x l n j m less e)) (sym (over refl))
value_there (suc r) x l n j m less e over s =
    pair_path _ _ (fraction_there _ (2 * j) (x m).a s.first (first_at r x l n j m less e)) (fraction_there _ (2 * j + 1) (x m).b s.second (second_at r x l n j m less e))

-- ---- lengths
pub row_length : (root : ℕ) (x : ℕ → Value) (l n : ℕ) → length (row_numbers root x l n) ≡ 2 * fraction_count root n
row_length zero x l zero = refl
row_length zero x l (suc n) = let rest = row_length zero x (suc l) n in omega (arith, rest)
row_length (suc r) x l zero = refl
row_length (suc r) x l (suc n) = let rest = row_length (suc r) x (suc l) n in omega (arith, rest)

past : (ns : List ℤ) (k : ℕ) → length ns ≤ 2 * k → fraction_at ns k ≡ whole (pos 0)
past ns k short = ap₂ fraction_of (get_or_past ns (2 * k) (pos 0) short) (get_or_past ns (2 * k + 1) (pos 0) (omega (arith, short)))

-- past the end stands nil
pub value_past : (root : ℕ) (ns : List ℤ) (n : ℕ) → length ns ≡ 2 * fraction_count root n → value_at root ns n ≡ nil
value_past zero ns n e = pair_path _ _ (past ns n (omega (arith, e))) refl
value_past (suc r) ns n e = pair_path _ _ (past ns (2 * n) (omega (arith, e))) (past ns (2 * n + 1) (omega (arith, e)))

-- ---- lowest terms
lowest : (q : ℚ) → IsShown q → is_lowest (numerator q) (denominator q) ≡ true
lowest q s =
    and-in _ _ (and-in _ _ (and-in (in_range (numerator q)) _ (in_range_is (numerator q) s.over) (in_range_is (denominator q) s.under)) (positive (denominator q) (denominator_above q)))
    (are_same _ _ ((parts_are_reduced q).0.coprime))
  where
    positive : (z : ℤ) → pos 0 <ℤ z → int_lt (pos 0) z ≡ true
    positive z h =
        elim (decided (int_lt (pos 0) z)) [ inl e ↦ e | inr e ↦ absurd (omega (arith, ints)) ]

abbrev AllLowest : List ℤ → ℕ → Type 0
AllLowest ns m = (k : ℕ) → k < m → is_lowest (number_at ns (2 * k)) (number_at ns (2 * k + 1)) ≡ true

lowest_test : (ns : List ℤ) (m : ℕ) → AllLowest ns m → are_lowest ns m ≡ true
unfolding are_lowest
lowest_test ns zero all = refl
lowest_test ns (suc m) all = and-in _ _ (lowest_test ns m (λ k less. all k (omega arith))) (all m (omega arith))

lowest_first : (q : ℚ) (ns : List ℤ) (m : ℕ) → IsShown q → AllLowest ns m → AllLowest (numerator q ∷ denominator q ∷ ns) (suc m)
lowest_first q ns m s all zero less = lowest q s
lowest_first q ns m s all (suc k) less = ap₂ is_lowest (shift_over _ _ ns k) (shift_under _ _ ns k) ∙ all k (omega arith)

none_lowest : AllLowest [] 0
none_lowest k less = absurd (omega arith)

lowest_at : (ns : List ℤ) (m n : ℕ) → m ≡ n → AllLowest ns m → AllLowest ns n
lowest_at ns m n e = subst (AllLowest ns) e

row_lowest : (root : ℕ) (x : ℕ → Value) (l n : ℕ) → ((j : ℕ) → j < l + n → AreShown (x j)) → AllLowest (row_numbers root x l n) (fraction_count root n)
row_lowest zero x l zero shown = none_lowest
row_lowest zero x l (suc n) shown = lowest_first (x l).a (row_numbers zero x (suc l) n) n (shown l (omega arith)).first (row_lowest zero x (suc l) n (λ j less. shown j (omega arith)))
row_lowest (suc r) x l zero shown = none_lowest
row_lowest (suc r) x l (suc n) shown =
    lowest_at (row_numbers (suc r) x l (suc n)) (suc (suc (2 * n))) (2 * suc n) (omega arith)
    (lowest_first (x l).a (numerator (x l).b ∷ denominator (x l).b ∷ row_numbers (suc r) x (suc l) n) (suc (2 * n)) (shown l (omega arith)).first
    (lowest_first (x l).b (row_numbers (suc r) x (suc l) n) (2 * n) (shown l (omega arith)).second (row_lowest (suc r) x (suc l) n (λ j less. shown j (omega arith)))))

pub row_is_field_numbers : (root : ℕ) (x : ℕ → Value) (n : ℕ) → ((j : ℕ) → j < n → AreShown (x j)) → are_field_numbers root (row_numbers root x 0 n) n ≡ true
row_is_field_numbers root x n shown =
    and-in _ _ (are_same _ _ (row_length root x 0 n)) (lowest_test _ (fraction_count root n) (row_lowest root x 0 n (λ j less. shown j (omega arith))))

-- the numbers of one value are those of a row of one value
pub one_value_row : (root : ℕ) (x : Value) → field_numbers root x ≡ row_numbers root (λ j. x) 0 1
one_value_row zero x = refl
one_value_row (suc r) x = refl
