-- Laws of sums and counts over lists of numbers.
use Rattle.std.specs.Prelude.{◌≡◌, ℕ, ℤ, pos, suc, ◌+◌, ◌*◌, ◌%◌, ◌<◌, ◌≤◌, ◌+ℤ◌, ◌≤ℤ◌, Bool, true, false, ◌==◌, ◌&&◌, ◌↔◌, List}
use Rattle.drg_algebra.specs.Sums.{bit, sum_over, whole_sum, IsMultiple, count_of, is_among, AreDistinct, below, pair_count, triangles}
use Rattle.drg_algebra.specs.Steps.{step_weight, three_terms}

-- ---- sums
-- sums of numbers that agree at each member agree
abbrev pub SumsAgree : Type 0
SumsAgree = (f g : ℕ → ℕ) (xs : List ℕ) → ((x : ℕ) → is_among x xs ≡ true → f x ≡ g x) → sum_over f xs ≡ sum_over g xs

-- a sum of larger numbers is larger
abbrev pub SumsAreMonotone : Type 0
SumsAreMonotone = (f g : ℕ → ℕ) (xs : List ℕ) → ((x : ℕ) → is_among x xs ≡ true → f x ≤ g x) → sum_over f xs ≤ sum_over g xs

-- the sum of sums, and of multiples
abbrev pub SumsAdd : Type 0
SumsAdd = (f g : ℕ → ℕ) (xs : List ℕ) → sum_over (λ x. f x + g x) xs ≡ sum_over f xs + sum_over g xs

abbrev pub SumsScale : Type 0
SumsScale = (c : ℕ) (f : ℕ → ℕ) (xs : List ℕ) → sum_over (λ x. f x * c) xs ≡ sum_over f xs * c

-- two sums can be exchanged
abbrev pub SumsExchange : Type 0
SumsExchange = (f : ℕ → ℕ → ℕ) (xs ys : List ℕ) → sum_over (λ x. sum_over (f x) ys) xs ≡ sum_over (λ y. sum_over (λ x. f x y) xs) ys

-- each member is in one class: the sum is the sum of the sums over the classes
abbrev pub SumByClasses : Type 0
SumByClasses =
    (f : ℕ → ℕ) (class : ℕ → ℕ → Bool) (xs classes : List ℕ)
    → ((x : ℕ) → is_among x xs ≡ true → count_of (class x) classes ≡ 1)
    → sum_over f xs ≡ sum_over (λ l. sum_over (λ x. bit (class x l) * f x) xs) classes

-- the number of a member is at most the sum
abbrev pub MemberOfSum : Type 0
MemberOfSum = (f : ℕ → ℕ) (v : ℕ) (xs : List ℕ) → is_among v xs ≡ true → f v ≤ sum_over f xs

-- and all of it where the others give 0 and no member is there twice
abbrev pub OneMember : Type 0
OneMember = (f : ℕ → ℕ) (v : ℕ) (xs : List ℕ) → AreDistinct xs → is_among v xs ≡ true
    → ((x : ℕ) → ¬ (v ≡ x) → f x ≡ 0) → sum_over f xs ≡ f v

-- the numbers below n are those less than n, each once
abbrev pub BelowIsLess : Type 0
BelowIsLess = (n i : ℕ) → (i < n → is_among i (below n) ≡ true) × (is_among i (below n) ≡ true → i < n)

abbrev pub BelowIsDistinct : Type 0
BelowIsDistinct = (n : ℕ) → AreDistinct (below n)

-- f 0 + .. + f n = (f 1 + .. + f n) + f 0
abbrev pub FirstOfSum : Type 0
FirstOfSum = (f : ℕ → ℕ) (n : ℕ) → sum_over f (below (suc n)) ≡ sum_over (λ l. f (suc l)) (below n) + f 0

-- ---- counts
-- counts by tests that agree at each member agree
abbrev pub CountsAgree : Type 0
CountsAgree = (p q : ℕ → Bool) (xs : List ℕ) → ((x : ℕ) → is_among x xs ≡ true → p x ≡ q x) → count_of p xs ≡ count_of q xs

-- a weaker test counts more
abbrev pub CountsAreMonotone : Type 0
CountsAreMonotone = (p q : ℕ → Bool) (xs : List ℕ) → ((x : ℕ) → is_among x xs ≡ true → p x ≡ true → q x ≡ true) → count_of p xs ≤ count_of q xs

-- related pairs are counted from each side
abbrev pub CountsExchange : Type 0
CountsExchange = (r : ℕ → ℕ → Bool) (xs ys : List ℕ) → sum_over (λ x. count_of (r x) ys) xs ≡ sum_over (λ y. count_of (λ x. r x y) xs) ys

-- each member is in one class: the count is the sum of the counts in the classes
abbrev pub CountByClasses : Type 0
CountByClasses = (p : ℕ → Bool) (class : ℕ → ℕ → Bool) (xs classes : List ℕ)
    → ((x : ℕ) → is_among x xs ≡ true → count_of (λ l. class l x) classes ≡ 1)
    → sum_over (λ l. count_of (λ x. class l x && p x) xs) classes ≡ count_of p xs

-- tests that exclude each other and imply a third count together at most what it counts
abbrev pub DisjointCounts : Type 0
DisjointCounts = (p q r : ℕ → Bool) (xs : List ℕ) → ((x : ℕ) → p x ≡ true → r x ≡ true) → ((x : ℕ) → q x ≡ true → r x ≡ true)
    → ((x : ℕ) → p x ≡ true → q x ≡ false) → count_of p xs + count_of q xs ≤ count_of r xs

-- where a count is above 0, a member passes
abbrev pub CountFindsMember : Type 0
CountFindsMember = (p : ℕ → Bool) (xs : List ℕ) → 0 < count_of p xs → (x : ℕ) × (is_among x xs ≡ true) × (p x ≡ true)

-- and where a member passes, the count is above 0
abbrev pub MemberCounts : Type 0
MemberCounts = (p : ℕ → Bool) (v : ℕ) (xs : List ℕ) → is_among v xs ≡ true → p v ≡ true → 0 < count_of p xs

-- in a list of distinct numbers, a number is once
abbrev pub CountOfOne : Type 0
CountOfOne = (v : ℕ) (xs : List ℕ) → AreDistinct xs → is_among v xs ≡ true → count_of (λ x. x == v) xs ≡ 1

-- where the test passes, each gives c
abbrev pub SumOfConstant : Type 0
SumOfConstant = (p : ℕ → Bool) (f : ℕ → ℕ) (c : ℕ) (xs : List ℕ) → ((x : ℕ) → is_among x xs ≡ true → p x ≡ true → f x ≡ c)
    → sum_over (λ x. bit (p x) * f x) xs ≡ count_of p xs * c

-- the edges between the members that pass p and those that pass q, counted from each side
abbrev pub EdgesFromBothSides : Type 0
EdgesFromBothSides = (p q : ℕ → Bool) (e : ℕ → ℕ → Bool) (xs : List ℕ) → ((x y : ℕ) → e x y ≡ e y x)
    → sum_over (λ z. bit (p z) * count_of (λ w. e z w && q w) xs) xs ≡ sum_over (λ w. bit (q w) * count_of (λ z. e w z && p z) xs) xs

-- ---- parity
-- ordered pairs of a symmetric relation without loops are even in number
abbrev pub PairsAreEven : Type 0
PairsAreEven = (r : ℕ → ℕ → Bool) (xs : List ℕ) → ((x y : ℕ) → r x y ≡ r y x) → ((x : ℕ) → r x x ≡ false)
    → (m : ℕ) × (pair_count r xs ≡ 2 * m)

-- and its ordered triangles are divisible by 6
abbrev pub TrianglesAreSixfold : Type 0
TrianglesAreSixfold = (r : ℕ → ℕ → Bool) (xs : List ℕ) → ((x y : ℕ) → r x y ≡ r y x) → ((x : ℕ) → r x x ≡ false)
    → (m : ℕ) × (triangles r xs ≡ 6 * m)

-- ---- steps by one
-- a sum with the weights of a step from the numbers below n is the sum of three terms
abbrev pub SumOfSteps : Type 0
SumOfSteps = (up stay down f : ℕ → ℕ) (j n : ℕ) → j < n → down n ≡ 0
    → sum_over (λ l. step_weight up stay down l j * f l) (below n) ≡ three_terms up stay down f j

-- ---- sums of whole numbers with a sign
-- a sum of natural numbers
abbrev pub WholeSumOfNaturals : Type 0
WholeSumOfNaturals = (f : ℕ → ℤ) (g : ℕ → ℕ) (xs : List ℕ) → ((x : ℕ) → is_among x xs ≡ true → f x ≡ pos (g x))
    → whole_sum f xs ≡ pos (sum_over g xs)

-- the sum of sums
abbrev pub WholeSumsAdd : Type 0
WholeSumsAdd = (f g : ℕ → ℤ) (xs : List ℕ) → whole_sum (λ x. f x +ℤ g x) xs ≡ whole_sum f xs +ℤ whole_sum g xs

-- a member of a sum of numbers that are not negative is at most the sum
abbrev pub MemberOfWholeSum : Type 0
MemberOfWholeSum = (f : ℕ → ℤ) (v : ℕ) (xs : List ℕ) → is_among v xs ≡ true
    → ((x : ℕ) → is_among x xs ≡ true → pos 0 ≤ℤ f x) → f v ≤ℤ whole_sum f xs

-- a natural number is a multiple of t exactly where it leaves no rest
abbrev pub MultipleLeavesNoRest : Type 0
MultipleLeavesNoRest = (t n : ℕ) → 1 ≤ t → IsMultiple t (pos n) ↔ (n % t ≡ 0)
