-- Sums and counts over lists of numbers, and pairs and triangles of a relation.
use Rattle.std.specs.Prelude.{◌≡◌, ℕ, ℤ, zero, suc, ◌+◌, pos, ◌+ℤ◌, ◌*ℤ◌, Bool, false, ◌==◌, ◌&&◌, if◌then◌else◌, List, [], ◌∷◌}
use Rattle.std.specs.List.{list_any}

-- 1 for true, 0 for false
abbrev pub bit : Bool → ℕ
bit b = if b then 1 else 0

-- the sum of the f x over the members x of a list
abbrev pub sum_over : (ℕ → ℕ) → List ℕ → ℕ
sum_over f [] = 0
sum_over f (x ∷ xs) = f x + sum_over f xs

-- the same, of whole numbers with a sign
abbrev pub whole_sum : (ℕ → ℤ) → List ℕ → ℤ
whole_sum f [] = pos 0
whole_sum f (x ∷ xs) = f x +ℤ whole_sum f xs

-- z is n times a whole number
abbrev pub IsMultiple : ℕ → ℤ → Type 0
IsMultiple n z = (m : ℤ) × (z ≡ pos n *ℤ m)

-- how many pass the test
abbrev pub count_of : (ℕ → Bool) → List ℕ → ℕ
count_of test xs = sum_over (λ x. bit (test x)) xs

-- whether a number is a member
abbrev pub is_among : ℕ → List ℕ → Bool
is_among x xs = list_any (λ v. v == x) xs

-- no number twice
abbrev pub AreDistinct : List ℕ → Type 0
AreDistinct [] = Unit {0}
AreDistinct (x ∷ xs) = (is_among x xs ≡ false) × AreDistinct xs

-- n - 1, .., 1, 0
abbrev pub below : ℕ → List ℕ
below zero = []
below (suc n) = n ∷ below n

-- ---- relations on a list
-- how many ordered pairs of members are related
abbrev pub pair_count : (ℕ → ℕ → Bool) → List ℕ → ℕ
pair_count r xs = sum_over (λ x. count_of (r x) xs) xs

-- each two of the three are related
abbrev pub is_triangle : (ℕ → ℕ → Bool) → ℕ → ℕ → ℕ → Bool
is_triangle r x y z = r x y && (r x z && r y z)

-- how many ordered triples of members are triangles
abbrev pub triangles : (ℕ → ℕ → Bool) → List ℕ → ℕ
triangles r xs = sum_over (λ x. sum_over (λ y. count_of (is_triangle r x y) xs) xs) xs
