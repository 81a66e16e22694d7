-- Places of the flat table.
use Rattle.std.proofs.Common.{◌≡◌, ℕ, zero, suc, ◌+◌, ◌*◌, ◌<◌, ◌≤◌, List, [], ◌∷◌, ◌++◌, length, refl, ap, arith, inl, inr}
use Rattle.std.specs.Prelude.{ℤ, pos, ◌⊎◌, slice_index_or}
use Rattle.drg_intersection.specs.Numbers.{place}

-- quotient and remainder are unique
pub one_pair : (s q r q' r' : ℕ) → r < s → r' < s → q * s + r ≡ q' * s + r' → (q ≡ q') × (r ≡ r')
one_pair s zero r zero r' h h' e = (refl, omega arith)
one_pair s zero r (suc q') r' h h' e = absurd (omega arith)
one_pair s (suc q) r zero r' h h' e = absurd (omega arith)
one_pair s (suc q) r (suc q') r' h h' e = (let rest = one_pair s q r q' r' h h' (omega arith) in (ap suc rest.0, rest.1))

pub one_place : (d h i j h' i' j' : ℕ) → i ≤ d → j ≤ d → i' ≤ d → j' ≤ d → place d h i j ≡ place d h' i' j' → (h ≡ h') × (i ≡ i') × (j ≡ j')
one_place d h i j h' i' j' hi hj hi' hj' e =
    let low = one_pair (d + 1) (h * (d + 1) + i) j (h' * (d + 1) + i') j' (omega arith) (omega arith) e in
    let high = one_pair (d + 1) h i h' i' (omega arith) (omega arith) low.0 in
    (high.0, high.1, low.1)

-- what stands in an earlier row stands before
pub before_row : (d h i j l : ℕ) → l ≤ d → place d h i l < place d h (suc i) j
before_row d h i j l hl = omega arith

times_less : (s a b : ℕ) → a ≤ b → a * s ≤ b * s
times_less s zero b h = omega arith
times_less s (suc a) zero h = absurd (omega arith)
times_less s (suc a) (suc b) h = let rest = times_less s a b (omega arith) in omega arith

pub before_above : (d h m i j : ℕ) → m < i → place d h m j < place d h (suc i) j
before_above d h m i j less =
    let e = times_less (d + 1) (h * (d + 1) + suc m) (h * (d + 1) + suc i) (omega (arith, less)) in
    let f = times_less (d + 1) (h * (d + 1) + m) (h * (d + 1) + suc m) (omega arith) in
    omega (arith, e, f)

pub in_row_before : (d h l i j : ℕ) → l < i → j ≤ d → place d h l j < place d h i 0
in_row_before d h l i j less hj = let e = times_less (d + 1) (h * (d + 1) + suc l) (h * (d + 1) + i) (omega (arith, less)) in omega (arith, e, hj)

-- each place is inside
pub inside : (d h i j : ℕ) → h ≤ d → i ≤ d → j ≤ d → place d h i j < place d (suc d) 0 0
inside d h i j hh hi hj =
    let top = times_less (d + 1) h d hh in
    let row : h * (d + 1) + i ≤ d * (d + 1) + d = omega (arith, top, hi) in
    let all = times_less (d + 1) (h * (d + 1) + i) (d * (d + 1) + d) row in
    omega (arith, all, hj)

-- ---- one entry more
pub last : (xs : List ℤ) (x : ℤ) (at : ℕ) → at ≡ length xs → slice_index_or (xs ++ x ∷ []) at (pos 0) ≡ x
last [] x zero e = refl
last [] x (suc at) e = absurd (omega arith)
last (y ∷ xs) x zero e = absurd (omega arith)
last (y ∷ xs) x (suc at) e = last xs x at (omega arith)

pub front : (xs : List ℤ) (x : ℤ) (at : ℕ) → at < length xs → slice_index_or (xs ++ x ∷ []) at (pos 0) ≡ slice_index_or xs at (pos 0)
front [] x at h = absurd (omega arith)
front (y ∷ xs) x zero h = refl
front (y ∷ xs) x (suc at) h = front xs x at (omega arith)

pub one_more : (xs : List ℤ) (x : ℤ) → length (xs ++ x ∷ []) ≡ suc (length xs)
one_more [] x = refl
one_more (y ∷ xs) x = ap suc (one_more xs x)

pub two_cases : (i m : ℕ) → i < suc m → (i ≡ m) ⊎ (i < m)
two_cases zero zero h = inl refl
two_cases zero (suc m) h = inr (omega arith)
two_cases (suc i) zero h = absurd (omega arith)
two_cases (suc i) (suc m) h = elim (two_cases i m (omega arith)) [ inl e ↦ inl (ap suc e) | inr less ↦ inr (omega arith) ]
