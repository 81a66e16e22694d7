-- Counts over lists.
use Rattle.std.proofs.Common.{◌≡◌, ℕ, ◌+◌, ◌*◌, ◌≤◌, ◌<◌, Bool, true, false, List, [], ◌∷◌, refl, sym, ap, ◌∙◌, arith, inl, inr}
use Rattle.std.specs.Prelude.{◌==◌, ◌&&◌, not}
use Rattle.drg_algebra.specs.Sums.{bit, sum_over, count_of, is_among, AreDistinct, below}
use Rattle.drg_algebra.proofs.Tests.{not-false, decided, same-number, equal-self, differ-test, among-first, among-later, below-in, below-distinct}
use Rattle.drg_algebra.proofs.Sums.{sum-same, sum-le, sum-add, sum-scale, sum-zero, sum-single, sum-member, sum-exchange, sum-classes}

pub bit-true : (b : Bool) → b ≡ true → bit b ≡ 1
bit-true true h = refl
bit-true false h = (let e = h in cc)

pub bit-false : (b : Bool) → b ≡ false → bit b ≡ 0
bit-false true h = (let e = h in cc)
bit-false false h = refl

pub bit-and : (a b : Bool) → bit (a && b) ≡ bit a * bit b
bit-and true b = omega arith
bit-and false b = omega arith

pub bit-le : (a b : Bool) → (a ≡ true → b ≡ true) → bit a ≤ bit b
bit-le true b h = (let e = bit-true b (h refl) in omega (arith, e))
bit-le false b h = omega arith

pub bit-out : (a : Bool) → 0 < bit a → a ≡ true
bit-out true h = refl
bit-out false h = absurd (omega (arith, h))

-- equal where the test passes
pub bit-where : (b : Bool) (m n : ℕ) → (b ≡ true → m ≡ n) → bit b * m ≡ bit b * n
bit-where true m n h = ap (λ t. 1 * t) (h refl)
bit-where false m n h = omega arith

pub count-same : (p q : ℕ → Bool) (xs : List ℕ) → ((x : ℕ) → is_among x xs ≡ true → p x ≡ q x) → count_of p xs ≡ count_of q xs
count-same p q xs same = sum-same (λ x. bit (p x)) (λ x. bit (q x)) xs (λ x h. ap bit (same x h))

pub count-le : (p q : ℕ → Bool) (xs : List ℕ) → ((x : ℕ) → is_among x xs ≡ true → p x ≡ true → q x ≡ true) → count_of p xs ≤ count_of q xs
count-le p q xs at = sum-le (λ x. bit (p x)) (λ x. bit (q x)) xs (λ x h. bit-le (p x) (q x) (at x h))

pub count-zero : (p : ℕ → Bool) (xs : List ℕ) → ((x : ℕ) → is_among x xs ≡ true → p x ≡ false) → count_of p xs ≡ 0
count-zero p xs none = sum-zero (λ x. bit (p x)) xs (λ x h. bit-false (p x) (none x h))

-- one passes
pub count-one : (p : ℕ → Bool) (v : ℕ) (xs : List ℕ) → AreDistinct xs → is_among v xs ≡ true → p v ≡ true
    → ((x : ℕ) → p x ≡ true → v ≡ x) → count_of p xs ≡ 1
count-one p v xs d among h only =
    sum-single (λ x. bit (p x)) v xs d among (λ x apart. bit-false (p x) (not-false (p x) (λ e. apart (only x e)))) ∙ bit-true (p v) h

-- some member passes
pub count-some : (p : ℕ → Bool) (xs : List ℕ) → 0 < count_of p xs → (x : ℕ) × (is_among x xs ≡ true) × (p x ≡ true)
count-some p [] h = absurd (omega (arith, h))
count-some p (x ∷ xs) h =
    elim (decided (p x)) [
      | inl here ↦ (x, among-first x xs, here)
      | inr not ↦ (let none = bit-false (p x) not in
          let later = count-some p xs (omega (arith, none, h)) in
          (later.0, among-later later.0 x xs later.1, later.2))
    ]

-- and where a member passes the count isn't 0
pub count-member : (p : ℕ → Bool) (v : ℕ) (xs : List ℕ) → is_among v xs ≡ true → p v ≡ true → 1 ≤ count_of p xs
count-member p v xs among h =
    let least = sum-member (λ x. bit (p x)) v xs among in
    let one = bit-true (p v) h in omega (arith, least, one)

bits-disjoint : (p q r : Bool) → (p ≡ true → r ≡ true) → (q ≡ true → r ≡ true) → (p ≡ true → q ≡ false) → bit p + bit q ≤ bit r
bits-disjoint true q r pr qr pq =
    let none = bit-false q (pq refl) in
    let one = bit-true r (pr refl) in omega (arith, none, one)
bits-disjoint false q r pr qr pq = (let less = bit-le q r qr in omega (arith, less))

-- of two tests that exclude each other and imply a third, the counts are together at most the third's
pub count-disjoint : (p q r : ℕ → Bool) (xs : List ℕ) → ((z : ℕ) → p z ≡ true → r z ≡ true) → ((z : ℕ) → q z ≡ true → r z ≡ true)
    → ((z : ℕ) → p z ≡ true → q z ≡ false) → count_of p xs + count_of q xs ≤ count_of r xs
count-disjoint p q r xs pr qr pq =
    let split = sum-add (λ x. bit (p x)) (λ x. bit (q x)) xs in
    let less = sum-le (λ x. bit (p x) + bit (q x)) (λ x. bit (r x)) xs (λ x h. bits-disjoint (p x) (q x) (r x) (pr x) (qr x) (pq x)) in
    omega (arith, split, less)

-- a count in three parts
pub count-three : (p q r s : ℕ → Bool) (xs : List ℕ) → ((x : ℕ) → is_among x xs ≡ true → bit (p x) ≡ bit (q x) + (bit (r x) + bit (s x)))
    → count_of p xs ≡ count_of q xs + (count_of r xs + count_of s xs)
count-three p q r s xs at =
    let outer = sum-add (λ x. bit (q x)) (λ x. bit (r x) + bit (s x)) xs in
    let inner = sum-add (λ x. bit (r x)) (λ x. bit (s x)) xs in
    sum-same (λ x. bit (p x)) (λ x. bit (q x) + (bit (r x) + bit (s x))) xs at ∙ omega (arith, outer, inner)

-- where the test passes, each gives c
pub sum-constant : (p : ℕ → Bool) (f : ℕ → ℕ) (c : ℕ) (xs : List ℕ) → ((x : ℕ) → is_among x xs ≡ true → p x ≡ true → f x ≡ c)
    → sum_over (λ x. bit (p x) * f x) xs ≡ count_of p xs * c
sum-constant p f c xs same =
    sum-same (λ x. bit (p x) * f x) (λ x. bit (p x) * c) xs (λ x h. bit-where (p x) (f x) c (same x h)) ∙ sum-scale c (λ x. bit (p x)) xs

-- the member at j of the numbers below n
pub pick-in : (f : ℕ → ℕ) (j n : ℕ) → j < n → sum_over (λ l. bit (l == j) * f l) (below n) ≡ f j
pick-in f j n h =
    let off : (l : ℕ) → (j ≡ l → ⊥) → bit (l == j) * f l ≡ 0 =
    λ l apart. (let none = bit-false (l == j) (differ-test l j (λ e. apart (sym e))) in rw none (omega arith)) in
    let one = bit-true (j == j) (equal-self j) in
    sum-single (λ l. bit (l == j) * f l) j (below n) (below-distinct n) (below-in n j h) off ∙ rw one (omega arith)

-- the edges from members that pass p to members that pass q, counted from each side
pub count-edges : (p q : ℕ → Bool) (e : ℕ → ℕ → Bool) (xs : List ℕ) → ((x y : ℕ) → e x y ≡ e y x)
    → sum_over (λ z. bit (p z) * count_of (λ w. e z w && q w) xs) xs ≡ sum_over (λ w. bit (q w) * count_of (λ z. e w z && p z) xs) xs
count-edges p q e xs swap =
    let cell = λ (z w : ℕ). bit (p z) * (bit (e z w) * bit (q w)) in
    let row : (p q : ℕ → Bool) (z : ℕ) → bit (p z) * count_of (λ w. e z w && q w) xs ≡ sum_over (λ w. bit (p z) * (bit (e z w) * bit (q w))) xs =
    λ p q z. sym (sum-same _ (λ w. bit (e z w && q w) * bit (p z)) xs (λ w h. (let cut = bit-and (e z w) (q w) in rw cut (omega arith)))
    ∙ (sum-scale (bit (p z)) (λ w. bit (e z w && q w)) xs ∙ omega arith)) in
    let turn : (z w : ℕ) → cell z w ≡ bit (q w) * (bit (e w z) * bit (p z)) = λ z w. rw (swap z w) (omega arith) in
    sum-same _ _ xs (λ z h. row p q z)
    ∙ (sum-exchange cell xs xs
    ∙ (sum-same _ _ xs (λ w h. sum-same (λ z. cell z w) _ xs (λ z m. turn z w)) ∙ sym (sum-same _ _ xs (λ w h. row q p w))))

-- a count by classes, of which each member has one
pub count-classes : (p : ℕ → Bool) (class : ℕ → ℕ → Bool) (xs classes : List ℕ)
    → ((x : ℕ) → is_among x xs ≡ true → count_of (λ l. class l x) classes ≡ 1)
    → sum_over (λ l. count_of (λ x. class l x && p x) xs) classes ≡ count_of p xs
count-classes p class xs classes one =
    let whole = sum-classes (λ x. bit (p x)) (λ x l. class l x) xs classes one in
    sym (whole ∙ sum-same _ _ classes (λ l h. sum-same _ _ xs (λ x m. sym (bit-and (class l x) (p x)))))

-- a number is once in a list of distinct numbers
pub count-self : (v : ℕ) (xs : List ℕ) → AreDistinct xs → is_among v xs ≡ true → count_of (λ x. x == v) xs ≡ 1
count-self v xs d among = count-one (λ x. x == v) v xs d among (equal-self v) (λ x e. sym (same-number x v e))
