-- Numbers at places of lists, and lists in two parts.
use Rattle.std.proofs.Common.{◌≡◌, ◌≢◌, ℕ, zero, suc, ◌+◌, ◌-◌, ◌*◌, ◌<◌, ◌≤◌, inl, inr, List, [], ◌∷◌, ◌++◌, length, take, drop, get_or, refl, sym, ap, ◌∙◌, arith, ℤ, pos, length-append}
use Rattle.std.specs.Prelude.{map, ◌↔◌, ◌⊎◌, slice_set, Option, None, Some, MatchOption, unwrap_or}
use Rattle.std.specs.List.{AllByRecursion}
use Rattle.drg_array.specs.Entries.{Entries, IsArray, diameter, b_at, c_at}
use Rattle.drg_derivation.specs.Lines.{at}
use Rattle.drg_derivation.specs.Words.{array_numbers}

all-front : {A : Type 0} (P : A → Type 0) (xs ys : List A) → AllByRecursion P (xs ++ ys) → AllByRecursion P xs
all-front P [] ys h = tt
all-front P (x ∷ xs) ys h = (h.0, all-front P xs ys h.1)

all-back : {A : Type 0} (P : A → Type 0) (xs ys : List A) → AllByRecursion P (xs ++ ys) → AllByRecursion P ys
all-back P [] ys h = h
all-back P (x ∷ xs) ys h = all-back P xs ys h.1

all-both : {A : Type 0} (P : A → Type 0) (xs ys : List A) → AllByRecursion P xs → AllByRecursion P ys → AllByRecursion P (xs ++ ys)
all-both P [] ys h k = k
all-both P (x ∷ xs) ys h k = (h.0, all-both P xs ys h.1 k)

-- all of a list in two parts
pub all-parts : {A : Type 0} (P : A → Type 0) (xs ys : List A) → AllByRecursion P (xs ++ ys) ↔ (AllByRecursion P xs × AllByRecursion P ys)
all-parts P xs ys = (λ h. (all-front P xs ys h, all-back P xs ys h), λ h. all-both P xs ys h.0 h.1)

at-map : (ns : List ℕ) (i : ℕ) → at (map pos ns) i ≡ pos (get_or ns i 0)
at-map [] i = refl
at-map (n ∷ ns) zero = refl
at-map (n ∷ ns) (suc i) = at-map ns i

get-front : (xs ys : List ℕ) (i : ℕ) → i < length xs → get_or (xs ++ ys) i 0 ≡ get_or xs i 0
get-front [] ys i h = absurd (omega arith)
get-front (x ∷ xs) ys zero h = refl
get-front (x ∷ xs) ys (suc i) h = get-front xs ys i (omega arith)

get-back : (xs ys : List ℕ) (i : ℕ) → get_or (xs ++ ys) (length xs + i) 0 ≡ get_or ys i 0
get-back [] ys i = (let same : 0 + i ≡ i = omega arith in ap (λ (k : ℕ). get_or ys k 0) same)
get-back (x ∷ xs) ys i = (let same : suc (length xs) + i ≡ suc (length xs + i) = omega arith in rw same (get-back xs ys i))

-- the numbers of an array's line
pub array-first : (a : Entries) → at (array_numbers a) 0 ≡ pos (diameter a)
array-first a = refl

pub array-b : (a : Entries) (i : ℕ) → 1 ≤ i → i ≤ diameter a → at (array_numbers a) i ≡ pos (b_at a (i - 1))
array-b a zero some h = absurd (omega arith)
array-b a (suc i) some h =
    let same : suc i - 1 ≡ i = omega arith in
    rw same (at-map (a.b ++ a.c) i ∙ ap pos (get-front a.b a.c i (omega arith)))

pub array-c : (a : Entries) (i : ℕ) → diameter a < i → at (array_numbers a) i ≡ pos (c_at a (i - diameter a))
array-c a zero h = absurd (omega arith)
array-c a (suc i) h =
    let place : i ≡ length a.b + (i - length a.b) = omega arith in
    let next : suc i - length a.b ≡ suc (i - length a.b) = omega arith in
    rw next (at-map (a.b ++ a.c) i ∙ (ap (λ (k : ℕ). pos (get_or (a.b ++ a.c) k 0)) place ∙ ap pos (get-back a.b a.c (i - length a.b))))

length-map : (ns : List ℕ) → length (map pos ns) ≡ length ns
length-map [] = refl
length-map (n ∷ ns) = ap suc (length-map ns)

-- the line of an array has the diameter and twice as many numbers
pub array-count : (a : Entries) → IsArray a → length (array_numbers a) ≡ 1 + 2 * diameter a
array-count a array = (let same = array.same_length in omega (arith, length-map (a.b ++ a.c), length-append a.b a.c))

-- one more number is taken to the front
at-set : (front : List ℤ) (p i : ℕ) (z : ℤ) → p < length front → ((i ≡ p) × (at (slice_set front p z) i ≡ z)) ⊎ ((i ≢ p) × (at (slice_set front p z) i ≡ at front i))
at-set [] p i z h = absurd (omega arith)
at-set (f ∷ fs) zero zero z h = inl (refl, refl)
at-set (f ∷ fs) zero (suc i) z h = inr ((λ e. omega arith), refl)
at-set (f ∷ fs) (suc p) zero z h = inr ((λ e. omega arith), refl)
at-set (f ∷ fs) (suc p) (suc i) z h =
    elim (at-set fs p i z (omega arith)) [
      | inl same ↦ inl (ap suc same.0, same.1)
      | inr other ↦ inr ((λ e. other.0 (omega arith)), other.1)
    ]

abbrev TakesOne : List ℤ → ℕ → ℕ → Type 0
TakesOne zs p i = ((i ≡ p) × (at (take (p + 1) zs) i ≡ at zs p)) ⊎ ((i ≢ p) × (at (take (p + 1) zs) i ≡ at (take p zs) i))

at-take : (zs : List ℤ) (p i : ℕ) → p < length zs → TakesOne zs p i
at-take [] p i h = absurd (omega arith)
at-take (z ∷ zs) zero zero h = inl (refl, refl)
at-take (z ∷ zs) zero (suc i) h = inr ((λ e. omega arith), refl)
at-take (z ∷ zs) (suc p) zero h = (let next : suc p + 1 ≡ suc (p + 1) = omega arith in rw next (inr ((λ e. omega arith), refl)))
at-take (z ∷ zs) (suc p) (suc i) h =
    let next : suc p + 1 ≡ suc (p + 1) = omega arith in
    elim (at-take zs p i (omega arith)) [
      | inl same ↦ rw next (inl (ap suc same.0, same.1))
      | inr other ↦ rw next (inr ((λ e. other.0 (omega arith)), other.1))
    ]

pub leading-step : (front zs : List ℤ) (p : ℕ) (z : ℤ) → p < length front → p < length zs → z ≡ at zs p → ((i : ℕ) → at front i ≡ at (take p zs) i)
    → (i : ℕ) → at (slice_set front p z) i ≡ at (take (p + 1) zs) i
leading-step front zs p z inside within is same i =
    elim (at-set front p i z inside) [
      | inl here ↦ (elim (at-take zs p i within) [
        | inl there ↦ here.1 ∙ (is ∙ sym there.1)
        | inr other ↦ absurd (other.0 here.0)
      ])
      | inr away ↦ (elim (at-take zs p i within) [
        | inl there ↦ absurd (away.0 there.0)
        | inr other ↦ away.1 ∙ (same i ∙ sym other.1)
      ])
    ]

drop-first : (zs others : List ℤ) (i : ℕ) (z : ℤ) → drop i zs ≡ z ∷ others → (drop (i + 1) zs ≡ others) × (at zs i ≡ z)
drop-first [] others zero z e = (let h = e in cc)
drop-first [] others (suc i) z e = (let h = e in cc)
drop-first (y ∷ ys) others zero z e = (let h = e in (cc, cc))
drop-first (y ∷ ys) others (suc i) z e =
    let d = drop-first ys others i z e in
    let next : suc i + 1 ≡ suc (i + 1) = omega arith in
    (rw next d.0, d.1)

drop-some : (zs : List ℤ) (i : ℕ) → i < length zs → drop i zs ≡ [] → ⊥
drop-some [] i h e = omega (arith, h)
drop-some (z ∷ zs) zero h e = (let k = e in cc)
drop-some (z ∷ zs) (suc i) h e = drop-some zs i (omega (arith, h)) e

-- the number that comes next is the one at its place
pub next-at : (o : Option ℤ) (left more zs : List ℤ) (i : ℕ) → MatchOption o ((left ≡ []) × (more ≡ [])) (λ z. left ≡ z ∷ more) → left ≡ drop i zs → i < length zs
    → (unwrap_or o (pos 0) ≡ at zs i) × (more ≡ drop (i + 1) zs)
next-at None left more zs i h is inside = absurd (drop-some zs i inside (sym is ∙ h.0))
next-at (Some z) left more zs i h is inside = (let d = drop-first zs more i z (sym is ∙ h) in (sym d.1, sym d.0))
