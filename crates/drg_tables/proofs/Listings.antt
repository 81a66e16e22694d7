-- A list has one listing of its distinct arrays.
use Rattle.std.proofs.Common.{◌≡◌, ◌∙◌, ◌<◌, ◌≤◌, ◌∷◌, ◌⊎◌, [], refl, sym, ap, ap₂, arith, ℕ, zero, suc, List, length, Option, Some, None, inl, inr, slice_get}
use Rattle.std.proofs.lemmas.Option.{same_Some, slice_get_within}
use Rattle.drg_array.specs.Entries.{Entries}
use Rattle.drg_tables.specs.Distinct.{AreDistinct, IsFirstAt, Listing}
use Rattle.drg_tables.specs.Laws.{OneListing}
use Rattle.drg_tables.proofs.Places.{place_within, there}

same_lists : {X : Type 0} (xs ys : List X) → ((i : ℕ) → slice_get xs i ≡ slice_get ys i) → xs ≡ ys
same_lists [] [] h = refl
same_lists [] (y ∷ ys) h = let e = h 0 in absurd (cc e)
same_lists (x ∷ xs) [] h = let e = h 0 in absurd (cc e)
same_lists (x ∷ xs) (y ∷ ys) h = ap₂ (λ a l. a ∷ l) (same_Some x y (h 0)) (same_lists xs ys (λ i. h (suc i)))

three : (n m : ℕ) → (n < m) ⊎ ((n ≡ m) ⊎ (m < n))
three zero zero = inr (inl refl)
three zero (suc m) = inl (omega arith)
three (suc n) zero = inr (inr (omega arith))
three (suc n) (suc m) = by (three n m)
  where
    by : (n < m) ⊎ ((n ≡ m) ⊎ (m < n)) → (suc n < suc m) ⊎ ((suc n ≡ suc m) ⊎ (suc m < suc n))
    by (inl low) = inl (omega (arith, low))
    by (inr (inl same)) = inr (inl (ap suc same))
    by (inr (inr high)) = inr (inr (omega (arith, high)))

-- where both agree before i, the place at i isn't lower in the first
not_lower : (list : List Entries) (found other : Listing) → AreDistinct list found → AreDistinct list other
    → (i : ℕ) → ((j : ℕ) → j < i → slice_get found.places j ≡ slice_get other.places j)
    → (n m : ℕ) → slice_get found.places i ≡ Some n → slice_get other.places i ≡ Some m → n < m → ⊥
not_lower list found other d o i before n m here there_m low =
    let high = place_within list other o i m there_m in
    let first = o.in_order n (omega (arith, low, high)) in
    by first.0 first.1 (three first.0 i)
  where
    by : (k : ℕ) → IsFirstAt other.places n k → (k < i) ⊎ ((k ≡ i) ⊎ (i < k)) → ⊥
    by k f (inl earlier) =
        let low_i = slice_get_within other.places i m there_m in
        let each = o.one_each in
        let some = there list i (omega (arith, low_i, each)) in
        let alike : slice_get list k ≡ slice_get list i = sym (d.placed k n (before k earlier ∙ f.here)) ∙ d.placed i n here in
        let same = o.once n m some.0 (o.placed k n f.here ∙ alike ∙ some.1) (o.placed i m there_m ∙ some.1) in
        omega (arith, low, same)
    by k f (inr (inl at)) =
        let same = same_Some n m (sym f.here ∙ ap (λ l. slice_get other.places l) at ∙ there_m) in
        omega (arith, low, same)
    by k f (inr (inr later)) = let less = f.before i m later there_m in omega (arith, low, less)

same_place : (list : List Entries) (found other : Listing) → AreDistinct list found → AreDistinct list other
    → (i : ℕ) → ((j : ℕ) → j < i → slice_get found.places j ≡ slice_get other.places j) → slice_get found.places i ≡ slice_get other.places i
same_place list found other d o i before = by (slice_get found.places i) (slice_get other.places i) refl refl
  where
    ranked : (n m : ℕ) → slice_get found.places i ≡ Some n → slice_get other.places i ≡ Some m → (n < m) ⊎ ((n ≡ m) ⊎ (m < n)) → n ≡ m
    ranked n m e h (inl low) = absurd (not_lower list found other d o i before n m e h low)
    ranked n m e h (inr (inl same)) = same
    ranked n m e h (inr (inr high)) = absurd (not_lower list other found o d i (λ j l. sym (before j l)) m n h e high)

    by : (p q : Option ℕ) → slice_get found.places i ≡ p → slice_get other.places i ≡ q → slice_get found.places i ≡ slice_get other.places i
    by None None e h = e ∙ sym h
    by None (Some m) e h =
        let low = slice_get_within other.places i m h in
        let one = d.one_each in
        let two = o.one_each in
        let some = there found.places i (omega (arith, low, one, two)) in
        absurd (let none = some.1 in cc (none, e))
    by (Some n) None e h =
        let low = slice_get_within found.places i n e in
        let one = d.one_each in
        let two = o.one_each in
        let some = there other.places i (omega (arith, low, one, two)) in
        absurd (let none = some.1 in cc (none, h))
    by (Some n) (Some m) e h = e ∙ ap (λ k. Some k) (ranked n m e h (three n m)) ∙ sym h

same_below : (list : List Entries) (found other : Listing) → AreDistinct list found → AreDistinct list other
    → (b i : ℕ) → i < b → slice_get found.places i ≡ slice_get other.places i
same_below list found other d o zero i h = absurd (omega (arith, h))
same_below list found other d o (suc b) i h =
    same_place list found other d o i (λ j l. same_below list found other d o b j (omega (arith, h, l)))

-- the arrays of the first are those of the second
same_array : (list : List Entries) (found other : Listing) → AreDistinct list found → AreDistinct list other → found.places ≡ other.places
    → (n : ℕ) (a : Entries) → slice_get found.arrays n ≡ Some a → slice_get other.arrays n ≡ Some a
same_array list found other d o places n a e =
    let first = d.in_order n (slice_get_within found.arrays n a e) in
    let at : slice_get other.places first.0 ≡ Some n = ap (λ l. slice_get l first.0) (sym places) ∙ first.1.here in
    o.placed first.0 n at ∙ sym (d.placed first.0 n first.1.here) ∙ e

pub one_listing : OneListing
one_listing list found other d o = ap₂ (λ x y. record { arrays = x; places = y }) arrays places
  where
    places : found.places ≡ other.places
    places = same_lists found.places other.places (λ i. same_below list found other d o (suc i) i (omega arith))

    by : (n : ℕ) (p q : Option Entries) → slice_get found.arrays n ≡ p → slice_get other.arrays n ≡ q → slice_get found.arrays n ≡ slice_get other.arrays n
    by n (Some a) q e h = e ∙ sym (same_array list found other d o places n a e)
    by n None None e h = e ∙ sym h
    by n None (Some a) e h = same_array list other found o d (sym places) n a h ∙ sym h

    arrays : found.arrays ≡ other.arrays
    arrays = same_lists found.arrays other.arrays (λ n. by n (slice_get found.arrays n) (slice_get other.arrays n) refl refl)
