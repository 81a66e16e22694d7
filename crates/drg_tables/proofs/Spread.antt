-- Values for the arrays of a list, each found at its place among the distinct ones.
use Rattle.std.proofs.Common.{◌≡◌, ◌∙◌, ◌<◌, ◌≤◌, ◌+◌, ◌++◌, ◌∷◌, ◌⊎◌, [], refl, sym, ap, arith, ℕ, zero, suc, List, length, length-append, get_or, subst, Option, Some, None, inl, inr, slice_get}
use Rattle.std.specs.List.{AllZip}
use Rattle.std.proofs.lemmas.Option.{same_Some, slice_get-get_or, slice_get_past, slice_get_within}
use Rattle.drg_array.specs.Entries.{Entries}
use Rattle.drg_tables.specs.Distinct.{AreDistinct, AreSpread, Listing}
use Rattle.drg_tables.proofs.Places.{at_end, below_or_last, in_front, place_within, there}

-- The first n values are those at the first n places.
pub record FoundBelow {T : Type 0} (places : List ℕ) (values : List T) (n : ℕ) (each : List T) : Type 0 where
  pub count : length each ≡ n
  pub at : (i p : ℕ) → i < n → slice_get places i ≡ Some p → slice_get each i ≡ slice_get values p

pub none_found : {T : Type 0} (places : List ℕ) (values : List T) → FoundBelow places values 0 []
none_found places values = record { count = refl; at = λ i p h e. absurd (omega (arith, h)) }

pub one_more_found : {T : Type 0} (places : List ℕ) (values : List T) (n p : ℕ) (each : List T) (v : T) → FoundBelow places values n each
    → slice_get places n ≡ Some p → slice_get values p ≡ Some v → FoundBelow places values (n + 1) (each ++ v ∷ [])
one_more_found {T} places values n p each v f place value = record {
  count = length-append each (v ∷ []) ∙ ap (λ k. k + 1) f.count;
  at = λ i q h e. by i q (below_or_last i n h) e;
}
  where
    by : (i q : ℕ) → (i < n) ⊎ (i ≡ n) → slice_get places i ≡ Some q → slice_get (each ++ v ∷ []) i ≡ slice_get values q
    by i q (inl low) e = let long = f.count in in_front each v i (omega (arith, low, long)) ∙ f.at i q low e
    by i q (inr last) e =
        let same : p ≡ q = same_Some p q (sym place ∙ ap (λ k. slice_get places k) (sym last) ∙ e) in
        ap (λ k. slice_get (each ++ v ∷ []) k) (last ∙ sym f.count) ∙ at_end each v ∙ sym value ∙ ap (λ k. slice_get values k) same

-- the place of an array of the list, by its index
pub place_at : (list : List Entries) (found : Listing) → AreDistinct list found → (places : List ℕ) → places ≡ found.places → (i : ℕ) → i < length places
    → (slice_get found.places i ≡ Some (get_or places i 0)) × (get_or places i 0 < length found.arrays)
place_at list found d places e i low =
    let here : slice_get found.places i ≡ Some (get_or places i 0) = ap (λ l. slice_get l i) (sym e) ∙ slice_get-get_or places i 0 low in
    (here, place_within list found d i (get_or places i 0) here)

pub found_at : {T : Type 0} (places : List ℕ) (values : List T) (n m : ℕ) (each : List T) → n ≡ m → FoundBelow places values n each → FoundBelow places values m each
found_at places values n m each e f = subst (λ k. FoundBelow places values k each) e f

past : {X : Type 0} (xs : List X) (i : ℕ) → slice_get xs i ≡ None → length xs ≤ i
past [] i e = omega arith
past (x ∷ xs) zero e = absurd (cc e)
past (x ∷ xs) (suc i) e = let more = past xs i e in omega (arith, more)

-- values at all places
pub spread_of : {T : Type 0} (list : List Entries) (found : Listing) (values each : List T) → AreDistinct list found
    → FoundBelow found.places values (length list) each → AreSpread list found.arrays values each
spread_of {T} list found values each d f = record {
  one_each = f.count;
  given = given;
  equal = λ i j e. by i j (slice_get list i) (slice_get list j) refl refl e;
}
  where
    given : (i : ℕ) → i < length list → (n : ℕ) × (slice_get found.arrays n ≡ slice_get list i) × (slice_get each i ≡ slice_get values n)
    given i h =
        let long = d.one_each in
        let place = there found.places i (omega (arith, h, long)) in
        (place.0, d.placed i place.0 place.1, f.at i place.0 h place.1)

    by : (i j : ℕ) (o p : Option Entries) → slice_get list i ≡ o → slice_get list j ≡ p → slice_get list i ≡ slice_get list j → slice_get each i ≡ slice_get each j
    by i j None p a b e =
        let one = past list i a in
        let two = past list j (sym e ∙ a) in
        let long = f.count in
        slice_get_past each i (omega (arith, one, long)) ∙ sym (slice_get_past each j (omega (arith, two, long)))
    by i j (Some x) p a b e =
        let one = given i (slice_get_within list i x a) in
        let two = given j (slice_get_within list j x (sym e ∙ a)) in
        let same = d.once one.0 two.0 x (one.1 ∙ a) (two.1 ∙ sym e ∙ a) in
        one.2 ∙ ap (λ k. slice_get values k) same ∙ sym two.2

at_zip : {T : Type 0} (R : Entries → T → Type 0) (arrays : List Entries) (values : List T) → AllZip R arrays values
    → (n : ℕ) (a : Entries) (v : T) → slice_get arrays n ≡ Some a → slice_get values n ≡ Some v → R a v
at_zip R [] values z n a v e h = absurd (cc e)
at_zip R (x ∷ arrays) [] z n a v e h = absurd z
at_zip R (x ∷ arrays) (y ∷ values) z zero a v e h = rw (← same_Some x a e, ← same_Some y v h) z.0
at_zip R (x ∷ arrays) (y ∷ values) z (suc n) a v e h = at_zip R arrays values z.1 n a v e h

zip_of : {T : Type 0} (R : Entries → T → Type 0) (list : List Entries) (each : List T) → length each ≡ length list
    → ((i : ℕ) (a : Entries) (v : T) → slice_get list i ≡ Some a → slice_get each i ≡ Some v → R a v) → AllZip R list each
zip_of R [] [] e h = tt
zip_of R [] (v ∷ each) e h = absurd (omega (arith, e))
zip_of R (a ∷ list) [] e h = absurd (omega (arith, e))
zip_of R (a ∷ list) (v ∷ each) e h = (h 0 a v refl refl, zip_of R list each (omega (arith, e)) (λ i. h (suc i)))

-- what holds of each distinct array and its value holds of each array of the list and its value
pub spread_zip : {T : Type 0} (R : Entries → T → Type 0) (list arrays : List Entries) (values each : List T) → AreSpread list arrays values each
    → AllZip R arrays values → AllZip R list each
spread_zip R list arrays values each s z = zip_of R list each s.one_each
    (λ i a v e h. let given = s.given i (slice_get_within list i a e) in
    at_zip R arrays values z given.0 a v (given.1 ∙ e) (sym given.2 ∙ h))
