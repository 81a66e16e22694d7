-- The distinct arrays of a list with one more array.
use Rattle.std.proofs.Common.{◌≡◌, ◌∙◌, ◌<◌, ◌≤◌, ◌+◌, ◌++◌, ◌∷◌, ◌⊎◌, [], refl, sym, ap, ap₂, subst, arith, ℕ, zero, suc, Bool, true, false, List, length, length-append, map, take, get_or, Option, Some, None, inl, inr, slice_get, true≢false, ◌||◌}
use Rattle.std.specs.Prelude.{if◌then◌else◌, ◌&&◌, nat_eq}
use Rattle.std.specs.Cmp.Lexicographic.{nat_list_eq_equiv, pointwise}
use Rattle.drg_algebra.proofs.Tests.{and-in, both as both_true, same-number}
use Rattle.std.specs.List.{list_any}
use Rattle.std.proofs.lemmas.Option.{same_Some, slice_get_within}
use Rattle.std.proofs.Math.Seq.{take-suc}
use Rattle.std.proofs.lemmas.List.{map-append}
use Rattle.indexmap.specs.IndexSet.{insert_key}
use Rattle.drg_array.specs.Entries.{Entries}
use Rattle.drg_tables.specs.Distinct.{AreDistinct, IsFirstAt, Listing}
use Rattle.drg_tables.specs.declared.row.Row.{Row}

-- the test that tells arrays apart
abbrev pub alike : Entries → Entries → Bool
alike x y = pointwise nat_eq x.b y.b && pointwise nat_eq x.c y.c

same_numbers : (xs ys : List ℕ) → pointwise nat_eq xs ys ≡ true → xs ≡ ys
same_numbers [] [] e = refl
same_numbers [] (y ∷ ys) e = absurd (cc e)
same_numbers (x ∷ xs) [] e = absurd (cc e)
same_numbers (x ∷ xs) (y ∷ ys) e =
    let parts = both_true (nat_eq x y) (pointwise nat_eq xs ys) e in
    ap₂ (λ a l. a ∷ l) (same-number x y parts.0) (same_numbers xs ys parts.1)

pub same_array : (x y : Entries) → alike x y ≡ true → x ≡ y
same_array x y e =
    let parts = both_true (pointwise nat_eq x.b y.b) (pointwise nat_eq x.c y.c) e in
    ap₂ (λ b c. record { b = b; c = c }) (same_numbers x.b y.b parts.0) (same_numbers x.c y.c parts.1)

pub like_itself : (x : Entries) → alike x x ≡ true
like_itself x = and-in (pointwise nat_eq x.b x.b) (pointwise nat_eq x.c x.c) (nat_list_eq_equiv.refl x.b) (nat_list_eq_equiv.refl x.c)

-- what a list has before its last element
pub in_front : {X : Type 0} (xs : List X) (x : X) (i : ℕ) → i < length xs → slice_get (xs ++ x ∷ []) i ≡ slice_get xs i
in_front [] x i h = absurd (omega (arith, h))
in_front (y ∷ xs) x zero h = refl
in_front (y ∷ xs) x (suc i) h = in_front xs x i (omega (arith, h))

pub at_end : {X : Type 0} (xs : List X) (x : X) → slice_get (xs ++ x ∷ []) (length xs) ≡ Some x
at_end [] x = refl
at_end (y ∷ xs) x = at_end xs x

pub there : {X : Type 0} (xs : List X) (i : ℕ) → i < length xs → (x : X) × (slice_get xs i ≡ Some x)
there [] i h = absurd (omega (arith, h))
there (y ∷ xs) zero h = (y, refl)
there (y ∷ xs) (suc i) h = there xs i (omega (arith, h))

-- an element of a longer list is one of the list, or the last
pub of_longer : {X : Type 0} (xs : List X) (x y : X) (i : ℕ) → slice_get (xs ++ x ∷ []) i ≡ Some y
    → ((i < length xs) × (slice_get xs i ≡ Some y)) ⊎ ((i ≡ length xs) × (y ≡ x))
of_longer [] x y zero e = inr (refl, sym (same_Some x y e))
of_longer [] x y (suc i) e = absurd (cc e)
of_longer (z ∷ xs) x y zero e = inl (omega arith, e)
of_longer {X} (z ∷ xs) x y (suc i) e = by (of_longer xs x y i e)
  where
    by : ((i < length xs) × (slice_get xs i ≡ Some y)) ⊎ ((i ≡ length xs) × (y ≡ x))
        → ((suc i < length (z ∷ xs)) × (slice_get xs i ≡ Some y)) ⊎ ((suc i ≡ length (z ∷ xs)) × (y ≡ x))
    by (inl (low, at)) = inl (omega (arith, low), at)
    by (inr (last, same)) = inr (omega (arith, last), same)

pub below_or_last : (n m : ℕ) → n < m + 1 → (n < m) ⊎ (n ≡ m)
below_or_last zero zero h = inr refl
below_or_last zero (suc m) h = inl (omega arith)
below_or_last (suc n) zero h = absurd (omega (arith, h))
below_or_last (suc n) (suc m) h = by (below_or_last n m (omega (arith, h)))
  where
    by : (n < m) ⊎ (n ≡ m) → (suc n < suc m) ⊎ (suc n ≡ suc m)
    by (inl low) = inl (omega (arith, low))
    by (inr same) = inr (ap suc same)

-- each array of the list stands among the distinct ones
pub place_within : (list : List Entries) (found : Listing) → AreDistinct list found → (i n : ℕ) → slice_get found.places i ≡ Some n → n < length found.arrays
place_within list found d i n h =
    let low = slice_get_within found.places i n h in
    let each = d.one_each in
    let some = there list i (omega (arith, low, each)) in
    slice_get_within found.arrays n some.0 (d.placed i n h ∙ some.1)

still_first : (places : List ℕ) (p n i : ℕ) → IsFirstAt places n i → IsFirstAt (places ++ p ∷ []) n i
still_first places p n i f =
    let low = slice_get_within places i n f.here in
    record {
      here = in_front places p i low ∙ f.here;
      before = λ j m h e. f.before j m h (sym (in_front places p j (omega (arith, low, h))) ∙ e);
    }

placed_more : (list more : List Entries) (places : List ℕ) (p : ℕ) (a : Entries) → length places ≡ length list
    → ((i n : ℕ) → slice_get places i ≡ Some n → slice_get more n ≡ slice_get list i) → slice_get more p ≡ Some a
    → (i n : ℕ) → slice_get (places ++ p ∷ []) i ≡ Some n → slice_get more n ≡ slice_get (list ++ a ∷ []) i
placed_more list more places p a each old new i n h = by (of_longer places p n i h)
  where
    by : ((i < length places) × (slice_get places i ≡ Some n)) ⊎ ((i ≡ length places) × (n ≡ p)) → slice_get more n ≡ slice_get (list ++ a ∷ []) i
    by (inl (low, at)) = old i n at ∙ sym (in_front list a i (omega (arith, low, each)))
    by (inr (last, same)) = ap (λ k. slice_get more k) same ∙ new ∙ sym (ap (λ k. slice_get (list ++ a ∷ []) k) (last ∙ each) ∙ at_end list a)

longer : {X Y : Type 0} (xs : List X) (ys : List Y) (x : X) (y : Y) → length xs ≡ length ys → length (xs ++ x ∷ []) ≡ length (ys ++ y ∷ [])
longer xs ys x y h = length-append xs (x ∷ []) ∙ ap (λ n. n + 1) h ∙ sym (length-append ys (y ∷ []))

-- one more array that is among them
pub noted_old : (list : List Entries) (found : Listing) (p : ℕ) (a : Entries) → AreDistinct list found → slice_get found.arrays p ≡ Some a
    → AreDistinct (list ++ a ∷ []) (record { arrays = found.arrays; places = found.places ++ p ∷ [] })
noted_old list found p a d e = record {
  one_each = longer found.places list p a d.one_each;
  placed = placed_more list found.arrays found.places p a d.one_each d.placed e;
  once = d.once;
  in_order = λ n h. let first = d.in_order n h in (first.0, still_first found.places p n first.0 first.1);
}

-- one more array that isn't among them
pub noted_new : (list : List Entries) (found : Listing) (a : Entries) → AreDistinct list found → ((n : ℕ) → slice_get found.arrays n ≡ Some a → ⊥)
    → AreDistinct (list ++ a ∷ []) (record { arrays = found.arrays ++ a ∷ []; places = found.places ++ length found.arrays ∷ [] })
noted_new list found a d absent = record {
  one_each = longer found.places list (length found.arrays) a d.one_each;
  placed = placed_more list (found.arrays ++ a ∷ []) found.places (length found.arrays) a d.one_each
      (λ i n h. in_front found.arrays a n (place_within list found d i n h) ∙ d.placed i n h) (at_end found.arrays a);
  once = λ m n x e h. both m n x (of_longer found.arrays a x m e) (of_longer found.arrays a x n h);
  in_order = λ n h. by n (below_or_last n (length found.arrays) (rw (length-append found.arrays (a ∷ [])) at h));
}
  where
    both : (m n : ℕ) (x : Entries)
        → ((m < length found.arrays) × (slice_get found.arrays m ≡ Some x)) ⊎ ((m ≡ length found.arrays) × (x ≡ a))
        → ((n < length found.arrays) × (slice_get found.arrays n ≡ Some x)) ⊎ ((n ≡ length found.arrays) × (x ≡ a)) → m ≡ n
    both m n x (inl e) (inl h) = d.once m n x e.1 h.1
    both m n x (inl e) (inr h) = absurd (absent m (e.1 ∙ ap (λ y. Some y) h.1))
    both m n x (inr e) (inl h) = absurd (absent n (h.1 ∙ ap (λ y. Some y) e.1))
    both m n x (inr e) (inr h) = e.0 ∙ sym h.0

    by : (n : ℕ) → (n < length found.arrays) ⊎ (n ≡ length found.arrays) → (i : ℕ) × IsFirstAt (found.places ++ length found.arrays ∷ []) n i
    by n (inl low) = let first = d.in_order n low in (first.0, still_first found.places (length found.arrays) n first.0 first.1)
    by n (inr same) = (
      length found.places,
      record {
        here = at_end found.places (length found.arrays) ∙ ap (λ k. Some k) (sym same);
        before = λ j m h e.
            let low = place_within list found d j m (sym (in_front found.places (length found.arrays) j h) ∙ e) in
            omega (arith, low, same);
      },
    )

rest : (a b : Bool) → (a || b) ≡ false → b ≡ false
rest true b e = absurd (cc e)
rest false b e = e

none_alike : {X : Type 0} (test : X → Bool) (xs : List X) → list_any test xs ≡ false → (n : ℕ) (x : X) → slice_get xs n ≡ Some x → test x ≡ true → ⊥
none_alike test [] e n x h t = absurd (cc h)
none_alike test (y ∷ xs) e zero x h t =
    let same : y ≡ x = same_Some y x h in
    true≢false (sym (rw (ap test same ∙ t) refl) ∙ e)
none_alike test (y ∷ xs) e (suc n) x h t = none_alike test xs (rest (test y) (list_any test xs) e) n x h t

-- one more array, by what a set of keys in order does with it
pub noted : (list : List Entries) (found : Listing) (keys : List Entries) (a k : Entries) (p : ℕ) → AreDistinct list found
    → keys ≡ insert_key alike found.arrays a → slice_get keys p ≡ Some k → alike a k ≡ true
    → AreDistinct (list ++ a ∷ []) (record { arrays = keys; places = found.places ++ p ∷ [] })
noted list found keys a k p d e at same = by (list_any (alike a) found.arrays) refl
  where
    last : list_any (alike a) found.arrays ≡ false → ((p < length found.arrays) × (slice_get found.arrays p ≡ Some k)) ⊎ ((p ≡ length found.arrays) × (k ≡ a)) → p ≡ length found.arrays
    last t (inl h) = absurd (none_alike (alike a) found.arrays t p k h.1 same)
    last t (inr h) = h.0

    by : (b : Bool) → list_any (alike a) found.arrays ≡ b → AreDistinct (list ++ a ∷ []) (record { arrays = keys; places = found.places ++ p ∷ [] })
    by true t =
        let all : keys ≡ found.arrays = rw t at e in
        let here : slice_get found.arrays p ≡ Some a = ap (λ ks. slice_get ks p) (sym all) ∙ at ∙ ap (λ y. Some y) (sym (same_array a k same)) in
        rw all (noted_old list found p a d here)
    by false t =
        let all : keys ≡ found.arrays ++ a ∷ [] = rw t at e in
        let place : p ≡ length found.arrays = last t (of_longer found.arrays a k p (ap (λ ks. slice_get ks p) (sym all) ∙ at)) in
        rw (all, place) (noted_new list found a d (λ n h. none_alike (alike a) found.arrays t n a h (like_itself a)))

-- the arrays of the rows before a place, and the one there
pub arrays_more : (rows : List Row) (i : ℕ) (d : Row) → i < length rows
    → map (λ (row : Row). row.array) (take (i + 1) rows) ≡ map (λ (row : Row). row.array) (take i rows) ++ (get_or rows i d).array ∷ []
arrays_more rows i d low =
    let next : i + 1 ≡ suc i = omega arith in
    ap (λ (n : ℕ). map (λ (row : Row). row.array) (take n rows)) next
    ∙ ap (λ (l : List Row). map (λ (row : Row). row.array) l) (take-suc rows i d low)
    ∙ map-append (λ (row : Row). row.array) (take i rows) (get_or rows i d ∷ [])

-- nothing is distinct in a list without an array
pub none_distinct : AreDistinct [] (record { arrays = []; places = [] })
none_distinct = record {
  one_each = refl;
  placed = λ i n h. absurd (cc h);
  once = λ m n a e h. absurd (cc e);
  in_order = λ n h. absurd (omega (arith, h));
}
