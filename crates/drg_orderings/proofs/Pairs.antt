-- All pairs of numbers below a side, as a product of ranges gives them.
use Rattle.std.proofs.Common.{◌≡◌, ℕ, suc, zero, ◌<◌, Bool, true, false, IsTrue, List, [], ◌∷◌, Option, length, map, get_or, refl, ◌∙◌, ap, ap₂, subst, arith}
use Rattle.std.specs.Bool.{MatchBool}
use Rattle.std.specs.Fn.{Called}
use Rattle.std.specs.Iterator.{AlwaysYields, YieldsThen}
use Rattle.std.specs.Option.{MatchOption}
use denote.Param.Members.{Mut}
use Rattle.std.specs.List.{All, AllWithin, Contains, FoldsTo, HoldsAt, range_with_len}
use Rattle.std.specs.declared.ops.Range.{Range}
use Rattle.std.proofs.lemmas.Iterator.{YieldsList, YieldsList-from_range, cases_from_all}
use Rattle.std.proofs.lemmas.List.{get_or-map, length-map}
use Rattle.std.proofs.lemmas.List.Elements.{All-get_or, All-from_get_or, Contains-append_left, Contains-append_right}
use Rattle.std.proofs.lemmas.List.FromFn.{length-range_with_len, get_or-range_with_len}
use Rattle.itertools.proofs.ListFactLemmas.{All-rows}
use Rattle.itertools.specs.Product.{product_steps, rows}
use Rattle.itertools.specs.declared.adaptors.Product.{Product}
use Rattle.std.specs.Iterator.Adapters.{fuse_steps}
use Rattle.std.proofs.iter.Yields.{nat_range_steps}

-- The pairs.
abbrev pub pairs : ℕ → List (ℕ × ℕ)
pairs side = rows (range_with_len 0 side) (range_with_len 0 side)

-- The steps of a product of two ranges.
abbrev pub pair_steps : Product (Range ℕ) (Range ℕ) ℕ → Option (ℕ × ℕ) → Product (Range ℕ) (Range ℕ) ℕ → Type 0
pair_steps = product_steps (fuse_steps nat_range_steps) nat_range_steps (λ x y. y ≡ x) (λ x y. (y.start ≡ x.start) × (y.end ≡ x.end))

-- A copy of a range is that range.
same_range : (j c : Range ℕ) (side : ℕ) → j ≡ record { start = 0; end = side } → c.start ≡ j.start → c.end ≡ j.end
    → c ≡ record { start = 0; end = side }
same_range j c side e s t = λ i. record { start = (s ∙ ap (λ (r : Range ℕ). r.start) e) i; end = (t ∙ ap (λ (r : Range ℕ). r.end) e) i }

-- What a product of two ranges gives, as its contract says, are the pairs.
pub pairs_come : (side : ℕ) (s : Product (Range ℕ) (Range ℕ) ℕ)
    → ((xs ys : List ℕ) → AlwaysYields nat_range_steps (λ x. x) (record { start = 0; end = side }) xs
    → ((j c : Range ℕ) → j ≡ record { start = 0; end = side } → (c.start ≡ j.start) × (c.end ≡ j.end) → AlwaysYields nat_range_steps (λ y. y) c ys)
    → ((x c : ℕ) → c ≡ x → c ≡ x) → AlwaysYields pair_steps (λ p. p) s (rows xs ys))
    → YieldsList pair_steps (λ p. p) s (pairs side)
pairs_come side s given = record {
  runs = given (range_with_len 0 side) (range_with_len 0 side) (YieldsList-from_range 0 side side refl (omega arith)).runs
      (λ j c e h. (YieldsList-from_range {s = c} 0 side side (same_range j c side e h.0 h.1) (omega arith)).runs) (λ x c h. h);
}

-- A test of all items of a chain, told by its run.
pub told_by_all : {S A F : Type 0} {steps : S → Option A → S → Type 0} {s : S} {all : List A} (road : YieldsList steps (λ x. x) s all)
    {g : Mut F (A × Unit {0}) Bool} {u : S} {f : F} (r : Bool) (Yes No : A → Type 0)
    → (xs : List A) × (o : Option A) × (j : F) × YieldsThen steps s xs o u × FoldsTo (λ p x q. Called g p (x, tt) true q) f xs j × MatchOption o (r ≡ true) (λ x. (r ≡ false) × ((h : F) × Called g j (x, tt) false h))
    → ((x : A) (q : F) → Called g f (x, tt) true q → (q ≡ f) × Yes x) → ((x : A) (q : F) → Called g f (x, tt) false q → No x)
    → MatchBool r (AllWithin Yes all 0 (length all)) ((k : ℕ) × (k < length all) × HoldsAt No all k)
told_by_all road {u = u} {f = f} r Yes No ran passes fails = cases_from_all u f r Yes No ran road passes fails

-- Both numbers of each pair are below the side.
pub pairs_below : (side k : ℕ) (d : ℕ × ℕ) → k < length (pairs side)
    → ((get_or (pairs side) k d).0 < side) × ((get_or (pairs side) k d).1 < side)
pairs_below side k d l = All-get_or (λ p. (p.0 < side) × (p.1 < side)) (pairs side) k d l
    (All-rows (λ x. x < side) (λ x. x < side) (range_with_len 0 side) (range_with_len 0 side) below below)
  where
    below : All (λ x. x < side) (range_with_len 0 side)
    below = All-from_get_or (λ x. x < side) (range_with_len 0 side) 0 (λ i m.
        (let e = length-range_with_len 0 side in let v = get_or-range_with_len 0 side i 0 (omega arith) in omega arith))

row_stands : (a x b : ℕ) (ys : List ℕ) → x ≡ a → Contains ys b → Contains {X = ℕ × ℕ} (map (λ y. (x, y)) ys) (a, b)
row_stands a x b ys e (k, l, f) = (
  k,
  (let m : length (map {A = ℕ} {B = ℕ × ℕ} (λ y. (x, y)) ys) ≡ length ys = length-map {A = ℕ} {B = ℕ × ℕ} ys (λ y. (x, y)) in omega arith),
  get_or-map (λ y. (x, y)) ys k b (a, b) l ∙ ap₂ (λ (v w : ℕ). (v, w)) e f,
)

pair_stands : (xs ys : List ℕ) (a b : ℕ) → Contains xs a → Contains ys b → Contains {X = ℕ × ℕ} (rows xs ys) (a, b)
pair_stands [] ys a b (k, l, e) n = absurd (omega arith)
pair_stands (x ∷ xs) ys a b (zero, l, e) n =
    Contains-append_left (map (λ y. (x, y)) ys) (rows xs ys) (a, b) (row_stands a x b ys e n)
pair_stands (x ∷ xs) ys a b (suc k, l, e) n =
    Contains-append_right (map (λ y. (x, y)) ys) (rows xs ys) (a, b) (pair_stands xs ys a b (k, omega arith, e) n)

-- Each pair of numbers below the side is one of them.
pair_is : (side h j : ℕ) → h < side → j < side → Contains {X = ℕ × ℕ} (pairs side) (h, j)
pair_is side h j l m = pair_stands (range_with_len 0 side) (range_with_len 0 side) h j (stands h l) (stands j m)
  where
    stands : (x : ℕ) → x < side → Contains (range_with_len 0 side) x
    stands x k = (x, (let e = length-range_with_len 0 side in omega arith), (let v = get_or-range_with_len 0 side x x k in omega arith))

-- A test over the pairs tells whether all have what is asked.
pub decided_by_pairs : (side : ℕ) (P : ℕ → ℕ → Type 0) (r : Bool)
    → MatchBool r (AllWithin (λ p. P p.0 p.1) (pairs side) 0 (length (pairs side)))
    ((k : ℕ) × (k < length (pairs side)) × HoldsAt (λ p. ¬ P p.0 p.1) (pairs side) k)
    → (IsTrue r → (h j : ℕ) → h < side → j < side → P h j) × (((h j : ℕ) → h < side → j < side → P h j) → IsTrue r)
decided_by_pairs side P true all = (λ t. each, λ h. refl)
  where
    each : (h j : ℕ) → h < side → j < side → P h j
    each h j l m = go (pair_is side h j l m)
      where
        F : ℕ × ℕ → Type 0
        F p = P p.0 p.1

        go : Contains {X = ℕ × ℕ} (pairs side) (h, j) → P h j
        go (k, n, e) =
            let G : ℕ × ℕ → Type 0 = λ p. P p.0 p.1 in
            subst G e (all k (h, j) (omega arith) n)
decided_by_pairs side P false (k, l, not) =
    (λ t. absurd (cc), λ all. absurd (not (0, 0) (let b = pairs_below side k (0, 0) l in all (get_or (pairs side) k (0, 0)).0 (get_or (pairs side) k (0, 0)).1 b.0 b.1)))
