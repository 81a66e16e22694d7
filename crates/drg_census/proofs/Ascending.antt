-- Lists of arrays that ascend by their entries.
use Rattle.std.proofs.Common.{◌≡◌, ℕ, zero, suc, ◌+◌, ◌<◌, List, [], ◌∷◌, ◌++◌, length, refl, sym, ap, ap₂, subst, ◌∙◌, arith, ◌⊎◌, inl, inr}
use Rattle.std.specs.Prelude.{Contains, ◌↔◌}
use Rattle.std.proofs.lemmas.List.Elements.{Contains-append_cases}
use Rattle.drg_array.specs.ClaimOrder.{IsBefore}
use Rattle.drg_array.specs.Entries.{Entries}
use Rattle.drg_census.specs.Census.{AreAscending, IsBeforeAll, IsCensus, in_order}
use Rattle.drg_census.specs.Laws.{OneCensus}

-- ---- the lexicographic order of lists
pub not_before_itself : (ns : List ℕ) → IsBefore ns ns → ⊥
not_before_itself [] h = h
not_before_itself (n ∷ ns) (inl less) = omega (arith, less)
not_before_itself (n ∷ ns) (inr same) = not_before_itself ns same.1

pub not_both_ways : (ms ns : List ℕ) → IsBefore ms ns → IsBefore ns ms → ⊥
not_both_ways ms [] h k = h
not_both_ways [] (n ∷ ns) h k = k
not_both_ways (m ∷ ms) (n ∷ ns) (inl less) (inl more) = omega (arith, less, more)
not_both_ways (m ∷ ms) (n ∷ ns) (inl less) (inr same) = let e = same.0 in omega (arith, less, e)
not_both_ways (m ∷ ms) (n ∷ ns) (inr same) (inl more) = let e = same.0 in omega (arith, e, more)
not_both_ways (m ∷ ms) (n ∷ ns) (inr same) (inr other) = not_both_ways ms ns same.1 other.1

-- the first entries that differ decide
pub before_by_entry : (ls r s : List ℕ) (v w : ℕ) → v < w → IsBefore (ls ++ v ∷ r) (ls ++ w ∷ s)
before_by_entry [] r s v w h = inl h
before_by_entry (l ∷ ls) r s v w h = inr (refl, before_by_entry ls r s v w h)

-- ---- elements of lists
pub head_stands : (a : Entries) (xs : List Entries) → Contains (a ∷ xs) a
head_stands a xs = (0, omega arith, refl)

pub tail_stands : (a b : Entries) (xs : List Entries) → Contains xs b → Contains (a ∷ xs) b
tail_stands a b xs (i, l, e) = (suc i, omega arith, e)

pub head_or_tail : (a b : Entries) (xs : List Entries) → Contains (a ∷ xs) b → (a ≡ b) ⊎ Contains xs b
head_or_tail a b xs (zero, l, e) = inl e
head_or_tail a b xs (suc i, l, e) = inr (i, omega arith, e)

pub none_stands : (b : Entries) → Contains [] b → ⊥
none_stands b (i, l, e) = omega arith

-- ---- ascending lists
pub before_each : (a : Entries) (xs : List Entries) → IsBeforeAll a xs → (b : Entries) → Contains xs b → IsBefore (in_order a) (in_order b)
before_each a [] h b c = absurd (none_stands b c)
before_each a (x ∷ xs) h b c = elim (head_or_tail x b xs c) [
  | inl e ↦ subst (λ t. IsBefore (in_order a) (in_order t)) e h.0
  | inr t ↦ before_each a xs h.1 b t
]

pub before_all : (a : Entries) (xs : List Entries) → ((b : Entries) → Contains xs b → IsBefore (in_order a) (in_order b)) → IsBeforeAll a xs
before_all a [] h = tt
before_all a (x ∷ xs) h = (h x (head_stands x xs), before_all a xs (λ b c. h b (tail_stands x b xs c)))

both_before : (a : Entries) (xs ys : List Entries) → IsBeforeAll a xs → IsBeforeAll a ys → IsBeforeAll a (xs ++ ys)
both_before a [] ys h k = k
both_before a (x ∷ xs) ys h k = (h.0, both_before a xs ys h.1 k)

pub ascending_append : (xs ys : List Entries) → AreAscending xs → AreAscending ys
    → ((a b : Entries) → Contains xs a → Contains ys b → IsBefore (in_order a) (in_order b)) → AreAscending (xs ++ ys)
ascending_append [] ys h k apart = k
ascending_append (a ∷ xs) ys h k apart = (
  both_before a xs ys h.0 (before_all a ys (λ b c. apart a b (head_stands a xs) c)),
  ascending_append xs ys h.1 k (λ x b s c. apart x b (tail_stands a x xs s) c),
)

-- ---- ascending lists with the same elements are the same
abbrev Within : List Entries → List Entries → Type 0
Within xs ys = (x : Entries) → Contains xs x → Contains ys x

-- what stands in both lists, but isn't the head, stands in the tails
tail_within : (a b : Entries) (xs ys : List Entries) → a ≡ b → IsBeforeAll a xs → Within (a ∷ xs) (b ∷ ys) → Within xs ys
tail_within a b xs ys e h all x s = elim (head_or_tail b x ys (all x (tail_stands a x xs s))) [
  | inl f ↦ absurd (not_before_itself (in_order a) (subst (λ t. IsBefore (in_order a) (in_order t)) (sym (e ∙ f)) (before_each a xs h x s)))
  | inr t ↦ t
]

same_head : (a b : Entries) (xs ys : List Entries) → IsBeforeAll a xs → IsBeforeAll b ys → Within (a ∷ xs) (b ∷ ys) → Within (b ∷ ys) (a ∷ xs) → a ≡ b
same_head a b xs ys h k to from =
    elim (head_or_tail b a ys (to a (head_stands a xs))) [
      | inl e ↦ sym e
      | inr s ↦ elim (head_or_tail a b xs (from b (head_stands b ys))) [
        | inl e ↦ e
        | inr t ↦ absurd (not_both_ways (in_order a) (in_order b) (before_each a xs h b t) (before_each b ys k a s))
      ]
    ]

pub same_ascending : (xs ys : List Entries) → AreAscending xs → AreAscending ys → Within xs ys → Within ys xs → xs ≡ ys
same_ascending [] [] h k to from = refl
same_ascending [] (b ∷ ys) h k to from = absurd (none_stands b (from b (head_stands b ys)))
same_ascending (a ∷ xs) [] h k to from = absurd (none_stands a (to a (head_stands a xs)))
same_ascending (a ∷ xs) (b ∷ ys) h k to from =
    let e = same_head a b xs ys h.0 k.0 to from in
    ap₂ (λ (v : Entries) (vs : List Entries). v ∷ vs) e
    (same_ascending xs ys h.1 k.1 (tail_within a b xs ys e h.0 to) (tail_within b a ys xs (sym e) k.0 from))

pub one_census : OneCensus
one_census d k n xs ys one two =
    same_ascending xs ys one.ascending two.ascending
    (λ x s. (two.exactly x).1 ((one.exactly x).0 s)) (λ x s. (one.exactly x).1 ((two.exactly x).0 s))
