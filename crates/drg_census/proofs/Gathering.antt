-- The arrays that a search has gathered.
use Rattle.std.proofs.Common.{◌≡◌, ℕ, zero, suc, ◌+◌, ◌≤◌, ◌<◌, List, [], ◌∷◌, ◌++◌, length, refl, sym, ap, ap₂, subst, ◌∙◌, arith, ◌⊎◌, inl, inr}
use Rattle.std.specs.Prelude.{Contains, ◌↔◌, slice_index}
use Rattle.std.proofs.lemmas.Bool.{cases_lt}
use Rattle.std.proofs.lemmas.List.{append-nil, append_assoc, get_or_append_left, length-append}
use Rattle.std.proofs.lemmas.List.Elements.{Contains-append_cases, Contains-append_left, Contains-append_right}
use Rattle.drg_array.specs.ClaimOrder.{IsBefore}
use Rattle.drg_array.specs.Entries.{Entries, b_at, diameter}
use Rattle.drg_census.specs.Begins.{AppendsAllFrom, AreAllBelow, AreAllFrom, BeginsWith, IsBeginning, IsTheArray, NoneBegins}
use Rattle.drg_census.specs.Census.{InCensus, IsCensus, IsWithinLimits, in_order}
use Rattle.drg_census.proofs.Ascending.{ascending_append, before_by_entry, head_stands, head_or_tail, none_stands}
use Rattle.drg_census.proofs.Entering.{all_entries, entry_below, entry_count, entry_some, longer, same_entries, shorter, b_entry, begun}
use Rattle.drg_census.proofs.Small.{up_to}

-- ---- nothing is appended where none begins so
pub nothing_from : (d k n : ℕ) (xs : List ℕ) (old : List Entries) → NoneBegins d k n xs → AppendsAllFrom d k n xs old old
nothing_from d k n xs old none = (
  [],
  sym (append-nil old),
  record {
    exactly = λ a. (λ c. absurd (none_stands a c), λ m. absurd (none a m.0 m.1));
    ascending = tt;
  },
)

-- ---- the one array with all these entries
pub one_from : (d k n : ℕ) (xs : List ℕ) (a : Entries) (old : List Entries) → length xs ≡ d + d → IsTheArray d k n xs a
    → AppendsAllFrom d k n xs old (old ++ a ∷ [])
one_from d k n xs a old long the = (a ∷ [], refl, record { exactly = exactly; ascending = (tt, tt) })
  where
    exactly : (b : Entries) → Contains (a ∷ []) b ↔ (InCensus d k n b × BeginsWith xs b)
    exactly b = (to, from)
      where
        here : InCensus d k n a × BeginsWith xs a
        here = (the.member, ([], the.entries ∙ sym (append-nil xs)))

        to : Contains (a ∷ []) b → InCensus d k n b × BeginsWith xs b
        to c = elim (head_or_tail a b [] c) [
          | inl e ↦ subst (λ t. InCensus d k n t × BeginsWith xs t) e here
          | inr t ↦ absurd (none_stands b t)
        ]

        from : InCensus d k n b × BeginsWith xs b → Contains (a ∷ []) b
        from m =
            let l = m.0.diameter in
            let e = all_entries xs b m.0.array (omega arith) m.1 in
            let same = same_entries a b (the.entries ∙ sym e) (the.member.diameter ∙ sym l) in
            subst (λ t. Contains (a ∷ []) t) same (head_stands a [])

-- ---- entry by entry
pub none_yet : (d k n : ℕ) (xs : List ℕ) → AreAllBelow d k n xs 1 []
none_yet d k n xs = record {
  exactly = λ a. (λ c. absurd (none_stands a c), λ m. absurd (never a m.0 m.1));
  ascending = tt;
}
  where
    never : (a : Entries) → InCensus d k n a → ((v : ℕ) × (v < 1) × BeginsWith (xs ++ v ∷ []) a) → ⊥
    never a is (v, l, b) = let s = entry_some xs v a is.array b in omega arith

module _ (d k n : ℕ) (xs : List ℕ) (v : ℕ) (old more : List Entries) (below : AreAllBelow d k n xs v old)
    (from : AreAllFrom d k n (xs ++ v ∷ []) more) where
  apart : (a b : Entries) → Contains old a → Contains more b → IsBefore (in_order a) (in_order b)
  apart a b s t = go ((below.exactly a).0 s).1 ((from.exactly b).0 t).1
    where
      go : ((w : ℕ) × (w < v) × BeginsWith (xs ++ w ∷ []) a) → BeginsWith (xs ++ v ∷ []) b → IsBefore (in_order a) (in_order b)
      go (w, l, (r, e)) (q, f) =
          subst (λ x. IsBefore x (in_order b)) (sym (e ∙ append_assoc xs (w ∷ []) r))
          (subst (λ y. IsBefore (xs ++ w ∷ r) y) (sym (f ∙ append_assoc xs (v ∷ []) q)) (before_by_entry xs r q w v l))

  pub one_entry_more : AreAllBelow d k n xs (v + 1) (old ++ more)
  one_entry_more = record { exactly = exactly; ascending = ascending_append old more below.ascending from.ascending apart }
    where
      exactly : (a : Entries) → Contains (old ++ more) a ↔ (InCensus d k n a × ((w : ℕ) × (w < v + 1) × BeginsWith (xs ++ w ∷ []) a))
      exactly a = (to, back)
        where
          to : Contains (old ++ more) a → InCensus d k n a × ((w : ℕ) × (w < v + 1) × BeginsWith (xs ++ w ∷ []) a)
          to c = elim (Contains-append_cases old more a c) [
            | inl s ↦ (let m = (below.exactly a).0 s in (m.0, (m.1.0, (let l = m.1.1 in omega arith), m.1.2)))
            | inr t ↦ (let m = (from.exactly a).0 t in (m.0, (v, omega arith, m.1)))
          ]

          back : InCensus d k n a × ((w : ℕ) × (w < v + 1) × BeginsWith (xs ++ w ∷ []) a) → Contains (old ++ more) a
          back (is, (w, l, b)) = elim (cases_lt w v) [
            | inl less ↦ Contains-append_left old more a ((below.exactly a).1 (is, (w, less, b)))
            | inr not ↦ (let e : w ≡ v = omega arith in
                Contains-append_right old more a ((from.exactly a).1 (is, subst (λ t. BeginsWith (xs ++ t ∷ []) a) e b)))
          ]

-- after the greatest entry that there is, they are all
pub all_from_entries : (d k n bound : ℕ) (xs : List ℕ) (arrays : List Entries) → IsBeginning d k n xs → ¬ (length xs ≡ d + d) → bound ≡ k + 1
    → AreAllBelow d k n xs bound arrays → AreAllFrom d k n xs arrays
all_from_entries d k n bound xs arrays start not last below = record { exactly = exactly; ascending = below.ascending }
  where
    exactly : (a : Entries) → Contains arrays a ↔ (InCensus d k n a × BeginsWith xs a)
    exactly a = (to, from)
      where
        to : Contains arrays a → InCensus d k n a × BeginsWith xs a
        to c = let m = (below.exactly a).0 c in (m.0, shorter xs m.1.0 a m.1.2)

        from : InCensus d k n a × BeginsWith xs a → Contains arrays a
        from (is, b) =
            let count = entry_count a is.array in
            let e = is.diameter in
            let s = start.short in
            let next = longer xs a b (omega arith) in
            let less = entry_below d k n a start.limits is xs next.0 next.1 in
            (below.exactly a).1 (is, (next.0, omega arith, next.1))

pub next_beginning : (d k n : ℕ) (xs : List ℕ) (v : ℕ) → IsBeginning d k n xs → ¬ (length xs ≡ d + d) → IsBeginning d k n (xs ++ v ∷ [])
next_beginning d k n xs v start not =
    let l = length-append xs (v ∷ []) in
    let s = start.short in
    let o = start.some in
    record {
      limits = start.limits;
      some = omega arith;
      short = omega arith;
      valency = get_or_append_left xs (v ∷ []) 0 0 (omega arith) ∙ start.valency;
    }

pub first_beginning : (d k n : ℕ) → IsWithinLimits d k n → IsBeginning d k n (k ∷ [])
first_beginning d k n limits = let s = limits.some_diameter in record { limits = limits; some = omega arith; short = omega arith; valency = refl }

-- each array of the census begins with the valency
pub all_from_valency : (d k n : ℕ) (arrays : List Entries) → IsWithinLimits d k n → AreAllFrom d k n (k ∷ []) arrays → IsCensus d k n arrays
all_from_valency d k n arrays limits from = record {
  exactly = λ a. (λ c. ((from.exactly a).0 c).0, λ is. (from.exactly a).1 (is, begins a is));
  ascending = from.ascending;
}
  where
    begins : (a : Entries) → InCensus d k n a → BeginsWith (k ∷ []) a
    begins a is = go a.b refl
      where
        go : (b : List ℕ) → a.b ≡ b → BeginsWith (k ∷ []) a
        go [] e = let s = is.array.some in let z : length a.b ≡ 0 = ap length e in absurd (omega arith)
        go (x ∷ b) e =
            let v : x ≡ k = sym (ap (λ (t : List ℕ). slice_index t 0) e) ∙ is.valency in
            (b ++ a.c, ap (λ t. t ++ a.c) e ∙ ap (λ (t : ℕ). t ∷ (b ++ a.c)) v)
