-- The orderings that a search has found, those with a first index below a bound.
use Rattle.std.proofs.Common.{◌≡◌, ℕ, ◌+◌, ◌<◌, ◌⊎◌, inl, inr, List, [], ◌∷◌, ◌++◌, length, get_or, map, sym, ◌∙◌, ap, subst, arith, length-append}
use Rattle.std.specs.Prelude.{Contains, ◌↔◌}
use Rattle.std.specs.List.Sorted.{IsStrictlyIncreasing}
use Rattle.std.proofs.Math.ListN.{get_or-append}
use Rattle.std.proofs.Math.Seq.{get_or-append_seam}
use Rattle.std.proofs.lemmas.List.{get_or-map, length-map, map-append}
use Rattle.std.proofs.lemmas.List.Elements.{Contains-append_left, Contains-push, Contains-push_cases, Contains-get_or}
use Rattle.drg_orderings.specs.Orderings.{index_at, IsOrdering, AreOrderings}
use Rattle.drg_orderings.specs.Search.{IsTheOrdering, NoneBegins}
use Rattle.drg_orderings.proofs.Pigeons.{same_or_not}

-- The first index.
abbrev first_of : List ℕ → ℕ
first_of order = index_at order 1

-- The orderings with a first index below the bound.
abbrev pub IsBelow : ℕ → (ℕ → ℕ → ℕ → Type 0) → ℕ → List ℕ → Type 0
IsBelow d Z bound order = IsOrdering d Z order × (index_at order 1 < bound)

-- A greater number at the end of an increasing list keeps it increasing.
increasing_more : (xs : List ℕ) (x : ℕ) → IsStrictlyIncreasing xs → ((k : ℕ) → k < length xs → get_or xs k 0 < x)
    → IsStrictlyIncreasing (xs ++ x ∷ [])
increasing_more xs x up above k l = go (same_or_not (k + 1) (length xs))
  where
    longer : length (xs ++ x ∷ []) ≡ length xs + 1
    longer = simp length-append

    here : k < length xs → get_or (xs ++ x ∷ []) k 0 ≡ get_or xs k 0
    here m = get_or-append xs (x ∷ []) 0 k m

    go : (k + 1 ≡ length xs) ⊎ (¬ (k + 1 ≡ length xs)) → get_or (xs ++ x ∷ []) k 0 < get_or (xs ++ x ∷ []) (k + 1) 0
    go (inl e) =
        let a = above k (omega arith) in
        let b = here (omega arith) in
        let c : get_or (xs ++ x ∷ []) (k + 1) 0 ≡ x = ap (λ n. get_or (xs ++ x ∷ []) n 0) e ∙ get_or-append_seam xs x [] 0 in
        omega arith
    go (inr f) =
        let m : k + 1 < length xs = (let n = longer in omega arith) in
        let a = up k m in
        let b = here (omega arith) in
        let c = get_or-append xs (x ∷ []) 0 (k + 1) m in
        omega arith

module _ (d : ℕ) (Z : ℕ → ℕ → ℕ → Type 0) where
  -- No ordering has a first index below 1.
  pub none_below : AreOrderings (IsBelow d Z 1) []
  none_below = record { members = members; ascending = λ k l. absurd (omega arith) }
    where
      members : (order : List ℕ) → Contains [] order ↔ IsBelow d Z 1 order
      members order = (λ (k, l, e). absurd (omega arith), never)
        where
          never : IsBelow d Z 1 order → Contains [] order
          never (o, l) =
              let some = o.some in
              let same = o.once 1 0 (omega arith) (omega arith) (omega arith) in
              absurd (omega arith)

  -- Without an ordering at the bound, those below are those below the next bound.
  pub no_more : (n : ℕ) (found : List (List ℕ)) → AreOrderings (IsBelow d Z n) found → NoneBegins d Z n
      → AreOrderings (IsBelow d Z (n + 1)) found
  no_more n found a none = record { members = members; ascending = a.ascending }
    where
      members : (order : List ℕ) → Contains found order ↔ IsBelow d Z (n + 1) order
      members order = (to, from)
        where
          to : Contains found order → IsBelow d Z (n + 1) order
          to m = let b = (a.members order).0 m in (b.0, (let l = b.1 in omega arith))

          from : IsBelow d Z (n + 1) order → Contains found order
          from (o, l) = (a.members order).1 (o, (let no : ¬ (index_at order 1 ≡ n) = none order o in omega arith))

  -- With the ordering at the bound they are those below the next bound.
  pub one_more : (n : ℕ) (found : List (List ℕ)) (order : List ℕ) → AreOrderings (IsBelow d Z n) found → IsTheOrdering d Z n order
      → AreOrderings (IsBelow d Z (n + 1)) (found ++ order ∷ [])
  one_more n found order a t = record { members = members; ascending = ascending }
    where
      members : (other : List ℕ) → Contains (found ++ order ∷ []) other ↔ IsBelow d Z (n + 1) other
      members other = (λ m. to (Contains-push_cases found order other m), λ (o, l). from o l (same_or_not (index_at other 1) n))
        where
          to : Contains found other ⊎ (order ≡ other) → IsBelow d Z (n + 1) other
          to (inl m) = let b = (a.members other).0 m in (b.0, (let l = b.1 in omega arith))
          to (inr e) =
              let P : List ℕ → Type 0 = λ v. IsBelow d Z (n + 1) v in
              subst P e (t.is, (let b = t.begins in omega arith))

          from : IsOrdering d Z other → index_at other 1 < n + 1 → (index_at other 1 ≡ n) ⊎ (¬ (index_at other 1 ≡ n))
              → Contains (found ++ order ∷ []) other
          from o l (inl e) =
              let P : List ℕ → Type 0 = λ v. Contains (found ++ order ∷ []) v in
              subst P (sym (t.alone other o e)) (Contains-push found order)
          from o l (inr f) = Contains-append_left found (order ∷ []) other ((a.members other).1 (o, omega arith))

      below : (k : ℕ) → k < length (map first_of found) → get_or (map first_of found) k 0 < first_of order
      below k l =
          let m : k < length found = (let e = length-map found first_of in omega arith) in
          let e = get_or-map first_of found k [] 0 m in
          let b = ((a.members (get_or found k [])).0 (Contains-get_or found k [] m)).1 in
          let c = t.begins in
          omega arith

      ascending : IsStrictlyIncreasing (map first_of (found ++ order ∷ []))
      ascending =
          let P : List ℕ → Type 0 = λ v. IsStrictlyIncreasing v in
          subst P (sym (map-append first_of found (order ∷ [])))
          (increasing_more (map first_of found) (first_of order) a.ascending below)

  -- Those with a first index below d + 1 are all.
  pub all_below : (found : List (List ℕ)) → AreOrderings (IsBelow d Z (d + 1)) found → AreOrderings (IsOrdering d Z) found
  all_below found a = record {
    members = λ order. (λ m. ((a.members order).0 m).0, λ o. (a.members order).1 (o, (let s = o.some in let w = o.within 1 s in omega arith)));
    ascending = a.ascending;
  }
