-- The list of live types while it is made: between two places that follow one another no type is live, and one that is live
-- is appended.
use Rattle.std.proofs.Common.{◌≡◌, ℕ, suc, ◌<◌, Bool, true, false, List, [], ◌∷◌, ◌++◌, length, get_or, refl, sym, ◌∙◌, subst, arith, ◌⊎◌, inl, inr}
use Rattle.std.specs.Prelude.{◌↔◌, Contains, ℤ, pos, int_lt, ◌<ℤ◌}
use Rattle.std.proofs.lemmas.Int.{ints}
use Rattle.std.proofs.lemmas.Bool.{cases_lt}
use Rattle.std.proofs.lemmas.List.Elements.{Contains-append_left, Contains-push, Contains-push_cases, Contains-get_or}
use Rattle.std.proofs.lemmas.List.Quantifiers.{all_pairs_push}
use Rattle.drg_intersection.specs.Numbers.{Numbers}
use Rattle.drg_linear.specs.declared.triple.TripleType.{TripleType}
use Rattle.drg_triple_numbers.specs.TripleNumbers.{IsLive}
use Rattle.drg_triples.specs.LiveTypes.{number_in, IsLiveType, IsEarlier, AreLiveTypes, AreLiveBefore}

same_or_before : (m n : ℕ) → m < suc n → (m < n) ⊎ (m ≡ n)
same_or_before m n h =
    elim (cases_lt m n) [
      | inl less ↦ inl less
      | inr more ↦ inr (omega arith)
    ]

-- a test for positive numbers
where_true : (z : ℤ) → int_lt (pos 0) z ≡ true → pos 0 <ℤ z
where_true z h = omega (arith, ints)

where_false : (z : ℤ) → int_lt (pos 0) z ≡ false → pos 0 <ℤ z → ⊥
where_false z h k = absurd (omega (arith, ints))

pub is_positive : (z y x : ℤ) → z ≡ y → y ≡ x → int_lt (pos 0) z ≡ true → pos 0 <ℤ x
is_positive z y x e f h = subst (λ z. pos 0 <ℤ z) (e ∙ f) (where_true z h)

pub not_positive : (z y x : ℤ) → z ≡ y → y ≡ x → int_lt (pos 0) z ≡ false → pos 0 <ℤ x → ⊥
not_positive z y x e f h k = where_false z h (subst (λ z. pos 0 <ℤ z) (sym (e ∙ f)) k)

abbrev place : ℕ → ℕ → ℕ → TripleType
place u v w = record { u = u; v = v; w = w }

same_place : (ty : TripleType) (u v w : ℕ) → ty.u ≡ u → ty.v ≡ v → ty.w ≡ w → Path TripleType ty (place u v w)
same_place ty u v w e f g i = record { u = e i; v = f i; w = g i }

module _ (numbers : Numbers) where
  -- ---- from one place to another
  moved : (k l m n o p : ℕ) (found : List TripleType) → AreLiveBefore numbers k l m found
      → ((ty : TripleType) → IsLiveType numbers ty → IsEarlier ty (place k l m) → IsEarlier ty (place n o p))
      → ((ty : TripleType) → IsLiveType numbers ty → IsEarlier ty (place n o p) → IsEarlier ty (place k l m))
      → AreLiveBefore numbers n o p found
  moved k l m n o p found b on back = record {
    members = λ ty. (
      λ c. (let s = (b.members ty).0 c in (s.0, on ty s.0 s.1)),
      λ s. (b.members ty).1 (s.0, back ty s.0 s.1),
    );
    ascending = b.ascending;
  }

  pub live_none : (found : List TripleType) → found ≡ [] → AreLiveBefore numbers 1 0 0 found
  live_none found e = subst (AreLiveBefore numbers 1 0 0) (sym e) (record { members = members; ascending = λ i j d g h. absurd (omega arith) })
    where
      never : (ty : TripleType) → IsLiveType numbers ty → IsEarlier ty (place 1 0 0) → ⊥
      never ty s (inl g) = let low = s.some in absurd (omega arith)
      never ty s (inr (f, inl g)) = absurd (omega arith)
      never ty s (inr (f, inr (g, k))) = absurd (omega arith)

      members : (ty : TripleType) → Contains [] ty ↔ (IsLiveType numbers ty × IsEarlier ty (place 1 0 0))
      members ty = (λ (k, l, q). absurd (omega arith), λ s. absurd (never ty s.0 s.1))

  -- no V below U counts, and no W below V
  pub live_first : (k : ℕ) (found : List TripleType) → AreLiveBefore numbers k 0 0 found → AreLiveBefore numbers k k 0 found
  live_first k found b = moved k 0 0 k k 0 found b on back
    where
      on : (ty : TripleType) → IsLiveType numbers ty → IsEarlier ty (place k 0 0) → IsEarlier ty (place k k 0)
      on ty s (inl g) = inl g
      on ty s (inr (e, inl g)) = absurd (omega arith)
      on ty s (inr (e, inr (f, g))) = absurd (omega arith)

      back : (ty : TripleType) → IsLiveType numbers ty → IsEarlier ty (place k k 0) → IsEarlier ty (place k 0 0)
      back ty s (inl g) = inl g
      back ty s (inr (e, inl g)) = let low = s.first in absurd (omega arith)
      back ty s (inr (e, inr (f, g))) = absurd (omega arith)

  pub live_second : (k l : ℕ) (found : List TripleType) → AreLiveBefore numbers k l 0 found → AreLiveBefore numbers k l l found
  live_second k l found b = moved k l 0 k l l found b on back
    where
      on : (ty : TripleType) → IsLiveType numbers ty → IsEarlier ty (place k l 0) → IsEarlier ty (place k l l)
      on ty s (inl g) = inl g
      on ty s (inr (e, inl g)) = inr (e, inl g)
      on ty s (inr (e, inr (f, g))) = absurd (omega arith)

      back : (ty : TripleType) → IsLiveType numbers ty → IsEarlier ty (place k l l) → IsEarlier ty (place k l 0)
      back ty s (inl g) = inl g
      back ty s (inr (e, inl g)) = inr (e, inl g)
      back ty s (inr (e, inr (f, g))) = let low = s.second in absurd (omega arith)

  -- no W and no V above d counts
  pub live_pair : (k l m n : ℕ) (found : List TripleType) → m ≡ suc numbers.d → n ≡ suc l → AreLiveBefore numbers k l m found → AreLiveBefore numbers k n 0 found
  live_pair k l m n found e f b = moved k l m k n 0 found b on back
    where
      on : (ty : TripleType) → IsLiveType numbers ty → IsEarlier ty (place k l m) → IsEarlier ty (place k n 0)
      on ty s (inl g) = inl g
      on ty s (inr (p, inl g)) = inr (p, inl (omega arith))
      on ty s (inr (p, inr (q, g))) = inr (p, inl (omega arith))

      back : (ty : TripleType) → IsLiveType numbers ty → IsEarlier ty (place k n 0) → IsEarlier ty (place k l m)
      back ty s (inl g) = inl g
      back ty s (inr (p, inl g)) =
          let high = s.inside in
          elim (same_or_before ty.v l (omega arith)) [
            | inl less ↦ inr (p, inl less)
            | inr same ↦ inr (p, inr (same, omega arith))
          ]
      back ty s (inr (p, inr (q, g))) = absurd (omega arith)

  pub live_all_of : (k l n : ℕ) (found : List TripleType) → l ≡ suc numbers.d → n ≡ suc k → AreLiveBefore numbers k l 0 found → AreLiveBefore numbers n 0 0 found
  live_all_of k l n found e f b = moved k l 0 n 0 0 found b on back
    where
      on : (ty : TripleType) → IsLiveType numbers ty → IsEarlier ty (place k l 0) → IsEarlier ty (place n 0 0)
      on ty s (inl g) = inl (omega arith)
      on ty s (inr (p, q)) = inl (omega arith)

      back : (ty : TripleType) → IsLiveType numbers ty → IsEarlier ty (place n 0 0) → IsEarlier ty (place k l 0)
      back ty s (inl g) =
          let below = s.second in
          let high = s.inside in
          elim (same_or_before ty.u k (omega arith)) [
            | inl less ↦ inl less
            | inr same ↦ inr (same, inl (omega arith))
          ]
      back ty s (inr (p, inl g)) = absurd (omega arith)
      back ty s (inr (p, inr (q, g))) = absurd (omega arith)

  pub live_all : (k : ℕ) (found : List TripleType) → k ≡ suc numbers.d → AreLiveBefore numbers k 0 0 found → AreLiveTypes numbers found
  live_all k found e b = record {
    members = λ ty. (
      λ c. ((b.members ty).0 c).0,
      λ s. (b.members ty).1 (s, inl (let low = s.first in let below = s.second in let high = s.inside in omega arith)),
    );
    ascending = b.ascending;
  }

  -- ---- one place more
  later : (k l m n : ℕ) → n ≡ suc m → (ty : TripleType) → IsEarlier ty (place k l m) → IsEarlier ty (place k l n)
  later k l m n e ty (inl g) = inl g
  later k l m n e ty (inr (p, inl g)) = inr (p, inl g)
  later k l m n e ty (inr (p, inr (q, g))) = inr (p, inr (q, omega arith))

  here_or_before : (k l m n : ℕ) → n ≡ suc m → (ty : TripleType) → IsEarlier ty (place k l n)
      → IsEarlier ty (place k l m) ⊎ (ty ≡ place k l m)
  here_or_before k l m n e ty (inl g) = inl (inl g)
  here_or_before k l m n e ty (inr (p, inl g)) = inl (inr (p, inl g))
  here_or_before k l m n e ty (inr (p, inr (q, g))) =
      elim (same_or_before ty.w m (omega arith)) [
        | inl less ↦ inl (inr (p, inr (q, less)))
        | inr same ↦ inr (same_place ty k l m p q same)
      ]

  module _ (k l m n : ℕ) (next : n ≡ suc m) (found : List TripleType) (b : AreLiveBefore numbers k l m found) where
    -- a type that isn't live isn't named
    pub live_skip : ¬ IsLive (number_in numbers) (place k l m) → AreLiveBefore numbers k l n found
    live_skip not = moved k l m k l n found b (λ ty s c. later k l m n next ty c) back
      where
        back : (ty : TripleType) → IsLiveType numbers ty → IsEarlier ty (place k l n) → IsEarlier ty (place k l m)
        back ty s c =
            elim (here_or_before k l m n next ty c) [
              | inl less ↦ less
              | inr here ↦ absurd (not (subst (IsLive (number_in numbers)) here s.live))
            ]

    -- each type of the list comes before the place
    before_here : (p : ℕ) (d : TripleType) → p < length found → IsEarlier (get_or found p d) (place k l m)
    before_here p d g = ((b.members (get_or found p d)).0 (Contains-get_or found p d g)).1

    -- a live type is appended
    pub live_push : (more : List TripleType) → more ≡ found ++ place k l m ∷ [] → IsLiveType numbers (place k l m) → AreLiveBefore numbers k l n more
    live_push more e named =
        subst (AreLiveBefore numbers k l n) (sym e) (record { members = members; ascending = all_pairs_push IsEarlier found (place k l m) b.ascending before_here })
      where
        to : (ty : TripleType) → Contains found ty ⊎ (place k l m ≡ ty) → IsLiveType numbers ty × IsEarlier ty (place k l n)
        to ty (inl c) = let s = (b.members ty).0 c in (s.0, later k l m n next ty s.1)
        to ty (inr same) =
            subst (λ (s : TripleType). IsLiveType numbers s × IsEarlier s (place k l n)) same (named, inr (refl, inr (refl, omega arith)))

        from : (ty : TripleType) → IsLiveType numbers ty → IsEarlier ty (place k l m) ⊎ (ty ≡ place k l m) → Contains (found ++ place k l m ∷ []) ty
        from ty s (inl less) = Contains-append_left found (place k l m ∷ []) ty ((b.members ty).1 (s, less))
        from ty s (inr here) =
            subst (Contains (found ++ place k l m ∷ [])) (sym here) (Contains-push found (place k l m))

        members : (ty : TripleType) → Contains (found ++ place k l m ∷ []) ty ↔ (IsLiveType numbers ty × IsEarlier ty (place k l n))
        members ty = (
          λ c. to ty (Contains-push_cases found (place k l m) ty c),
          λ s. from ty s.0 (here_or_before k l m n next ty s.1),
        )
