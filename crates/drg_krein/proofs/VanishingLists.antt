-- The list of vanishing parameters while it is made: between two places that follow one another nothing vanishes, and one
-- that does is appended.
use Rattle.std.proofs.Common.{◌≡◌, ℕ, suc, ◌<◌, List, [], ◌∷◌, ◌++◌, length, get_or, refl, ap, sym, subst, arith, ◌⊎◌, inl, inr}
use Rattle.std.specs.Prelude.{◌↔◌, Contains}
use Rattle.std.proofs.lemmas.List.Elements.{Contains-append_left, Contains-push, Contains-push_cases, Contains-get_or}
use Rattle.std.proofs.lemmas.List.Quantifiers.{all_pairs_push}
use Rattle.drg_fraction.specs.Operations.{Operations}
use Rattle.drg_krein.specs.Faults.{ComesBefore}
use Rattle.drg_krein.specs.Tables.{KreinTables}
use Rattle.drg_krein.specs.Vanishing.{IsEarlier, Vanishes, NamesVanishing, AreVanishing, AreVanishingBefore}
use Rattle.drg_krein.proofs.Orders.{same_or_before}

-- three indices together
abbrev triple : ℕ → ℕ → ℕ → ℕ × ℕ × ℕ
triple i j h = (i, j, h)

module _ {A V : Type 0} (value : A → V) (operations : ℕ → Operations V) (t : KreinTables A) where
  abbrev Names : ℕ → ℕ → ℕ → Type 0
  Names = NamesVanishing value operations t

  abbrev Before : ℕ → ℕ → ℕ → List (ℕ × ℕ × ℕ) → Type 0
  Before = AreVanishingBefore value operations t

  -- ---- from one place to another
  moved : (k l m n o p : ℕ) (found : List (ℕ × ℕ × ℕ)) → Before k l m found
      → ((i j h : ℕ) → Names i j h → ComesBefore i j h k l m → ComesBefore i j h n o p)
      → ((i j h : ℕ) → Names i j h → ComesBefore i j h n o p → ComesBefore i j h k l m)
      → Before n o p found
  moved k l m n o p found b on back = record {
    members = λ i j h. (
      λ c. (let s = (b.members i j h).0 c in (s.0, on i j h s.0 s.1)),
      λ s. (b.members i j h).1 (s.0, back i j h s.0 s.1),
    );
    ascending = b.ascending;
  }

  pub vanishing_none : (found : List (ℕ × ℕ × ℕ)) → found ≡ [] → Before 1 0 0 found
  vanishing_none found e = subst (Before 1 0 0) (sym e) (record { members = members; ascending = λ i j d g h. absurd (omega arith) })
    where
      never : (i j h : ℕ) → Names i j h → ComesBefore i j h 1 0 0 → ⊥
      never i j h s (inl g) = let low = s.some.0 in absurd (omega arith)
      never i j h s (inr (f, inl g)) = absurd (omega arith)
      never i j h s (inr (f, inr (g, k))) = absurd (omega arith)

      members : (i j h : ℕ) → Contains [] (triple i j h) ↔ (Names i j h × ComesBefore i j h 1 0 0)
      members i j h = (λ (k, l, q). absurd (omega arith), λ s. absurd (never i j h s.0 s.1))

  -- no j and no h below 1 counts
  pub vanishing_first : (k : ℕ) (found : List (ℕ × ℕ × ℕ)) → Before k 0 0 found → Before k 1 0 found
  vanishing_first k found b = moved k 0 0 k 1 0 found b on back
    where
      on : (i j h : ℕ) → Names i j h → ComesBefore i j h k 0 0 → ComesBefore i j h k 1 0
      on i j h s (inl g) = inl g
      on i j h s (inr (e, inl g)) = absurd (omega arith)
      on i j h s (inr (e, inr (f, g))) = absurd (omega arith)

      back : (i j h : ℕ) → Names i j h → ComesBefore i j h k 1 0 → ComesBefore i j h k 0 0
      back i j h s (inl g) = inl g
      back i j h s (inr (e, inl g)) = let low = s.some.1 in absurd (omega arith)
      back i j h s (inr (e, inr (f, g))) = absurd (omega arith)

  pub vanishing_second : (k l : ℕ) (found : List (ℕ × ℕ × ℕ)) → Before k l 0 found → Before k l 1 found
  vanishing_second k l found b = moved k l 0 k l 1 found b on back
    where
      on : (i j h : ℕ) → Names i j h → ComesBefore i j h k l 0 → ComesBefore i j h k l 1
      on i j h s (inl g) = inl g
      on i j h s (inr (e, inl g)) = inr (e, inl g)
      on i j h s (inr (e, inr (f, g))) = absurd (omega arith)

      back : (i j h : ℕ) → Names i j h → ComesBefore i j h k l 1 → ComesBefore i j h k l 0
      back i j h s (inl g) = inl g
      back i j h s (inr (e, inl g)) = inr (e, inl g)
      back i j h s (inr (e, inr (f, g))) = let low = s.some.2 in absurd (omega arith)

  -- no j and no h above d counts
  pub vanishing_pair : (k l m n : ℕ) (found : List (ℕ × ℕ × ℕ)) → m ≡ suc t.d → n ≡ suc l → Before k l m found → Before k n 0 found
  vanishing_pair k l m n found e f b = moved k l m k n 0 found b on back
    where
      on : (i j h : ℕ) → Names i j h → ComesBefore i j h k l m → ComesBefore i j h k n 0
      on i j h s (inl g) = inl g
      on i j h s (inr (p, inl g)) = inr (p, inl (omega arith))
      on i j h s (inr (p, inr (q, g))) = inr (p, inl (omega arith))

      back : (i j h : ℕ) → Names i j h → ComesBefore i j h k n 0 → ComesBefore i j h k l m
      back i j h s (inl g) = inl g
      back i j h s (inr (p, inl g)) =
          let high = s.inside.2 in
          elim (same_or_before j l (omega arith)) [
            | inl less ↦ inr (p, inl less)
            | inr same ↦ inr (p, inr (same, omega arith))
          ]
      back i j h s (inr (p, inr (q, g))) = absurd (omega arith)

  pub vanishing_all_of : (k l n : ℕ) (found : List (ℕ × ℕ × ℕ)) → l ≡ suc t.d → n ≡ suc k → Before k l 0 found → Before n 0 0 found
  vanishing_all_of k l n found e f b = moved k l 0 n 0 0 found b on back
    where
      on : (i j h : ℕ) → Names i j h → ComesBefore i j h k l 0 → ComesBefore i j h n 0 0
      on i j h s (inl g) = inl (omega arith)
      on i j h s (inr (p, q)) = inl (omega arith)

      back : (i j h : ℕ) → Names i j h → ComesBefore i j h n 0 0 → ComesBefore i j h k l 0
      back i j h s (inl g) =
          let high = s.inside.1 in
          elim (same_or_before i k (omega arith)) [
            | inl less ↦ inl less
            | inr same ↦ inr (same, inl (omega arith))
          ]
      back i j h s (inr (p, inl g)) = absurd (omega arith)
      back i j h s (inr (p, inr (q, g))) = absurd (omega arith)

  pub vanishing_all : (k : ℕ) (found : List (ℕ × ℕ × ℕ)) → k ≡ suc t.d → Before k 0 0 found → AreVanishing value operations t found
  vanishing_all k found e b = record {
    members = λ i j h. (
      λ c. ((b.members i j h).0 c).0,
      λ s. (b.members i j h).1 (s, inl (let high = s.inside.0 in omega arith)),
    );
    ascending = b.ascending;
  }

  -- ---- one place more
  later : (k l m n : ℕ) → n ≡ suc m → (i j h : ℕ) → ComesBefore i j h k l m → ComesBefore i j h k l n
  later k l m n e i j h (inl g) = inl g
  later k l m n e i j h (inr (p, inl g)) = inr (p, inl g)
  later k l m n e i j h (inr (p, inr (q, g))) = inr (p, inr (q, omega arith))

  here_or_before : (k l m n : ℕ) → n ≡ suc m → (i j h : ℕ) → ComesBefore i j h k l n
      → ComesBefore i j h k l m ⊎ ((i ≡ k) × (j ≡ l) × (h ≡ m))
  here_or_before k l m n e i j h (inl g) = inl (inl g)
  here_or_before k l m n e i j h (inr (p, inl g)) = inl (inr (p, inl g))
  here_or_before k l m n e i j h (inr (p, inr (q, g))) =
      elim (same_or_before h m (omega arith)) [
        | inl less ↦ inl (inr (p, inr (q, less)))
        | inr same ↦ inr (p, q, same)
      ]

  same_names : (i j h k l m : ℕ) → i ≡ k → j ≡ l → h ≡ m → triple i j h ≡ triple k l m
  same_names i j h k l m p q r =
      subst (λ (x : ℕ). triple i j h ≡ triple x l m) p (subst (λ (x : ℕ). triple i j h ≡ triple i x m) q (ap (triple i j) r))

  module _ (k l m n : ℕ) (next : n ≡ suc m) (found : List (ℕ × ℕ × ℕ)) (b : Before k l m found) where
    -- what doesn't vanish isn't named
    pub vanishing_skip : ¬ Vanishes value operations t k l m → Before k l n found
    vanishing_skip not = moved k l m k l n found b (λ i j h s c. later k l m n next i j h c) back
      where
        back : (i j h : ℕ) → Names i j h → ComesBefore i j h k l n → ComesBefore i j h k l m
        back i j h s c =
            elim (here_or_before k l m n next i j h c) [
              | inl less ↦ less
              | inr here ↦ absurd (not (subst (λ (x : ℕ). Vanishes value operations t x l m) here.0
                  (subst (λ (x : ℕ). Vanishes value operations t i x m) here.1
                  (subst (λ (x : ℕ). Vanishes value operations t i j x) here.2 s.vanishes))))
            ]

    -- each index of the list comes before the place
    before_here : (p : ℕ) (d : ℕ × ℕ × ℕ) → p < length found → IsEarlier (get_or found p d) (triple k l m)
    before_here p d g =
        let s = get_or found p d in
        ((b.members s.0 s.1 s.2).0 (Contains-get_or found p d g)).1

    -- what vanishes is appended
    pub vanishing_push : (more : List (ℕ × ℕ × ℕ)) → more ≡ found ++ triple k l m ∷ [] → Names k l m → Before k l n more
    vanishing_push more e named = subst (Before k l n) (sym e) (record { members = members; ascending = all_pairs_push IsEarlier found (triple k l m) b.ascending before_here })
      where
        to : (i j h : ℕ) → Contains found (triple i j h) ⊎ (triple k l m ≡ triple i j h) → Names i j h × ComesBefore i j h k l n
        to i j h (inl c) = let s = (b.members i j h).0 c in (s.0, later k l m n next i j h s.1)
        to i j h (inr same) =
            subst (λ (s : ℕ × ℕ × ℕ). Names s.0 s.1 s.2 × ComesBefore s.0 s.1 s.2 k l n) same (named, inr (refl, inr (refl, omega arith)))

        from : (i j h : ℕ) → Names i j h → ComesBefore i j h k l m ⊎ ((i ≡ k) × (j ≡ l) × (h ≡ m)) → Contains (found ++ triple k l m ∷ []) (triple i j h)
        from i j h s (inl less) = Contains-append_left found (triple k l m ∷ []) (triple i j h) ((b.members i j h).1 (s, less))
        from i j h s (inr here) =
            subst (Contains (found ++ triple k l m ∷ [])) (sym (same_names i j h k l m here.0 here.1 here.2)) (Contains-push found (triple k l m))

        members : (i j h : ℕ) → Contains (found ++ triple k l m ∷ []) (triple i j h) ↔ (Names i j h × ComesBefore i j h k l n)
        members i j h = (
          λ c. to i j h (Contains-push_cases found (triple k l m) (triple i j h) c),
          λ s. from i j h s.0 (here_or_before k l m n next i j h s.1),
        )
