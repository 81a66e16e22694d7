-- Ascending lists of the numbers in a range that have a property.
use Rattle.std.proofs.Common.{◌≡◌, ℕ, zero, suc, ◌+◌, ◌<◌, ◌≤◌, List, [], ◌∷◌, ◌++◌, length, get_or, refl, ap, ap₂, sym, ◌∙◌, subst, arith, length-append, ◌⊎◌, inl, inr}
use Rattle.std.specs.Prelude.{◌↔◌, Contains}
use Rattle.std.specs.List.{AllPairs}
use Rattle.std.proofs.lemmas.Bool.{cases_lt}
use Rattle.std.proofs.lemmas.List.Elements.{Contains-append_left, Contains-push, Contains-push_cases, Contains-get_or}
use Rattle.std.proofs.lemmas.List.Quantifiers.{all_pairs_push}

abbrev pub IsAscending : List ℕ → Type 0
IsAscending = AllPairs (λ g h. g < h)

pub same_or_before : (m n : ℕ) → m < suc n → (m < n) ⊎ (m ≡ n)
same_or_before m n h =
    elim (cases_lt m n) [
      | inl less ↦ inl less
      | inr more ↦ inr (omega arith)
    ]

contains_here : (x : ℕ) (xs : List ℕ) → Contains (x ∷ xs) x
contains_here x xs = (zero, omega arith, refl)

contains_later : (x y : ℕ) (xs : List ℕ) → Contains xs y → Contains (x ∷ xs) y
contains_later x y xs (k, l, e) = (suc k, omega arith, e)

contains_cases : (x y : ℕ) (xs : List ℕ) → Contains (x ∷ xs) y → (x ≡ y) ⊎ Contains xs y
contains_cases x y xs (zero, l, e) = inl e
contains_cases x y xs (suc k, l, e) = inr (k, omega arith, e)

contains_none : (y : ℕ) → Contains [] y → ⊥
contains_none y (k, l, e) = absurd (omega arith)

least : (x y : ℕ) (xs : List ℕ) → IsAscending (x ∷ xs) → Contains xs y → x < y
least x y xs up (k, l, e) = subst (λ (z : ℕ). x < z) e (up zero (suc k) y (omega arith) (omega arith))

rest_ascends : (x : ℕ) (xs : List ℕ) → IsAscending (x ∷ xs) → IsAscending xs
rest_ascends x xs up i j d l m = up (suc i) (suc j) d (omega arith) (omega arith)

no_end : (xs : List ℕ) → xs ++ [] ≡ xs
no_end [] = refl
no_end (x ∷ xs) = ap (λ (zs : List ℕ). x ∷ zs) (no_end xs)

ends : (xs ys : List ℕ) → length ys ≡ 0 → xs ++ ys ≡ xs
ends xs [] e = no_end xs
ends xs (y ∷ ys) e = absurd (omega arith)

module _ (P : ℕ → Type 0) where
  -- the list has exactly the numbers from a on below b that have the property
  pub record IsSegment (a b : ℕ) (xs : List ℕ) : Type 0 where
    pub members : (h : ℕ) → Contains xs h ↔ ((a ≤ h) × (h < b) × P h)
    pub ascending : IsAscending xs

  tail : (a b x : ℕ) (xs : List ℕ) → IsSegment a b (x ∷ xs) → IsSegment (suc x) b xs
  tail a b x xs s = record { members = λ h. (to h, from h); ascending = rest_ascends x xs s.ascending }
    where
      to : (h : ℕ) → Contains xs h → (suc x ≤ h) × (h < b) × P h
      to h c =
          let m = (s.members h).0 (contains_later x h xs c) in
          let above = least x h xs s.ascending c in
          (omega arith, m.1, m.2)

      from : (h : ℕ) → (suc x ≤ h) × (h < b) × P h → Contains xs h
      from h p =
          let low = ((s.members x).0 (contains_here x xs)).0 in
          let above = p.0 in
          elim (contains_cases x h xs ((s.members h).1 (omega arith, p.1, p.2))) [
            | inl same ↦ absurd (omega arith)
            | inr later ↦ later
          ]

  -- those below n come first among those below e
  pub beginning : (hs full : List ℕ) (a n e : ℕ) → n ≤ e → IsSegment a n hs → IsSegment a e full → (rest : List ℕ) × (full ≡ hs ++ rest)
  beginning [] full a n e l s t = (full, refl)
  beginning (x ∷ hs) [] a n e l s t =
      let m = (s.members x).0 (contains_here x hs) in
      let below = m.1 in
      absurd (contains_none x ((t.members x).1 (m.0, omega arith, m.2)))
  beginning (x ∷ hs) (y ∷ full) a n e l s t =
      let r = beginning hs full (suc x) n e l (tail a n x hs s) (subst (λ (z : ℕ). IsSegment (suc z) e full) (sym same) (tail a e y full t)) in
      (r.0, ap₂ (λ (z : ℕ) (zs : List ℕ). z ∷ zs) (sym same) r.1)
    where
      of_x : (a ≤ x) × (x < n) × P x
      of_x = (s.members x).0 (contains_here x hs)

      of_y : (a ≤ y) × (y < e) × P y
      of_y = (t.members y).0 (contains_here y full)

      y_first : y ≤ x
      y_first =
          let below = of_x.1 in
          elim (contains_cases y x full ((t.members x).1 (of_x.0, omega arith, of_x.2))) [
            | inl equal ↦ omega arith
            | inr later ↦ (let less = least y x full t.ascending later in omega arith)
          ]

      x_first : x ≤ y
      x_first =
          let below = of_x.1 in
          let first = y_first in
          elim (contains_cases x y hs ((s.members y).1 (of_y.0, omega arith, of_y.2))) [
            | inl equal ↦ omega arith
            | inr later ↦ (let less = least x y hs s.ascending later in omega arith)
          ]

      same : x ≡ y
      same = let first = y_first in let also = x_first in omega arith

  -- there is one such list
  pub one_segment : (hs full : List ℕ) (a n : ℕ) → IsSegment a n hs → IsSegment a n full → full ≡ hs
  one_segment hs full a n s t =
      let p = beginning hs full a n n (omega arith) s t in
      let q = beginning full hs a n n (omega arith) t s in
      let one : length full ≡ length hs + length p.0 = ap length p.1 ∙ length-append hs p.0 in
      let two : length hs ≡ length full + length q.0 = ap length q.1 ∙ length-append full q.0 in
      p.1 ∙ ends hs p.0 (omega arith)

  pub segment_none : (a : ℕ) → IsSegment a a []
  segment_none a = record {
    members = λ h. (λ c. absurd (contains_none h c), λ p. (let low = p.0 in let high = p.1 in absurd (omega arith)));
    ascending = λ i j d l m. absurd (omega arith);
  }

  pub segment_skip : (a n : ℕ) (hs : List ℕ) → IsSegment a n hs → ¬ P n → IsSegment a (suc n) hs
  segment_skip a n hs s not = record { members = λ h. (to h, from h); ascending = s.ascending }
    where
      to : (h : ℕ) → Contains hs h → (a ≤ h) × (h < suc n) × P h
      to h c = let m = (s.members h).0 c in let below = m.1 in (m.0, omega arith, m.2)

      from : (h : ℕ) → (a ≤ h) × (h < suc n) × P h → Contains hs h
      from h p =
          elim (same_or_before h n p.1) [
            | inl less ↦ (s.members h).1 (p.0, less, p.2)
            | inr same ↦ absurd (not (subst P same p.2))
          ]

  pub segment_push : (a n : ℕ) (hs : List ℕ) → a ≤ n → IsSegment a n hs → P n → IsSegment a (suc n) (hs ++ n ∷ [])
  segment_push a n hs low s has = record {
    members = λ h. (λ c. to h (Contains-push_cases hs n h c), from h);
    ascending = all_pairs_push (λ g h. g < h) hs n s.ascending (λ k d l. ((s.members (get_or hs k d)).0 (Contains-get_or hs k d l)).1);
  }
    where
      to : (h : ℕ) → Contains hs h ⊎ (n ≡ h) → (a ≤ h) × (h < suc n) × P h
      to h (inl c) = let m = (s.members h).0 c in let below = m.1 in (m.0, omega arith, m.2)
      to h (inr e) = (omega arith, omega arith, subst P e has)

      from : (h : ℕ) → (a ≤ h) × (h < suc n) × P h → Contains (hs ++ n ∷ []) h
      from h p =
          elim (same_or_before h n p.1) [
            | inl less ↦ Contains-append_left hs (n ∷ []) h ((s.members h).1 (p.0, less, p.2))
            | inr same ↦ subst (Contains (hs ++ n ∷ [])) (sym same) (Contains-push hs n)
          ]
