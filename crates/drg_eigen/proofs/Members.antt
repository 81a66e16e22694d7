-- The members of a list, from its head on.
use Rattle.std.proofs.Common.{◌≡◌, ◌<◌, arith, List, [], ◌∷◌, ◌⊎◌, inl, inr}
use Rattle.std.specs.Prelude.{Contains}
use Rattle.std.proofs.lemmas.List.Elements.{Contains-push, Contains-append_left, Contains-append_right, Contains-append_cases, Contains-push_cases}

module _ {X : Type 0} where
  pub in_none : (x : X) → ¬ Contains {X = X} [] x
  in_none x h = (let k : h.0 < 0 = h.1 in omega arith)

  pub in_cons : (y : X) (l : List X) (x : X) → Contains (y ∷ l) x → (y ≡ x) ⊎ Contains l x
  in_cons y l x h = go (Contains-append_cases (y ∷ []) l x h)
    where
      one : Contains [] x ⊎ (y ≡ x) → y ≡ x
      one (inl n) = absurd (in_none x n)
      one (inr e) = e

      go : Contains (y ∷ []) x ⊎ Contains l x → (y ≡ x) ⊎ Contains l x
      go (inl h) = inl (one (Contains-push_cases [] y x h))
      go (inr h) = inr h

  pub in_head : (x : X) (l : List X) → Contains (x ∷ l) x
  in_head x l = Contains-append_left (x ∷ []) l x (Contains-push [] x)

  pub in_tail : (y : X) (l : List X) (x : X) → Contains l x → Contains (y ∷ l) x
  in_tail y l x h = Contains-append_right (y ∷ []) l x h
