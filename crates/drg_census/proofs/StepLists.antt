-- What lists of steps come to, one after the other.
use Rattle.std.proofs.Common.{◌≡◌, ℕ, zero, suc, ◌≤◌, ◌<◌, Bool, true, false, List, [], ◌∷◌, ◌++◌, refl, sym, ap, subst, ◌∙◌, arith, ◌⊎◌, inl, inr}
use Rattle.std.proofs.lemmas.List.{append-nil}
use Rattle.drg_census.specs.ClassicalWork.{AllPass, IsRefuted, IsWide, Step, steps_below}
use Rattle.drg_census.specs.ClassicalWork.Step.{Fits, Agrees}
use Rattle.drg_census.proofs.Small.{up_to}

pub pass_both : (xs ys : List Step) → AllPass xs → AllPass ys → AllPass (xs ++ ys)
pass_both [] ys h k = k
pass_both (Fits f ∷ xs) ys h k = (h.0, pass_both xs ys h.1 k)
pass_both (Agrees x y ∷ xs) ys h k = (h.0, pass_both xs ys h.1 k)

pub pass_first : (xs ys : List Step) → AllPass (xs ++ ys) → AllPass xs
pass_first [] ys h = tt
pass_first (Fits f ∷ xs) ys h = (h.0, pass_first xs ys h.1)
pass_first (Agrees x y ∷ xs) ys h = (h.0, pass_first xs ys h.1)

pub pass_second : (xs ys : List Step) → AllPass (xs ++ ys) → AllPass ys
pass_second [] ys h = h
pass_second (Fits f ∷ xs) ys h = pass_second xs ys h.1
pass_second (Agrees x y ∷ xs) ys h = pass_second xs ys h.1

pub wide_first : (xs ys : List Step) → IsWide xs → IsWide (xs ++ ys)
wide_first [] ys h = absurd h
wide_first (Fits f ∷ xs) ys (inl h) = inl h
wide_first (Fits f ∷ xs) ys (inr h) = inr (h.0, wide_first xs ys h.1)
wide_first (Agrees x y ∷ xs) ys h = (h.0, wide_first xs ys h.1)

pub wide_second : (xs ys : List Step) → AllPass xs → IsWide ys → IsWide (xs ++ ys)
wide_second [] ys h k = k
wide_second (Fits f ∷ xs) ys h k = inr (h.0, wide_second xs ys h.1 k)
wide_second (Agrees x y ∷ xs) ys h k = (h.0, wide_second xs ys h.1 k)

pub refuted_first : (xs ys : List Step) → IsRefuted xs → IsRefuted (xs ++ ys)
refuted_first [] ys h = absurd h
refuted_first (Fits f ∷ xs) ys h = (h.0, refuted_first xs ys h.1)
refuted_first (Agrees x y ∷ xs) ys (inl h) = inl h
refuted_first (Agrees x y ∷ xs) ys (inr h) = inr (h.0, refuted_first xs ys h.1)

pub refuted_second : (xs ys : List Step) → AllPass xs → IsRefuted ys → IsRefuted (xs ++ ys)
refuted_second [] ys h k = k
refuted_second (Fits f ∷ xs) ys h k = (h.0, refuted_second xs ys h.1 k)
refuted_second (Agrees x y ∷ xs) ys h k = inr (h.0, refuted_second xs ys h.1 k)

-- ---- a list comes to one of the three
pub pass_or_wide_not_refuted : (xs : List Step) → IsRefuted xs → AllPass xs → ⊥
pass_or_wide_not_refuted [] h k = h
pass_or_wide_not_refuted (Fits f ∷ xs) h k = pass_or_wide_not_refuted xs h.1 k.1
pass_or_wide_not_refuted (Agrees x y ∷ xs) (inl h) k = h k.0
pass_or_wide_not_refuted (Agrees x y ∷ xs) (inr h) k = pass_or_wide_not_refuted xs h.1 k.1

pub wide_not_passing : (xs : List Step) → IsWide xs → AllPass xs → ⊥
wide_not_passing [] h k = h
wide_not_passing (Fits f ∷ xs) (inl h) k = let e = k.0 in cc
wide_not_passing (Fits f ∷ xs) (inr h) k = wide_not_passing xs h.1 k.1
wide_not_passing (Agrees x y ∷ xs) h k = wide_not_passing xs h.1 k.1

pub wide_not_refuted : (xs : List Step) → IsWide xs → IsRefuted xs → ⊥
wide_not_refuted [] h k = h
wide_not_refuted (Fits f ∷ xs) (inl h) k = let e = k.0 in cc
wide_not_refuted (Fits f ∷ xs) (inr h) k = wide_not_refuted xs h.1 k.1
wide_not_refuted (Agrees x y ∷ xs) h (inl k) = k h.0
wide_not_refuted (Agrees x y ∷ xs) h (inr k) = wide_not_refuted xs h.1 k.1

-- all comparisons hold
abbrev pub AllAgree : List Step → Type 0
AllAgree [] = Unit {0}
AllAgree (Fits f ∷ xs) = AllAgree xs
AllAgree (Agrees x y ∷ xs) = (x ≡ y) × AllAgree xs

told : (f : Bool) → (f ≡ true) ⊎ (f ≡ false)
told true = inl refl
told false = inr refl

pub pass_or_wide : (xs : List Step) → AllAgree xs → AllPass xs ⊎ IsWide xs
pass_or_wide [] h = inl tt
pass_or_wide (Fits f ∷ xs) h = elim (told f) [
  | inl e ↦ elim (pass_or_wide xs h) [ inl p ↦ inl (e, p) | inr w ↦ inr (inr (e, w)) ]
  | inr e ↦ inr (inl e)
]
pass_or_wide (Agrees x y ∷ xs) h = elim (pass_or_wide xs h.1) [ inl p ↦ inl (h.0, p) | inr w ↦ inr (h.0, w) ]

pub agree_both : (xs ys : List Step) → AllAgree xs → AllAgree ys → AllAgree (xs ++ ys)
agree_both [] ys h k = k
agree_both (Fits f ∷ xs) ys h k = agree_both xs ys h k
agree_both (Agrees x y ∷ xs) ys h k = (h.0, agree_both xs ys h.1 k)

-- ---- the steps of 1, 2, ..
module _ (f : ℕ → List Step) where
  pub below_next : (i : ℕ) → 1 ≤ i → steps_below f (suc i) ≡ steps_below f i ++ f i
  below_next zero h = absurd (omega arith)
  below_next (suc i) h = refl

  pub pass_next : (i : ℕ) → 1 ≤ i → AllPass (steps_below f i) → AllPass (f i) → AllPass (steps_below f (suc i))
  pass_next i h p q = subst AllPass (sym (below_next i h)) (pass_both (steps_below f i) (f i) p q)

  wide_later : (i d : ℕ) → i ≤ d → IsWide (steps_below f i) → IsWide (steps_below f d)
  wide_later zero d h w = absurd w
  wide_later (suc zero) d h w = absurd w
  wide_later (suc (suc i)) zero h w = absurd (omega arith)
  wide_later (suc (suc i)) (suc zero) h w = absurd (omega arith)
  wide_later (suc (suc i)) (suc (suc d)) h w = elim (up_to (suc (suc i)) (suc d) h) [
    | inl less ↦ wide_first (steps_below f (suc d)) (f (suc d)) (wide_later (suc (suc i)) (suc d) less w)
    | inr same ↦ subst (λ t. IsWide (steps_below f t)) same w
  ]

  refuted_later : (i d : ℕ) → i ≤ d → IsRefuted (steps_below f i) → IsRefuted (steps_below f d)
  refuted_later zero d h w = absurd w
  refuted_later (suc zero) d h w = absurd w
  refuted_later (suc (suc i)) zero h w = absurd (omega arith)
  refuted_later (suc (suc i)) (suc zero) h w = absurd (omega arith)
  refuted_later (suc (suc i)) (suc (suc d)) h w = elim (up_to (suc (suc i)) (suc d) h) [
    | inl less ↦ refuted_first (steps_below f (suc d)) (f (suc d)) (refuted_later (suc (suc i)) (suc d) less w)
    | inr same ↦ subst (λ t. IsRefuted (steps_below f t)) same w
  ]

  pub wide_at : (i d : ℕ) → 1 ≤ i → i < d → AllPass (steps_below f i) → IsWide (f i) → IsWide (steps_below f d)
  wide_at i d h l p w = wide_later (suc i) d l (subst IsWide (sym (below_next i h)) (wide_second (steps_below f i) (f i) p w))

  pub refuted_at : (i d : ℕ) → 1 ≤ i → i < d → AllPass (steps_below f i) → IsRefuted (f i) → IsRefuted (steps_below f d)
  refuted_at i d h l p w = refuted_later (suc i) d l (subst IsRefuted (sym (below_next i h)) (refuted_second (steps_below f i) (f i) p w))

  pub pass_at : (i d : ℕ) → 1 ≤ i → i < d → AllPass (steps_below f d) → AllPass (f i)
  pass_at i zero h l p = absurd (omega arith)
  pass_at i (suc zero) h l p = absurd (omega arith)
  pass_at i (suc (suc d)) h l p = elim (up_to i d (omega arith)) [
    | inl less ↦ pass_at i (suc d) h (omega arith) (pass_first (steps_below f (suc d)) (f (suc d)) p)
    | inr same ↦ subst (λ t. AllPass (f t)) (sym same) (pass_second (steps_below f (suc d)) (f (suc d)) p)
  ]

  pub agree_below : (d : ℕ) → ((i : ℕ) → 1 ≤ i → i < d → AllAgree (f i)) → AllAgree (steps_below f d)
  agree_below zero h = tt
  agree_below (suc zero) h = tt
  agree_below (suc (suc d)) h = agree_both (steps_below f (suc d)) (f (suc d))
      (agree_below (suc d) (λ i some less. h i some (omega arith))) (h (suc d) (omega arith) (omega arith))
