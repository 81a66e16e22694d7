-- Terms and equations that are still to be added.
use Rattle.std.proofs.Common.{◌≡◌, ℕ, suc, ◌<◌, ◌≤◌, ◌+◌, ℤ, ◌*ℤ◌, Bool, true, false, List, [], ◌∷◌, ◌++◌, length, drop, refl, sym, ap, ◌∙◌, add-one}
use Rattle.std.specs.Prelude.{◌&&◌, ⊤, Result, Err, nat_eq, slice_index_or}
use Rattle.std.proofs.lemmas.List.{drop_all}
use Rattle.std.proofs.Math.Seq.{drop-cons}
use Rattle.drg_algebra.proofs.Tests.{both}
use Rattle.drg_whole.specs.Range.{in_range}
use Rattle.drg_linear.specs.Equations.{Term, EquationContent, follows, is_ordered}
use Rattle.drg_rooms.specs.Combinations.{with_more, more_fits, plus_terms, plus_terms_fit, combination_from, combination_fits_from, no_equation, has_pair, are_numbers, Passes}
use Rattle.drg_rooms.specs.declared.fault.Fault.{Fault}
use Rattle.drg_rooms.specs.declared.fault.Fault.TheVariants.{Refused, Memory}
use Rattle.drg_rooms.specs.Answers.{Adds, FailsWide}
use Rattle.drg_rooms.proofs.MergeLaws.{nowhere}

-- the terms from place i on are still to be added to those that are left
pub record AddRemains (f : ℤ) (old total others made left : List Term) (i : ℕ) : Type 0 where
  pub ordered : is_ordered (drop i others) ≡ true
  pub fits : plus_terms_fit f total others ≡ plus_terms_fit f left (drop i others)
  pub value : old ++ plus_terms f total others ≡ made ++ plus_terms f left (drop i others)

follows_times : (t : Term) (a : ℤ) (ts : List Term) → follows t ts ≡ true → follows (t.0, a) ts ≡ true
follows_times t a [] h = refl
follows_times t a (u ∷ us) h = h

fits_on : (f : ℤ) (t : Term) (left ts : List Term) → in_range (f *ℤ t.1) ≡ true → more_fits t.0 (f *ℤ t.1) left ≡ true
    → plus_terms_fit f left (t ∷ ts) ≡ plus_terms_fit f (with_more t.0 (f *ℤ t.1) left) ts
fits_on f t left ts h k = rw (h, k) refl

pub added : (f v : ℤ) (old total others made more left next : List Term) (i : ℕ) → i < length others
    → AddRemains f old total others made left i → in_range (f *ℤ (slice_index_or others i nowhere).1) ≡ true → v ≡ f *ℤ (slice_index_or others i nowhere).1
    → more_fits (slice_index_or others i nowhere).0 v left ≡ true → Passes (slice_index_or others i nowhere).0 v left made more next
    → AddRemains f old total others more next (i + 1)
added f v old total others made more left next i h a k e m p = at (slice_index_or others i nowhere) (drop-cons others i nowhere h) k e m p
  where
    at : (t : Term) → drop i others ≡ t ∷ drop (suc i) others → in_range (f *ℤ t.1) ≡ true → v ≡ f *ℤ t.1 → more_fits t.0 v left ≡ true → Passes t.0 v left made more next → AddRemains f old total others more next (i + 1)
    at t here k e m p =
        let rest = drop (suc i) others in
        let ordered : is_ordered (t ∷ rest) ≡ true = sym (ap (λ (ts : List Term). is_ordered ts) here) ∙ a.ordered in
        let o = both (follows t rest) (is_ordered rest) ordered in
        let g = follows_times t (f *ℤ t.1) rest o.0 in
        let n : more_fits t.0 (f *ℤ t.1) left ≡ true = ap (λ (z : ℤ). more_fits t.0 z left) (sym e) ∙ m in
        let q : Passes t.0 (f *ℤ t.1) left made more next = rw e at p in
        rw (add-one i) (record {
          ordered = o.1;
          fits = a.fits ∙ (ap (λ (ts : List Term). plus_terms_fit f left ts) here ∙ (fits_on f t left rest k n ∙ q.fits f rest g o.1));
          value = a.value ∙ (ap (λ (ts : List Term). made ++ plus_terms f left ts) here ∙ q.value f rest g o.1);
        })

-- a sum of two coefficients doesn't fit
pub unfit : (f v : ℤ) (old total others made left : List Term) (i : ℕ) → i < length others
    → AddRemains f old total others made left i → v ≡ f *ℤ (slice_index_or others i nowhere).1 → more_fits (slice_index_or others i nowhere).0 v left ≡ false
    → plus_terms_fit f total others ≡ false
unfit f v old total others made left i h a e m = a.fits ∙ (ap (λ (ts : List Term). plus_terms_fit f left ts) (drop-cons others i nowhere h) ∙ at (slice_index_or others i nowhere) e m)
  where
    at : (t : Term) → v ≡ f *ℤ t.1 → more_fits t.0 v left ≡ false → plus_terms_fit f left (t ∷ drop (suc i) others) ≡ false
    at t e m =
        let n : more_fits t.0 (f *ℤ t.1) left ≡ false = ap (λ (z : ℤ). more_fits t.0 z left) (sym e) ∙ m in
        rw n (none (in_range (f *ℤ t.1)))
      where
        none : (b : Bool) → b && false && plus_terms_fit f (with_more t.0 (f *ℤ t.1) left) (drop (suc i) others) ≡ false
        none true = refl
        none false = refl

pub stopped : (r : Result ⊤ Fault) (fault : Fault) (m fits : Bool) (after new : List Term) → r ≡ Err fault → FailsWide fault m → (m ≡ false → fits ≡ false) → Adds r fits after new
stopped r (Refused x) m fits after new e h g = rw e (g h.0, h.1)
stopped r Memory m fits after new e h g = rw e tt

pub added_all : (f : ℤ) (old total others made left new : List Term) (i : ℕ) → length others ≤ i → AddRemains f old total others made left i → new ≡ made ++ left
    → (plus_terms_fit f total others ≡ true) × (new ≡ old ++ plus_terms f total others)
added_all f old total others made left new i h a e =
    let none : drop i others ≡ [] = drop_all i others h in (
      a.fits ∙ ap (λ (ts : List Term). plus_terms_fit f left ts) none,
      e ∙ sym (a.value ∙ ap (λ (ts : List Term). made ++ plus_terms f left ts) none),
    )

pub record NumbersRemain (equations : List EquationContent) (values rest : List ℤ) : Type 0 where
  pub same : are_numbers equations values ≡ are_numbers equations rest

pub no_pair : (equations : List EquationContent) (rest : List ℤ) (b : Bool) → has_pair rest ≡ false → b ≡ (nat_eq (length rest) 0) → b ≡ are_numbers equations rest
no_pair equations [] b h e = e
no_pair equations (n ∷ []) b h e = e
no_pair equations (n ∷ f ∷ more) b h e = cc

-- the pairs that are left are still to be added
pub record PairsRemain (equations : List EquationContent) (values rest : List ℤ) (terms : List Term) (right : ℤ) : Type 0 where
  pub numbers : are_numbers equations rest ≡ true
  pub fits : combination_fits_from equations no_equation values ≡ combination_fits_from equations (record { terms = terms; right = right }) rest
  pub value : combination_from equations no_equation values ≡ combination_from equations (record { terms = terms; right = right }) rest

pub no_pair_fits : (equations : List EquationContent) (total : EquationContent) (rest : List ℤ) → has_pair rest ≡ false → combination_fits_from equations total rest ≡ true
no_pair_fits equations total [] h = refl
no_pair_fits equations total (n ∷ []) h = refl
no_pair_fits equations total (n ∷ f ∷ more) h = cc

pub no_pair_left : (equations : List EquationContent) (total : EquationContent) (rest : List ℤ) → has_pair rest ≡ false → combination_from equations total rest ≡ total
no_pair_left equations total [] h = refl
no_pair_left equations total (n ∷ []) h = refl
no_pair_left equations total (n ∷ f ∷ more) h = cc
