-- The line `comb`: a sum of multiples of equations.
use Rattle.std.specs.Prelude.{◌≡◌, ◌≤◌, ℕ, ◌++◌, take, drop, ℤ, pos, ◌+ℤ◌, ◌*ℤ◌, unsigned_abs, int_le, int_lt, Bool, true, false, ◌&&◌, not, if◌then◌else◌, List, [], ◌∷◌, length, slice_index_or}
use Rattle.std.specs.Ordering.{int_eq}
use Rattle.drg_linear.specs.declared.unknown.Unknown.{Unknown}
use Rattle.drg_whole.specs.Range.{in_range}
use Rattle.drg_linear.specs.Unknowns.{is_same, precedes}
use Rattle.drg_linear.specs.Equations.{Term, EquationContent, follows, is_ordered}
use Rattle.drg_rooms.specs.Steps.{Step, Holds, Fits}

-- a term in front, which is left out where it is 0
abbrev pub with_term : Unknown → ℤ → List Term → List Term
with_term u a ts = if int_eq a (pos 0) then ts else ((u, a) ∷ ts)

-- one more term, at its place in the order
abbrev pub with_more : Unknown → ℤ → List Term → List Term
with_more u a [] = with_term u a []
with_more u a (t ∷ ts) =
    if is_same t.0 u
    then with_term u (t.1 +ℤ a) ts
    else (if precedes u t.0 then with_term u a (t ∷ ts) else t ∷ with_more u a ts)

-- the work number of one more term: the sum of the coefficients of its unknown
abbrev pub more_fits : Unknown → ℤ → List Term → Bool
more_fits u a [] = true
more_fits u a (t ∷ ts) =
    if is_same t.0 u
    then in_range (t.1 +ℤ a)
    else (if precedes u t.0 then true else more_fits u a ts)

-- f times these terms, added to a sum
abbrev pub plus_terms : ℤ → List Term → List Term → List Term
plus_terms f total [] = total
plus_terms f total (t ∷ ts) = plus_terms f (with_more t.0 (f *ℤ t.1) total) ts

abbrev pub plus_terms_fit : ℤ → List Term → List Term → Bool
plus_terms_fit f total [] = true
plus_terms_fit f total (t ∷ ts) =
    in_range (f *ℤ t.1)
    && more_fits t.0 (f *ℤ t.1) total
    && plus_terms_fit f (with_more t.0 (f *ℤ t.1) total) ts

-- each of the terms stands before the unknown
abbrev pub all_before : Unknown → List Term → Bool
all_before u [] = true
all_before u (t ∷ ts) = precedes t.0 u && all_before u ts

-- the first of the terms, where there is one, doesn't stand before the unknown
abbrev pub none_before : Unknown → List Term → Bool
none_before u [] = true
none_before u (t ∷ ts) = not (precedes t.0 u)

-- the first i terms are those before the unknown
pub record StandBefore (u : Unknown) (ts : List Term) (i : ℕ) : Type 0 where
  pub within : i ≤ length ts
  pub before : all_before u (take i ts) ≡ true
  pub others : none_before u (drop i ts) ≡ true

-- the terms before the unknown and the others
pub record AreDivided (u : Unknown) (ts before others : List Term) : Type 0 where
  pub whole : ts ≡ before ++ others
  pub first : all_before u before ≡ true
  pub second : none_before u others ≡ true

-- the first term is the unknown's, with this coefficient, before these terms
pub record HasOwn (u : Unknown) (ts : List Term) (c : ℤ) (left : List Term) : Type 0 where
  pub more : (a : ℤ) → with_more u a ts ≡ with_term u (c +ℤ a) left
  pub fits : (a : ℤ) → more_fits u a ts ≡ in_range (c +ℤ a)

-- the unknown has no term, and one would stand first
pub record HasNone (u : Unknown) (ts : List Term) : Type 0 where
  pub more : (a : ℤ) → with_more u a ts ≡ with_term u a ts
  pub fits : (a : ℤ) → more_fits u a ts ≡ true

-- one more term is added to these terms: with it and with any that stand after it, the sum is what
-- is put behind the old terms, and the sum with those that are left
pub record Passes (u : Unknown) (a : ℤ) (ts old new left : List Term) : Type 0 where
  pub value : (f : ℤ) (others : List Term)
      → follows (u, a) others ≡ true → is_ordered others ≡ true
      → old ++ plus_terms f (with_more u a ts) others ≡ new ++ plus_terms f left others
  pub fits : (f : ℤ) (others : List Term)
      → follows (u, a) others ≡ true → is_ordered others ≡ true
      → plus_terms_fit f (with_more u a ts) others ≡ plus_terms_fit f left others

abbrev pub of_terms : List Term → ℤ → EquationContent
of_terms terms right = record { terms = terms; right = right }

-- f times an equation, added to a sum of equations
abbrev pub plus_equation : ℤ → EquationContent → EquationContent → EquationContent
plus_equation f total e =
    record { terms = plus_terms f total.terms e.terms; right = total.right +ℤ f *ℤ e.right }

abbrev pub plus_equation_fits : ℤ → EquationContent → EquationContent → Bool
plus_equation_fits f total e =
    plus_terms_fit f total.terms e.terms
    && in_range (f *ℤ e.right)
    && in_range (total.right +ℤ f *ℤ e.right)

-- ---- Equations by their numbers

-- the number of an equation made before
unfoldable pub is_number : ℤ → List EquationContent → Bool
is_number n equations = int_le (pos 0) n && int_lt n (pos (length equations))

abbrev pub no_equation : EquationContent
no_equation = record { terms = []; right = pos 0 }

abbrev pub equation_at : List EquationContent → ℤ → EquationContent
equation_at equations n = slice_index_or equations (unsigned_abs n) no_equation

-- there are two numbers or more
abbrev pub has_pair : List ℤ → Bool
has_pair [] = false
has_pair (n ∷ []) = false
has_pair (n ∷ f ∷ more) = true

-- each equation n_l is made before; the numbers of the line are n_1 f_1 .. n_m f_m
abbrev pub are_numbers : List EquationContent → List ℤ → Bool
are_numbers equations [] = true
are_numbers equations (n ∷ []) = false
are_numbers equations (n ∷ f ∷ more) = is_number n equations && are_numbers equations more

-- the sum of f_l times equation n_l, added to a sum
abbrev pub combination_from : List EquationContent → EquationContent → List ℤ → EquationContent
combination_from equations total [] = total
combination_from equations total (n ∷ []) = total
combination_from equations total (n ∷ f ∷ more) =
    combination_from equations (plus_equation f total (equation_at equations n)) more

abbrev pub combination_fits_from : List EquationContent → EquationContent → List ℤ → Bool
combination_fits_from equations total [] = true
combination_fits_from equations total (n ∷ []) = true
combination_fits_from equations total (n ∷ f ∷ more) =
    plus_equation_fits f total (equation_at equations n)
    && combination_fits_from equations (plus_equation f total (equation_at equations n)) more

-- the sum of f_l times equation n_l; terms that become 0 are left out
abbrev pub combination : List EquationContent → List ℤ → EquationContent
combination equations values = combination_from equations no_equation values

-- all numbers are looked at before a product is made
unfoldable pub comb_steps : List EquationContent → List ℤ → List Step
comb_steps equations values =
    Holds (are_numbers equations values)
    ∷ Fits (combination_fits_from equations no_equation values)
    ∷ []
