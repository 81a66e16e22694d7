-- A combination of equations is an equation: its unknowns ascend, and no coefficient is 0 or out of range.
use Rattle.std.proofs.Common.{◌≡◌, ℤ, pos, ◌*ℤ◌, ◌+ℤ◌, Bool, true, false, List, [], ◌∷◌, arith, refl, ap, sym, ◌∙◌}
use Rattle.std.specs.Prelude.{if◌then◌else◌, ◌&&◌, not}
use Rattle.std.specs.Ordering.{int_eq}
use Rattle.std.proofs.lemmas.Bool.Decides.{nat_tests}
use Rattle.drg_algebra.proofs.Tests.{both, and-in}
use Rattle.drg_linear.specs.declared.unknown.Unknown.{Unknown}
use Rattle.drg_whole.specs.Range.{in_range}
use Rattle.drg_linear.specs.Unknowns.{is_same, precedes}
use Rattle.drg_linear.specs.Equations.{Term, EquationContent, follows, is_ordered, is_coefficient, all_coefficients, is_equation}
use Rattle.drg_rooms.specs.Combinations.{with_term, with_more, more_fits, plus_terms, plus_terms_fit, plus_equation, plus_equation_fits, no_equation, equation_at, combination_from, combination_fits_from, combination}
use Rattle.drg_rooms.proofs.TermLaws.{same_unknown}

-- the order of unknowns is total and transitive
pub total : (u v : Unknown) → is_same v u ≡ false → precedes u v ≡ false → precedes v u ≡ true
total u v h k = grind (arith, nat_tests)

pub transitive : (u v w : Unknown) → precedes u v ≡ true → precedes v w ≡ true → precedes u w ≡ true
transitive u v w h k = grind (arith, nat_tests)

follows_over : (v t : Term) (ts : List Term) → precedes v.0 t.0 ≡ true → follows t ts ≡ true → follows v ts ≡ true
follows_over v t [] h k = refl
follows_over v t (u ∷ us) h k = transitive v.0 t.0 u.0 h k

-- ---- a term in front
follows_with : (v : Term) (u : Unknown) (a : ℤ) (ts : List Term) (b : Bool) → precedes v.0 u ≡ true → follows v ts ≡ true → follows v (if b then ts else ((u, a) ∷ ts)) ≡ true
follows_with v u a ts true h k = k
follows_with v u a ts false h k = h

ordered_with : (u : Unknown) (a : ℤ) (ts : List Term) (b : Bool) → follows (u, a) ts ≡ true → is_ordered ts ≡ true → is_ordered (if b then ts else ((u, a) ∷ ts)) ≡ true
ordered_with u a ts true h k = k
ordered_with u a ts false h k = and-in (follows (u, a) ts) (is_ordered ts) h k

coefficients_with : (u : Unknown) (a : ℤ) (ts : List Term) (b : Bool) → int_eq a (pos 0) ≡ b → in_range a ≡ true → all_coefficients ts ≡ true → all_coefficients (if b then ts else ((u, a) ∷ ts)) ≡ true
coefficients_with u a ts true e h k = k
coefficients_with u a ts false e h k = and-in (is_coefficient a) (all_coefficients ts) (and-in (in_range a) (not (int_eq a (pos 0))) h (rw e refl)) k

-- ---- one more term
follows_more_at : (v : Term) (u : Unknown) (a : ℤ) (t : Term) (ts : List Term) (same before : Bool) → precedes v.0 u ≡ true → precedes v.0 t.0 ≡ true → follows t ts ≡ true
    → follows v (if same then with_term u (t.1 +ℤ a) ts else (if before then with_term u a (t ∷ ts) else t ∷ with_more u a ts)) ≡ true
follows_more_at v u a t ts true before h k l = follows_with v u (t.1 +ℤ a) ts (int_eq (t.1 +ℤ a) (pos 0)) h (follows_over v t ts k l)
follows_more_at v u a t ts false true h k l = follows_with v u a (t ∷ ts) (int_eq a (pos 0)) h k
follows_more_at v u a t ts false false h k l = k

follows_more : (v : Term) (u : Unknown) (a : ℤ) (ts : List Term) → precedes v.0 u ≡ true → follows v ts ≡ true → is_ordered ts ≡ true → follows v (with_more u a ts) ≡ true
follows_more v u a [] h k o = follows_with v u a [] (int_eq a (pos 0)) h refl
follows_more v u a (t ∷ ts) h k o = follows_more_at v u a t ts (is_same t.0 u) (precedes u t.0) h k (both (follows t ts) (is_ordered ts) o).0

ordered_more_at : (u : Unknown) (a : ℤ) (t : Term) (ts : List Term) (same before : Bool) → is_same t.0 u ≡ same → precedes u t.0 ≡ before → follows t ts ≡ true → is_ordered ts ≡ true → is_ordered (with_more u a ts) ≡ true
    → is_ordered (if same then with_term u (t.1 +ℤ a) ts else (if before then with_term u a (t ∷ ts) else t ∷ with_more u a ts)) ≡ true
ordered_more_at u a t ts true before e f h o m = ordered_with u (t.1 +ℤ a) ts (int_eq (t.1 +ℤ a) (pos 0)) (ap (λ (v : Unknown). follows (v, t.1 +ℤ a) ts) (sym (same_unknown t.0 u e)) ∙ again t ts h) o
  where
    again : (t : Term) (ts : List Term) → follows t ts ≡ true → follows (t.0, t.1 +ℤ a) ts ≡ true
    again t [] h = refl
    again t (w ∷ ws) h = h
ordered_more_at u a t ts false true e f h o m = ordered_with u a (t ∷ ts) (int_eq a (pos 0)) f (and-in (follows t ts) (is_ordered ts) h o)
ordered_more_at u a t ts false false e f h o m = and-in (follows t (with_more u a ts)) (is_ordered (with_more u a ts)) (follows_more t u a ts (total u t.0 e f) h o) m

ordered_more : (u : Unknown) (a : ℤ) (ts : List Term) → is_ordered ts ≡ true → is_ordered (with_more u a ts) ≡ true
ordered_more u a [] o = ordered_with u a [] (int_eq a (pos 0)) refl refl
ordered_more u a (t ∷ ts) o =
    let s = both (follows t ts) (is_ordered ts) o in
    ordered_more_at u a t ts (is_same t.0 u) (precedes u t.0) refl refl s.0 s.1 (ordered_more u a ts s.1)

coefficients_more_at : (u : Unknown) (a : ℤ) (t : Term) (ts : List Term) (same before : Bool) → in_range a ≡ true → is_coefficient t.1 ≡ true → all_coefficients ts ≡ true
    → (more_fits u a ts ≡ true → all_coefficients (with_more u a ts) ≡ true)
    → (if same then in_range (t.1 +ℤ a) else (if before then true else more_fits u a ts)) ≡ true
    → all_coefficients (if same then with_term u (t.1 +ℤ a) ts else (if before then with_term u a (t ∷ ts) else t ∷ with_more u a ts)) ≡ true
coefficients_more_at u a t ts true before r h k m f = coefficients_with u (t.1 +ℤ a) ts (int_eq (t.1 +ℤ a) (pos 0)) refl f k
coefficients_more_at u a t ts false true r h k m f = coefficients_with u a (t ∷ ts) (int_eq a (pos 0)) refl r (and-in (is_coefficient t.1) (all_coefficients ts) h k)
coefficients_more_at u a t ts false false r h k m f = and-in (is_coefficient t.1) (all_coefficients (with_more u a ts)) h (m f)

coefficients_more : (u : Unknown) (a : ℤ) (ts : List Term) → in_range a ≡ true → all_coefficients ts ≡ true → more_fits u a ts ≡ true → all_coefficients (with_more u a ts) ≡ true
coefficients_more u a [] r h f = coefficients_with u a [] (int_eq a (pos 0)) refl r refl
coefficients_more u a (t ∷ ts) r h f =
    let s = both (is_coefficient t.1) (all_coefficients ts) h in
    coefficients_more_at u a t ts (is_same t.0 u) (precedes u t.0) r s.0 s.1 (λ g. coefficients_more u a ts r s.1 g) f

-- ---- multiples of equations
pub ordered_plus : (f : ℤ) (total ts : List Term) → is_ordered total ≡ true → is_ordered (plus_terms f total ts) ≡ true
ordered_plus f total [] o = o
ordered_plus f total (t ∷ ts) o = ordered_plus f (with_more t.0 (f *ℤ t.1) total) ts (ordered_more t.0 (f *ℤ t.1) total o)

pub coefficients_plus : (f : ℤ) (total ts : List Term) → all_coefficients total ≡ true → plus_terms_fit f total ts ≡ true → all_coefficients (plus_terms f total ts) ≡ true
coefficients_plus f total [] h k = h
coefficients_plus f total (t ∷ ts) h k =
    let s = both (in_range (f *ℤ t.1) && more_fits t.0 (f *ℤ t.1) total) (plus_terms_fit f (with_more t.0 (f *ℤ t.1) total) ts) k in
    let p = both (in_range (f *ℤ t.1)) (more_fits t.0 (f *ℤ t.1) total) s.0 in
    coefficients_plus f (with_more t.0 (f *ℤ t.1) total) ts (coefficients_more t.0 (f *ℤ t.1) total p.0 h p.1) s.1

pub equation_plus : (f : ℤ) (total e : EquationContent) → is_equation total ≡ true → plus_equation_fits f total e ≡ true → is_equation (plus_equation f total e) ≡ true
equation_plus f total e h k =
    let s = both (is_ordered total.terms && all_coefficients total.terms) (in_range total.right) h in
    let t = both (is_ordered total.terms) (all_coefficients total.terms) s.0 in
    let p = both (plus_terms_fit f total.terms e.terms && in_range (f *ℤ e.right)) (in_range (total.right +ℤ f *ℤ e.right)) k in
    let q = both (plus_terms_fit f total.terms e.terms) (in_range (f *ℤ e.right)) p.0 in
    and-in _ _ (and-in _ _ (ordered_plus f total.terms e.terms t.0) (coefficients_plus f total.terms e.terms t.1 q.0)) p.1

equation_combination_from : (es : List EquationContent) (total : EquationContent) (values : List ℤ) → is_equation total ≡ true → combination_fits_from es total values ≡ true → is_equation (combination_from es total values) ≡ true
equation_combination_from es total [] h k = h
equation_combination_from es total (n ∷ []) h k = h
equation_combination_from es total (n ∷ f ∷ more) h k =
    let s = both (plus_equation_fits f total (equation_at es n)) (combination_fits_from es (plus_equation f total (equation_at es n)) more) k in
    equation_combination_from es (plus_equation f total (equation_at es n)) more (equation_plus f total (equation_at es n) h s.0) s.1

pub combination_is_equation : (es : List EquationContent) (values : List ℤ) → combination_fits_from es no_equation values ≡ true → is_equation (combination es values) ≡ true
combination_is_equation es values k = equation_combination_from es no_equation values refl k
