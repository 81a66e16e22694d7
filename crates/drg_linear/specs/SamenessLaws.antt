-- The test for equations says that they are equal.
use Rattle.std.proofs.Common.{◌≡◌, ℕ, ℤ, true, List, [], ◌∷◌, refl}
use Rattle.std.specs.Prelude.{◌&&◌, nat_eq}
use Rattle.std.specs.Ordering.{int_eq}
use Rattle.std.specs.Bool.{Decides}
use Rattle.std.specs.Cmp.{IsEquivalence, decided, signed_Decides}
use Rattle.std.specs.Cmp.Lexicographic.{pointwise}
use Rattle.drg_algebra.proofs.Tests.{both, and-in, same-number, equal-self}
use Rattle.drg_linear.specs.declared.unknown.Unknown.{Unknown}
use Rattle.drg_linear.specs.Unknowns.{is_same}
use Rattle.drg_linear.specs.Equations.{Term, EquationContent}
use Rattle.drg_linear.specs.Sameness.{same_term, same_equation}

three : (r s t r' s' t' : ℕ) → r ≡ r' → s ≡ s' → t ≡ t' → Path Unknown (record { r = r; s = s; t = t }) (record { r = r'; s = s'; t = t' })
three r s t r' s' t' a b c i = record { r = a i; s = b i; t = c i }

unknown_is : (u v : Unknown) → is_same u v ≡ true → u ≡ v
unknown_is u v h =
    let last = both (nat_eq u.r v.r && nat_eq u.s v.s) (nat_eq u.t v.t) h in
    let first = both (nat_eq u.r v.r) (nat_eq u.s v.s) last.0 in
    three u.r u.s u.t v.r v.s v.t (same-number u.r v.r first.0) (same-number u.s v.s first.1) (same-number u.t v.t last.1)

unknown_self : (u : Unknown) → is_same u u ≡ true
unknown_self u = rw (equal-self u.r, equal-self u.s, equal-self u.t) refl

number_self : (z : ℤ) → int_eq z z ≡ true
number_self z = (signed_Decides z z).1 refl

term_is : (t u : Term) → same_term t u ≡ true → t ≡ u
term_is t u h = (let s = both (is_same t.0 u.0) (int_eq t.1 u.1) h in λ i. (unknown_is t.0 u.0 s.0 i, (signed_Decides t.1 u.1).0 s.1 i))

terms_are : (ts us : List Term) → pointwise same_term ts us ≡ true → ts ≡ us
terms_are [] [] h = refl
terms_are [] (u ∷ us) h = cc
terms_are (t ∷ ts) [] h = cc
terms_are (t ∷ ts) (u ∷ us) h = (let s = both (same_term t u) (pointwise same_term ts us) h in λ i. term_is t u s.0 i ∷ terms_are ts us s.1 i)

terms_self : (ts : List Term) → pointwise same_term ts ts ≡ true
terms_self [] = refl
terms_self (t ∷ ts) = and-in (same_term t t) (pointwise same_term ts ts) (and-in (is_same t.0 t.0) (int_eq t.1 t.1) (unknown_self t.0) (number_self t.1)) (terms_self ts)

equation_is : (e f : EquationContent) → same_equation e f ≡ true → e ≡ f
equation_is e f h = (let s = both (pointwise same_term e.terms f.terms) (int_eq e.right f.right) h in λ i. record { terms = terms_are e.terms f.terms s.0 i; right = (signed_Decides e.right f.right).0 s.1 i })

equation_self : (e : EquationContent) → same_equation e e ≡ true
equation_self e = and-in (pointwise same_term e.terms e.terms) (int_eq e.right e.right) (terms_self e.terms) (number_self e.right)

pub same_Decides : (e f : EquationContent) → Decides (same_equation e f) (e ≡ f)
same_Decides e f = (equation_is e f, λ h. rw h (equation_self f))

pub equation_equivalence : IsEquivalence same_equation
equation_equivalence = decided same_equation same_Decides
