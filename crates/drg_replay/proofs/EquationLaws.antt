-- The counting equations of a type are equations: their unknowns ascend, and each coefficient is 1.
use Rattle.std.proofs.Common.{◌≡◌, ℕ, zero, suc, ◌+◌, true, List, [], ◌∷◌, ◌++◌, refl, sym, subst, arith}
use Rattle.std.specs.Prelude.{ℤ, pos, map}
use Rattle.std.specs.List.{range_with_len}
use Rattle.std.proofs.lemmas.Bool.Decides.{nat_tests}
use Rattle.std.proofs.lemmas.List.FromFn.{map-range_with_len_more}
use Rattle.drg_algebra.proofs.Tests.{and-in}
use Rattle.drg_whole.specs.Range.{InRange, in_range}
use Rattle.drg_linear.specs.declared.triple.Vertex.{Vertex}
use Rattle.drg_linear.specs.declared.triple.Vertex.TheVariants.{First, Second, Third}
use Rattle.drg_linear.specs.Unknowns.{precedes}
use Rattle.drg_linear.specs.Equations.{Term, follows, is_ordered, all_coefficients, is_equation}
use Rattle.drg_linear.specs.Triples.{unknown_over, sum_over}

terms_from : Vertex → ℕ → ℕ → ℕ → ℕ → List Term
terms_from vertex x y q n = map (λ q. (unknown_over vertex x y q, pos 1)) (range_with_len q n)

next_precedes : (vertex : Vertex) (x y q : ℕ) → precedes (unknown_over vertex x y q) (unknown_over vertex x y (q + 1)) ≡ true
next_precedes First x y q = grind (arith, nat_tests)
next_precedes Second x y q = grind (arith, nat_tests)
next_precedes Third x y q = grind (arith, nat_tests)

next_follows : (vertex : Vertex) (x y q n : ℕ) → follows (unknown_over vertex x y q, pos 1) (terms_from vertex x y (q + 1) n) ≡ true
unfolding terms_from
next_follows vertex x y q zero = refl
next_follows vertex x y q (suc n) = next_precedes vertex x y q

ordered : (vertex : Vertex) (x y q n : ℕ) → is_ordered (terms_from vertex x y q n) ≡ true
unfolding terms_from
ordered vertex x y q zero = refl
ordered vertex x y q (suc n) = and-in _ _ (next_follows vertex x y q n) (ordered vertex x y (q + 1) n)

ones : (vertex : Vertex) (x y q n : ℕ) → all_coefficients (terms_from vertex x y q n) ≡ true
unfolding terms_from
ones vertex x y q zero = refl
ones vertex x y q (suc n) = ones vertex x y (q + 1) n

range_test : (z : ℤ) → InRange z → in_range z ≡ true
range_test z h = grind (arith, nat_tests)

pub counting_is_equation : (d : ℕ) (vertex : Vertex) (x y : ℕ) (terms : List Term) (right : ℤ) → terms ≡ sum_over d vertex x y → InRange right
    → is_equation (record { terms = terms; right = right }) ≡ true
unfolding terms_from
counting_is_equation d vertex x y terms right e h =
    let P : List Term → Type 0 = λ terms. is_equation (record { terms = terms; right = right }) ≡ true in
    subst P (sym e) (and-in _ _ (and-in _ _ (ordered vertex x y 1 d) (ones vertex x y 1 d)) (range_test right h))

abbrev term_over : Vertex → ℕ → ℕ → ℕ → Term
term_over vertex x y q = (unknown_over vertex x y q, pos 1)

-- one term more
pub terms_more : (vertex : Vertex) (x y q : ℕ) → map (term_over vertex x y) (range_with_len 1 (q + 1)) ≡ map (term_over vertex x y) (range_with_len 1 q) ++ term_over vertex x y (q + 1) ∷ []
terms_more vertex x y q = map-range_with_len_more (term_over vertex x y) 1 q (q + 1) (omega arith)
