use Rattle.std.proofs.Common.{◌≡◌, ℕ, suc, ◌+◌, ap, sym, ◌∙◌, map, subst, arith, true, inl, inr}
use Rattle.std.specs.List.{range_with_len}
use Rattle.std.proofs.lemmas.List.{map_push}
use Rattle.std.proofs.lemmas.List.Elements.{All-push, All-same}
use Rattle.drg_matrices.specs.Tables.{root_of_tables}
use Rattle.drg_krein.specs.Values.{values_in}
use Rattle.drg_krein.specs.Formulas.{term}
use Rattle.drg_krein.proofs.Orders.{same_or_before}
use Rattle.drg_krein.proofs.Cells.{row_next}
use Rattle.drg_krein.proofs.numbers.fill_row.Goals as goal

pub terms-preserved : goal.terms-preserved
terms-preserved g c =
    let f = g.F.Field in
    let root = root_of_tables c.args.frame.now in
    let o = f.operations root in
    let v = values_in f.value f.operations c.args.numbers.now c.args.frame.now in
    let state = c.terms.invariant in
    let told = rw (c.eigen.ensures.root, c.eigen.ensures.value, c.cosine.ensures.value) at c.in-Ok-mul.ensures.value in
    let place : c.terms.r + 1 ≡ suc c.terms.r = omega arith in record {
      values = ap (map f.value) c.in_ok-push.ensures.items ∙ map_push f.value c.terms.terms.items c.in-Ok-mul.term
          ∙ row_next (term o v c.args.i c.args.j) c.terms.r (c.terms.r + 1) (map f.value c.terms.terms.items) (f.value c.in-Ok-mul.term) place state.values told.1;
      roots = All-same (λ x. f.root_of x ≡ root) _ _ c.in_ok-push.ensures.items
          (All-push (λ x. f.root_of x ≡ root) c.terms.terms.items c.in-Ok-mul.term state.roots (c.in-Ok-mul.ensures.root ∙ c.eigen.ensures.root));
      fit = λ s h.
          elim (same_or_before s c.terms.r (omega arith)) [
            | inl less ↦ state.fit s less
            | inr same ↦ subst (λ (x : ℕ). o.product_fits (v.p c.args.i x) (v.u c.args.j x) ≡ true) (sym same) told.0
          ];
    }

pub fill_numbers-requires-clause-terms : goal.fill_numbers-requires-clause-terms
fill_numbers-requires-clause-terms g c =
    let f = g.F.Field in
    let o = f.operations (root_of_tables c.args.frame.now) in
    let v = values_in f.value f.operations c.args.numbers.now c.args.frame.now in
    let all : c.terms.r ≡ suc v.d = omega arith in
    ap (map f.value) c.deref.ensures.value ∙ c.terms.invariant.values ∙ ap (λ (k : ℕ). map (term o v c.args.i c.args.j) (range_with_len 0 k)) all
