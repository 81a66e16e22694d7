use Rattle.std.proofs.Common.{◌≡◌, ℕ, ◌<◌, true, map}
use Rattle.std.specs.Prelude.{All}
use Rattle.std.specs.List.{range_with_len}
use Rattle.drg_matrices.specs.Tables.{root_of_tables}
use Rattle.drg_krein.specs.Values.{values_in}
use Rattle.drg_krein.specs.Formulas.{term}
use Rattle.drg_krein.proofs.numbers.fill_row.Given as goal

abbrev pub invariant-terms : goal.invariant-terms
invariant-terms g l =
    let f = g.F.Field in
    let root = root_of_tables l.frame in
    let o = f.operations root in
    let v = values_in f.value f.operations l.numbers l.frame in record {
      values : map f.value l.terms.items ≡ map (term o v l.i l.j) (range_with_len 0 l.r);
      roots : All (λ x. f.root_of x ≡ root) l.terms.items;
      fit : (s : ℕ) → s < l.r → o.product_fits (v.p l.i s) (v.u l.j s) ≡ true;
    }
