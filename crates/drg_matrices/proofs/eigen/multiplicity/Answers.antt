use Rattle.std.proofs.Common.{◌≡◌, ℕ, ◌∙◌, refl, arith, sym, subst, ap}
use Rattle.drg_matrices.specs.Values.{item_at}
use Rattle.drg_matrices.proofs.Answering.{ok_value, on_ok, on_err, of_each_err}
use Rattle.drg_matrices.proofs.FirstFaults.{not_fitting}
use Rattle.drg_matrices.proofs.Frames.{squares_apart}
use Rattle.drg_matrices.proofs.Items.{read_item, read_holds}
use Rattle.drg_matrices.proofs.SquareSums.{eigen_row_is, cosine_row_is, entries_fit}
use Rattle.drg_matrices.proofs.eigen.multiplicity.Goals as goal

pub dot-requires-clause-allowed : goal.dot-requires-clause-allowed
dot-requires-clause-allowed g c =
    let f = g.F.Field in
    let root = read_holds (λ x. f.root_of x ≡ c.args.root) c.args.thetas.now c.args.i c.index-thetas-i.result c.requires.roots (omega arith) c.index-thetas-i.is in
    subst f.HasRoot root (g.met.F.Field.has_root c.index-thetas-i.result)

pub returns-in_err-squares-clause-wide : goal.returns-in_err-squares-clause-wide
returns-in_err-squares-clause-wide g c =
    let f = g.F.Field in
    let theta = item_at (f.operations c.args.root) f.value c.args.thetas.now in
    let a = c.args.array.now in
    let eigen = eigen_row_is f.value f.operations f.root_of c.args.root a theta c.args.table.now c.args.i _ c.requires.table c.row.ensures.values in
    let cosines = cosine_row_is f.value f.operations f.root_of c.args.root a theta c.args.cosines.now c.args.i _ c.requires.inside c.requires.cosines c.row-2.ensures.values in
    let wide = rw (eigen, cosines) at c.in_err-squares.ensures.value in
    of_each_err c.from_residual.result _ (λ m. not_fitting _ wide m.squares)

pub div-requires-clause-nonzero : goal.div-requires-clause-nonzero
div-requires-clause-nonzero g c =
    let f = g.F.Field in
    let o = f.operations c.args.root in
    let theta = item_at o f.value c.args.thetas.now in
    let a = c.args.array.now in
    let root = read_holds (λ x. f.root_of x ≡ c.args.root) c.args.thetas.now c.args.i c.index-thetas-i.result c.requires.roots (omega arith) c.index-thetas-i.is in
    let value = read_item f.value o c.args.thetas.now c.args.i c.index-thetas-i.result (omega arith) c.index-thetas-i.is in
    let laws = g.met.F.Field.laws c.args.root (subst f.HasRoot root (g.met.F.Field.has_root c.index-thetas-i.result)) in
    let over = subst (λ (n : ℕ). (f.operations n).IsOver (f.value c.index-thetas-i.result)) root (g.met.F.Field.over c.index-thetas-i.result) in
    let eigen = eigen_row_is f.value f.operations f.root_of c.args.root a theta c.args.table.now c.args.i _ c.requires.table c.row.ensures.values in
    let cosines = cosine_row_is f.value f.operations f.root_of c.args.root a theta c.args.cosines.now c.args.i _ c.requires.inside c.requires.cosines c.row-2.ensures.values in
    let squares = rw (eigen, cosines) at c.in_ok-squares.ensures.value in
    let count_root : f.root_of c.count-count.result ≡ c.args.root = c.count-count.ensures.root ∙ root in
    (λ e. squares_apart laws a c.known_valid.ensures (theta c.args.i) (subst o.IsOver value over)
    (sym squares.1 ∙ e ∙ ap (λ (n : ℕ). (f.operations n).nil) count_root))

pub returns-clause-value : goal.returns-clause-value
returns-clause-value g c =
    let f = g.F.Field in
    let o = f.operations c.args.root in
    let theta = item_at o f.value c.args.thetas.now in
    let a = c.args.array.now in
    let root = read_holds (λ x. f.root_of x ≡ c.args.root) c.args.thetas.now c.args.i c.index-thetas-i.result c.requires.roots (omega arith) c.index-thetas-i.is in
    let eigen = eigen_row_is f.value f.operations f.root_of c.args.root a theta c.args.table.now c.args.i _ c.requires.table c.row.ensures.values in
    let cosines = cosine_row_is f.value f.operations f.root_of c.args.root a theta c.args.cosines.now c.args.i _ c.requires.inside c.requires.cosines c.row-2.ensures.values in
    let squares = rw (eigen, cosines) at c.in_ok-squares.ensures.value in
    let count_root : f.root_of c.count-count.result ≡ c.args.root = c.count-count.ensures.root ∙ root in
    let count = rw root at c.count-count.ensures.value in
    let answer = rw (count_root, count, squares.1) at c.div.ensures.value in
    ok_value f.value c.div.result _ _ _ answer refl

pub returns-clause-fit : goal.returns-clause-fit
returns-clause-fit g c =
    let f = g.F.Field in
    let o = f.operations c.args.root in
    let theta = item_at o f.value c.args.thetas.now in
    let a = c.args.array.now in
    let root = read_holds (λ x. f.root_of x ≡ c.args.root) c.args.thetas.now c.args.i c.index-thetas-i.result c.requires.roots (omega arith) c.index-thetas-i.is in
    let eigen = eigen_row_is f.value f.operations f.root_of c.args.root a theta c.args.table.now c.args.i _ c.requires.table c.row.ensures.values in
    let cosines = cosine_row_is f.value f.operations f.root_of c.args.root a theta c.args.cosines.now c.args.i _ c.requires.inside c.requires.cosines c.row-2.ensures.values in
    let squares = rw (eigen, cosines) at c.in_ok-squares.ensures.value in
    let count_root : f.root_of c.count-count.result ≡ c.args.root = c.count-count.ensures.root ∙ root in
    let count = rw root at c.count-count.ensures.value in
    let answer = rw (count_root, count, squares.1) at c.div.ensures.value in
    on_ok f.value c.div.result _ _ _ answer (λ fits. record {
      entries = entries_fit f.value f.operations f.root_of c.args.root a theta c.args.table.now c.args.i c.requires.table;
      squares = squares.0;
      quotient = fits;
    })

pub returns-clause-wide : goal.returns-clause-wide
returns-clause-wide g c =
    let f = g.F.Field in
    let o = f.operations c.args.root in
    let theta = item_at o f.value c.args.thetas.now in
    let a = c.args.array.now in
    let root = read_holds (λ x. f.root_of x ≡ c.args.root) c.args.thetas.now c.args.i c.index-thetas-i.result c.requires.roots (omega arith) c.index-thetas-i.is in
    let eigen = eigen_row_is f.value f.operations f.root_of c.args.root a theta c.args.table.now c.args.i _ c.requires.table c.row.ensures.values in
    let cosines = cosine_row_is f.value f.operations f.root_of c.args.root a theta c.args.cosines.now c.args.i _ c.requires.inside c.requires.cosines c.row-2.ensures.values in
    let squares = rw (eigen, cosines) at c.in_ok-squares.ensures.value in
    let count_root : f.root_of c.count-count.result ≡ c.args.root = c.count-count.ensures.root ∙ root in
    let count = rw root at c.count-count.ensures.value in
    let answer = rw (count_root, count, squares.1) at c.div.ensures.value in
    on_err f.value c.div.result _ _ _ answer (λ wide m. not_fitting _ wide m.quotient)
