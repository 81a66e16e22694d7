use Rattle.std.proofs.Common.{◌≡◌, ◌-◌, length, drop, ap, ◌∙◌, arith, rules}
use Rattle.std.proofs.lemmas.List.Elements.{All-take, All-drop}
use Rattle.drg_matrix.specs.Table.{cell}
use Rattle.drg_matrix.proofs.Cells.{column_from, split_first}
use Rattle.drg_matrix.proofs.product.+dot_column_onto.Goals as goal

pub returns-in_err-product-in-len1-up-clause-value : goal.returns-in_err-product-in-len1-up-clause-value
returns-in_err-product-in-len1-up-clause-value g t c =
    let f = g.F.Field in
    let some = c.in-len1-up.len_at_least in
    let items = split_first c.args.row.now c.first-item.result some c.first-item.is in
    let root = ap f.root_of c.first-item.is ∙ c.requires.roots 0 c.first-item.result (omega (arith, some)) in
    let read : f.value c.get.result ≡ cell f.value f.operations c.args.right.now c.args.at c.args.col = c.get.ensures.value in
    let column = column_from f.value f.operations c.args.right.now c.args.col c.args.at (omega (arith, c.requires.length, some)) in
    let wide = rw (root, read) at c.in_err-product-in-len1-up.ensures.value in
    let error = c.from_residual.ensures.0 in
    rw (items, column, wide) (search rules)

pub returns-in_err-add-in-len1-up-clause-value : goal.returns-in_err-add-in-len1-up-clause-value
returns-in_err-add-in-len1-up-clause-value g t c =
    let f = g.F.Field in
    let some = c.in-len1-up.len_at_least in
    let items = split_first c.args.row.now c.first-item.result some c.first-item.is in
    let root = ap f.root_of c.first-item.is ∙ c.requires.roots 0 c.first-item.result (omega (arith, some)) in
    let read : f.value c.get.result ≡ cell f.value f.operations c.args.right.now c.args.at c.args.col = c.get.ensures.value in
    let column = column_from f.value f.operations c.args.right.now c.args.col c.args.at (omega (arith, c.requires.length, some)) in
    let product = rw (root, read) at c.in_ok-product-in-len1-up.ensures.value in
    let wide = rw (c.requires.so_far, product.1) at c.in_err-add-in-len1-up.ensures.value in
    let error = c.from_residual-in_err-add-in-len1-up.ensures.0 in
    rw (items, column, product.0, wide) (search rules)

pub returns-in_ok-add-in-len1-up-clause-value : goal.returns-in_ok-add-in-len1-up-clause-value
returns-in_ok-add-in-len1-up-clause-value g t c =
    let f = g.F.Field in
    let some = c.in-len1-up.len_at_least in
    let items = split_first c.args.row.now c.first-item.result some c.first-item.is in
    let root = ap f.root_of c.first-item.is ∙ c.requires.roots 0 c.first-item.result (omega (arith, some)) in
    let read : f.value c.get.result ≡ cell f.value f.operations c.args.right.now c.args.at c.args.col = c.get.ensures.value in
    let column = column_from f.value f.operations c.args.right.now c.args.col c.args.at (omega (arith, c.requires.length, some)) in
    let product = rw (root, read) at c.in_ok-product-in-len1-up.ensures.value in
    let sum = rw (c.requires.so_far, product.1) at c.in_ok-add-in-len1-up.ensures.value in
    let answer = rw sum.1 at c.dot_column_onto.ensures.value in
    rw (items, column, product.0, sum.0) answer

pub dot_column_onto-requires : goal.dot_column_onto-requires
dot_column_onto-requires g t c κs within =
    let f = g.F.Field in
    let some = c.in-len1-up.len_at_least in
    let items = split_first c.args.row.now c.first-item.result some c.first-item.is in
    let long = ap length items in
    let later = All-drop (λ x. f.root_of x ≡ c.args.right.now.root) 1 c.args.row.now c.requires.roots in
    let rest = All-take (λ x. f.root_of x ≡ c.args.right.now.root) (length c.args.row.now - 1) (drop 1 c.args.row.now) later in
    (search rules, (within, (c.in_ok-add-in-len1-up.ensures.root ∙ c.requires.so_far, (c.requires.short, (omega (arith, long, c.requires.length), (rest, c.requires.col))))))
