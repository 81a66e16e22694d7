use Rattle.std.proofs.Common.{◌≡◌, sym, subst, rules, pos, to_z, of_z}
use Rattle.std.specs.Int.{w32}
use Rattle.std.specs.Prelude.{◌+ℤ◌}
use Rattle.std.proofs.lemmas.Int.{to_z-of_z}
use Rattle.drg_census.specs.Rows.{AreRowsBelow, IsTheRow, NoRow}
use Rattle.drg_census.proofs.RowLists.{no_row_more, row_more}
use Rattle.drg_census.proofs.bases.push_row.Goals as goal

pub returns-in_ok-push : goal.returns-in_ok-push
returns-in_ok-push c =
    let a = c.args.array.now in
    let b : to_z w32 (of_z w32 c.args.b) ≡ c.args.b = to_z-of_z w32 c.args.b (search rules) in
    subst (AreRowsBelow a (c.args.b +ℤ pos 1)) (sym c.in_ok-push.ensures.items)
    (row_more a c.args.b c.args.rows.now.items c.in-Some.row c.requires.below (subst (λ t. IsTheRow a t c.in-Some.row) b c.in-Some.ensures))

pub returns-in_default : goal.returns-in_default
returns-in_default c =
    let a = c.args.array.now in
    let b : to_z w32 (of_z w32 c.args.b) ≡ c.args.b = to_z-of_z w32 c.args.b (search rules) in
    no_row_more a c.args.b c.args.rows.now.items c.requires.below (subst (NoRow a) b c.in_default.ensures)
