use Rattle.std.proofs.Common.{[], ◌∷◌, ◌≡◌, append-nil, sym, ap, to_z, of_z, w32, rules}
use Rattle.std.proofs.lemmas.Int.{to_z-of_z}
use Rattle.std.specs.Fmt.{signed_decimal}
use Rattle.drg_array.specs.Nodes.{node_indices}
use Rattle.drg_algebra.proofs.Beginnings.{begins, begins_last}
use Rattle.drg_array.proofs.node.Node.write_indices.Goals as goal

pub returns-in_err-write_signed-in-Quadratic-clause-err : goal.returns-in_err-write_signed-in-Quadratic-clause-err
returns-in_err-write_signed-in-Quadratic-clause-err c =
    let old = c.args.out.now.items in
    let same : to_z w32 (of_z w32 c.in-Quadratic.s) ≡ c.in-Quadratic.s = to_z-of_z w32 _ (search rules) in
    begins _ old [] (32 ∷ signed_decimal c.in-Quadratic.t) c.in_err-write_signed-in-Quadratic.ensures.err
    (sym (append-nil old)) (rw same (ap node_indices c.in-Quadratic.is))

pub returns-in_ok-write_signed-in-Quadratic-clause-err : goal.returns-in_ok-write_signed-in-Quadratic-clause-err
returns-in_ok-write_signed-in-Quadratic-clause-err c =
    let s : to_z w32 (of_z w32 c.in-Quadratic.s) ≡ c.in-Quadratic.s = to_z-of_z w32 _ (search rules) in
    let t : to_z w32 (of_z w32 c.in-Quadratic.t) ≡ c.in-Quadratic.t = to_z-of_z w32 _ (search rules) in
    begins_last _ c.args.out.now.items _ _ _ c.write_signed-in-Quadratic-2.ensures.err
    c.in_ok-write_signed-in-Quadratic.ensures.ok (rw (s, t) (ap node_indices c.in-Quadratic.is))
