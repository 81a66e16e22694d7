use Rattle.std.proofs.Common.{rules, ◌≡◌, to_z, of_z, subst}
use Rattle.std.specs.Int.{w128}
use Rattle.std.proofs.lemmas.Int.{to_z-of_z}
use Rattle.std.proofs.lemmas.Result.{err_from_is_err_and}
use Rattle.drg_derivation.specs.declared.line.Line.TheVariants.{Eq}
use Rattle.drg_replay.specs.Answers.{FollowsRule}
use Rattle.drg_replay.specs.Known.{KnownContent}
use Rattle.drg_replay.proofs.LineLaws.{eq_refused}
use Rattle.drg_replay.proofs.known.Known.take_eq.Goals as goal

pub returns-in_err-equation : goal.returns-in_err-equation
returns-in_err-equation c =
    let n : to_z w128 (of_z w128 c.args.n) ≡ c.args.n = to_z-of_z w128 _ (search rules) in
    let x : to_z w128 (of_z w128 c.args.x) ≡ c.args.x = to_z-of_z w128 _ (search rules) in
    let y : to_z w128 (of_z w128 c.args.y) ≡ c.args.y = to_z-of_z w128 _ (search rules) in
    let P : KnownContent → Type 0 = λ k. FollowsRule c.from_residual.result (Eq c.args.n c.args.x c.args.y) k k in
    let p = err_from_is_err_and c.from_residual.result c.from_residual.ensures.1 in
    let before = c.self.inside in
    let k : KnownContent = record { array = before.array; claim = before.claim; counts = before.counts; frame = before.frame; rooms = before.rooms } in
    let refused = eq_refused c.in_err-equation.field-0.0 k c.in-Some.ty _ _ _ _ _ _ c.in-Some.ensures n x y c.in_err-equation.ensures in
    subst P c.self.view_is (rw (p.1, p.2) refused)
