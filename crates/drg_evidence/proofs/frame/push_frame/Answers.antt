use Rattle.std.proofs.Common.{rules, ap, ◌∙◌, pos}
use Rattle.std.proofs.lemmas.Int.{to_z-of_z}
use mir.Syntax.{w128}
use Rattle.drg_matrices.specs.Tables.{diameter_of}
use Rattle.drg_evidence.specs.FrameValues.{values_of}
use Rattle.drg_evidence.proofs.FrameLists.{frame_push}
use Rattle.drg_evidence.proofs.frame.push_frame.Goals as goal

pub returns : goal.returns
returns g c =
    let f = g.F.Field in
    frame_push (diameter_of c.args.frame.now) (values_of f.value f.operations c.args.frame.now) _ (to_z-of_z w128 c.from.result (search rules) ∙ (c.from.ensures ∙ ap pos c.root.ensures))
    c.args.lines.now.items c.push.new.self.items c.push_thetas.new.lines.items c.push_eigen.new.lines.items c.push_dual.new.lines.items
    c.in_ok-push.ensures.items c.in_ok-push_thetas.ensures c.in_ok-push_eigen.ensures c.in_ok-push_dual.ensures
