use Rattle.std.proofs.Common.{◌≡◌, ℕ, suc, ◌+◌, ◌++◌, ap, ◌∙◌, arith}
use Rattle.drg_matrices.specs.Tables.{diameter_of}
use Rattle.drg_evidence.specs.FrameLines.{lines_from, dual_line}
use Rattle.drg_evidence.specs.FrameValues.{values_of}
use Rattle.drg_evidence.proofs.FrameLists.{lines_push}
use Rattle.drg_evidence.proofs.frame.push_dual.Goals as goal

pub indices-preserved : goal.indices-preserved
indices-preserved g c =
    let f = g.F.Field in
    let line = dual_line (diameter_of c.args.frame.now) (values_of f.value f.operations c.args.frame.now) in
    lines_push line c.indices.r (c.indices.r + 1) c.args.lines.now.items c.indices.lines.items c.push.new.self.items c.in_ok-dual_line.field-0 (omega arith) c.in_ok-dual_line.ensures c.indices.invariant c.in_ok-push.ensures.items

pub returns : goal.returns
returns g c =
    let f = g.F.Field in
    let d = diameter_of c.args.frame.now in
    let line = dual_line d (values_of f.value f.operations c.args.frame.now) in
    let all : c.indices.r ≡ suc d = omega (arith, c.indices-test.false, c.indices.auto.r-end) in
    c.indices.invariant ∙ ap (λ (n : ℕ). c.args.lines.now.items ++ lines_from line 0 n) all
