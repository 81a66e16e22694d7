use Rattle.std.proofs.Common.{◌≡◌, ◌++◌}
use Rattle.drg_matrices.specs.Tables.{diameter_of}
use Rattle.drg_evidence.specs.FrameLines.{lines_from, eigen_line}
use Rattle.drg_evidence.specs.FrameValues.{values_of}
use Rattle.drg_evidence.proofs.frame.push_eigen.Given as goal

abbrev pub invariant-indices : goal.invariant-indices
invariant-indices g l =
    let f = g.F.Field in
    l.lines.items ≡ l.fn.lines.items ++ lines_from (eigen_line (diameter_of l.frame) (values_of f.value f.operations l.frame)) 0 l.i
