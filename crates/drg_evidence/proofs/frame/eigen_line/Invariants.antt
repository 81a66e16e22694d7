use Rattle.std.proofs.Common.{◌≡◌}
use Rattle.drg_matrices.specs.Tables.{root_of_tables}
use Rattle.drg_evidence.specs.FrameLines.{row_numbers}
use Rattle.drg_evidence.specs.FrameValues.{values_of}
use Rattle.drg_evidence.proofs.frame.eigen_line.Given as goal

abbrev pub invariant-entries : goal.invariant-entries
invariant-entries g l =
    let f = g.F.Field in
    l.numbers.items ≡ row_numbers (root_of_tables l.frame) ((values_of f.value f.operations l.frame).eigen l.i) 0 l.j
