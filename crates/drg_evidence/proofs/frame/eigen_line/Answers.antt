use Rattle.std.proofs.Common.{◌≡◌, ℕ, suc, ◌+◌, ap, ap₂, ◌∙◌, arith}
use Rattle.std.proofs.lemmas.Int.{to_z_pos}
use mir.Syntax.{w128}
use Rattle.drg_derivation.specs.declared.line.Line.TheVariants.{Prow}
use Rattle.drg_matrices.specs.Tables.{diameter_of, root_of_tables}
use Rattle.drg_evidence.specs.FrameLines.{row_numbers}
use Rattle.drg_evidence.specs.FrameValues.{by_parts, values_of}
use Rattle.drg_evidence.proofs.FrameLists.{row_push}
use Rattle.drg_evidence.proofs.frame.eigen_line.Goals as goal

pub entries-preserved : goal.entries-preserved
entries-preserved g c =
    let f = g.F.Field in
    let root = root_of_tables c.args.frame.now in
    let value = c.eigen.result in
    row_push root ((values_of f.value f.operations c.args.frame.now).eigen c.args.i) c.entries.j (c.entries.j + 1) c.entries.numbers.items c.push_value.new.numbers.items
    (f.root_of value) (by_parts (f.operations (f.root_of value)) (f.value value)) (omega arith) c.eigen.ensures.root
    (ap₂ (λ (r : ℕ) v. by_parts (f.operations r) v) c.eigen.ensures.root c.eigen.ensures.value) c.entries.invariant c.in_ok-push_value.ensures

pub returns : goal.returns
returns g c =
    let f = g.F.Field in
    let d = diameter_of c.args.frame.now in
    let x = (values_of f.value f.operations c.args.frame.now).eigen c.args.i in
    let all : c.entries.j ≡ suc d = omega (arith, c.entries-test.false, c.entries.auto.j-end) in
    ap₂ Prow (to_z_pos w128 c.args.i (omega (arith, c.ranges.i.fits)))
    (c.new.ensures ∙ (c.entries.invariant ∙ ap (λ (n : ℕ). row_numbers (root_of_tables c.args.frame.now) x 0 n) all))
