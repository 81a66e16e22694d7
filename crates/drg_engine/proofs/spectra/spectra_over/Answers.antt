use Rattle.std.proofs.Common.{◌≡◌, ◌<◌, ◌∙◌, arith}
use Rattle.drg_matrices.specs.Tables.{root_of_tables}
use Rattle.drg_engine.proofs.FrameTables.{from_fractions, from_quadratics}
use Rattle.drg_engine.proofs.spectra.spectra_over.Goals as goal

pub returns-then-spectrum-eq0-clause-spectra : goal.returns-then-spectrum-eq0-clause-spectra
returns-then-spectrum-eq0-clause-spectra c =
    let root = c.args.spectrum.now.root in
    let zero : c.args.spectrum.now.root ≡ 0 = omega (arith, c.if-spectrum-eq0.true) in
    let made = c.in_ok-frame.ensures in
    (made.diameter, made.root ∙ zero, from_fractions c.args.array.now c.in_ok-frame.frame root zero made.root made.frame)

pub returns-clause-spectra : goal.returns-clause-spectra
returns-clause-spectra c =
    let root = c.args.spectrum.now.root in
    let made = c.in_ok-frame-2.ensures in
    let same = made.root in
    let above : 0 < root_of_tables c.in_ok-frame-2.frame = omega (arith, c.if-spectrum-eq0.false, same) in
    (made.diameter, above, from_quadratics c.args.array.now c.in_ok-frame-2.frame root made.root made.frame)
