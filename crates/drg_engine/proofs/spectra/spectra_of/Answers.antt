use Rattle.std.proofs.Common.{◌≡◌, ◌≤◌, arith}
use Rattle.drg_engine.specs.SpectraFaults.{IsSpectraFault, of_eigen}
use Rattle.drg_engine.proofs.FrameFaults.{err_weaker, factored, split_fault, valency_small}
use Rattle.drg_engine.proofs.spectra.spectra_of.Goals as goal

pub split_of-requires-clause-valency : goal.split_of-requires-clause-valency
split_of-requires-clause-valency c =
    let small = valency_small c.args.array.now c.known_valid.ensures in
    omega (arith, small, c.valency.ensures)

pub returns-in_err-spectrum-clause-fault : goal.returns-in_err-spectrum-clause-fault
returns-in_err-spectrum-clause-fault c =
    let a = c.args.array.now in
    let made = c.in_ok-poly.ensures in
    let fault = c.in_err-spectrum.field-0.0 in
    err_weaker c.from_residual-in_err-spectrum.result (λ other. other ≡ of_eigen fault) (IsSpectraFault a)
    (split_fault a c.valency.result c.in_ok-poly.poly c.valency.ensures made.polynomial made.fits fault c.in_err-spectrum.ensures.fault)
    c.from_residual-in_err-spectrum.ensures.1

pub spectra_over-requires-clause-factored : goal.spectra_over-requires-clause-factored
spectra_over-requires-clause-factored c =
    let made = c.in_ok-poly.ensures in
    factored c.args.array.now c.valency.result c.in_ok-poly.poly c.valency.ensures made.polynomial made.fits c.in_ok-spectrum.ensures.fits
