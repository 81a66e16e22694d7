use Rattle.std.proofs.Common.{sym, subst, ℤ, List}
use Rattle.std.proofs.lemmas.Result.{err_from_is_err_and}
use Rattle.drg_eigen.specs.Candidates.{AllDivisionsFit, IsAsked, IsSplitFault}
use Rattle.drg_eigen.specs.Factor.{IsCandidate}
use Rattle.drg_eigen.specs.Monic.{IsMonic}
use Rattle.drg_eigen.specs.Search.{IsSearch}
use Rattle.drg_eigen.specs.Simple.{IsSimple}
use Rattle.drg_eigen.specs.Step.{factors_of}
use Rattle.drg_eigen.proofs.SplitTrials.{linears_fault, quadratics_fault, nothing_at_zero, all_tried, search_of_all}
use Rattle.drg_eigen.proofs.Trials.{still_simple}
use Rattle.drg_eigen.proofs.split.factored.Goals as goal

pub returns-in_err-try_linears-clause-fault : goal.returns-in_err-try_linears-clause-fault
returns-in_err-try_linears-clause-fault c =
    let start = c.in_ok-search.ensures in
    let p = err_from_is_err_and c.from_residual-in_err-try_linears.result c.from_residual-in_err-try_linears.ensures.1 in
    rw (p.1, p.2)
    (subst (λ (f : List ℤ). IsSplitFault c.args.k f c.in_err-try_linears.field-0.0) start.left
    (linears_fault c.args.k c.in_ok-search.search _ c.in_err-try_linears.ensures.fault))

pub try_quadratics-requires-clause-simple : goal.try_quadratics-requires-clause-simple
try_quadratics-requires-clause-simple c =
    still_simple _ _ c.in_ok-search.search c.try_linears.new.self c.in_ok-try_linears.ensures.tried (subst IsSimple (sym c.in_ok-search.ensures.left) c.requires.simple)

pub try_quadratics-requires-clause-nonzero : goal.try_quadratics-requires-clause-nonzero
try_quadratics-requires-clause-nonzero c =
    let start = c.in_ok-search.ensures in
    nothing_at_zero c.args.k c.in_ok-search.search c.try_linears.new.self (subst IsMonic (sym start.left) start.poly.monic) c.in_ok-try_linears.ensures.tried

pub returns-in_err-try_quadratics-clause-fault : goal.returns-in_err-try_quadratics-clause-fault
returns-in_err-try_quadratics-clause-fault c =
    let start = c.in_ok-search.ensures in
    let p = err_from_is_err_and c.from_residual-in_err-try_quadratics.result c.from_residual-in_err-try_quadratics.ensures.1 in
    rw (p.1, p.2)
    (subst (λ (f : List ℤ). IsSplitFault c.args.k f c.in_err-try_quadratics.field-0.0) start.left
    (quadratics_fault c.args.k c.in_ok-search.search c.try_linears.new.self (subst IsMonic (sym start.left) start.poly.monic) c.in_ok-try_linears.ensures.tried _
    c.in_err-try_quadratics.ensures.fault))

pub returns-clause-search : goal.returns-clause-search
returns-clause-search c =
    let start = c.in_ok-search.ensures in
    let a = c.in_ok-search.search in
    let tried = all_tried c.args.k a c.try_linears.new.self (subst IsMonic (sym start.left) start.poly.monic) c.in_ok-try_linears.ensures.tried c.try_quadratics.new.self
    c.in_ok-try_quadratics.ensures.tried in
    subst (λ (f : List ℤ). IsSearch (IsCandidate c.args.k) f (factors_of c.try_quadratics.new.self.found.items) c.try_quadratics.new.self.left) start.left
    (search_of_all c.args.k (IsAsked c.args.k a.left) a c.try_quadratics.new.self start.found tried)

pub returns-clause-fits : goal.returns-clause-fits
returns-clause-fits c =
    let start = c.in_ok-search.ensures in
    let a = c.in_ok-search.search in
    let tried = all_tried c.args.k a c.try_linears.new.self (subst IsMonic (sym start.left) start.poly.monic) c.in_ok-try_linears.ensures.tried c.try_quadratics.new.self
    c.in_ok-try_quadratics.ensures.tried in
    subst (λ (f : List ℤ). AllDivisionsFit c.args.k f) start.left tried.fits
