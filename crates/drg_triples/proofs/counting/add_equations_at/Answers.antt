use Rattle.std.proofs.Common.{◌≡◌, suc, ◌+◌, ap, sym, ◌∙◌, arith}
use Rattle.std.proofs.lemmas.List.Elements.{All-nil}
use Rattle.std.proofs.lemmas.Result.{err_from_is_err_and}
use Rattle.drg_linear.specs.Systems.{SystemContent}
use Rattle.drg_triples.specs.Counting.{counted_with}
use Rattle.drg_triples.specs.Faults.{Fits}
use Rattle.drg_triples.proofs.Lists.{extended_none, system_next, system_end, fit_next, fit_end, among_next}
use Rattle.drg_triples.proofs.counting.add_equations_at.Goals as goal

pub firsts-init : goal.firsts-init
firsts-init c = record {
  system = sym (extended_none c.args.numbers.now c.args.ty c.args.system.now);
  fit = All-nil (Fits c.args.numbers.now c.args.ty);
}

pub add_equations_with-requires-clause-inside : goal.add_equations_with-requires-clause-inside
add_equations_with-requires-clause-inside c =
    let same = c.d-d.ensures.value in
    let test = c.firsts-test.true in
    omega (arith, same, test)

pub add_equations_with-requires-clause-room : goal.add_equations_with-requires-clause-room
add_equations_with-requires-clause-room c = ap (λ (s : SystemContent). s.room) c.firsts.invariant.system ∙ c.requires.room

pub returns-in_err-add_equations_with-clause-fault : goal.returns-in_err-add_equations_with-clause-fault
returns-in_err-add_equations_with-clause-fault c =
    let same = c.d-d.ensures.value in
    let test = c.firsts-test.true in
    let more : c.firsts.x + 1 ≡ suc c.firsts.x = omega arith in
    let lists = counted_with c.args.numbers.now.d c.args.vertex in
    let p = err_from_is_err_and c.from_residual.result c.from_residual.ensures.1 in
    rw (p.1, p.2)
    (among_next c.args.numbers.now c.args.ty lists c.firsts.x c.args.numbers.now.d _ _ (omega (arith, same, test))
    (ap lists more) c.firsts.invariant.fit c.in_err-add_equations_with.ensures.fault)

pub firsts-preserved : goal.firsts-preserved
firsts-preserved c =
    let more : c.firsts.x + 1 ≡ suc c.firsts.x = omega arith in
    let lists = counted_with c.args.numbers.now.d c.args.vertex in
    record {
      system = system_next c.args.numbers.now c.args.ty c.args.system.now c.firsts.system _ lists c.firsts.x (c.firsts.x + 1) _ more (ap lists more)
          c.firsts.invariant.system c.in_ok-add_equations_with.ensures.system;
      fit = fit_next c.args.numbers.now c.args.ty lists c.firsts.x (c.firsts.x + 1) _ more (ap lists more) c.firsts.invariant.fit c.in_ok-add_equations_with.ensures.fit;
    }

pub returns-clause-system : goal.returns-clause-system
returns-clause-system c =
    let same = c.d-d.ensures.value in
    system_end c.args.numbers.now c.args.ty c.args.system.now c.firsts.system (counted_with c.args.numbers.now.d c.args.vertex) c.firsts.x c.args.numbers.now.d (omega (arith, same))
    c.firsts.invariant.system

pub returns-clause-fit : goal.returns-clause-fit
returns-clause-fit c =
    let same = c.d-d.ensures.value in
    fit_end c.args.numbers.now c.args.ty (counted_with c.args.numbers.now.d c.args.vertex) c.firsts.x c.args.numbers.now.d (omega (arith, same)) c.firsts.invariant.fit
