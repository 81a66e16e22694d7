use Rattle.std.proofs.Common.{◌≡◌, ℕ, suc, ◌+◌, ◌≤◌, [], ◌∷◌, List, ap, sym, ◌∙◌, subst, arith}
use Rattle.std.proofs.lemmas.List.Elements.{All-nil}
use Rattle.std.proofs.lemmas.Result.{err_from_is_err_and}
use Rattle.drg_linear.specs.Systems.{SystemContent}
use Rattle.drg_triples.specs.declared.counted.Counted.{Counted}
use Rattle.drg_triples.specs.Counting.{IsCounted}
use Rattle.drg_triples.specs.Faults.{Fits}
use Rattle.drg_triples.proofs.Lists.{extended_none, system_next, system_end, fit_next, fit_end, among_next}
use Rattle.drg_triples.proofs.counting.add_equations_with.Goals as goal

pub seconds-init : goal.seconds-init
seconds-init c = record {
  system = sym (extended_none c.args.numbers.now c.args.ty c.args.system.now);
  fit = All-nil (Fits c.args.numbers.now c.args.ty);
}

pub add_equation-requires-clause-counted : goal.add_equation-requires-clause-counted
add_equation-requires-clause-counted c =
    let same = c.d-d.ensures.value in
    let test = c.seconds-test.true in
    let high : c.seconds.y + 1 ≤ c.args.numbers.now.d = omega (arith, same, test) in
    subst (IsCounted c.args.numbers.now.d) (sym c.counted_by-counted.ensures)
    (record { x_low = c.requires.some; x_high = c.requires.inside; y_low = omega arith; y_high = high })

pub add_equation-requires-clause-room : goal.add_equation-requires-clause-room
add_equation-requires-clause-room c = ap (λ (s : SystemContent). s.room) c.seconds.invariant.system ∙ c.requires.room

pub returns-in_err-add_equation-clause-fault : goal.returns-in_err-add_equation-clause-fault
returns-in_err-add_equation-clause-fault c =
    let same = c.d-d.ensures.value in
    let test = c.seconds-test.true in
    let more : c.seconds.y + 1 ≡ suc c.seconds.y = omega arith in
    let lists : ℕ → List Counted = λ y. record { vertex = c.args.vertex; x = c.args.x; y = y } ∷ [] in
    let p = err_from_is_err_and c.from_residual.result c.from_residual.ensures.1 in
    rw (p.1, p.2)
    (among_next c.args.numbers.now c.args.ty lists c.seconds.y c.args.numbers.now.d _ _ (omega (arith, same, test))
    (ap (λ (k : Counted). k ∷ []) c.counted_by-counted.ensures ∙ ap lists more) c.seconds.invariant.fit c.in_err-add_equation.ensures.fault)

pub seconds-preserved : goal.seconds-preserved
seconds-preserved c =
    let more : c.seconds.y + 1 ≡ suc c.seconds.y = omega arith in
    let lists : ℕ → List Counted = λ y. record { vertex = c.args.vertex; x = c.args.x; y = y } ∷ [] in
    let here = ap (λ (k : Counted). k ∷ []) c.counted_by-counted.ensures ∙ ap lists more in
    record {
      system = system_next c.args.numbers.now c.args.ty c.args.system.now c.seconds.system _ lists c.seconds.y (c.seconds.y + 1) _ more here
          c.seconds.invariant.system c.in_ok-add_equation.ensures.system;
      fit = fit_next c.args.numbers.now c.args.ty lists c.seconds.y (c.seconds.y + 1) _ more here c.seconds.invariant.fit c.in_ok-add_equation.ensures.fit;
    }

pub returns-clause-system : goal.returns-clause-system
returns-clause-system c =
    let same = c.d-d.ensures.value in
    let lists : ℕ → List Counted = λ y. record { vertex = c.args.vertex; x = c.args.x; y = y } ∷ [] in
    system_end c.args.numbers.now c.args.ty c.args.system.now c.seconds.system lists c.seconds.y c.args.numbers.now.d (omega (arith, same)) c.seconds.invariant.system

pub returns-clause-fit : goal.returns-clause-fit
returns-clause-fit c =
    let same = c.d-d.ensures.value in
    let lists : ℕ → List Counted = λ y. record { vertex = c.args.vertex; x = c.args.x; y = y } ∷ [] in
    fit_end c.args.numbers.now c.args.ty lists c.seconds.y c.args.numbers.now.d (omega (arith, same)) c.seconds.invariant.fit
