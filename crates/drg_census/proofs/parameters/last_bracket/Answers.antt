use Rattle.std.proofs.Common.{◌≡◌, ℕ, suc, ◌+◌, ◌≤◌, ◌<◌, ◌∙◌, sym, ap, subst, arith}
use Rattle.std.specs.Option.{MatchOption}
use Rattle.std.specs.Prelude.{Option}
use Rattle.drg_array.specs.Entries.{diameter}
use Rattle.drg_fraction.specs.Fraction.{rational_of}
use Rattle.drg_fraction.specs.declared.fraction.Fraction.{Fraction}
use Rattle.drg_census.specs.Classical.{bracket}
use Rattle.drg_census.specs.ClassicalWork.{AllPass, IsRefuted, c_step, steps_below}
use Rattle.drg_census.proofs.Composed.{first_bracket, on_err}
use Rattle.drg_census.proofs.StepLists.{pass_next, refuted_at, wide_at}
use Rattle.drg_census.proofs.parameters.last_bracket.Goals as goal

pub entries-init : goal.entries-init
entries-init c = record { last = c.number-last.ensures ∙ first_bracket (rational_of c.args.base); pass = tt }

pub returns-in_err-next-clause-err : goal.returns-in_err-next-clause-err
returns-in_err-next-clause-err c =
    let a = c.args.array.now in
    let n = c.d-i-end.ensures.value in
    on_err c.from_residual.result (wide_at (c_step a (rational_of c.args.base) (rational_of c.args.alpha)) c.entries.i (diameter a) (omega arith) (omega arith)
    c.entries.invariant.pass c.in_err-next.ensures.err)

pub returns-in_default-clause-ok : goal.returns-in_default-clause-ok
returns-in_default-clause-ok c =
    let a = c.args.array.now in
    let n = c.d-i-end.ensures.value in
    let f = c_step a (rational_of c.args.base) (rational_of c.args.alpha) in
    let Told : Option Fraction → Type 0 = λ o. MatchOption o (IsRefuted (f c.entries.i)) (λ next. AllPass (f c.entries.i) × (rational_of next ≡ bracket (rational_of c.args.base) (suc c.entries.i))) in
    let told : IsRefuted (f c.entries.i) = subst Told c.in_default.is c.in_ok-next.ensures.ok in
    refuted_at f c.entries.i (diameter a) (omega arith) (omega arith) c.entries.invariant.pass told

pub entries-preserved : goal.entries-preserved
entries-preserved c =
    let a = c.args.array.now in
    let i = c.entries.i in
    let b = rational_of c.args.base in
    let f = c_step a b (rational_of c.args.alpha) in
    let Told : Option Fraction → Type 0 = λ o. MatchOption o (IsRefuted (f i)) (λ next. AllPass (f i) × (rational_of next ≡ bracket b (suc i))) in
    let told : AllPass (f i) × (rational_of c.in-Some.next ≡ bracket b (suc i)) = subst Told c.in-Some.is c.in_ok-next.ensures.ok in
    let one : suc i ≡ i + 1 = omega arith in
    record {
      last = told.1 ∙ ap (bracket b) one;
      pass = subst (λ t. AllPass (steps_below f t)) one (pass_next f i (omega arith) c.entries.invariant.pass told.0);
    }
