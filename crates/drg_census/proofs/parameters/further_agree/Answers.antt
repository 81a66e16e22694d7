use Rattle.std.proofs.Common.{◌≡◌, ℕ, suc, ◌+◌, ◌≤◌, ◌<◌, ◌∙◌, true, false, Bool, sym, ap, subst, arith}
use Rattle.std.specs.Bool.{MatchBool}
use Rattle.drg_array.specs.Entries.{diameter}
use Rattle.drg_fraction.specs.Fraction.{rational_of}
use Rattle.drg_census.specs.Classical.{bracket, next_bracket}
use Rattle.drg_census.specs.ClassicalWork.{AllPass, IsRefuted, b_step, bracket_fits, c_step, steps_below}
use Rattle.drg_census.proofs.Composed.{first_bracket, on_err}
use Rattle.drg_census.proofs.StepLists.{pass_at, pass_next, refuted_at, wide_at}
use Rattle.drg_census.proofs.parameters.further_agree.Goals as goal

pub entries-init : goal.entries-init
entries-init c = record { part = c.number-part.ensures ∙ first_bracket (rational_of c.args.base); pass = tt }

pub returns-in_err-further_agrees-clause-err : goal.returns-in_err-further_agrees-clause-err
returns-in_err-further_agrees-clause-err c =
    let a = c.args.array.now in
    let n = c.d-i-end.ensures.value in
    let f = b_step a (rational_of c.args.base) (rational_of c.args.pair.alpha) (rational_of c.args.pair.beta) in
    on_err c.from_residual.result (wide_at f c.entries.i (diameter a) (omega arith) (omega arith) c.entries.invariant.pass c.in_err-further_agrees.ensures.err)

pub returns-then-not-branch-clause-ok : goal.returns-then-not-branch-clause-ok
returns-then-not-branch-clause-ok c =
    let a = c.args.array.now in
    let n = c.d-i-end.ensures.value in
    let f = b_step a (rational_of c.args.base) (rational_of c.args.pair.alpha) (rational_of c.args.pair.beta) in
    let Told : Bool → Type 0 = λ t. MatchBool t (AllPass (f c.entries.i)) (IsRefuted (f c.entries.i)) in
    let told : IsRefuted (f c.entries.i) = subst Told c.if-not-branch.true c.in_ok-further_agrees.ensures.ok in
    refuted_at f c.entries.i (diameter a) (omega arith) (omega arith) c.entries.invariant.pass told

pub unreachable-requires : goal.unreachable-requires
unreachable-requires c =
    let a = c.args.array.now in
    let b = rational_of c.args.base in
    let n = c.d-i-end.ensures.value in
    let fits = (pass_at (c_step a b (rational_of c.args.pair.alpha)) c.entries.i (diameter a) (omega arith) (omega arith) c.requires.nearer).0 in
    let here : bracket_fits b (bracket b c.entries.i) ≡ false = subst (λ t. bracket_fits b t ≡ false) c.entries.invariant.part c.in_default.ensures in
    cc

pub entries-preserved : goal.entries-preserved
entries-preserved c =
    let a = c.args.array.now in
    let i = c.entries.i in
    let b = rational_of c.args.base in
    let f = b_step a b (rational_of c.args.pair.alpha) (rational_of c.args.pair.beta) in
    let Told : Bool → Type 0 = λ t. MatchBool t (AllPass (f i)) (IsRefuted (f i)) in
    let told : AllPass (f i) = subst Told c.if-not-branch.false c.in_ok-further_agrees.ensures.ok in
    let one : suc i ≡ i + 1 = omega arith in
    record {
      part = c.in-Ok.ensures.1 ∙ ap (next_bracket b) c.entries.invariant.part ∙ ap (bracket b) one;
      pass = subst (λ t. AllPass (steps_below f t)) one (pass_next f i (omega arith) c.entries.invariant.pass told);
    }
