use Rattle.std.proofs.Common.{◌≡◌, ℕ, rules, to_z, of_z, ◌∷◌, subst, ◌∙◌}
use mir.Syntax.{w128}
use mir.Facts.{to_z-of_z}
use Rattle.drg_solver.specs.Closings.{lines_of}
use Rattle.drg_solver.specs.Findings.{Lead, state}
use Rattle.drg_solver.proofs.Fits.{all_fit}
use Rattle.drg_solver.proofs.Leading.{lines_lead}
use Rattle.drg_solver.proofs.Solved.{free_divides, low_solves}
use Rattle.drg_solver.proofs.finding.find.Goals as goal

pub returns-in-Some : goal.returns-in-Some
returns-in-Some c = λ kept.
    let closes = rw c.in-Some.is at c.in_ok-closing.ensures in
    let fit = all_fit c.args.system.now.room c.args.room.now c.args.system.now.equations c.requires c.equations-equations.ensures.fit in
    let lead = lines_lead c.args.room.now c.args.system.now.equations kept c.in-Some.closing c.requires.is_room fit closes in
    let D : ℕ → Type 0 = λ d. Lead (state d c.args.system.now.equations (c.args.room.now.bounds ∷ kept)) 0 (lines_of c.in-Some.closing) (state d c.args.system.now.equations kept) 0 in
    rw c.in_ok-lines.ensures (subst D c.requires.d lead)

pub proposed-requires-clause-unclosed : goal.proposed-requires-clause-unclosed
proposed-requires-clause-unclosed c = rw c.in_default.is at c.in_ok-closing.ensures

pub first_free-requires : goal.first_free-requires
first_free-requires c = rw c.equations-equations.ensures.value (all_fit c.args.system.now.room c.args.room.now c.args.system.now.equations c.requires c.equations-equations.ensures.fit)

pub returns-in-Some-first_free : goal.returns-in-Some-first_free
returns-in-Some-first_free c =
    let is : to_z w128 (of_z w128 c.low.result) ≡ c.low.result = to_z-of_z {w = w128} (search rules) in
    let unclosed = rw c.in_default.is at c.in_ok-closing.ensures in
    free_divides c.args.system.now c.args.room.now c.in-Some-first_free.unknown (to_z w128 (of_z w128 c.low.result)) c.requires unclosed c.in-Some-first_free.ensures.some (is ∙ c.low.ensures)

pub returns-in_ok-low_bounds-in-None : goal.returns-in_ok-low_bounds-in-None
returns-in_ok-low_bounds-in-None c =
    let unclosed = rw c.in_default.is at c.in_ok-closing.ensures in
    let none = rw c.equations-equations.ensures.value at c.in-None.ensures.none in
    let made = c.in_ok-low_bounds-in-None.ensures in
    low_solves c.args.system.now c.args.room.now c.in_ok-low_bounds-in-None.field-0 c.requires unclosed none made.0 made.1
