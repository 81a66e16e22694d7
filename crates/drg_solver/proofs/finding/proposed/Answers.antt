use Rattle.std.proofs.Common.{◌≡◌, rules, to_z, of_z}
use mir.Syntax.{w128}
use mir.Facts.{to_z-of_z}
use Rattle.drg_solver.proofs.Divided.{sides_divide}
use Rattle.drg_solver.proofs.finding.proposed.Goals as goal

pub returns-then-has_sides : goal.returns-then-has_sides
returns-then-has_sides c =
    let v : to_z w128 (of_z w128 c.in-Division.at) ≡ c.in-Division.at = to_z-of_z {w = w128} (search rules) in
    let unknown = c.has_sides.ensures.unknown c.if-has_sides.true in
    let sides = rw v at (c.has_sides.ensures.sides c.if-has_sides.true) in
    rw v (sides_divide c.args.system.now c.args.room.now c.in-Division.unknown c.in-Division.at c.requires.part c.requires.unclosed unknown sides)
