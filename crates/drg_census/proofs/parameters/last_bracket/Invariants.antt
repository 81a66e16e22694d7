use Rattle.std.proofs.Common.{◌≡◌}
use Rattle.drg_fraction.specs.Fraction.{rational_of}
use Rattle.drg_census.specs.Classical.{bracket}
use Rattle.drg_census.specs.ClassicalWork.{AllPass, c_step, steps_below}
use Rattle.drg_census.proofs.parameters.last_bracket.Given as goal

abbrev pub invariant-entries : goal.invariant-entries
invariant-entries l = record {
  last : rational_of l.last ≡ bracket (rational_of l.base) l.i;
  pass : AllPass (steps_below (c_step l.array (rational_of l.base) (rational_of l.alpha)) l.i);
}
