use Rattle.std.proofs.Common.{◌≡◌}
use Rattle.drg_fraction.specs.Fraction.{rational_of}
use Rattle.drg_census.specs.Classical.{bracket}
use Rattle.drg_census.specs.ClassicalWork.{AllPass, b_step, steps_below}
use Rattle.drg_census.proofs.parameters.further_agree.Given as goal

abbrev pub invariant-entries : goal.invariant-entries
invariant-entries l = record {
  part : rational_of l.part ≡ bracket (rational_of l.base) l.i;
  pass : AllPass (steps_below (b_step l.array (rational_of l.base) (rational_of l.pair.alpha) (rational_of l.pair.beta)) l.i);
}
