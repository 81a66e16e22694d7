use Rattle.drg_engine.proofs.BuiltTests.{failing_dont_hold, selected_run, unfailed_hold}
use Rattle.drg_engine.proofs.MultTests.{mult_fails}
use Rattle.drg_engine.proofs.laws.built_law.Goals as goal

pub returns : goal.returns
returns c = record {
  fails = failing_dont_hold c.condition_law.ensures.fails (mult_fails c.frame_law.ensures.one);
  holds = unfailed_hold c.condition_law.ensures.holds;
  selected = selected_run;
}
