use Rattle.std.proofs.Common.{◌≡◌, ◌++◌, take}
use Rattle.drg_report.specs.Texts.{names_text}
use Rattle.drg_report.proofs.report.write_names.Given as goal

abbrev pub invariant-tests : goal.invariant-tests
invariant-tests l = l.out.items ≡ l.initial.out.items ++ names_text (take l.test-index l.tests)
