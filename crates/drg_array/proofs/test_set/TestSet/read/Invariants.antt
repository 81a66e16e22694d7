use Rattle.std.proofs.Common.{◌≡◌, ◌++◌, ◌==◌, length, map}
use Rattle.std.specs.List.{slice_split}
use denote.Text.{Utf8}
use denote.Shadow.{shadow}
use Rattle.drg_array.specs.Claims.{test_name}
use Rattle.drg_array.specs.TestLists.{IsSelection}
use Rattle.drg_array.proofs.test_set.TestSet.read.Given as goal

abbrev pub invariant-names : goal.invariant-names
invariant-names l = record {
  utf8 : shadow (Utf8 l.rest);
  selection : IsSelection l.selected.items;
  names : map test_name l.selected.items ++ slice_split (λ b. b == 44) l.rest ≡ slice_split (λ b. b == 44) l.fn.text;
}

abbrev pub decreases-names : goal.decreases-names
decreases-names l = length l.rest
