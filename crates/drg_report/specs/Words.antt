-- The words of which a report is made. They stand in the lines of a text, and each by itself in
-- other forms of a report.
use Rattle.std.specs.Prelude.{ℕ, List, ◌++◌, codes}
use Rattle.drg_array.specs.Claims.{claim_text, class_name, test_name}
use Rattle.drg_array.specs.Nodes.{node_text}
use Rattle.drg_array.specs.declared.claim.Claim.{Claim}
use Rattle.drg_array.specs.declared.claim.Class.{Class}
use Rattle.drg_fraction.specs.Operations.{Operations}
use Rattle.drg_quadratic.specs.Text.{value_text}
use Rattle.drg_report.specs.declared.verdict.Cause.{Cause}
use Rattle.drg_report.specs.declared.verdict.Cause.TheVariants.{Wide, Spectrum}
use Rattle.drg_report.specs.declared.verdict.Pending.{Pending}
use Rattle.drg_report.specs.declared.verdict.Verdict.{Verdict}
use Rattle.drg_report.specs.declared.verdict.Verdict.TheVariants.{Infeasible, Undecided, RefusedSpectrum, Survivor}

-- a claim and its class
abbrev pub claim_with_class : Claim → Class → List ℕ
claim_with_class claim class = claim_text claim ++ codes " " ++ class_name class

-- what a verdict says in a few words
abbrev pub verdict_words : Verdict → List ℕ
verdict_words (Infeasible found) = codes "infeasible " ++ claim_with_class found.claim found.class
verdict_words (Undecided found) = codes "undecided"
verdict_words (RefusedSpectrum found) = codes "refused-spectrum"
verdict_words (Survivor found) = codes "survivor"

-- why a test isn't decided: a number that is too wide, or eigenvalues that no one quadratic field
-- holds
abbrev pub cause_text : Cause → List ℕ
cause_text (Wide node) = codes "wide " ++ node_text node
cause_text Spectrum = codes "spectrum"

-- a test that isn't decided, and why
abbrev pub pending_text : Pending → List ℕ
pending_text entry = test_name entry.test ++ codes " " ++ cause_text entry.cause

-- a value of a field over a root, by its parts a + b √root
abbrev pub field_text : {V : Type 0} → Operations V → ℕ → V → List ℕ
field_text o root x = value_text root (record { a = o.rational_part x; b = o.root_part x })
