-- The line that is written for the answer to a derivation.
use Rattle.std.specs.Prelude.{ℕ, List, ◌++◌, codes, decimal}
use Rattle.drg_array.specs.declared.claim.Claim.{Claim}
use Rattle.drg_array.specs.declared.claim.Class.{Class}
use Rattle.drg_report.specs.Words.{claim_with_class}

-- these words, the number of a line, and a line end
abbrev pub number_line : List ℕ → ℕ → List ℕ
number_line words number = words ++ decimal number ++ codes "\n"

-- the derivation is accepted, with its claim and its class
abbrev pub accepted_text : Claim → Class → List ℕ
accepted_text claim class = codes "accepted " ++ claim_with_class claim class ++ codes "\n"

-- a line isn't met
abbrev pub rejected_text : ℕ → List ℕ
rejected_text line = number_line (codes "rejected line ") line

-- the claim isn't closed at the end, which is this line
abbrev pub open_text : ℕ → List ℕ
open_text line = number_line (codes "rejected open ") line

-- a line has a work number that is too wide
abbrev pub wide_text : ℕ → List ℕ
wide_text line = number_line (codes "undecided wide ") line
