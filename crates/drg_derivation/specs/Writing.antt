-- The pieces in which the text of a derivation is appended.
use Rattle.std.specs.Prelude.{ℕ, ℤ, List, ◌++◌, codes}
use Rattle.drg_array.specs.Entries.{Entries}
use Rattle.drg_array.specs.declared.claim.Claim.{Claim as TheClaim}
use Rattle.drg_derivation.specs.Integers.{integers_text}
use Rattle.drg_derivation.specs.Text.{evidence_views, line_text, written_texts}
use Rattle.drg_derivation.specs.declared.line.Line.{Line}
use Rattle.drg_derivation.specs.declared.view.LineView.TheVariants.{Array, Claim}

-- a word, numbers and a line end
abbrev pub plain_line : List ℕ → List ℤ → List ℤ → List ℕ
plain_line word leading tail = word ++ integers_text leading ++ integers_text tail ++ codes "\n"

-- the lines of a derivation with these parts
abbrev pub parts_text : Entries → TheClaim → List Line → List ℕ
parts_text array claim lines =
    codes "drg 1\n" ++ line_text (Array array) ++ line_text (Claim claim) ++ written_texts (evidence_views lines) ++ codes "end\n"
