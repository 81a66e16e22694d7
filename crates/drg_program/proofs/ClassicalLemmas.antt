-- The line of a base, and that the status of rows is one of the command.
use Rattle.std.proofs.Common.{◌≡◌, ℕ, List, [], ◌∷◌, ◌++◌, ◌⊎◌, inl, inr, sym, subst, append_assoc}
use Rattle.drg_array.specs.Entries.{Entries}
use Rattle.drg_census.specs.declared.bases.ClassicalRow.{ClassicalRow}
use Rattle.drg_census.specs.declared.bases.ClassicalRow.TheVariants.{Holds, Wide}
use Rattle.drg_program.specs.Classical.{IsShort, TellsRows, rows_status}
use Rattle.drg_program.specs.Run.{IsAnswerOf}
use Rattle.drg_words.specs.declared.command.Command.TheVariants.{Classical}
use Rattle.drg_program.specs.declared.status.Status.{Status}

-- pieces that were appended one after the other
pub appended : (old w a b e one two three four : List ℕ) → one ≡ old ++ w → two ≡ one ++ a → three ≡ two ++ b → four ≡ three ++ e
    → four ≡ old ++ (w ++ a ++ b ++ e)
appended old w a b e one two three four f g h l = rw (l, h, g, f) (simp append_assoc)

is_answer : (rows : List ClassicalRow) (file : List ℕ) → IsAnswerOf (rows_status rows) (Classical file)
is_answer [] file = tt
is_answer (Holds b alpha beta ∷ rows) file = is_answer rows file
is_answer (Wide b ∷ rows) file = tt

pub told : (a : Entries) (status : Status) (text file : List ℕ) → IsShort a status text ⊎ TellsRows a status text → IsAnswerOf status (Classical file)
told a status text file (inl short) = subst (λ (s : Status). IsAnswerOf s (Classical file)) (sym short.1) tt
told a status text file (inr tells) = subst (λ (s : Status). IsAnswerOf s (Classical file)) (sym tells.told) (is_answer tells.rows file)
