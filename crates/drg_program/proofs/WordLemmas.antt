-- The words that ask for a command ask for no other one.
use Rattle.std.proofs.Common.{ℕ, List, subst}
use Rattle.drg_census.specs.Census.{IsWithinLimits}
use Rattle.drg_program.specs.Words.{Asks, HasWords}
use Rattle.drg_words.specs.Commands.{OneCommand}
use Rattle.drg_words.specs.Grammar.{Word}
use Rattle.drg_words.specs.declared.command.Command.{Command}
use Rattle.drg_words.specs.declared.command.Command.TheVariants.{Census}

-- what holds of the command that was found holds of each command that the words ask for
pub of_each_command : (words : List Word) (P : Command → Type 0) (command other : Command) → OneCommand → Asks words command → Asks words other
    → P command → P other
of_each_command words P command other one is was p = subst P (one words command other is was) p

-- the numbers of a census that words ask for are within its limits
pub census_limits : (d k n : ℕ) → HasWords (Census d k n) → IsWithinLimits d k n
census_limits d k n (words, (rest, parts, last, same, line, says)) = record {
  some_diameter = says.0.0;
  diameter = says.0.1;
  some_valency = says.1.0;
  valency = says.1.1;
  some_vertices = says.2.0;
  vertices = says.2.1;
}
