-- Lines that are tried on a leaf before they are written.
use Rattle.std.specs.Prelude.{◌≡◌, Bool, true, false, List}
use Rattle.drg_derivation.specs.declared.line.Line.{Line}
use Rattle.drg_derivation.specs.declared.line.Line.TheVariants.{Comb}
use Rattle.drg_rooms.specs.Content.{BranchesContent}
use Rattle.drg_rooms.specs.Lines.{after}
use Rattle.drg_rooms.specs.Answers.{IsMet}
use Rattle.drg_linear.specs.Equations.{EquationContent}
use Rattle.drg_linear.specs.Systems.{SystemContent}
use Rattle.drg_solver.specs.Lines.{NameEach}
use Rattle.drg_solver.specs.Answers.{opened}

-- the line makes a combination of equations
abbrev pub is_combination : Line → Bool
is_combination (Comb m values) = true
is_combination _ = false

-- the line was met, makes no combination, and led from one state to the other
pub record IsTaken (k : BranchesContent) (line : Line) (l : BranchesContent) : Type 0 where
  pub met : IsMet k line
  pub plain : is_combination line ≡ false
  pub made : l ≡ after line k

-- the lines name the equations that were pushed, before any other line
pub record AreNamed (s : SystemContent) (names : List Line) (k : BranchesContent) : Type 0 where
  pub made : List EquationContent
  pub named : NameEach s names made
  pub state : k ≡ opened s made
