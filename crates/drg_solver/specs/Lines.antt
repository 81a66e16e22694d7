-- Lines that name equations of a system, and lines that close every branch.
use Rattle.std.specs.Prelude.{◌≡◌, ◌<◌, ◌≤◌, ℕ, suc, pos, true, false, ⊤, List, [], ◌∷◌, length, slice_index_or}
use Rattle.drg_derivation.specs.declared.line.Line.{Line}
use Rattle.drg_derivation.specs.declared.line.Line.TheVariants as line
use Rattle.drg_linear.specs.declared.system.EquationName.{EquationName}
use Rattle.drg_linear.specs.declared.system.EquationName.TheVariants.{Eq, Keq}
use Rattle.drg_linear.specs.Equations.{EquationContent}
use Rattle.drg_linear.specs.Systems.{SystemContent}
use Rattle.drg_rooms.specs.Content.{BranchesContent}
use Rattle.drg_rooms.specs.Lines.{is_open, after}
use Rattle.drg_rooms.specs.Answers.{IsMet}

-- ---- Equations by their names

-- the line that makes an equation, by its name
abbrev pub line_of : EquationName → Line
line_of (Eq a x y) = line.Eq (pos a) (pos x) (pos y)
line_of (Keq i j h part) = line.Keq (pos i) (pos j) (pos h) (pos part)

-- the line has the name of this equation of the system, which has one name for each equation
pub record Names (s : SystemContent) (line : Line) (e : EquationContent) : Type 0 where
  pub number : ℕ
  pub name : EquationName
  pub within : number < length s.equations
  pub equation : slice_index_or s.equations number e ≡ e
  pub named : slice_index_or s.names number name ≡ name
  pub written : line ≡ line_of name

-- each line has the name of the equation in its place
abbrev pub NameEach : SystemContent → List Line → List EquationContent → Type 0
NameEach s [] [] = ⊤
NameEach s (line ∷ lines) [] = ⊥
NameEach s [] (e ∷ es) = ⊥
NameEach s (line ∷ lines) (e ∷ es) = Names s line e × NameEach s lines es

-- ---- Room lines

-- how many `low` and `high` lines the branch in hand has after a line, n before it: a split and a
-- closing take up another branch
abbrev pub bounds_after : Line → ℕ → ℕ
bounds_after (line.Low r s t v m) n = suc n
bounds_after (line.High r s t v m) n = suc n
bounds_after (line.Split r s t v) n = 0
bounds_after (line.Miss m) n = 0
bounds_after (line.Mod m g) n = 0
bounds_after (line.Void r s t) n = 0
bounds_after _ n = n

-- the line is met while a branch is open, and no branch has more than 64 `low` and `high` lines
pub record IsGood (k : BranchesContent) (n : ℕ) (line : Line) : Type 0 where
  pub branch : is_open k.branches ≡ true
  pub met : IsMet k line
  pub few : bounds_after line n ≤ 64

-- the lines, each met in its turn, close every branch, and none stands after the last closing
abbrev pub CloseAll : BranchesContent → ℕ → List Line → Type 0
CloseAll k n [] = is_open k.branches ≡ false
CloseAll k n (line ∷ lines) =
    IsGood k n line × CloseAll (after line k) (bounds_after line n) lines
