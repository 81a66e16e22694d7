-- Leaves that close in one step, and how.
use Rattle.std.specs.Prelude.{◌≡◌, ◌<◌, ◌≤ℤ◌, ℕ, ℤ, pos, unsigned_abs, true, List, [], ◌∷◌, length}
use Rattle.drg_derivation.specs.declared.line.Line.{Line}
use Rattle.drg_derivation.specs.declared.line.Line.TheVariants as line
use Rattle.drg_linear.specs.declared.unknown.Unknown.{Unknown}
use Rattle.drg_linear.specs.Equations.{EquationContent, is_equation}
use Rattle.drg_linear.specs.Rooms.{RoomBounds}
use Rattle.drg_linear.specs.Values.{least_value, greatest_value}
use Rattle.drg_linear.specs.Closing.{Misses, FailsModulo, Crosses}
use Rattle.drg_rooms.specs.Combinations.{equation_at}
use Rattle.drg_solver.specs.declared.closing.Bound.{Bound}
use Rattle.drg_solver.specs.declared.closing.Closing.{Closing}
use Rattle.drg_solver.specs.declared.closing.Closing.TheVariants.{Miss, Modulus, Values}

-- equation n misses
pub record ByMiss (d : ℕ) (room : RoomBounds) (equations : List EquationContent) (n : ℕ)
    : Type 0 where
  pub within : n < length equations
  pub misses : Misses d room (equation_at equations (pos n))

-- equation n fails modulo g
pub record ByModulus (d : ℕ) (room : RoomBounds) (equations : List EquationContent) (n : ℕ)
    (g : ℤ) : Type 0 where
  pub within : n < length equations
  pub modulus : pos 2 ≤ℤ g
  pub fails : FailsModulo d room (equation_at equations (pos n)) (unsigned_abs g)

-- the low bound is the least value that its equation leaves, and the high bound the greatest
pub record ByValues (d : ℕ) (room : RoomBounds) (equations : List EquationContent)
    (low high : Bound) : Type 0 where
  pub low_within : low.equation < length equations
  pub high_within : high.equation < length equations
  pub same : low.unknown ≡ high.unknown
  pub equation : is_equation (equation_at equations (pos high.equation)) ≡ true
  pub crosses :
      Crosses d room high.unknown
      (equation_at equations (pos low.equation)) (equation_at equations (pos high.equation))
  pub least :
      low.number ≡ least_value d room high.unknown (equation_at equations (pos low.equation))
  pub greatest :
      high.number ≡ greatest_value d room high.unknown (equation_at equations (pos high.equation))

-- what is known where a leaf closes so
abbrev pub ClosesBy : ℕ → RoomBounds → List EquationContent → Closing → Type 0
ClosesBy d room equations (Miss n) = ByMiss d room equations n
ClosesBy d room equations (Modulus n g) = ByModulus d room equations n g
ClosesBy d room equations (Values low high) = ByValues d room equations low high

-- ---- The lines of a closing

abbrev pub low_of : Bound → Line
low_of b =
    line.Low (pos b.unknown.r) (pos b.unknown.s) (pos b.unknown.t) b.number (pos b.equation)

abbrev pub high_of : Bound → Line
high_of b =
    line.High (pos b.unknown.r) (pos b.unknown.s) (pos b.unknown.t) b.number (pos b.equation)

abbrev pub void_of : Unknown → Line
void_of u = line.Void (pos u.r) (pos u.s) (pos u.t)

-- a `miss`, a `mod`, or a `low` and a `high` line before a `void`
abbrev pub lines_of : Closing → List Line
lines_of (Miss n) = line.Miss (pos n) ∷ []
lines_of (Modulus n g) = line.Mod (pos n) g ∷ []
lines_of (Values low high) = low_of low ∷ high_of high ∷ void_of high.unknown ∷ []
