-- The lines of a frame, and the numbers that they state.
use Rattle.std.specs.Prelude.{ℕ, zero, suc, ℤ, pos, List, [], ◌∷◌, ◌++◌, map}
use Rattle.std.specs.List.{range_with_len}
use Rattle.drg_algebra.specs.Rational.{ℚ}
use Rattle.drg_algebra.specs.Reduced.{numerator, denominator}
use Rattle.drg_derivation.specs.declared.line.Line.{Line}
use Rattle.drg_derivation.specs.declared.line.Line.TheVariants.{Frame, Theta, Prow, Qrow}
use Rattle.drg_quadratic.specs.Values.{Value}
use Rattle.drg_evidence.specs.FrameValues.{FrameValues}

-- the numerator and the positive denominator of a rational in lowest terms
abbrev pub fraction_numbers : ℚ → List ℤ
fraction_numbers q = numerator q ∷ denominator q ∷ []

-- those of a and, where the root isn't 0, those of b, of a value a + b √root
abbrev pub field_numbers : ℕ → Value → List ℤ
field_numbers zero x = fraction_numbers x.a
field_numbers (suc n) x = fraction_numbers x.a ++ fraction_numbers x.b

-- those of n values from x_l on
abbrev pub row_numbers : ℕ → (ℕ → Value) → ℕ → ℕ → List ℤ
row_numbers root x l zero = []
row_numbers root x l (suc n) = field_numbers root (x l) ++ row_numbers root x (suc l) n

-- the lines of n indices from l on
abbrev pub lines_from : (ℕ → Line) → ℕ → ℕ → List Line
lines_from line l n = map line (range_with_len l n)

module _ (d : ℕ) (f : FrameValues) where
  -- `theta i` with θ_i, `prow i` with P_i0 to P_id, and `qrow r` with Q_r0 to Q_rd
  abbrev pub theta_line : ℕ → Line
  theta_line i = Theta (pos i) (field_numbers f.root (f.theta i))

  abbrev pub eigen_line : ℕ → Line
  eigen_line i = Prow (pos i) (row_numbers f.root (f.eigen i) 0 (suc d))

  abbrev pub dual_line : ℕ → Line
  dual_line r = Qrow (pos r) (row_numbers f.root (f.dual r) 0 (suc d))

  -- the `frame` line, and then all lines of each kind
  abbrev pub frame_lines : List Line
  frame_lines =
      Frame (pos f.root)
      ∷ (lines_from theta_line 0 (suc d)
      ++ (lines_from eigen_line 0 (suc d) ++ lines_from dual_line 0 (suc d)))
