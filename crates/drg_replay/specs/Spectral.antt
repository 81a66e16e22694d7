-- What a derivation that is accepted with a frame says.
use Rattle.std.specs.Prelude.{◌≡◌, ℕ, suc, ◌<◌, ◌≤◌, pos, true, Some, Ok}
use Rattle.drg_algebra.specs.Rational.{whole}
use Rattle.drg_algebra.specs.Tables.{total}
use Rattle.drg_array.specs.Entries.{IsArray, diameter}
use Rattle.drg_array.specs.declared.claim.Claim.{Claim}
use Rattle.drg_array.specs.declared.claim.Claim.TheVariants.{Mult, Krein, Absolute}
use Rattle.drg_array.specs.declared.claim.Class.TheVariants.{Spectral}
use Rattle.drg_derivation.specs.Content.{Content}
use Rattle.drg_matrix.specs.Frame.{IsFrame, multiplicity}
use Rattle.drg_matrix.specs.Krein.{AreKreinNumbersOf}
use Rattle.drg_quadratic.specs.Values.{IsRoot, IsOver, Value, nil, plus, minus, rational}
use Rattle.drg_quadratic.specs.Operations.{value_operations}
use Rattle.drg_replay.specs.Known.{FrameContent}
use Rattle.drg_replay.specs.FieldNumbers.{value_at}
use Rattle.drg_replay.specs.Frames.{theta_at, p_at, q_at}
use Rattle.drg_replay.specs.KreinClaims.{allowed}
use Rattle.drg_replay.specs.KreinLines.{krein_stands, krein_numbers}
use Rattle.drg_replay.specs.Lines.{known_at_end}
use Rattle.drg_replay.specs.Answers.{answer_of}

-- the written eigenvalues and matrices are a frame of the array, over the written root
pub record WritesFrame (δ : Content) : Type 0 where
  pub written : FrameContent
  pub stands : (known_at_end δ).frame ≡ Some written
  pub root : IsRoot written.root
  pub frame : IsFrame (value_operations written.root) δ.array (theta_at written) (p_at written) (q_at written)

-- a positive whole number
abbrev pub IsCount : Value → Type 0
IsCount x = (m : ℕ) × (0 < m) × (x ≡ rational (whole (pos m)))

-- and the multiplicity of an eigenvalue isn't a positive whole number
pub record FailsMult (δ : Content) (i : ℕ) : Type 0 where
  pub writes : WritesFrame δ
  pub fails : ¬ IsCount (multiplicity (q_at writes.written) i)

-- q^h_ij as the `krein` line of i and j writes it
abbrev pub parameter_at : FrameContent → ℕ → ℕ → ℕ → Value
parameter_at f i j h = value_at f.root (krein_numbers f.krein i j) h

-- a `krein` line of i and j stands after the frame, where 1 ≤ i ≤ j ≤ d, and its numbers are their
-- Krein parameters
pub record WritesKrein (δ : Content) (f : FrameContent) (i j : ℕ) : Type 0 where
  pub low : 1 ≤ i
  pub ordered : i ≤ j
  pub inside : j ≤ diameter δ.array
  pub stands : krein_stands f.krein i j ≡ true
  pub over : (h : ℕ) → h ≤ diameter δ.array → IsOver f.root (parameter_at f i j h)
  pub parameters : AreKreinNumbersOf (value_operations f.root) (diameter δ.array) (q_at f) i j (parameter_at f i j)

-- and that of h is negative
pub record FailsKrein (δ : Content) (i j h : ℕ) : Type 0 where
  pub writes : WritesFrame δ
  pub parameters : WritesKrein δ writes.written i j
  pub inside : h ≤ diameter δ.array
  pub negative : (value_operations writes.written.root).IsPositive (minus (parameter_at writes.written i j h))

-- and the absolute bound fails: the sum of the multiplicities m_h over all h from 0 to d with q^h_ij
-- not 0 is above m_i m_j, or above m_i (m_i + 1) / 2 where j is i
pub record FailsAbsolute (δ : Content) (i j : ℕ) : Type 0 where
  pub writes : WritesFrame δ
  pub parameters : WritesKrein δ writes.written i j
  -- m_h where q^h_ij isn't 0, and else 0
  pub counted : ℕ → Value
  pub vanishing : (h : ℕ) → parameter_at writes.written i j h ≡ nil → counted h ≡ nil
  pub others : (h : ℕ) → ¬ (parameter_at writes.written i j h ≡ nil) → counted h ≡ multiplicity (q_at writes.written) h
  pub above :
      (let most = allowed writes.written.root (multiplicity (q_at writes.written)) i j in
      (value_operations writes.written.root).IsPositive
      (plus (total nil plus (suc (diameter δ.array)) counted) (minus most)))

-- what it says for a claim; no other claim is accepted with a frame
abbrev pub SpectralSays : Content → Claim → Type 0
SpectralSays δ (Mult i) = FailsMult δ i
SpectralSays δ (Krein i j h) = FailsKrein δ i j h
SpectralSays δ (Absolute i j) = FailsAbsolute δ i j
SpectralSays δ _ = ⊥

abbrev pub SpectralHolds : Content → Type 0
SpectralHolds δ = SpectralSays δ δ.claim

abbrev pub SpectralLaw : Type 0
SpectralLaw = (δ : Content) → IsArray δ.array → answer_of δ ≡ Ok Spectral → SpectralHolds δ
