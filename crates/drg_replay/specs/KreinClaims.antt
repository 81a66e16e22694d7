-- What closes the claims krein and absolute: a Krein parameter that is negative, and multiplicities
-- whose sum passes the absolute bound (Brouwer, Cohen and Neumaier 1989, section 2.3).
use Rattle.std.specs.Prelude.{ℕ, zero, suc, ◌+◌, nat_eq, ℤ, pos, Bool, true, false, ◌&&◌, if◌then◌else◌, List, [], ◌∷◌, Option}
use Rattle.std.specs.declared.cmp.Ordering.{Ordering}
use Rattle.std.specs.declared.cmp.Ordering.TheVariants.{Less}
use Rattle.drg_algebra.specs.Rational.{whole}
use Rattle.drg_array.specs.Entries.{Entries, diameter}
use Rattle.drg_fraction.specs.Work as Parts
use Rattle.drg_fraction.specs.Field.{sum_of, sums_fit}
use Rattle.drg_quadratic.specs.Values.{Value, nil, unit, plus, minus, times, invert, rational}
use Rattle.drg_quadratic.specs.Work.{sum_fits, difference_fits, product_fits, quotient_fits, sign_fits}
use Rattle.drg_quadratic.specs.Operations.{value_operations}
use Rattle.drg_replay.specs.Known.{FrameContent}
use Rattle.drg_replay.specs.Steps.{Step, Holds, Fits}
use Rattle.drg_replay.specs.FieldNumbers.{value_at, is_same_value, sign_at, is_greater}
use Rattle.drg_replay.specs.Frames.{line_at, in_frame}
use Rattle.drg_replay.specs.KreinLines.{krein_stands, krein_numbers}

-- ---- krein

abbrev pub is_less : Ordering → Bool
is_less Less = true
is_less _ = false

-- q^h_ij is negative, as the line states it
abbrev pub negative_steps : ℕ → Value → List Step
negative_steps root x = Fits (sign_fits root x) ∷ Holds (is_less (sign_at root x)) ∷ []

-- the `krein` line of i and j stands, and x_h is negative
abbrev pub krein_closing : Option FrameContent → ℕ → ℕ → ℕ → List Step
krein_closing frame i j h =
    in_frame frame
    (λ f.
    let numbers = krein_numbers f.krein i j in
    Holds (krein_stands f.krein i j) ∷ negative_steps f.root (value_at f.root numbers h))

-- ---- absolute

-- x_h is 0
abbrev pub vanishes : ℕ → List ℤ → ℕ → Bool
vanishes root numbers h = is_same_value (value_at root numbers h) nil

-- m_h for each h whose number isn't 0, for n places from h on; row 0 of Q has the m_h
unfoldable pub counted_from : ℕ → List ℤ → List ℤ → ℕ → ℕ → List Value
counted_from root m numbers h zero = []
counted_from root m numbers h (suc n) =
    if vanishes root numbers h then counted_from root m numbers (suc h) n
    else (value_at root m h ∷ counted_from root m numbers (suc h) n)

-- x / 2, by a division in the field in hand: one of fractions where there is no root
abbrev pub half : ℕ → Value → Value
half root x = times root x (invert root (rational (whole (pos 2))))

abbrev pub half_fits : ℕ → Value → Bool
half_fits zero x = Parts.quotient_fits x.a (whole (pos 2))
half_fits (suc n) x = quotient_fits (suc n) x (rational (whole (pos 2)))

-- x (x + 1) / 2
abbrev pub half_product : ℕ → Value → Value
half_product root x = half root (times root x (plus x unit))

abbrev pub half_product_fits : ℕ → Value → Bool
half_product_fits root x =
    sum_fits x unit
    && product_fits root x (plus x unit)
    && half_fits root (times root x (plus x unit))

-- the greatest sum that the bound allows: m_i m_j, or m_i (m_i + 1) / 2 where j is i
abbrev pub allowed : ℕ → (ℕ → Value) → ℕ → ℕ → Value
allowed root m i j = if nat_eq i j then half_product root (m i) else times root (m i) (m j)

abbrev pub allowed_fits : ℕ → (ℕ → Value) → ℕ → ℕ → Bool
allowed_fits root m i j =
    if nat_eq i j then half_product_fits root (m i) else product_fits root (m i) (m j)

-- the sum of these multiplicities is above the one that is allowed
unfoldable pub exceeding_steps : ℕ → List Value → (ℕ → Value) → ℕ → ℕ → List Step
exceeding_steps root counted m i j =
    let o = value_operations root in
    let difference = plus (sum_of o counted) (minus (allowed root m i j)) in
    Fits (sums_fit o counted)
    ∷ Fits (allowed_fits root m i j)
    ∷ Fits (difference_fits (sum_of o counted) (allowed root m i j))
    ∷ Fits (sign_fits root difference)
    ∷ Holds (is_greater (sign_at root difference))
    ∷ []

-- the `krein` line of i and j stands, and the bound fails for the m_h with x_h not 0
abbrev pub absolute_closing : Entries → Option FrameContent → ℕ → ℕ → List Step
absolute_closing a frame i j =
    in_frame frame
    (λ f.
    let m = line_at f.q 0 in
    let numbers = krein_numbers f.krein i j in
    Holds (krein_stands f.krein i j)
    ∷ exceeding_steps f.root (counted_from f.root m numbers 0 (diameter a + 1)) (value_at f.root m) i j)
