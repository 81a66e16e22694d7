-- What a claim asks: at its line, that its indices are in the range of its test; and at the end,
-- that it is closed.
use Rattle.std.specs.Prelude.{ℕ, suc, ◌+◌, ◌-◌, nat_eq, nat_lt, nat_le, ℤ, pos, int_lt, ◌*ℤ◌, Bool, true, false, ◌&&◌, ◌||◌, not, List, [], ◌∷◌, length, Option}
use Rattle.drg_array.specs.Entries.{Entries, diameter, b_at, c_at, a_at}
use Rattle.drg_array.specs.declared.claim.Claim.{Claim}
use Rattle.drg_array.specs.declared.claim.Claim.TheVariants.{First, Degree, Order, Cross, Size, Intersect, Handshake, Induced, Triangles, Mult, Krein, Absolute, Triple}
use Rattle.drg_replay.specs.Known.{KnownContent, FrameContent}
use Rattle.std.specs.Ordering.{int_eq}
use Rattle.drg_algebra.specs.Reduced.{numerator, denominator}
use Rattle.drg_quadratic.specs.Values.{Value}
use Rattle.drg_replay.specs.Frames.{q_at, all_stand, in_frame}
use Rattle.drg_replay.specs.KreinClaims.{krein_closing, absolute_closing}
use Rattle.drg_replay.specs.Rooms.{are_closed}
use Rattle.drg_replay.specs.Steps.{Step, Holds, Fits, not_built}
use Rattle.drg_whole.specs.Range.{in_range}
use Rattle.drg_whole.specs.Residues.{divides}
use Rattle.drg_replay.specs.Sizes.{values_of, size_at, is_full, vertex_count}
use Rattle.drg_replay.specs.Rows.{rows_at, row_stands, entry, balance_sum, balance_fits}

-- from 1 to d
abbrev pub is_distance : Entries → ℕ → Bool
is_distance a i = nat_le 1 i && nat_le i (diameter a)

-- the indices lie in the range of the test; no other claim is met yet
abbrev pub claim_is_met : Entries → Claim → Bool
claim_is_met a First = true
claim_is_met a (Degree i) = is_distance a i
claim_is_met a (Order i) = nat_le 1 i && nat_lt i (diameter a)
claim_is_met a (Cross i j) = nat_le 1 i && nat_le (i + j) (diameter a)
claim_is_met a (Size i) = is_distance a i
claim_is_met a (Intersect h i j) =
    nat_le h (diameter a) && nat_le i (diameter a) && nat_le j (diameter a)
claim_is_met a (Handshake i) = is_distance a i
claim_is_met a (Induced i j) = is_distance a i && is_distance a j
claim_is_met a (Triangles i) = is_distance a i
claim_is_met a (Mult i) = is_distance a i
claim_is_met a (Triple u v w) = is_distance a u && is_distance a v && is_distance a w
claim_is_met a _ = false

-- b_i < b_(i+1), or c_(i+1) < c_i
abbrev pub breaks_order : Entries → ℕ → Bool
breaks_order a i = nat_lt (b_at a i) (b_at a (suc i)) || nat_lt (c_at a (suc i)) (c_at a i)

-- c_i doesn't divide v_(i-1) b_(i-1)
abbrev pub size_closing : Entries → Option (List ℤ) → ℕ → List Step
size_closing a sizes i =
    Holds (nat_le i (length (values_of sizes)))
    ∷ Fits (in_range (size_at sizes (i - 1) *ℤ pos (b_at a (i - 1))))
    ∷ Holds (not (divides (c_at a i) (size_at sizes (i - 1) *ℤ pos (b_at a (i - 1)))))
    ∷ []

-- N(h,i,j) is negative, or c_i doesn't divide it
abbrev pub intersect_closing : Entries → ℕ → List (List ℤ) → ℕ → ℕ → List Step
intersect_closing a h rows i j =
    let numerator = balance_sum a h rows (i - 1) j in
    Holds (nat_le 1 i)
    ∷ Holds (row_stands rows (i - 1))
    ∷ Fits (balance_fits a h rows (i - 1) j)
    ∷ Holds (int_lt numerator (pos 0) || not (divides (c_at a i) numerator))
    ∷ []

-- The conditions on parity go by residues, so they make no work number.

-- n k_i is odd
abbrev pub handshake_closing : Entries → Option (List ℤ) → ℕ → List Step
handshake_closing a sizes i =
    Holds (is_full a sizes)
    ∷ Holds (not (divides 2 (vertex_count sizes *ℤ size_at sizes i)))
    ∷ []

-- k_i p^i_ij is odd
abbrev pub induced_closing : Entries → Option (List ℤ) → List (List ℤ) → ℕ → ℕ → List Step
induced_closing a sizes rows i j =
    Holds (is_full a sizes)
    ∷ Holds (row_stands rows i)
    ∷ Holds (not (divides 2 (size_at sizes i *ℤ entry i rows i j)))
    ∷ []

-- 6 doesn't divide n k_i p^i_ii
abbrev pub triangles_closing : Entries → Option (List ℤ) → List (List ℤ) → ℕ → List Step
triangles_closing a sizes rows i =
    Holds (is_full a sizes)
    ∷ Holds (row_stands rows i)
    ∷ Holds (not (divides 6 (vertex_count sizes *ℤ size_at sizes i *ℤ entry i rows i i)))
    ∷ []

-- x is a positive whole number
abbrev pub is_positive_whole : Value → Bool
is_positive_whole x =
    int_eq (numerator x.b) (pos 0) && int_eq (denominator x.a) (pos 1)
    && int_lt (pos 0) (numerator x.a)

-- the frame is whole, and Q_0i isn't a positive whole number
abbrev pub mult_closing : Entries → Option FrameContent → ℕ → List Step
mult_closing a frame i =
    in_frame frame (λ f. Holds (all_stand a f.q) ∷ Holds (not (is_positive_whole (q_at f 0 i))) ∷ [])

-- the claims that have a rule for the end; no other claim is closed yet
abbrev pub closing_of : KnownContent → Claim → List Step
closing_of k First = Holds (not (nat_eq (c_at k.array 1) 1)) ∷ []
closing_of k (Degree i) = Holds (int_lt (a_at k.array i) (pos 0)) ∷ []
closing_of k (Order i) = Holds (breaks_order k.array i) ∷ []
closing_of k (Cross i j) = Holds (nat_lt (b_at k.array j) (c_at k.array i)) ∷ []
closing_of k (Size i) = size_closing k.array k.counts.sizes i
closing_of k (Intersect h i j) = intersect_closing k.array h (rows_at k.counts.rows h) i j
closing_of k (Handshake i) = handshake_closing k.array k.counts.sizes i
closing_of k (Induced i j) = induced_closing k.array k.counts.sizes (rows_at k.counts.rows i) i j
closing_of k (Triangles i) = triangles_closing k.array k.counts.sizes (rows_at k.counts.rows i) i
closing_of k (Mult i) = mult_closing k.array k.frame i
closing_of k (Krein i j h) = krein_closing k.frame i j h
closing_of k (Absolute i j) = absolute_closing k.array k.frame i j
closing_of k (Triple u v w) = Holds (are_closed k.rooms) ∷ []
closing_of k _ = not_built

-- what the end asks for the claim in force
abbrev pub closing_steps : KnownContent → List Step
closing_steps k = closing_of k k.claim
