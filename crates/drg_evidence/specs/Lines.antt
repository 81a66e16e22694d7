-- The evidence lines of a claim: which numbers of the array its derivation states.
use Rattle.std.specs.Prelude.{◌≡◌, ℕ, zero, suc, ◌<◌, ◌≤◌, pos, List, [], ◌∷◌, length, slice_index_or}
use Rattle.drg_algebra.specs.Rational.{whole}
use Rattle.drg_array.specs.Entries.{Entries, diameter}
use Rattle.drg_array.specs.Numbers.{size, IsIntersectionNumber}
use Rattle.drg_array.specs.declared.claim.Claim.{Claim}
use Rattle.drg_array.specs.declared.claim.Claim.TheVariants.{First, Degree, Order, Cross, Size, Intersect, Handshake, Induced, Triangles, Mult}
use Rattle.drg_derivation.specs.declared.line.Line.{Line}
use Rattle.drg_intersection.specs.FirstNumbers.{FirstNumbers, IsFull}
use Rattle.drg_intersection.specs.Numbers.{place}
use Rattle.drg_derivation.specs.declared.line.Line.TheVariants.{K, P}
use Rattle.drg_evidence.specs.FrameLines.{frame_lines}
use Rattle.drg_evidence.specs.FrameValues.{FrameValues, HasFrame}

-- a `k` line with the first m sizes, k_0 to k_(m-1)
abbrev pub IsSizeLine : Entries → ℕ → Line → Type 0
IsSizeLine a m (K values) =
    (length values ≡ m)
    × ((i : ℕ) → i < m → size a i ≡ whole (slice_index_or values i (pos 0)))
IsSizeLine a m line = ⊥

-- a `p` line with row i of the intersection numbers with upper index h
abbrev pub IsRowLine : Entries → ℕ → ℕ → Line → Type 0
IsRowLine a h i (P g l values) =
    (g ≡ pos h) × (l ≡ pos i) × (length values ≡ suc (diameter a))
    × ((j : ℕ) → j ≤ diameter a
    → IsIntersectionNumber a h i j (whole (slice_index_or values j (pos 0))))
IsRowLine a h i line = ⊥

-- `p` lines with so many rows of h, from row i on
abbrev pub AreRowLines : Entries → ℕ → ℕ → ℕ → List Line → Type 0
AreRowLines a h i zero [] = Unit {0}
AreRowLines a h i zero (line ∷ lines) = ⊥
AreRowLines a h i (suc m) [] = ⊥
AreRowLines a h i (suc m) (line ∷ lines) = IsRowLine a h i line × AreRowLines a h (suc i) m lines

-- a `k` line with all sizes, and then `p` lines with rows 1 to m of h
abbrev pub AreSizesAndRows : Entries → ℕ → ℕ → List Line → Type 0
AreSizesAndRows a h m [] = ⊥
AreSizesAndRows a h m (line ∷ lines) =
    IsSizeLine a (suc (diameter a)) line × AreRowLines a h 1 m lines

-- a `k` line with all sizes, and then the lines of the frame
abbrev pub AreSizesAndFrame : Entries → FrameValues → List Line → Type 0
AreSizesAndFrame a f [] = ⊥
AreSizesAndFrame a f (line ∷ lines) =
    IsSizeLine a (suc (diameter a)) line × (lines ≡ frame_lines (diameter a) f)

-- a `k` line with all sizes, and then the lines of the frame of the array
pub record AreFullFrame (a : Entries) (lines : List Line) : Type 0 where
  pub frame : FrameValues
  pub is : HasFrame a frame
  pub are : AreSizesAndFrame a frame lines

-- The lines of a derivation of the claim: none where the entries show it; the sizes before k_i for
-- size i; rows 1 to i - 1 of h for intersect h i j; all sizes for handshake; also rows 1 to i of
-- h = i for induced i j and triangles i; and all sizes and the frame for mult i.
abbrev pub AreLinesOf : Entries → Claim → List Line → Type 0
AreLinesOf a First lines = lines ≡ []
AreLinesOf a (Degree i) lines = lines ≡ []
AreLinesOf a (Order i) lines = lines ≡ []
AreLinesOf a (Cross i j) lines = lines ≡ []
AreLinesOf a (Size i) lines = (line : Line) × (lines ≡ line ∷ []) × IsSizeLine a i line
AreLinesOf a (Intersect h zero j) lines = ⊥
AreLinesOf a (Intersect h (suc i) j) lines = AreRowLines a h 1 i lines
AreLinesOf a (Handshake i) lines = AreSizesAndRows a i 0 lines
AreLinesOf a (Induced i j) lines = AreSizesAndRows a i i lines
AreLinesOf a (Triangles i) lines = AreSizesAndRows a i i lines
AreLinesOf a (Mult i) lines = AreFullFrame a lines
AreLinesOf a claim lines = ⊥

-- The claim is one on counts, the numbers that its lines state are there, and its indices are those
-- of an array of this diameter.
abbrev pub HasNumbersOf : FirstNumbers → Claim → Type 0
HasNumbersOf first First = Unit {0}
HasNumbersOf first (Degree i) = Unit {0}
HasNumbersOf first (Order i) = Unit {0}
HasNumbersOf first (Cross i j) = Unit {0}
HasNumbersOf first (Size i) = i ≤ length first.sizes
HasNumbersOf first (Intersect h i j) =
    (h ≤ first.d) × (1 ≤ i) × (i ≤ first.d) × (place first.d h i 0 ≤ length first.table)
HasNumbersOf first (Handshake i) = IsFull first
HasNumbersOf first (Induced i j) = (i ≤ first.d) × IsFull first
HasNumbersOf first (Triangles i) = (i ≤ first.d) × IsFull first
HasNumbersOf first claim = ⊥
