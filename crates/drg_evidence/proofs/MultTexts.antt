-- A derivation with the lines of a claim of the test mult has a text.
use Rattle.std.proofs.Common.{◌≡◌, ℕ, zero, suc, ◌+◌, ◌*◌, ◌^◌, ◌<◌, ◌≤◌, List, [], ◌∷◌, ◌++◌, length, refl, sym, ap, ◌∙◌, subst, arith, ℤ, pos, None}
use Rattle.std.specs.List.{AllByRecursion}
use Rattle.drg_array.specs.Entries.{Entries, IsArray, diameter}
use Rattle.drg_derivation.specs.Integers.{IsShort}
use Rattle.drg_derivation.specs.Lines.{AreEvidence, AreShort, IsSuited, after_line, numbers_of}
use Rattle.drg_derivation.specs.Shapes.{width_of}
use Rattle.drg_derivation.specs.Text.{context_of}
use Rattle.drg_derivation.specs.Words.{IsClaim}
use Rattle.drg_derivation.specs.declared.context.Context.{Context}
use Rattle.drg_derivation.specs.declared.line.Line.{Line}
use Rattle.drg_derivation.specs.declared.line.Line.TheVariants.{K}
use Rattle.drg_eigen.specs.SplitLaws.{OneSplit}
use Rattle.drg_intersection.specs.Faults.{AllPass}
use Rattle.drg_quadratic.specs.Values.{Value}
use Rattle.drg_evidence.specs.FrameLines.{dual_line, eigen_line, field_numbers, frame_lines, lines_from, row_numbers, theta_line}
use Rattle.drg_evidence.specs.FrameValues.{FrameValues}
use Rattle.drg_evidence.specs.Laws.{MultHasText}
use Rattle.drg_evidence.specs.Lines.{AreSizesAndFrame}
use Rattle.drg_evidence.proofs.FieldWork.{AreShown}
use Rattle.drg_evidence.proofs.FrameNumbers.{row_length}
use Rattle.drg_evidence.proofs.FrameTaken.{IsWithinRange}
use Rattle.drg_evidence.proofs.MultAcceptance.{all_sizes}
use Rattle.drg_evidence.proofs.SmallRoots.{small_root}
use Rattle.drg_evidence.proofs.Texts.{CanStand, sizes_stand}
use Rattle.drg_evidence.proofs.WithinRange.{within_range}

-- ---- lines at their places
module _ (context : Context) where
  -- lines after which the places are the same
  suited_lines : (line : ℕ → Line) (l n : ℕ) (rest : List Line) → ((i : ℕ) → after_line context (line i) ≡ context) → ((i : ℕ) → IsSuited context (line i)) → AreEvidence context rest
      → AreEvidence context (lines_from line l n ++ rest)
  suited_lines line l zero rest keeps suited there = there
  suited_lines line l (suc n) rest keeps suited there =
      (suited l, subst (λ c. AreEvidence c (lines_from line (l + 1) n ++ rest)) (sym (keeps l)) (suited_lines line (l + 1) n rest keeps suited there))

field_length : (root : ℕ) (x : Value) → length (field_numbers root x) ≡ width_of (pos root)
field_length zero x = refl
field_length (suc n) x = refl

row_width : (root : ℕ) (x : ℕ → Value) (d : ℕ) → length (row_numbers root x 0 (suc d)) ≡ width_of (pos root) * (d + 1)
row_width zero x d = let count = row_length zero x 0 (suc d) in omega (arith, count)
row_width (suc n) x d = let count = row_length (suc n) x 0 (suc d) in omega (arith, count)

nothing_more : (lines : List Line) → lines ++ [] ≡ lines
nothing_more [] = refl
nothing_more (x ∷ xs) = ap (λ ls. x ∷ ls) (nothing_more xs)

module _ (context : Context) (d : ℕ) (f : FrameValues) (same : context.d ≡ d) (wide : context.width ≡ width_of (pos f.root)) (known : 1 ≤ context.version) where
  theta_suited : (i : ℕ) → IsSuited context (theta_line d f i)
  theta_suited i = let count = field_length f.root (f.theta i) in record { known = known; led = omega arith; followed = omega (arith, count, wide) }

  eigen_suited : (i : ℕ) → IsSuited context (eigen_line d f i)
  eigen_suited i = let count = row_width f.root (f.eigen i) d ∙ sides in record { known = known; led = omega arith; followed = omega (arith, count) }
    where
      sides : width_of (pos f.root) * (d + 1) ≡ context.width * (context.d + 1)
      sides = rw (same, wide) refl

  dual_suited : (r : ℕ) → IsSuited context (dual_line d f r)
  dual_suited r = let count = row_width f.root (f.dual r) d ∙ sides in record { known = known; led = omega arith; followed = omega (arith, count) }
    where
      sides : width_of (pos f.root) * (d + 1) ≡ context.width * (context.d + 1)
      sides = rw (same, wide) refl

  rows_stand : AreEvidence context (lines_from (theta_line d f) 0 (suc d) ++ (lines_from (eigen_line d f) 0 (suc d) ++ lines_from (dual_line d f) 0 (suc d)))
  rows_stand =
      suited_lines context (theta_line d f) 0 (suc d) _ (λ i. refl) theta_suited
      (suited_lines context (eigen_line d f) 0 (suc d) _ (λ i. refl) eigen_suited
      (subst (AreEvidence context) (nothing_more (lines_from (dual_line d f) 0 (suc d))) (suited_lines context (dual_line d f) 0 (suc d) [] (λ i. refl) dual_suited tt)))

-- ---- numbers that can be written
all_after : (xs ys : List ℤ) → AllByRecursion IsShort xs → AllByRecursion IsShort ys → AllByRecursion IsShort (xs ++ ys)
all_after [] ys here there = there
all_after (x ∷ xs) ys here there = (here.0, all_after xs ys here.1 there)

field_short : (root : ℕ) (x : Value) → AreShown x → AllByRecursion IsShort (field_numbers root x)
field_short zero x s = (let o = s.first.over in omega (arith, o), (let u = s.first.under in omega (arith, u), tt))
field_short (suc n) x s =
    (let o = s.first.over in omega (arith, o), (let u = s.first.under in omega (arith, u), (let p = s.second.over in omega (arith, p), (let v = s.second.under in omega (arith, v), tt))))

row_short : (root : ℕ) (x : ℕ → Value) (l n : ℕ) → ((j : ℕ) → j < l + n → AreShown (x j)) → AllByRecursion IsShort (row_numbers root x l n)
row_short root x l zero s = tt
row_short root x l (suc n) s = all_after (field_numbers root (x l)) _ (field_short root (x l) (s l (omega arith))) (row_short root x (suc l) n (λ j less. s j (omega arith)))

short_lines : (line : ℕ → Line) (l n : ℕ) (rest : List Line) → ((i : ℕ) → i < l + n → AllByRecursion IsShort (numbers_of (line i))) → AreShort rest → AreShort (lines_from line l n ++ rest)
short_lines line l zero rest short there = there
short_lines line l (suc n) rest short there = (short l (omega arith), short_lines line (l + 1) n rest (λ i less. short i (omega arith)) there)

module _ (a : Entries) (array : IsArray a) (f : FrameValues) (w : IsWithinRange a f) (small : f.root < 2 ^ 32) where
  abbrev d : ℕ
  d = diameter a

  index_short : (i : ℕ) → i < suc d → IsShort (pos i)
  index_short i less = let high = array.short in omega (arith, high, less)

  theta_shown : (i : ℕ) → i ≤ d → AreShown (f.theta i)
  theta_shown i h = let some = array.some in subst AreShown (w.frame.eigenvalues i h) (w.eigen_shown i 1 h some)

  frame_short : AreShort (frame_lines d f)
  frame_short = (
    (omega (arith, small), tt),
    short_lines (theta_line d f) 0 (suc d) _ (λ i less. (index_short i (omega (arith, less)), field_short f.root (f.theta i) (theta_shown i (omega arith))))
        (short_lines (eigen_line d f) 0 (suc d) _ (λ i less. (index_short i (omega (arith, less)), row_short f.root (f.eigen i) 0 (suc d) (λ j inside. w.eigen_shown i j (omega arith) (omega arith))))
        (subst AreShort (nothing_more (lines_from (dual_line d f) 0 (suc d)))
        (short_lines (dual_line d f) 0 (suc d) [] (λ r less. (index_short r (omega (arith, less)), row_short f.root (f.dual r) 0 (suc d) (λ j inside. w.dual_shown r j (omega arith) (omega arith)))) tt))),
  )

  frame_stands : (context : Context) → context.d ≡ d → 1 ≤ context.version → AreEvidence context (frame_lines d f)
  frame_stands context same known =
      (record { known = known; led = omega arith; followed = omega arith }, rows_stand (record context { width = width_of (pos f.root) }) d f same refl known)

  pub full_frame_stands : (values : List ℤ) → CanStand a (K values) → AreEvidence (context_of a) (K values ∷ frame_lines d f) × AreShort (K values ∷ frame_lines d f)
  full_frame_stands values can = (
    (record { known = omega arith; led = omega arith; followed = (let few = can.0 in let many = can.1 in (omega (arith, few), omega (arith, many))) }, frame_stands (context_of a) refl (omega arith)),
    (can.2, frame_short),
  )

stands : (a : Entries) (array : IsArray a) (f : FrameValues) (w : IsWithinRange a f) → f.root < 2 ^ 32 → (lines : List Line) → AllPass a → AreSizesAndFrame a f lines
    → AreEvidence (context_of a) lines × AreShort lines
stands a array f w small [] pass are = absurd are
stands a array f w small (K values ∷ lines) pass ((count, sizes), same) =
    let can = sizes_stand a array None values (all_sizes a array pass values count sizes) in
    subst (λ ls. AreEvidence (context_of a) (K values ∷ ls) × AreShort (K values ∷ ls)) (sym same) (full_frame_stands a array f w small values can)
stands a array f w small (line ∷ lines) pass are = absurd are.0

pub mult_has_text : OneSplit → MultHasText
mult_has_text split derivation i shows =
    let a = derivation.array in
    let f = shows.lines.frame in
    let is = shows.lines.is in
    let w = within_range split a shows.array f is shows.made.1 in
    let small = small_root a shows.array f.root is.thetas is.spectrum in
    let high = shows.array.short in
    let low = shows.fails.place.1 in
    let both = stands a shows.array f w small derivation.lines shows.made.0 shows.lines.are in
    record {
      array = shows.array;
      claim = subst IsClaim (sym shows.claimed) (omega (arith, high, low), tt);
      evidence = both.0;
      short = both.1;
    }
