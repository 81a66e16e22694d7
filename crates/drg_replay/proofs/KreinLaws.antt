-- Met `krein` lines hold Krein parameters of the frame.
use Rattle.std.proofs.Common.{◌≡◌, ℕ, zero, suc, ◌+◌, ◌<◌, ◌≤◌, true, false, List, [], ◌∷◌, ◌++◌, length, refl, sym, ap, ◌∙◌, subst, arith, inl, inr, Option, Some, None}
use Rattle.std.specs.Prelude.{ℤ, pos, negsuc, int_le, ⊤, ◌⊎◌, nat_eq, unsigned_abs}
use Rattle.std.proofs.lemmas.Int.{ints}
use Rattle.drg_algebra.specs.Tables.{total}
use Rattle.drg_algebra.proofs.Tests.{both, decided}
use Rattle.drg_array.specs.Entries.{Entries, diameter}
use Rattle.drg_array.specs.declared.claim.Claim.{Claim}
use Rattle.drg_derivation.specs.declared.line.Line.{Line}
use Rattle.drg_derivation.specs.declared.line.Line.TheVariants.{Frame, Theta, Prow, Qrow, Krein}
use Rattle.drg_matrix.specs.Krein.{AreKreinNumbersOf}
use Rattle.drg_quadratic.specs.Values.{IsRoot, nil, plus, times}
use Rattle.drg_quadratic.specs.Operations.{value_operations}
use Rattle.drg_quadratic.specs.Laws.{value_laws}
use Rattle.drg_replay.specs.Known.{FrameContent, KreinContent}
use Rattle.drg_replay.specs.Steps.{EachHolds}
use Rattle.drg_replay.specs.Indices.{is_index}
use Rattle.drg_replay.specs.FieldNumbers.{value_at}
use Rattle.drg_replay.specs.Frames.{line_at, q_at, qrow_steps, in_frame}
use Rattle.drg_replay.specs.KreinLines.{is_of, krein_content, krein_stands, krein_numbers, with_krein, parameter_steps, parameter_rows, krein_steps}
use Rattle.drg_replay.specs.Lines.{with_theta, with_prow, with_qrow, frame_after, known_of}
use Rattle.drg_replay.specs.Answers.{AllAreMet}
use Rattle.drg_replay.proofs.LineLaws.{rule_holds}
use Rattle.drg_replay.proofs.StepLaws.{is_same}
use Rattle.drg_replay.proofs.SumLaws.{dot_is_sum}
use Rattle.drg_replay.proofs.ValueLaws.{same_value}
use Rattle.drg_replay.proofs.KnownLaws.{index_below}
use Rattle.drg_replay.proofs.FrameLaws.{first_part, next_below}

-- ---- lines of other indices

-- a line that stands among these, with one more at the end, is one of the first or the last
abbrev pub IsOneOf : List KreinContent → KreinContent → ℕ → ℕ → Type 0
IsOneOf lines last i j =
    ((krein_stands lines i j ≡ true) × (krein_numbers (lines ++ last ∷ []) i j ≡ krein_numbers lines i j))
    ⊎ ((is_of last i j ≡ true) × (krein_numbers (lines ++ last ∷ []) i j ≡ last.numbers))

pub added : (lines : List KreinContent) (last : KreinContent) (i j : ℕ) → krein_stands (lines ++ last ∷ []) i j ≡ true → IsOneOf lines last i j
added [] last i j h = by (decided (is_of last i j))
  where
    by : (is_of last i j ≡ true) ⊎ (is_of last i j ≡ false) → IsOneOf [] last i j
    by (inl e) = inr (e, rw e refl)
    by (inr e) = let stands : false ≡ true = rw e at h in absurd cc
added (first ∷ rest) last i j h = by (decided (is_of first i j)) (added rest last i j)
  where
    by : (is_of first i j ≡ true) ⊎ (is_of first i j ≡ false) → (krein_stands (rest ++ last ∷ []) i j ≡ true → IsOneOf rest last i j) → IsOneOf (first ∷ rest) last i j
    by (inl e) further = inl (rw e refl, rw e refl)
    by (inr e) further = rw e (further (rw e at h))

-- ---- what stands

-- the line of i and j holds in each row of Q, and Q is whole
pub record Stated (a : Entries) (f : FrameContent) (i j : ℕ) (numbers : List ℤ) : Type 0 where
  pub low : 1 ≤ i
  pub ordered : i ≤ j
  pub inside : j ≤ diameter a
  pub all : length f.q ≡ diameter a + 1
  pub rows : EachHolds (parameter_rows f.root (diameter a + 1) numbers i j f.q)

abbrev pub AllStated : Entries → FrameContent → Type 0
AllStated a f = (i j : ℕ) → krein_stands f.krein i j ≡ true → Stated a f i j (krein_numbers f.krein i j)

-- the bounds of an index
above_least : (least limit : ℕ) (n : ℤ) → is_index least n limit ≡ true → least ≤ unsigned_abs n
above_least least limit (pos n) h = let b = both (int_le (pos least) (pos n)) (int_le (pos n) (pos limit)) h in let low = b.0 in omega (arith, ints)
above_least least limit (negsuc n) h = cc

module _ (a : Entries) (f : FrameContent) (all : AllStated a f) where
  with_theta_stated : (numbers : List ℤ) → AllStated a (with_theta f numbers)
  with_theta_stated numbers i j h =
      let s = all i j h in record { low = s.low; ordered = s.ordered; inside = s.inside; all = s.all; rows = s.rows }

  with_prow_stated : (numbers : List ℤ) → AllStated a (with_prow f numbers)
  with_prow_stated numbers i j h =
      let s = all i j h in record { low = s.low; ordered = s.ordered; inside = s.inside; all = s.all; rows = s.rows }

  -- no row of Q comes after a `krein` line
  with_qrow_stated : (sizes : Option (List ℤ)) (r : ℤ) (numbers : List ℤ) → EachHolds (qrow_steps a sizes f r numbers) → AllStated a (with_qrow f numbers)
  with_qrow_stated sizes r numbers steps i j h =
      let low = next_below a r f.q steps.1.1.0 in
      let whole = (all i j h).all in
      absurd (omega (arith, low, whole))

  with_krein_stated : (i j : ℤ) (numbers : List ℤ) → EachHolds (krein_steps a f i j numbers) → AllStated a (with_krein f (unsigned_abs i) (unsigned_abs j) numbers)
  with_krein_stated i j numbers steps k l h =
      let last : KreinContent = krein_content (unsigned_abs i) (unsigned_abs j) numbers in
      let new : Stated a f (unsigned_abs i) (unsigned_abs j) numbers = record {
        low = above_least 1 (diameter a) i steps.0;
        ordered = above_least (unsigned_abs i) (diameter a) j steps.1.0;
        inside = index_below (unsigned_abs i) (diameter a) j steps.1.0;
        all = is_same _ _ steps.1.1.1.0;
        rows = steps.1.1.1.1.1;
      } in
      elim (added f.krein last k l h) [
        | inl old ↦ (let s = subst (Stated a f k l) (sym old.1) (all k l old.0) in
            record { low = s.low; ordered = s.ordered; inside = s.inside; all = s.all; rows = s.rows })
        | inr is ↦ (let at = both (nat_eq (unsigned_abs i) k) (nat_eq (unsigned_abs j) l) is.0 in
            let P : ℕ → Type 0 = λ k. Stated a f k (unsigned_abs j) numbers in
            let Q : ℕ → Type 0 = λ l. Stated a f k l numbers in
            let s = subst (Stated a f k l) (sym is.1) (subst Q (is_same _ _ at.1) (subst P (is_same _ _ at.0) new)) in
            record { low = s.low; ordered = s.ordered; inside = s.inside; all = s.all; rows = s.rows })
      ]

-- ---- the lines that are known
pub IfStated : Entries → Option FrameContent → Type 0
IfStated a None = ⊤
IfStated a (Some f) = AllStated a f

nothing_stated : (a : Entries) → IfStated a None
unfolding IfStated
nothing_stated a = tt

begun_stated : (a : Entries) (root : ℤ) (frame : Option FrameContent) → IfStated a (frame_after (Frame root) frame)
unfolding IfStated
begun_stated a root frame i j h = let never : false ≡ true = h in absurd cc

theta_stated : (a : Entries) (frame : Option FrameContent) (i : ℤ) (numbers : List ℤ) → IfStated a frame → IfStated a (frame_after (Theta i numbers) frame)
unfolding IfStated
theta_stated a None i numbers k = tt
theta_stated a (Some f) i numbers k = with_theta_stated a f k numbers

prow_stated : (a : Entries) (frame : Option FrameContent) (i : ℤ) (numbers : List ℤ) → IfStated a frame → IfStated a (frame_after (Prow i numbers) frame)
unfolding IfStated
prow_stated a None i numbers k = tt
prow_stated a (Some f) i numbers k = with_prow_stated a f k numbers

qrow_stated : (a : Entries) (sizes : Option (List ℤ)) (frame : Option FrameContent) (r : ℤ) (numbers : List ℤ) → EachHolds (in_frame frame (λ f. qrow_steps a sizes f r numbers)) → IfStated a frame
    → IfStated a (frame_after (Qrow r numbers) frame)
unfolding IfStated
qrow_stated a sizes None r numbers h k = tt
qrow_stated a sizes (Some f) r numbers h k = with_qrow_stated a f k sizes r numbers h

krein_stated : (a : Entries) (frame : Option FrameContent) (i j : ℤ) (numbers : List ℤ) → EachHolds (in_frame frame (λ f. krein_steps a f i j numbers)) → IfStated a frame
    → IfStated a (frame_after (Krein i j numbers) frame)
unfolding IfStated
krein_stated a None i j numbers h k = tt
krein_stated a (Some f) i j numbers h k = with_krein_stated a f k i j numbers h

pub krein_known : (a : Entries) (claim : Claim) (lines : List Line) → AllAreMet a claim lines → (let k = known_of a claim lines in IfStated k.array k.frame)
krein_known a claim [] met = nothing_stated a
krein_known a claim (Frame root ∷ earlier) met = let k = known_of a claim earlier in begun_stated k.array root k.frame
krein_known a claim (Theta i numbers ∷ earlier) met =
    let k = known_of a claim earlier in theta_stated k.array k.frame i numbers (krein_known a claim earlier met.0)
krein_known a claim (Prow i numbers ∷ earlier) met =
    let k = known_of a claim earlier in prow_stated k.array k.frame i numbers (krein_known a claim earlier met.0)
krein_known a claim (Qrow r numbers ∷ earlier) met =
    let k = known_of a claim earlier in
    qrow_stated k.array k.counts.sizes k.frame r numbers (rule_holds k (Qrow r numbers) met.1) (krein_known a claim earlier met.0)
krein_known a claim (Krein i j numbers ∷ earlier) met =
    let k = known_of a claim earlier in
    krein_stated k.array k.frame i j numbers (rule_holds k (Krein i j numbers) met.1) (krein_known a claim earlier met.0)
krein_known a claim (_ ∷ earlier) met = krein_known a claim earlier met.0

-- a line that stands in a known frame
pub stated_in : (a : Entries) (frame : Option FrameContent) (f : FrameContent) → frame ≡ Some f → IfStated a frame → (i j : ℕ) → krein_stands f.krein i j ≡ true → Stated a f i j (krein_numbers f.krein i j)
unfolding IfStated
stated_in a frame f e known = subst (IfStated a) e known

-- ---- what a line that stands says
row_holds : (root side : ℕ) (numbers : List ℤ) (i j : ℕ) (rows : List (List ℤ)) (r : ℕ) → r < length rows → EachHolds (parameter_rows root side numbers i j rows) → EachHolds (parameter_steps root side numbers i j (line_at rows r))
unfolding parameter_rows
row_holds root side numbers i j [] r less h = absurd (omega arith)
row_holds root side numbers i j (row ∷ rest) zero less h = (first_part (parameter_steps root side numbers i j row) (parameter_rows root side numbers i j rest) h).0
row_holds root side numbers i j (row ∷ rest) (suc r) less h =
    row_holds root side numbers i j rest r (omega arith) (first_part (parameter_steps root side numbers i j row) (parameter_rows root side numbers i j rest) h).1

-- the product at i and j is the sum of the products with the numbers
row_is : (root : ℕ) → IsRoot root → (d : ℕ) (numbers : List ℤ) (i j : ℕ) (row : List ℤ) → EachHolds (parameter_steps root (d + 1) numbers i j row)
    → times root (value_at root row i) (value_at root row j) ≡ total nil plus (suc d) (λ h. times root (value_at root numbers h) (value_at root row h))
unfolding parameter_steps
row_is root is_root d numbers i j row h =
    let side : d + 1 ≡ suc d = omega arith in
    (same_value _ _).0 h.1.1.0
    ∙ dot_is_sum (value_operations root) (value_laws root is_root).ring (value_at root numbers) (value_at root row) (d + 1)
    ∙ ap (λ (n : ℕ). total nil plus n (λ h. times root (value_at root numbers h) (value_at root row h))) side

pub parameters_are : (a : Entries) (f : FrameContent) (i j : ℕ) (numbers : List ℤ) → IsRoot f.root → Stated a f i j numbers
    → AreKreinNumbersOf (value_operations f.root) (diameter a) (q_at f) i j (value_at f.root numbers)
parameters_are a f i j numbers root s r inside =
    let all = s.all in
    row_is f.root root (diameter a) numbers i j (line_at f.q r) (row_holds f.root (diameter a + 1) numbers i j f.q r (omega (arith, inside, all)) s.rows)
