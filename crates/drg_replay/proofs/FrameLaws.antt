-- Met lines of a frame hold a frame.
use Rattle.std.proofs.Common.{◌≡◌, ℕ, zero, suc, ◌+◌, ◌<◌, ◌≤◌, true, false, List, [], ◌∷◌, ◌++◌, length, refl, sym, ap, ap₂, ◌∙◌, subst, arith, inl, inr, Option, Some, None, Ok}
use Rattle.std.specs.Prelude.{ℤ, pos, ⊤, is_some, ◌⊎◌, nat_eq, nat_lt, unsigned_abs, if◌then◌else◌}
use Rattle.std.proofs.lemmas.Bool.Decides.{nat_tests}
use Rattle.drg_algebra.specs.Rational.{whole}
use Rattle.drg_algebra.specs.Ring.{none, ◌⊗◌, ring2}
use Rattle.drg_algebra.specs.Tables.{delta, total}
use Rattle.drg_algebra.proofs.Tests.{both, decided, never}
use Rattle.drg_array.proofs.EntryLemmas.{c-end}
use Rattle.drg_array.specs.Entries.{Entries, IsArray, diameter, b_at, c_at}
use Rattle.drg_derivation.specs.declared.line.Line.{Line}
use Rattle.drg_derivation.specs.declared.line.Line.TheVariants.{K, Frame, Theta, Prow, Qrow, Krein}
use Rattle.drg_array.specs.Claims.{class_of}
use Rattle.drg_array.specs.declared.claim.Claim.{Claim}
use Rattle.drg_array.specs.declared.claim.Class.TheVariants.{Counting, Spectral}
use Rattle.drg_fraction.specs.Field.{dot_of}
use Rattle.drg_fraction.specs.Operations.{Operations}
use Rattle.drg_matrix.specs.Frame as frames
use Rattle.drg_matrix.specs.Frame.{IsFrame}
use Rattle.drg_replay.proofs.SumLaws.{dot_is_sum}
use Rattle.drg_quadratic.specs.Values.{IsRoot, IsOver, Value, nil, unit, plus, minus, times, rational}
use Rattle.drg_quadratic.specs.Operations.{value_operations}
use Rattle.drg_quadratic.specs.Laws.{value_laws}
use Rattle.drg_replay.specs.Known.{KnownContent, FrameContent}
use Rattle.drg_replay.specs.Steps.{Step, Holds, Fits, EachHolds, first_failure}
use Rattle.drg_replay.specs.Indices.{is_index}
use Rattle.drg_replay.specs.Sizes.{values_of, vertex_count, is_full, size_steps}
use Rattle.drg_replay.specs.Rows.{b_before}
use Rattle.drg_replay.specs.Roots.{is_root}
use Rattle.drg_replay.specs.FieldNumbers.{value_at, is_same_value}
use Rattle.drg_replay.specs.Frames.{is_spectral, frame_steps, line_at, theta_at, p_at, q_at, is_next, descent_steps, theta_steps, coefficients, value_before, neighbours, recurrence_steps, recurrences_from, begins_row, prow_steps, row_values, column_values, diagonal, cell_steps, cells_from, product_rows, product_steps, is_last, qrow_steps, in_frame}
use Rattle.drg_replay.specs.KreinLines.{with_krein}
use Rattle.drg_replay.specs.Lines.{with_theta, with_prow, with_qrow, frame_after, known_of}
use Rattle.drg_replay.specs.Answers.{AllAreMet}
use Rattle.drg_replay.proofs.LineLaws.{rule_holds}
use Rattle.drg_replay.proofs.StepLaws.{is_same, are_same}
use Rattle.drg_replay.proofs.ProgressLaws.{array_stays, claim_stays}
use Rattle.drg_replay.proofs.SizeLaws.{Sized}
use Rattle.drg_replay.proofs.CountLaws.{count_is}
use Rattle.drg_replay.proofs.RowLaws.{front, end, length_more, two_cases}
use Rattle.drg_replay.proofs.KnownLaws.{index_below}
use Rattle.drg_replay.proofs.RootLaws.{root_is}
use Rattle.drg_replay.proofs.ValueLaws.{same_value, greater_is_positive}

-- ---- values of lines
pub value_over : (root : ℕ) (numbers : List ℤ) (j : ℕ) → IsOver root (value_at root numbers j)
value_over zero numbers j e = refl
value_over (suc n) numbers j e = absurd (omega arith)

pub next_below : (a : Entries) (i : ℤ) (lines : List (List ℤ)) → is_next a i lines ≡ true → length lines ≤ diameter a
unfolding is_next
next_below a i lines h =
    let parts = both (is_index 0 i (diameter a)) (nat_eq (unsigned_abs i) (length lines)) h in
    let low = index_below 0 (diameter a) i parts.0 in
    let at = is_same _ _ parts.1 in omega arith

line_kept : (lines : List (List ℤ)) (last : List ℤ) (i : ℕ) → i < length lines → line_at (lines ++ last ∷ []) i ≡ line_at lines i
line_kept lines last i h = front lines last i h

line_added : (lines : List (List ℤ)) (last : List ℤ) (i : ℕ) → i ≡ length lines → line_at (lines ++ last ∷ []) i ≡ last
line_added lines last i e = ap (λ (n : ℕ). line_at (lines ++ last ∷ []) n) e ∙ end lines last

-- ---- eigenvalues
abbrev pub Descends : ℕ → Value → Value → Type 0
Descends root x y = (value_operations root).IsPositive (plus x (minus y))

module _ (f : FrameContent) (root : IsRoot f.root) where
  abbrev o : Operations Value
  o = value_operations f.root

  difference_over : (i : ℕ) (numbers : List ℤ) → IsOver f.root (o.plus (theta_at f i) (o.minus (value_at f.root numbers 0)))
  difference_over i numbers =
      let laws = value_laws f.root root in
      laws.over_plus (theta_at f i) (o.minus (value_at f.root numbers 0)) (value_over f.root (line_at f.theta i) 0) (laws.over_minus (value_at f.root numbers 0) (value_over f.root numbers 0))

  descent : (n m : ℕ) (numbers : List ℤ) → n ≡ suc m → EachHolds (descent_steps f n (value_at f.root numbers 0)) → Descends f.root (theta_at f m) (value_at f.root numbers 0)
  descent zero m numbers e h = absurd (omega arith)
  descent (suc l) m numbers e h =
      let same : l ≡ m = omega arith in
      let P : ℕ → Type 0 = λ l. Descends f.root (theta_at f l) (value_at f.root numbers 0) in
      subst P same (greater_is_positive f.root root (plus (theta_at f l) (minus (value_at f.root numbers 0))) (difference_over l numbers) h.1.1.0)

-- ---- rows of P
-- the row begins with 1 and the eigenvalue, and goes on by the recurrence
pub record IsRowOf (a : Entries) (root : ℕ) (theta : Value) (numbers : List ℤ) : Type 0 where
  pub one : value_at root numbers 0 ≡ unit
  pub eigenvalue : value_at root numbers 1 ≡ theta
  pub recurrence : (j : ℕ) → j ≤ diameter a → times root theta (value_at root numbers j) ≡ frames.neighbours (value_operations root) a (value_at root numbers) j

recurrence_at : (a : Entries) (root : ℕ) (theta : Value) (numbers : List ℤ) (j n k l : ℕ) → EachHolds (recurrences_from a root theta numbers j n) → k < n → l ≡ j + k
    → times root theta (value_at root numbers l) ≡ dot_of (value_operations root) (coefficients a l) (neighbours root numbers l)
unfolding recurrences_from recurrence_steps
recurrence_at a root theta numbers j zero k l h less e = absurd (omega arith)
recurrence_at a root theta numbers j (suc n) zero l h less e = let same : l ≡ j = omega arith in rw same ((same_value _ _).0 h.1.1.0)
recurrence_at a root theta numbers j (suc n) (suc k) l h less e = recurrence_at a root theta numbers (suc j) n k l h.1.1.1 (omega arith) (omega arith)

-- a product with 0 is 0
zero_product : (root : ℕ) → IsRoot root → (x : Value) → times root (rational (whole (pos 0))) x ≡ nil
zero_product root h x = ring2 (value_laws root h).ring (λ x y. none ⊗ x) (λ x y. none) refl x x

zero_or : (m : ℕ) → ¬ (0 < m) → m ≡ 0
zero_or zero h = refl
zero_or (suc m) h = absurd (h (omega arith))

-- a list of steps that all hold, in two parts
pub first_part : (steps rest : List Step) → EachHolds (steps ++ rest) → EachHolds steps × EachHolds rest
first_part [] rest h = (tt, h)
first_part (Holds b ∷ steps) rest h = let parts = first_part steps rest h.1 in ((h.0, parts.0), parts.1)
first_part (Fits b ∷ steps) rest h = let parts = first_part steps rest h.1 in ((h.0, parts.0), parts.1)

not_less : (i n : ℕ) → nat_lt i n ≡ false → n ≤ i
not_less i n e = grind (arith, nat_tests)

-- the three terms are those of the recurrence, an absent one being 0
terms_are : (a : Entries) (root : ℕ) → IsRoot root → IsArray a → (numbers : List ℤ) (j : ℕ) → j ≤ diameter a
    → dot_of (value_operations root) (coefficients a j) (neighbours root numbers j) ≡ frames.neighbours (value_operations root) a (value_at root numbers) j
unfolding coefficients neighbours
terms_are a root h array numbers j inside = ap₂ plus (ap₂ plus (before_is j) refl) (after_is (decided (nat_lt j (diameter a))))
  where
    before_is : (j : ℕ) → times root (rational (whole (pos (b_before a j)))) (value_before root numbers j) ≡ frames.before (value_operations root) (λ l. times root (rational (whole (pos (b_at a l)))) (value_at root numbers l)) j
    before_is zero = zero_product root h nil
    before_is (suc j) = refl

    last_term : ℕ → Value
    last_term j = times root (rational (whole (pos (c_at a (suc j))))) (value_at root numbers (suc j))

    after_is : (nat_lt j (diameter a) ≡ true) ⊎ (nat_lt j (diameter a) ≡ false) → last_term j ≡ (if nat_lt j (diameter a) then last_term j else nil)
    after_is (inl e) = rw e refl
    after_is (inr e) =
        let none_left : c_at a (suc j) ≡ 0 = c-end a j array (not_less j (diameter a) e) in
        rw (e, none_left) (zero_product root h (value_at root numbers (suc j)))

-- a met row
row_of : (a : Entries) (root : ℕ) → IsRoot root → IsArray a → (theta : Value) (numbers : List ℤ) → begins_row root theta numbers ≡ true → EachHolds (recurrences_from a root theta numbers 0 (diameter a + 1)) → IsRowOf a root theta numbers
unfolding begins_row
row_of a root h array theta numbers begins steps =
    let parts = both (is_same_value (value_at root numbers 0) unit) (is_same_value (value_at root numbers 1) theta) begins in
    record {
      one = (same_value _ _).0 parts.0;
      eigenvalue = (same_value _ _).0 parts.1;
      recurrence = λ j inside. recurrence_at a root theta numbers 0 (diameter a + 1) j j steps (omega (arith, inside)) (omega arith) ∙ terms_are a root h array numbers j inside;
    }

-- ---- P Q = n I
cell_at : (root : ℕ) (rows : List (List ℤ)) (side : ℕ) (n : ℤ) (row : List ℤ) (i j m k l : ℕ) → EachHolds (cells_from root rows side n row i j m) → k < m → l ≡ j + k
    → dot_of (value_operations root) (row_values root row 0 side) (column_values root rows l 0 side) ≡ diagonal n i l
unfolding cells_from cell_steps
cell_at root rows side n row i j zero k l h less e = absurd (omega arith)
cell_at root rows side n row i j (suc m) zero l h less e = let same : l ≡ j = omega arith in rw same ((same_value _ _).0 h.1.0)
cell_at root rows side n row i j (suc m) (suc k) l h less e = cell_at root rows side n row i (suc j) m k l h.1.1 (omega arith) (omega arith)

row_at : (root : ℕ) (rows : List (List ℤ)) (side : ℕ) (n : ℤ) (i : ℕ) (ps : List (List ℤ)) (k l j : ℕ) → EachHolds (product_rows root rows side n i ps) → k < length ps → l ≡ i + k → j < side
    → dot_of (value_operations root) (row_values root (line_at ps k) 0 side) (column_values root rows j 0 side) ≡ diagonal n l j
unfolding product_rows
row_at root rows side n i [] k l j h less e inside = absurd (omega arith)
row_at root rows side n i (p ∷ ps) zero l j h less e inside =
    let same : l ≡ i = omega arith in
    let first = first_part (cells_from root rows side n p i 0 side) (product_rows root rows side n (suc i) ps) h in
    rw same (cell_at root rows side n p i 0 side j j first.0 inside (omega arith))
row_at root rows side n i (p ∷ ps) (suc k) l j h less e inside =
    let first = first_part (cells_from root rows side n p i 0 side) (product_rows root rows side n (suc i) ps) h in
    row_at root rows side n (suc i) ps k l j first.1 (omega arith) (omega arith) inside

diagonal_is : (n : ℤ) (i j : ℕ) → diagonal n i j ≡ delta nil (rational (whole n)) i j
diagonal_is n i j = by (decided (nat_eq i j))
  where
    same_delta : (i : ℕ) → delta nil (rational (whole n)) i i ≡ rational (whole n)
    same_delta zero = refl
    same_delta (suc i) = same_delta i

    other_delta : (i j : ℕ) → ¬ (i ≡ j) → delta nil (rational (whole n)) i j ≡ nil
    other_delta zero zero apart = absurd (apart refl)
    other_delta zero (suc j) apart = refl
    other_delta (suc i) zero apart = refl
    other_delta (suc i) (suc j) apart = other_delta i j (λ e. apart (ap suc e))

    by : (nat_eq i j ≡ true) ⊎ (nat_eq i j ≡ false) → diagonal n i j ≡ delta nil (rational (whole n)) i j
    by (inl e) =
        let same : i ≡ j = is_same i j e in
        rw e (sym (ap (λ (m : ℕ). delta nil (rational (whole n)) i m) (sym same) ∙ same_delta i))
    by (inr e) = rw e (sym (other_delta i j (λ same. never (nat_eq i j) (are_same i j same) e)))

-- ---- frames
-- what met lines of a frame hold, where the sizes have this sum
pub record Framed (a : Entries) (n : ℤ) (f : FrameContent) : Type 0 where
  pub root : IsRoot f.root
  pub descends : (i : ℕ) → suc i < length f.theta → Descends f.root (theta_at f i) (theta_at f (suc i))
  pub few : length f.p ≤ diameter a + 1
  pub whole_theta : 0 < length f.p → length f.theta ≡ diameter a + 1
  pub rows : (i : ℕ) → i < length f.p → IsRowOf a f.root (theta_at f i) (line_at f.p i)
  pub whole_p : 0 < length f.q → length f.p ≡ diameter a + 1
  pub product : length f.q ≡ diameter a + 1 → (i j : ℕ) → i < diameter a + 1 → j < diameter a + 1
      → dot_of (value_operations f.root) (row_values f.root (line_at f.p i) 0 (diameter a + 1)) (column_values f.root f.q j 0 (diameter a + 1)) ≡ diagonal n i j

begun : (a : Entries) (n root : ℤ) → is_root root ≡ true → Framed a n (record { root = unsigned_abs root; theta = []; p = []; q = []; krein = [] })
begun a n root h = record {
  root = root_is root h;
  descends = λ i less. absurd (omega arith);
  few = omega arith;
  whole_theta = λ less. absurd (omega arith);
  rows = λ i less. absurd (omega arith);
  whole_p = λ less. absurd (omega arith);
  product = λ e. absurd (omega (arith, e));
}

module _ (a : Entries) (n : ℤ) (f : FrameContent) (framed : Framed a n f) where
  with_theta_framed : (i : ℤ) (numbers : List ℤ) → EachHolds (theta_steps a f i numbers) → Framed a n (with_theta f numbers)
  with_theta_framed i numbers h = record {
    root = framed.root;
    descends = descends;
    few = framed.few;
    whole_theta = λ less. absurd (omega (arith, none, less));
    rows = λ i less. absurd (omega (arith, none, less));
    whole_p = framed.whole_p;
    product = framed.product;
  }
    where
      low : length f.theta ≤ diameter a
      low = next_below a i f.theta h.1.0

      none : length f.p ≡ 0
      none = zero_or (length f.p) (λ some. (let full = framed.whole_theta some in omega (arith, full, low)))

      kept : (i : ℕ) → i < length f.theta → theta_at (with_theta f numbers) i ≡ theta_at f i
      kept i less = ap (λ line. value_at f.root line 0) (line_kept f.theta numbers i less)

      added : (i : ℕ) → i ≡ length f.theta → theta_at (with_theta f numbers) i ≡ value_at f.root numbers 0
      added i e = ap (λ line. value_at f.root line 0) (line_added f.theta numbers i e)

      descends : (i : ℕ) → suc i < length (f.theta ++ numbers ∷ []) → Descends f.root (theta_at (with_theta f numbers) i) (theta_at (with_theta f numbers) (suc i))
      descends i less =
          let more = length_more f.theta numbers in
          elim (two_cases (suc i) (length f.theta) (omega (arith, less, more))) [
            | inl last ↦ (let before : i < length f.theta = omega (arith, last) in
                let is = descent f framed.root (length f.theta) i numbers (sym last) h.1.1 in
                subst (λ x. Descends f.root x (theta_at (with_theta f numbers) (suc i))) (sym (kept i before)) (subst (λ y. Descends f.root (theta_at f i) y) (sym (added (suc i) last)) is))
            | inr old ↦ (let before : i < length f.theta = omega (arith, old) in
                subst (λ x. Descends f.root x (theta_at (with_theta f numbers) (suc i))) (sym (kept i before)) (subst (λ y. Descends f.root (theta_at f i) y) (sym (kept (suc i) old)) (framed.descends i old)))
          ]

  with_prow_framed : IsArray a → (i : ℤ) (numbers : List ℤ) → EachHolds (prow_steps a f i numbers) → Framed a n (with_prow f numbers)
  with_prow_framed array i numbers h = record {
    root = framed.root;
    descends = framed.descends;
    few = (let more = length_more f.p numbers in omega (arith, more, low));
    whole_theta = λ less. is_same _ _ h.1.0;
    rows = rows;
    whole_p = λ less. absurd (omega (arith, none, less));
    product = λ e. absurd (omega (arith, none, e));
  }
    where
      low : length f.p ≤ diameter a
      low = next_below a i f.p h.1.1.0

      none : length f.q ≡ 0
      none = zero_or (length f.q) (λ some. (let full = framed.whole_p some in omega (arith, full, low)))

      new : IsRowOf a f.root (theta_at f (length f.p)) numbers
      new = row_of a f.root framed.root array (theta_at f (length f.p)) numbers h.1.1.1.0 h.1.1.1.1

      rows : (i : ℕ) → i < length (f.p ++ numbers ∷ []) → IsRowOf a f.root (theta_at f i) (line_at (f.p ++ numbers ∷ []) i)
      rows i less =
          let more = length_more f.p numbers in
          let P : List ℤ → Type 0 = λ line. IsRowOf a f.root (theta_at f i) line in
          elim (two_cases i (length f.p) (omega (arith, less, more))) [
            | inl last ↦ subst P (sym (line_added f.p numbers i last)) (let Q : ℕ → Type 0 = λ m. IsRowOf a f.root (theta_at f m) numbers in subst Q (sym last) new)
            | inr old ↦ subst P (sym (line_kept f.p numbers i old)) (framed.rows i old)
          ]

  with_qrow_framed : (sizes : Option (List ℤ)) → vertex_count sizes ≡ n → (r : ℤ) (numbers : List ℤ) → EachHolds (qrow_steps a sizes f r numbers) → Framed a n (with_qrow f numbers)
  with_qrow_framed sizes sum r numbers h = record {
    root = framed.root;
    descends = framed.descends;
    few = framed.few;
    whole_theta = framed.whole_theta;
    rows = framed.rows;
    whole_p = λ less. is_same _ _ h.1.0;
    product = product;
  }
    where
      product : length (f.q ++ numbers ∷ []) ≡ diameter a + 1 → (i j : ℕ) → i < diameter a + 1 → j < diameter a + 1
          → dot_of (value_operations f.root) (row_values f.root (line_at f.p i) 0 (diameter a + 1)) (column_values f.root (f.q ++ numbers ∷ []) j 0 (diameter a + 1)) ≡ diagonal n i j
      product full i j hi hj =
          let more = length_more f.q numbers in
          let last : is_last a f.q ≡ true = are_same _ _ (omega (arith, more, full)) in
          let steps = subst (λ b. EachHolds (if b then product_steps a sizes f (f.q ++ numbers ∷ []) else [])) last h.1.1.1 in
          let rows = is_same _ _ h.1.0 in
          row_at f.root (f.q ++ numbers ∷ []) (diameter a + 1) (vertex_count sizes) 0 f.p i i j steps.1 (omega (arith, rows, hi)) (omega arith) hj
          ∙ ap (λ z. diagonal z i j) sum

  -- a `krein` line leaves the frame as it is
  with_krein_framed : (i j : ℕ) (numbers : List ℤ) → Framed a n (with_krein f i j numbers)
  with_krein_framed i j numbers = record {
    root = framed.root;
    descends = framed.descends;
    few = framed.few;
    whole_theta = framed.whole_theta;
    rows = framed.rows;
    whole_p = framed.whole_p;
    product = framed.product;
  }

-- ---- the frame that is known
-- where a frame is known, all sizes stand, the claim is spectral, and the lines hold what they ask
pub IfFramed : Entries → Claim → Option (List ℤ) → Option FrameContent → Type 0
IfFramed a claim sizes None = ⊤
IfFramed a claim sizes (Some f) = (is_full a sizes ≡ true) × (is_spectral (class_of claim) ≡ true) × Framed a (vertex_count sizes) f

not_full : (a : Entries) (sizes : Option (List ℤ)) (numbers : List ℤ) → EachHolds (size_steps a sizes numbers) → is_full a sizes ≡ true → ⊥
not_full a sizes [] h e = let never : false ≡ true = h.0 in absurd cc
not_full a None (v ∷ vs) h e = let none : 0 ≡ diameter a + 1 = is_same 0 (diameter a + 1) e in absurd (omega (arith, none))
not_full a (Some values) (v ∷ vs) h e = let never : false ≡ true = h.0 in absurd cc

sizes_framed : (a : Entries) (claim : Claim) (sizes : Option (List ℤ)) (frame : Option FrameContent) (values : List ℤ) → EachHolds (size_steps a sizes values) → IfFramed a claim sizes frame → IfFramed a claim (Some values) frame
unfolding IfFramed
sizes_framed a claim sizes None values h k = tt
sizes_framed a claim sizes (Some f) values h k = absurd (not_full a sizes values h k.0)

theta_framed : (a : Entries) (claim : Claim) (sizes : Option (List ℤ)) (frame : Option FrameContent) (i : ℤ) (numbers : List ℤ) → EachHolds (in_frame frame (λ f. theta_steps a f i numbers)) → IfFramed a claim sizes frame
    → IfFramed a claim sizes (frame_after (Theta i numbers) frame)
unfolding IfFramed
theta_framed a claim sizes None i numbers h k = tt
theta_framed a claim sizes (Some f) i numbers h k = (k.0, k.1, with_theta_framed a (vertex_count sizes) f k.2 i numbers h)

prow_framed : (a : Entries) → IsArray a → (claim : Claim) (sizes : Option (List ℤ)) (frame : Option FrameContent) (i : ℤ) (numbers : List ℤ) → EachHolds (in_frame frame (λ f. prow_steps a f i numbers)) → IfFramed a claim sizes frame
    → IfFramed a claim sizes (frame_after (Prow i numbers) frame)
unfolding IfFramed
prow_framed a array claim sizes None i numbers h k = tt
prow_framed a array claim sizes (Some f) i numbers h k = (k.0, k.1, with_prow_framed a (vertex_count sizes) f k.2 array i numbers h)

qrow_framed : (a : Entries) (claim : Claim) (sizes : Option (List ℤ)) (frame : Option FrameContent) (r : ℤ) (numbers : List ℤ) → EachHolds (in_frame frame (λ f. qrow_steps a sizes f r numbers)) → IfFramed a claim sizes frame
    → IfFramed a claim sizes (frame_after (Qrow r numbers) frame)
unfolding IfFramed
qrow_framed a claim sizes None r numbers h k = tt
qrow_framed a claim sizes (Some f) r numbers h k = (k.0, k.1, with_qrow_framed a (vertex_count sizes) f k.2 sizes refl r numbers h)

krein_framed : (a : Entries) (claim : Claim) (sizes : Option (List ℤ)) (frame : Option FrameContent) (i j : ℤ) (numbers : List ℤ) → IfFramed a claim sizes frame → IfFramed a claim sizes (frame_after (Krein i j numbers) frame)
unfolding IfFramed
krein_framed a claim sizes None i j numbers k = tt
krein_framed a claim sizes (Some f) i j numbers k = (k.0, k.1, with_krein_framed a (vertex_count sizes) f k.2 (unsigned_abs i) (unsigned_abs j) numbers)

begun_framed : (k : KnownContent) (root : ℤ) → EachHolds (frame_steps k root) → IfFramed k.array k.claim k.counts.sizes (frame_after (Frame root) k.frame)
unfolding IfFramed
begun_framed k root h = (h.1.0, h.1.1.0, begun k.array (vertex_count k.counts.sizes) root h.1.1.1.0)

nothing_framed : (a : Entries) (claim : Claim) (sizes : Option (List ℤ)) → IfFramed a claim sizes None
unfolding IfFramed
nothing_framed a claim sizes = tt

pub frame_known : (a : Entries) (claim : Claim) → IsArray a → (lines : List Line) → AllAreMet a claim lines
    → (let k = known_of a claim lines in IfFramed k.array k.claim k.counts.sizes k.frame)
frame_known a claim array [] met = nothing_framed a claim None
frame_known a claim array (K values ∷ earlier) met =
    let k = known_of a claim earlier in
    sizes_framed k.array k.claim k.counts.sizes k.frame values (rule_holds k (K values) met.1) (frame_known a claim array earlier met.0)
frame_known a claim array (Frame root ∷ earlier) met =
    let k = known_of a claim earlier in begun_framed k root (rule_holds k (Frame root) met.1)
frame_known a claim array (Theta i numbers ∷ earlier) met =
    let k = known_of a claim earlier in
    theta_framed k.array k.claim k.counts.sizes k.frame i numbers (rule_holds k (Theta i numbers) met.1) (frame_known a claim array earlier met.0)
frame_known a claim array (Prow i numbers ∷ earlier) met =
    let k = known_of a claim earlier in
    let here = subst IsArray (sym (array_stays a claim earlier)) array in
    prow_framed k.array here k.claim k.counts.sizes k.frame i numbers (rule_holds k (Prow i numbers) met.1) (frame_known a claim array earlier met.0)
frame_known a claim array (Qrow r numbers ∷ earlier) met =
    let k = known_of a claim earlier in
    qrow_framed k.array k.claim k.counts.sizes k.frame r numbers (rule_holds k (Qrow r numbers) met.1) (frame_known a claim array earlier met.0)
frame_known a claim array (Krein i j numbers ∷ earlier) met =
    let k = known_of a claim earlier in
    krein_framed k.array k.claim k.counts.sizes k.frame i j numbers (frame_known a claim array earlier met.0)
frame_known a claim array (_ ∷ earlier) met = frame_known a claim array earlier met.0

-- ---- a whole frame
cells_are : (f : FrameContent) (n : ℤ) (side i j : ℕ) → IsRoot f.root
    → dot_of (value_operations f.root) (row_values f.root (line_at f.p i) 0 side) (column_values f.root f.q j 0 side) ≡ diagonal n i j
    → total nil plus side (λ l. times f.root (p_at f i l) (q_at f l j)) ≡ delta nil (rational (whole n)) i j
cells_are f n side i j root is =
    sym (dot_is_sum (value_operations f.root) (value_laws f.root root).ring (p_at f i) (λ l. q_at f l j) side) ∙ (is ∙ diagonal_is n i j)

pub frame_is : (a : Entries) → IsArray a → (sizes : Option (List ℤ)) → is_full a sizes ≡ true → Sized a (values_of sizes) → (f : FrameContent) → Framed a (vertex_count sizes) f → length f.q ≡ diameter a + 1
    → IsFrame (value_operations f.root) a (theta_at f) (p_at f) (q_at f)
frame_is a array sizes full sized f framed all =
    record {
      theta_over = λ i h. value_over f.root (line_at f.theta i) 0;
      p_over = λ i j h k. value_over f.root (line_at f.p i) j;
      q_over = λ i j h k. value_over f.root (line_at f.q i) j;
      descends = λ i less. framed.descends i (omega (arith, less, all_theta));
      ones = λ i h. (framed.rows i (omega (arith, h, all_p))).one;
      eigenvalues = λ i h. (framed.rows i (omega (arith, h, all_p))).eigenvalue;
      recurrence = λ i j h k. (framed.rows i (omega (arith, h, all_p))).recurrence j k;
      product = λ i j h k.
          (let P : ℕ → Type 0 = λ side. total nil plus side (λ l. times f.root (p_at f i l) (q_at f l j)) ≡ delta nil (rational (whole (vertex_count sizes))) i j in
          subst P side_is (cells_are f (vertex_count sizes) (diameter a + 1) i j framed.root (framed.product all i j (omega (arith, h)) (omega (arith, k))))
          ∙ ap (λ n. delta nil (rational n) i j) (sym (count_is a array sizes (is_same _ _ full ∙ side_is) sized)));
    }
  where
    side_is : diameter a + 1 ≡ suc (diameter a)
    side_is = omega arith

    all_p : length f.p ≡ diameter a + 1
    all_p = framed.whole_p (omega (arith, all))

    all_theta : length f.theta ≡ diameter a + 1
    all_theta = framed.whole_theta (omega (arith, all_p))

-- the root and the frame of a known frame that is whole
pub frame_of : (a : Entries) → IsArray a → (claim : Claim) (sizes : Option (List ℤ)) (frame : Option FrameContent) (f : FrameContent) → frame ≡ Some f → IfFramed a claim sizes frame → Sized a (values_of sizes)
    → length f.q ≡ diameter a + 1 → IsRoot f.root × IsFrame (value_operations f.root) a (theta_at f) (p_at f) (q_at f)
unfolding IfFramed
frame_of a array claim sizes frame f e known sized all =
    let is = subst (IfFramed a claim sizes) e known in (is.2.root, frame_is a array sizes is.0 sized f is.2 all)

-- a claim whose derivation is spectral is one of that class
pub spectral_claim : (a : Entries) (c : Claim) (sizes : Option (List ℤ)) (frame : Option FrameContent) → Spectral ≡ (if is_some frame then Spectral else Counting) → IfFramed a c sizes frame → is_spectral (class_of c) ≡ true
unfolding IfFramed
spectral_claim a c sizes None e h = cc
spectral_claim a c sizes (Some f) e h = h.1

no_frame : (a : Entries) (c : Claim) (sizes : Option (List ℤ)) (frame : Option FrameContent) → is_spectral (class_of c) ≡ false → IfFramed a c sizes frame → frame ≡ None
unfolding IfFramed
no_frame a c sizes None e known = refl
no_frame a c sizes (Some f) e known = absurd (never (is_spectral (class_of c)) known.1 e)

-- met lines for a claim of the class Counting have no frame
pub counting_unframed : (a : Entries) (claim : Claim) → IsArray a → (lines : List Line) → AllAreMet a claim lines → is_spectral (class_of claim) ≡ false → (known_of a claim lines).frame ≡ None
counting_unframed a claim array lines met e =
    let k = known_of a claim lines in
    no_frame k.array k.claim k.counts.sizes k.frame (subst (λ c. is_spectral (class_of c) ≡ false) (sym (claim_stays a claim lines)) e) (frame_known a claim array lines met)

-- and a line that needs a frame isn't met then
pub needs_frame : (frame : Option FrameContent) (steps : FrameContent → List Step) → frame ≡ None → first_failure (in_frame frame steps) ≡ Ok tt → ⊥
needs_frame None steps e h = cc
needs_frame (Some f) steps e h = cc
