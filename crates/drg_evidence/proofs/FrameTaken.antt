-- The lines of a frame are met one after the other, and then the frame is known and whole.
use Rattle.std.proofs.Common.{◌≡◌, ℕ, zero, suc, ◌+◌, ◌<◌, ◌≤◌, Bool, true, false, List, [], ◌∷◌, ◌++◌, length, map, refl, sym, ap, ap₂, ◌∙◌, subst, arith, inl, inr, ℤ, pos, Some, None}
use Rattle.std.specs.Prelude.{◌⊎◌, nat_eq, nat_lt, if◌then◌else◌}
use Rattle.std.specs.List.{range_with_len}
use Rattle.std.proofs.lemmas.Bool.{cases_lt}
use Rattle.std.proofs.lemmas.Bool.Decides.{nat_tests}
use Rattle.drg_algebra.specs.Rational.{whole}
use Rattle.drg_algebra.specs.Tables.{delta}
use Rattle.drg_algebra.proofs.Tests.{and-in, decided}
use Rattle.drg_array.specs.Claims.{class_of}
use Rattle.drg_array.specs.Entries.{Entries, IsArray, diameter, a_at, b_at, c_at}
use Rattle.drg_array.specs.Numbers.{vertex_count}
use Rattle.drg_array.specs.declared.claim.Claim.{Claim}
use Rattle.drg_derivation.specs.declared.line.Line.{Line}
use Rattle.drg_derivation.specs.declared.line.Line.TheVariants.{Frame}
use Rattle.drg_fraction.specs.Field.{dot_fits, dot_of}
use Rattle.drg_fraction.specs.Operations.{Operations}
use Rattle.drg_matrix.specs.Frame as frames
use Rattle.drg_matrix.specs.Frame.{IsFrame}
use Rattle.drg_matrices.specs.Fits.{recurrence_fits}
use Rattle.drg_quadratic.specs.Laws.{value_laws}
use Rattle.drg_quadratic.specs.Operations.{value_operations}
use Rattle.drg_quadratic.specs.Values.{IsRoot, Value, nil, plus, times, rational}
use Rattle.drg_replay.specs.Answers.{progress_of}
use Rattle.drg_replay.specs.FieldNumbers.{are_field_numbers, value_at}
use Rattle.drg_replay.specs.Frames.{diagonal, is_last, is_next, is_spectral, line_at, p_at, product_steps, q_at, recurrences_from, theta_at}
use Rattle.drg_replay.specs.Known.{CountContent, FrameContent, KnownContent}
use Rattle.drg_replay.specs.Lines.{known_after, steps_of}
use Rattle.drg_replay.specs.Roots.{is_root}
use Rattle.drg_replay.specs.Sizes.{is_full, values_of}
use Rattle.drg_replay.specs.Sizes as sizes
use Rattle.drg_replay.specs.Steps.{EachHolds}
use Rattle.drg_replay.specs.declared.progress.Progress.TheVariants.{AllMet}
use Rattle.drg_replay.proofs.RowLaws.{end, front, length_more, two_cases}
use Rattle.drg_replay.proofs.StepLaws.{are_same, is_same}
use Rattle.drg_whole.specs.Sums.{sum_fits_from}
use Rattle.drg_evidence.specs.FrameLines.{dual_line, eigen_line, field_numbers, frame_lines, lines_from, row_numbers, theta_line}
use Rattle.drg_evidence.specs.FrameValues.{FrameValues}
use Rattle.drg_evidence.proofs.FieldWork.{AreShown}
use Rattle.drg_evidence.proofs.FrameNumbers.{one_value_row, row_is_field_numbers, value_there}
use Rattle.drg_evidence.proofs.FrameSteps.{CellHolds, IsAboveWithin, begins, descent_holds, product_holds, recurrences_hold}
use Rattle.drg_evidence.proofs.SameRows.{dot_is_sum, same_recurrence, same_row}
use Rattle.drg_evidence.proofs.StepTests.{none_fails}
use Rattle.drg_evidence.proofs.TakenLines.{index, onto}

-- The equations of a frame hold, and what is made for them is within the range.
pub record IsWithinRange (a : Entries) (f : FrameValues) : Type 0 where
  pub root : IsRoot f.root
  pub root_test : is_root (pos f.root) ≡ true
  pub frame : IsFrame (value_operations f.root) a f.theta f.eigen f.dual
  pub above : (i : ℕ) → i < diameter a → IsAboveWithin f.root (f.theta i) (f.theta (suc i))
  pub eigen_shown : (i j : ℕ) → i ≤ diameter a → j ≤ diameter a → AreShown (f.eigen i j)
  pub dual_shown : (r i : ℕ) → r ≤ diameter a → i ≤ diameter a → AreShown (f.dual r i)
  pub recurrences : (i j : ℕ) → i ≤ diameter a → j ≤ diameter a → recurrence_fits (value_operations f.root) a (f.theta i) (f.eigen i) j ≡ true
  pub product : (i j : ℕ) → i ≤ diameter a → j ≤ diameter a
      → dot_fits (value_operations f.root) (map (f.eigen i) (range_with_len 0 (suc (diameter a)))) (map (λ r. f.dual r j) (range_with_len 0 (suc (diameter a)))) ≡ true

-- a line whose conditions hold is met
pub met_line : (a : Entries) (claim : Claim) (earlier : List Line) (line : Line) (k : KnownContent) → progress_of a claim earlier ≡ AllMet k → k.rooms ≡ None
    → EachHolds (steps_of k line) → progress_of a claim (line ∷ earlier) ≡ AllMet (known_after line k)
met_line a claim earlier line k met bare holds = rw (met, bare, none_fails (steps_of k line) holds) refl

pub onto_append : (xs ys earlier : List Line) → onto (xs ++ ys) earlier ≡ onto ys (onto xs earlier)
onto_append [] ys earlier = refl
onto_append (x ∷ xs) ys earlier = onto_append xs ys (x ∷ earlier)

next_test : (a : Entries) (i : ℕ) (lines : List (List ℤ)) → i ≤ diameter a → length lines ≡ i → is_next a (pos i) lines ≡ true
unfolding is_next
next_test a i lines inside e = and-in _ _ (index 0 i (diameter a) (omega arith) inside) (are_same i (length lines) (sym e))

-- ---- lines with the values of rows
record Rows (root count : ℕ) (x : ℕ → ℕ → Value) (ls : List (List ℤ)) : Type 0 where
  are : (t l : ℕ) → t < length ls → l < count → value_at root (line_at ls t) l ≡ x t l

no_rows : (root count : ℕ) (x : ℕ → ℕ → Value) → Rows root count x []
no_rows root count x = record { are = λ t l less. absurd (omega arith) }

rows_more : (root count : ℕ) (x : ℕ → ℕ → Value) (ls : List (List ℤ)) (numbers : List ℤ) (i : ℕ) → length ls ≡ i → Rows root count x ls
    → ((l : ℕ) → l < count → value_at root numbers l ≡ x i l) → Rows root count x (ls ++ numbers ∷ [])
rows_more root count x ls numbers i e rows last = record { are = go }
  where
    go : (t l : ℕ) → t < length (ls ++ numbers ∷ []) → l < count → value_at root (line_at (ls ++ numbers ∷ []) t) l ≡ x t l
    go t l less inside =
        let more = length_more ls numbers in
        elim (two_cases t (length ls) (omega (arith, less, more))) [
          | inl same ↦ (let P : ℕ → Type 0 = λ m. value_at root (line_at (ls ++ numbers ∷ []) m) l ≡ x m l in
              subst P (sym same) (ap (λ line. value_at root line l) (end ls numbers) ∙ (last l inside ∙ ap (λ (m : ℕ). x m l) (sym e))))
          | inr old ↦ ap (λ line. value_at root line l) (front ls numbers t old) ∙ rows.are t l old inside
        ]

module _ (a : Entries) (array : IsArray a) (claim : Claim) (counts : CountContent) (f : FrameValues) (w : IsWithinRange a f) where
  abbrev o : Operations Value
  o = value_operations f.root

  abbrev d : ℕ
  d = diameter a

  abbrev content : List (List ℤ) → List (List ℤ) → List (List ℤ) → FrameContent
  content ts ps qs = record { root = f.root; theta = ts; p = ps; q = qs; krein = [] }

  abbrev known : List (List ℤ) → List (List ℤ) → List (List ℤ) → KnownContent
  known ts ps qs = record { array = a; claim = claim; counts = counts; frame = Some (content ts ps qs); rooms = None }

  abbrev Thetas : List (List ℤ) → Type 0
  Thetas = Rows f.root 1 (λ t l. f.theta t)

  abbrev Eigens : List (List ℤ) → Type 0
  Eigens = Rows f.root (suc d) f.eigen

  abbrev Duals : List (List ℤ) → Type 0
  Duals = Rows f.root (suc d) f.dual

  theta_shown : (i : ℕ) → i ≤ d → AreShown (f.theta i)
  theta_shown i h = let some = array.some in subst AreShown (w.frame.eigenvalues i h) (w.eigen_shown i 1 h some)

  -- ---- theta
  theta_value : (i : ℕ) → i ≤ d → value_at f.root (field_numbers f.root (f.theta i)) 0 ≡ f.theta i
  theta_value i h =
      ap (λ ns. value_at f.root ns 0) (one_value_row f.root (f.theta i))
      ∙ value_there f.root (λ j. f.theta i) 0 1 0 0 (omega arith) refl (w.frame.theta_over i h) (theta_shown i h)

  theta_lowest : (i : ℕ) → i ≤ d → are_field_numbers f.root (field_numbers f.root (f.theta i)) 1 ≡ true
  theta_lowest i h =
      ap (λ ns. are_field_numbers f.root ns 1) (one_value_row f.root (f.theta i))
      ∙ row_is_field_numbers f.root (λ j. f.theta i) 1 (λ j less. theta_shown i h)

  theta_above : (ts : List (List ℤ)) (i : ℕ) → Thetas ts → length ts ≡ i → i ≤ d → (m : ℕ) → length ts ≡ suc m
      → IsAboveWithin f.root (theta_at (content ts [] []) m) (value_at f.root (field_numbers f.root (f.theta i)) 0)
  theta_above ts i rows e h m g =
      let same : i ≡ suc m = omega (arith, e, g) in
      let first = rows.are m 0 (omega (arith, g)) (omega arith) in
      let second : value_at f.root (field_numbers f.root (f.theta i)) 0 ≡ f.theta (suc m) = theta_value i h ∙ ap f.theta same in
      subst (λ x. IsAboveWithin f.root x (value_at f.root (field_numbers f.root (f.theta i)) 0)) (sym first)
      (subst (IsAboveWithin f.root (f.theta m)) (sym second) (w.above m (omega (arith, same, h))))

  record ThetasTaken (lines : List Line) : Type 0 where
    ts : List (List ℤ)
    many : length ts ≡ suc d
    are : Thetas ts
    met : progress_of a claim lines ≡ AllMet (known ts [] [])

  thetas_taken : (n i : ℕ) (ts : List (List ℤ)) (earlier : List Line) → length ts ≡ i → i + n ≡ suc d → Thetas ts
      → progress_of a claim earlier ≡ AllMet (known ts [] []) → ThetasTaken (onto (lines_from (theta_line d f) i n) earlier)
  thetas_taken zero i ts earlier e all rows met = record { ts = ts; many = omega (arith, e, all); are = rows; met = met }
  thetas_taken (suc n) i ts earlier e all rows met =
      let inside : i ≤ d = omega (arith, all) in
      let numbers = field_numbers f.root (f.theta i) in
      let more = length_more ts numbers in
      let holds : EachHolds (steps_of (known ts [] []) (theta_line d f i)) =
      (theta_lowest i inside, (next_test a i ts inside e, descent_holds (content ts [] []) w.root (length ts) (value_at f.root numbers 0) (theta_above ts i rows e inside))) in
      thetas_taken n (i + 1) (ts ++ numbers ∷ []) (theta_line d f i ∷ earlier) (omega (arith, e, more)) (omega (arith, all))
      (rows_more f.root 1 (λ t l. f.theta t) ts numbers i e rows (λ l less. (let first : l ≡ 0 = omega (arith, less) in ap (value_at f.root numbers) first ∙ theta_value i inside)))
      (met_line a claim earlier (theta_line d f i) (known ts [] []) met refl holds)

  -- ---- prow
  side_is : suc d ≡ d + 1
  side_is = omega arith

  eigen_value : (i : ℕ) → i ≤ d → (l : ℕ) → l < suc d → value_at f.root (row_numbers f.root (f.eigen i) 0 (suc d)) l ≡ f.eigen i l
  eigen_value i h l less = value_there f.root (f.eigen i) 0 (suc d) l l less (omega arith) (w.frame.p_over i l (omega arith) less) (w.eigen_shown i l h (omega arith))

  eigen_lowest : (i : ℕ) → i ≤ d → are_field_numbers f.root (row_numbers f.root (f.eigen i) 0 (suc d)) (d + 1) ≡ true
  eigen_lowest i h =
      subst (λ (n : ℕ). are_field_numbers f.root (row_numbers f.root (f.eigen i) 0 (suc d)) n ≡ true) side_is
      (row_is_field_numbers f.root (f.eigen i) (suc d) (λ j less. w.eigen_shown i j h (omega arith)))

  abbrev after : (ℕ → Value) → ℕ → Value
  after p j = if nat_lt j d then times f.root (rational (whole (pos (c_at a (suc j))))) (p (suc j)) else nil

  same_neighbours : (p q : ℕ → Value) → ((l : ℕ) → l < suc d → p l ≡ q l) → (j : ℕ) → j < suc d → frames.neighbours o a p j ≡ frames.neighbours o a q j
  same_neighbours p q same j h = ap₂ plus (ap₂ plus (before_same j h) (ap (times f.root (rational (whole (a_at a j)))) (same j h))) (after_same j h)
    where
      before_same : (j : ℕ) → j < suc d → frames.before o (λ l. times f.root (rational (whole (pos (b_at a l)))) (p l)) j ≡ frames.before o (λ l. times f.root (rational (whole (pos (b_at a l)))) (q l)) j
      before_same zero h = refl
      before_same (suc j) h = ap (times f.root (rational (whole (pos (b_at a j))))) (same j (omega arith))

      after_same : (j : ℕ) → j < suc d → after p j ≡ after q j
      after_same j h =
          elim (cases_lt j d) [
            | inl less ↦ (let test : nat_lt j d ≡ true = grind (arith, nat_tests) in rw test (ap (times f.root (rational (whole (pos (c_at a (suc j)))))) (same (suc j) (omega arith))))
            | inr more ↦ (let test : nat_lt j d ≡ false = grind (arith, nat_tests) in rw test refl)
          ]

  eigen_recurrences : (i : ℕ) → i ≤ d → (theta : Value) → theta ≡ f.theta i → EachHolds (recurrences_from a f.root theta (row_numbers f.root (f.eigen i) 0 (suc d)) 0 (d + 1))
  eigen_recurrences i h theta e =
      let ns = row_numbers f.root (f.eigen i) 0 (suc d) in
      let x = value_at f.root ns in
      recurrences_hold a array f.root w.root ns theta 0 (d + 1)
      (λ l less. (let inside : l < suc d = omega (arith, less) in
      ap (λ t. recurrence_fits o a t x l) e ∙ (same_recurrence o a x (f.eigen i) (eigen_value i h) (f.theta i) l inside ∙ w.recurrences i l h (omega (arith, less)))))
      (λ l less. (let inside : l < suc d = omega (arith, less) in
      ap₂ (times f.root) e (eigen_value i h l inside) ∙ (w.frame.recurrence i l h (omega (arith, less)) ∙ sym (same_neighbours x (f.eigen i) (eigen_value i h) l inside))))

  record EigensTaken (lines : List Line) (ts : List (List ℤ)) : Type 0 where
    ps : List (List ℤ)
    many : length ps ≡ suc d
    are : Eigens ps
    met : progress_of a claim lines ≡ AllMet (known ts ps [])

  eigens_taken : (ts : List (List ℤ)) → length ts ≡ suc d → Thetas ts → (n i : ℕ) (ps : List (List ℤ)) (earlier : List Line) → length ps ≡ i → i + n ≡ suc d → Eigens ps
      → progress_of a claim earlier ≡ AllMet (known ts ps []) → EigensTaken (onto (lines_from (eigen_line d f) i n) earlier) ts
  eigens_taken ts full thetas zero i ps earlier e all rows met = record { ps = ps; many = omega (arith, e, all); are = rows; met = met }
  eigens_taken ts full thetas (suc n) i ps earlier e all rows met =
      let inside : i ≤ d = omega (arith, all) in
      let numbers = row_numbers f.root (f.eigen i) 0 (suc d) in
      let some = array.some in
      let more = length_more ps numbers in
      let theta_is : theta_at (content ts ps []) (length ps) ≡ f.theta i = thetas.are (length ps) 0 (omega (arith, e, inside, full)) (omega arith) ∙ ap f.theta e in
      let starts = begins f.root (theta_at (content ts ps []) (length ps)) numbers (eigen_value i inside 0 (omega arith) ∙ w.frame.ones i inside)
      (eigen_value i inside 1 (omega (arith, some)) ∙ (w.frame.eigenvalues i inside ∙ sym theta_is)) in
      let holds : EachHolds (steps_of (known ts ps []) (eigen_line d f i)) = (
        eigen_lowest i inside,
        (are_same _ _ (omega (arith, full)), (next_test a i ps inside e, (starts, eigen_recurrences i inside (theta_at (content ts ps []) (length ps)) theta_is))),
      ) in
      eigens_taken ts full thetas n (i + 1) (ps ++ numbers ∷ []) (eigen_line d f i ∷ earlier) (omega (arith, e, more)) (omega (arith, all))
      (rows_more f.root (suc d) f.eigen ps numbers i e rows (eigen_value i inside))
      (met_line a claim earlier (eigen_line d f i) (known ts ps []) met refl holds)

  -- ---- qrow
  dual_value : (r : ℕ) → r ≤ d → (l : ℕ) → l < suc d → value_at f.root (row_numbers f.root (f.dual r) 0 (suc d)) l ≡ f.dual r l
  dual_value r h l less = value_there f.root (f.dual r) 0 (suc d) l l less (omega arith) (w.frame.q_over r l (omega arith) less) (w.dual_shown r l h (omega arith))

  dual_lowest : (r : ℕ) → r ≤ d → are_field_numbers f.root (row_numbers f.root (f.dual r) 0 (suc d)) (d + 1) ≡ true
  dual_lowest r h =
      subst (λ (n : ℕ). are_field_numbers f.root (row_numbers f.root (f.dual r) 0 (suc d)) n ≡ true) side_is
      (row_is_field_numbers f.root (f.dual r) (suc d) (λ j less. w.dual_shown r j h (omega arith)))

  diagonal_is : (n : ℤ) (i j : ℕ) → diagonal n i j ≡ delta nil (rational (whole n)) i j
  diagonal_is n i j = by (decided (nat_eq i j))
    where
      same_delta : (i : ℕ) → delta nil (rational (whole n)) i i ≡ rational (whole n)
      same_delta zero = refl
      same_delta (suc i) = same_delta i

      other_delta : (i j : ℕ) → ¬ (i ≡ j) → delta nil (rational (whole n)) i j ≡ nil
      other_delta zero zero apart = absurd (apart refl)
      other_delta zero (suc j) apart = refl
      other_delta (suc i) zero apart = refl
      other_delta (suc i) (suc j) apart = other_delta i j (λ e. apart (ap suc e))

      by : (nat_eq i j ≡ true) ⊎ (nat_eq i j ≡ false) → diagonal n i j ≡ delta nil (rational (whole n)) i j
      by (inl e) =
          let same : i ≡ j = is_same i j e in
          rw e (sym (ap (λ (m : ℕ). delta nil (rational (whole n)) i m) (sym same) ∙ same_delta i))
      by (inr e) = rw e (sym (other_delta i j (λ same. (let also : nat_eq i j ≡ true = are_same i j same in cc))))

  module _ (full : is_full a counts.sizes ≡ true) (sum : sum_fits_from (pos 0) (values_of counts.sizes) ≡ true) (vertices : vertex_count a ≡ whole (sizes.vertex_count counts.sizes)) where
    cell_is : (ps qs : List (List ℤ)) → length ps ≡ suc d → length qs ≡ suc d → Eigens ps → Duals qs → (i j : ℕ) → i < suc d → j < suc d
        → CellHolds f.root qs (d + 1) (sizes.vertex_count counts.sizes) (line_at ps i) i j
    cell_is ps qs all_p all_q eigens duals i j hi hj =
        let rows = same_row (value_at f.root (line_at ps i)) (f.eigen i) (d + 1) (suc d) (sym side_is) (λ l less. eigens.are i l (omega (arith, all_p, hi)) less) in
        let columns = same_row (λ r. value_at f.root (line_at qs r) j) (λ r. f.dual r j) (d + 1) (suc d) (sym side_is) (λ l less. duals.are l j (omega (arith, all_q, less)) hj) in
        record {
          fits = ap₂ (dot_fits o) rows columns ∙ w.product i j (omega arith) (omega arith);
          same = ap₂ (dot_of o) rows columns
              ∙ (dot_is_sum o (value_laws f.root w.root).ring (f.eigen i) (λ r. f.dual r j) (suc d)
              ∙ (w.frame.product i j hi hj ∙ (ap (λ q. delta nil (rational q) i j) vertices ∙ sym (diagonal_is (sizes.vertex_count counts.sizes) i j))));
        }

    last_steps : (ts ps qs : List (List ℤ)) (numbers : List ℤ) → length ps ≡ suc d → Eigens ps → Duals (qs ++ numbers ∷ []) → (b : Bool) → is_last a qs ≡ b
        → EachHolds (if b then product_steps a counts.sizes (content ts ps qs) (qs ++ numbers ∷ []) else [])
    last_steps ts ps qs numbers all_p eigens duals true e =
        let count : length qs ≡ d = is_same _ _ e in
        let more = length_more qs numbers in (
          sum,
          product_holds f.root (qs ++ numbers ∷ []) (d + 1) (sizes.vertex_count counts.sizes) ps 0
              (λ k l j less same inside. (let here : l ≡ k = omega (arith, same) in
              rw here (cell_is ps (qs ++ numbers ∷ []) all_p (omega (arith, more, count)) eigens duals k j (omega (arith, less, all_p)) (omega (arith, inside))))),
        )
    last_steps ts ps qs numbers all_p eigens duals false e = tt

    record DualsTaken (lines : List Line) (ts ps : List (List ℤ)) : Type 0 where
      qs : List (List ℤ)
      many : length qs ≡ suc d
      are : Duals qs
      met : progress_of a claim lines ≡ AllMet (known ts ps qs)

    duals_taken : (ts ps : List (List ℤ)) → length ps ≡ suc d → Eigens ps → (n r : ℕ) (qs : List (List ℤ)) (earlier : List Line) → length qs ≡ r → r + n ≡ suc d → Duals qs
        → progress_of a claim earlier ≡ AllMet (known ts ps qs) → DualsTaken (onto (lines_from (dual_line d f) r n) earlier) ts ps
    duals_taken ts ps full_p eigens zero r qs earlier e all rows met = record { qs = qs; many = omega (arith, e, all); are = rows; met = met }
    duals_taken ts ps full_p eigens (suc n) r qs earlier e all rows met =
        let inside : r ≤ d = omega (arith, all) in
        let numbers = row_numbers f.root (f.dual r) 0 (suc d) in
        let more = length_more qs numbers in
        let next = rows_more f.root (suc d) f.dual qs numbers r e rows (dual_value r inside) in
        let holds : EachHolds (steps_of (known ts ps qs) (dual_line d f r)) =
        (dual_lowest r inside, (are_same _ _ (omega (arith, full_p)), (next_test a r qs inside e, last_steps ts ps qs numbers full_p eigens next (is_last a qs) refl))) in
        duals_taken ts ps full_p eigens n (r + 1) (qs ++ numbers ∷ []) (dual_line d f r ∷ earlier) (omega (arith, e, more)) (omega (arith, all)) next
        (met_line a claim earlier (dual_line d f r) (known ts ps qs) met refl holds)

    -- ---- the whole frame
    -- the frame is known and whole, and has these values
    pub record FrameTaken (lines : List Line) : Type 0 where
      pub written : FrameContent
      pub met : progress_of a claim lines ≡ AllMet (record { array = a; claim = claim; counts = counts; frame = Some written; rooms = None })
      pub root : written.root ≡ f.root
      pub all : length written.q ≡ d + 1
      pub thetas : (i : ℕ) → i ≤ d → theta_at written i ≡ f.theta i
      pub eigens : (i j : ℕ) → i ≤ d → j ≤ d → p_at written i j ≡ f.eigen i j
      pub duals : (r i : ℕ) → r ≤ d → i ≤ d → q_at written r i ≡ f.dual r i

    pub frame_taken : is_spectral (class_of claim) ≡ true → (earlier : List Line)
        → progress_of a claim earlier ≡ AllMet (record { array = a; claim = claim; counts = counts; frame = None; rooms = None }) → FrameTaken (onto (frame_lines d f) earlier)
    frame_taken spectral earlier met =
        let begun = met_line a claim earlier (Frame (pos f.root)) (record { array = a; claim = claim; counts = counts; frame = None; rooms = None }) met refl (refl, (full, (spectral, (w.root_test, tt)))) in
        let first = thetas_taken (suc d) 0 [] (Frame (pos f.root) ∷ earlier) refl (omega arith) (no_rows f.root 1 (λ t l. f.theta t)) begun in
        let second = eigens_taken first.ts first.many first.are (suc d) 0 [] _ refl (omega arith) (no_rows f.root (suc d) f.eigen) first.met in
        let third = duals_taken first.ts second.ps second.many second.are (suc d) 0 [] _ refl (omega arith) (no_rows f.root (suc d) f.dual) second.met in
        let ts = lines_from (theta_line d f) 0 (suc d) in
        let ps = lines_from (eigen_line d f) 0 (suc d) in
        let qs = lines_from (dual_line d f) 0 (suc d) in
        let lines : onto (frame_lines d f) earlier ≡ onto qs (onto ps (onto ts (Frame (pos f.root) ∷ earlier))) = onto_append ts (ps ++ qs) (Frame (pos f.root) ∷ earlier) ∙ onto_append ps qs (onto ts (Frame (pos f.root) ∷ earlier)) in
        record {
          written = content first.ts second.ps third.qs;
          met = subst (λ ls. progress_of a claim ls ≡ AllMet (known first.ts second.ps third.qs)) (sym lines) third.met;
          root = refl;
          all = let many = third.many in omega (arith, many);
          thetas = λ i h. first.are.are i 0 (let many = first.many in omega (arith, h, many)) (omega arith);
          eigens = λ i j h k. second.are.are i j (let many = second.many in omega (arith, h, many)) (omega (arith, k));
          duals = λ r i h k. third.are.are r i (let many = third.many in omega (arith, h, many)) (omega (arith, k));
        }
