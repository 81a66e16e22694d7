-- The conditions of the lines of a frame hold where the numbers are those of a frame whose formulas fit.
use Rattle.std.proofs.Common.{◌≡◌, ℕ, zero, suc, ◌+◌, ◌<◌, ◌≤◌, Bool, true, false, List, [], ◌∷◌, ◌++◌, length, refl, sym, ap, ap₂, ◌∙◌, subst, arith, inl, inr, ℤ, pos}
use Rattle.std.specs.Prelude.{◌⊎◌, ◌&&◌, nat_lt, if◌then◌else◌}
use Rattle.std.specs.declared.cmp.Ordering.TheVariants.{Greater}
use Rattle.std.proofs.lemmas.Bool.Decides.{nat_tests}
use Rattle.drg_algebra.specs.Rational.{whole}
use Rattle.drg_algebra.specs.Ring.{none, ◌⊕◌, ◌⊗◌, ring2}
use Rattle.drg_algebra.proofs.Tests.{both, and-in, decided}
use Rattle.drg_array.proofs.EntryLemmas.{c-end}
use Rattle.drg_array.specs.Entries.{Entries, IsArray, diameter, a_at, b_at, c_at}
use Rattle.drg_fraction.specs.Field.{dot_of, dot_fits}
use Rattle.drg_fraction.specs.Operations.{Operations}
use Rattle.drg_matrix.specs.Frame as frames
use Rattle.drg_matrices.specs.Fits.{first_terms_fit, last_term_fits, recurrence_fits}
use Rattle.drg_matrices.specs.Formulas.{first_terms}
use Rattle.drg_quadratic.specs.Laws.{value_laws}
use Rattle.drg_quadratic.specs.Operations.{value_operations}
use Rattle.drg_quadratic.specs.Values.{IsOver, IsRoot, Value, nil, unit, plus, minus, times, rational}
use Rattle.drg_quadratic.specs.Work.{difference_fits, product_fits, sign_fits, sum_fits}
use Rattle.drg_replay.specs.FieldNumbers.{is_greater, sign_at, value_at}
use Rattle.drg_replay.specs.Frames.{begins_row, cell_steps, cells_from, coefficients, column_values, descent_steps, diagonal, line_at, neighbours, product_rows, recurrence_steps, recurrences_from, row_values, theta_at, value_before}
use Rattle.drg_replay.specs.Known.{FrameContent}
use Rattle.drg_replay.specs.Rows.{b_before}
use Rattle.drg_replay.specs.Steps.{EachHolds, Fits, Holds, Step}
use Rattle.drg_replay.proofs.ValueLaws.{has_sign, one_sign, same_value}
use Rattle.drg_evidence.proofs.FieldWork.{nil_product, nil_with_sum, sum_with_nil, values_product_shown, values_sum_shown}

-- ---- steps of two lists
pub all_hold : (steps rest : List Step) → EachHolds steps → EachHolds rest → EachHolds (steps ++ rest)
all_hold [] rest here there = there
all_hold (Holds b ∷ steps) rest here there = (here.0, all_hold steps rest here.1 there)
all_hold (Fits b ∷ steps) rest here there = (here.0, all_hold steps rest here.1 there)

-- ---- eigenvalues
-- x is above y, and that is found within the range
pub record IsAboveWithin (root : ℕ) (x y : Value) : Type 0 where
  pub fits : difference_fits x y ≡ true
  pub sign : sign_fits root (plus x (minus y)) ≡ true
  pub over : IsOver root (plus x (minus y))
  pub positive : (value_operations root).IsPositive (plus x (minus y))

greater_test : (root : ℕ) → IsRoot root → (z : Value) → IsOver root z → (value_operations root).IsPositive z → is_greater (sign_at root z) ≡ true
greater_test root h z over positive = ap is_greater (one_sign root h z over (sign_at root z) Greater (has_sign root h z over) positive)

pub descent_holds : (f : FrameContent) → IsRoot f.root → (n : ℕ) (x : Value) → ((m : ℕ) → n ≡ suc m → IsAboveWithin f.root (theta_at f m) x) → EachHolds (descent_steps f n x)
descent_holds f h zero x above = tt
descent_holds f h (suc m) x above =
    let last = above m refl in
    (last.fits, (last.sign, (greater_test f.root h (plus (theta_at f m) (minus x)) last.over last.positive, tt)))

-- ---- rows of P
pub begins : (root : ℕ) (theta : Value) (numbers : List ℤ) → value_at root numbers 0 ≡ unit → value_at root numbers 1 ≡ theta → begins_row root theta numbers ≡ true
unfolding begins_row
begins root theta numbers e f = and-in _ _ ((same_value _ _).1 e) ((same_value _ _).1 f)

not_less : (i n : ℕ) → nat_lt i n ≡ false → n ≤ i
not_less i n e = grind (arith, nat_tests)

module _ (a : Entries) (array : IsArray a) (root : ℕ) (h : IsRoot root) (numbers : List ℤ) where
  abbrev o : Operations Value
  o = value_operations root

  abbrev x : ℕ → Value
  x = value_at root numbers

  abbrev before_term : ℕ → Value
  before_term j = times root (rational (whole (pos (b_before a j)))) (value_before root numbers j)

  abbrev own_term : ℕ → Value
  own_term j = times root (rational (whole (a_at a j))) (x j)

  abbrev after_term : ℕ → Value
  after_term j = times root (rational (whole (pos (c_at a (suc j))))) (x (suc j))

  zero_product : (y : Value) → times root nil y ≡ nil
  zero_product y = ring2 (value_laws root h).ring (λ x y. none ⊗ x) (λ x y. none) refl y y

  nil_plus : (y : Value) → plus nil y ≡ y
  nil_plus y = ring2 (value_laws root h).ring (λ x y. none ⊕ x) (λ x y. x) refl y y

  -- the first two terms, as the replayer makes them
  record FirstFit (j : ℕ) : Type 0 where
    left : product_fits root (rational (whole (pos (b_before a j)))) (value_before root numbers j) ≡ true
    right : product_fits root (rational (whole (a_at a j))) (x j) ≡ true
    sum : sum_fits (before_term j) (own_term j) ≡ true
    is : plus (before_term j) (own_term j) ≡ first_terms o a x j

  first_fit : (j : ℕ) → first_terms_fit o a x j ≡ true → FirstFit j
  first_fit zero fits = record {
    left = nil_product root nil;
    right = fits;
    sum = ap (λ z. sum_fits z (own_term 0)) (zero_product nil) ∙ nil_with_sum (own_term 0) (values_product_shown root (rational (whole (a_at a 0))) (x 0) fits);
    is = ap (λ z. plus z (own_term 0)) (zero_product nil) ∙ nil_plus (own_term 0);
  }
  first_fit (suc j) fits =
      let b = rational (whole (pos (b_at a j))) in
      let own = rational (whole (a_at a (suc j))) in
      let parts = both (product_fits root b (x j) && product_fits root own (x (suc j))) (sum_fits (times root b (x j)) (times root own (x (suc j)))) fits in
      let products = both (product_fits root b (x j)) (product_fits root own (x (suc j))) parts.0 in
      record { left = products.0; right = products.1; sum = parts.1; is = refl }

  record LastFits (j : ℕ) : Type 0 where
    product : product_fits root (rational (whole (pos (c_at a (suc j))))) (x (suc j)) ≡ true
    sum : sum_fits (plus (before_term j) (own_term j)) (after_term j) ≡ true
    is : after_term j ≡ (if nat_lt j (diameter a) then after_term j else nil)

  abbrev after_number : ℕ → Value
  after_number j = rational (whole (pos (c_at a (suc j))))

  last_fits : (j : ℕ) → FirstFit j → last_term_fits o a x j ≡ true → LastFits j
  last_fits j first fits = by (decided (nat_lt j (diameter a)))
    where
      by : (nat_lt j (diameter a) ≡ true) ⊎ (nat_lt j (diameter a) ≡ false) → LastFits j
      by (inl e) =
          let P : Bool → Type 0 = λ t. (if t then product_fits root (after_number j) (x (suc j)) && sum_fits (first_terms o a x j) (times root (after_number j) (x (suc j))) else true) ≡ true in
          let inside = subst P e fits in
          let parts = both (product_fits root (after_number j) (x (suc j))) (sum_fits (first_terms o a x j) (times root (after_number j) (x (suc j)))) inside in
          record { product = parts.0; sum = ap (λ z. sum_fits z (after_term j)) first.is ∙ parts.1; is = rw e refl }
      by (inr e) =
          let none_left : c_at a (suc j) ≡ 0 = c-end a j array (not_less j (diameter a) e) in
          let flat : after_number j ≡ nil = ap (λ (n : ℕ). rational (whole (pos n))) none_left in
          let gone : after_term j ≡ nil = ap (λ z. times root z (x (suc j))) flat ∙ zero_product (x (suc j)) in
          record {
            product = ap (λ z. product_fits root z (x (suc j))) flat ∙ nil_product root (x (suc j));
            sum = ap (sum_fits (plus (before_term j) (own_term j))) gone ∙ sum_with_nil _ (values_sum_shown (before_term j) (own_term j) first.sum);
            is = rw e gone;
          }

  before_is : (j : ℕ) → before_term j ≡ frames.before o (λ l. times root (rational (whole (pos (b_at a l)))) (x l)) j
  before_is zero = zero_product nil
  before_is (suc j) = refl

  recurrence_holds : (theta : Value) (j : ℕ) → recurrence_fits o a theta x j ≡ true → times root theta (x j) ≡ frames.neighbours o a x j → EachHolds (recurrence_steps a root theta numbers j)
  unfolding recurrence_steps coefficients neighbours
  recurrence_holds theta j fits same =
      let outer = both (product_fits root theta (x j) && first_terms_fit o a x j) (last_term_fits o a x j) fits in
      let inner = both (product_fits root theta (x j)) (first_terms_fit o a x j) outer.0 in
      let first = first_fit j inner.1 in
      let last = last_fits j first outer.1 in
      let terms : plus (plus (before_term j) (own_term j)) (after_term j) ≡ frames.neighbours o a x j = ap₂ plus (ap₂ plus (before_is j) refl) last.is in (
        inner.0,
        (
          and-in _ _ first.left (and-in _ _ (and-in _ _ first.right first.sum) (and-in _ _ (and-in _ _ last.product last.sum) refl)),
          ((same_value _ _).1 (same ∙ sym terms), tt),
        ),
      )

  pub recurrences_hold : (theta : Value) (j n : ℕ) → ((l : ℕ) → l < j + n → recurrence_fits o a theta x l ≡ true)
      → ((l : ℕ) → l < j + n → times root theta (x l) ≡ frames.neighbours o a x l) → EachHolds (recurrences_from a root theta numbers j n)
  unfolding recurrences_from
  recurrences_hold theta j zero fits same = tt
  recurrences_hold theta j (suc n) fits same =
      all_hold (recurrence_steps a root theta numbers j) (recurrences_from a root theta numbers (suc j) n)
      (recurrence_holds theta j (fits j (omega arith)) (same j (omega arith)))
      (recurrences_hold theta (suc j) n (λ l less. fits l (omega arith)) (λ l less. same l (omega arith)))

-- ---- P Q = n I
module _ (root : ℕ) (rows : List (List ℤ)) (side : ℕ) (n : ℤ) where
  -- the cell (i, j) of the row is made within the range, and is that of n I
  pub record CellHolds (row : List ℤ) (i j : ℕ) : Type 0 where
    pub fits : dot_fits (value_operations root) (row_values root row 0 side) (column_values root rows j 0 side) ≡ true
    pub same : dot_of (value_operations root) (row_values root row 0 side) (column_values root rows j 0 side) ≡ diagonal n i j

  cell_holds : (row : List ℤ) (i j : ℕ) → CellHolds row i j → EachHolds (cell_steps root rows side n row i j)
  unfolding cell_steps
  cell_holds row i j cell = (cell.fits, ((same_value _ _).1 cell.same, tt))

  cells_hold : (row : List ℤ) (i j m : ℕ) → ((l : ℕ) → l < j + m → CellHolds row i l) → EachHolds (cells_from root rows side n row i j m)
  unfolding cells_from
  cells_hold row i j zero cells = tt
  cells_hold row i j (suc m) cells =
      all_hold (cell_steps root rows side n row i j) (cells_from root rows side n row i (suc j) m) (cell_holds row i j (cells j (omega arith)))
      (cells_hold row i (suc j) m (λ l less. cells l (omega arith)))

  pub product_holds : (ps : List (List ℤ)) (i : ℕ) → ((k l j : ℕ) → k < length ps → l ≡ i + k → j < side → CellHolds (line_at ps k) l j) → EachHolds (product_rows root rows side n i ps)
  unfolding product_rows
  product_holds [] i cells = tt
  product_holds (p ∷ ps) i cells =
      all_hold (cells_from root rows side n p i 0 side) (product_rows root rows side n (suc i) ps)
      (cells_hold p i 0 side (λ j less. cells 0 i j (omega arith) (omega arith) (omega (arith, less))))
      (product_holds ps (suc i) (λ k l j less e inside. cells (suc k) l j (omega arith) (omega arith) inside))
