-- The frame of an array whose quantities fit in the field of its root is made within the range.
use Rattle.std.proofs.Common.{◌≡◌, ℕ, zero, suc, ◌^◌, ◌<◌, ◌≤◌, true, List, [], ◌∷◌, length, map, refl, sym, ap, ap₂, ◌∙◌, subst, arith}
use Rattle.std.specs.Prelude.{All, Contains}
use Rattle.std.specs.List.{range_with_len}
use Rattle.drg_algebra.proofs.Totals.{delta_same}
use Rattle.drg_array.specs.Entries.{Entries, IsArray, diameter}
use Rattle.drg_eigen.specs.SplitLaws.{OneSplit}
use Rattle.drg_fraction.specs.Field.{IsExactField, dot_fits}
use Rattle.drg_fraction.specs.Operations.{Operations}
use Rattle.drg_fraction.specs.Rationals.{rational_laws, rational_operations}
use Rattle.drg_matrices.specs.Faults.{AllFit}
use Rattle.drg_matrices.specs.Fits.{recurrence_fits}
use Rattle.drg_matrices.specs.Formulas.{cosine, dual_entry, eigen_entry, multiplicity_of}
use Rattle.drg_matrices.specs.Frame.{IsFrameOf}
use Rattle.drg_matrices.specs.Values.{count_value, eigenvalue_in, size_value, theta_at}
use Rattle.drg_quadratic.specs.Eigenvalue.{eigenvalue_of}
use Rattle.drg_quadratic.specs.EigenvalueFields.{IsValueOf}
use Rattle.drg_quadratic.specs.Laws.{value_laws}
use Rattle.drg_quadratic.specs.Operations.{value_operations}
use Rattle.drg_quadratic.specs.Values.{IsRoot, Value, minus, plus, rational}
use Rattle.drg_quadratic.specs.Work.{difference_fits, sign_fits}
use Rattle.drg_quadratic.specs.declared.eigenvalue.Eigenvalue.{Eigenvalue}
use Rattle.drg_quadratic.proofs.Comparisons.{quadratics_fit}
use Rattle.drg_quadratic.proofs.EigenvalueValues.{twice_eigenvalue}
use Rattle.drg_quadratic.proofs.Embedded.{embed, embed_plus}
use Rattle.drg_evidence.specs.FrameValues.{FrameValues, HasFrame}
use Rattle.drg_evidence.specs.Made.{FrameFits, IsFrameMade}
use Rattle.drg_evidence.proofs.EmbeddedWork.{KeepsWork, dots_fit, rationals_keep, recurrences_fit, values_keep}
use Rattle.drg_evidence.proofs.FieldWork.{AreShown, values_product_shown}
use Rattle.drg_evidence.proofs.FrameFormulas.{HasEquations, dual_is, eigen_is}
use Rattle.drg_evidence.proofs.FrameSteps.{IsAboveWithin}
use Rattle.drg_evidence.proofs.FrameTaken.{IsWithinRange}
use Rattle.drg_evidence.proofs.OneSpectrum.{one_spectrum, spectrum_length}
use Rattle.drg_evidence.proofs.RationalFrames.{eigenvalue_is, item_is}
use Rattle.drg_evidence.proofs.RationalParts.{flat_value, rational_parts}
use Rattle.drg_evidence.proofs.SameRows.{same_recurrence, same_row}
use Rattle.drg_evidence.proofs.SmallRoots.{root_passes, small_root}

-- ---- eigenvalues
picked : {V : Type 0} (o : Operations V) (xs : List Eigenvalue) (i : ℕ) → i < length xs → (x : Eigenvalue) × Contains xs x × (theta_at o xs i ≡ eigenvalue_in o x)
picked o [] i h = absurd (omega arith)
picked o (x ∷ xs) zero h = (x, (0, omega arith, refl), refl)
picked o (x ∷ xs) (suc i) h =
    let later = picked o xs i (omega arith) in
    let place = later.1.1 in
    (later.0, (suc later.1.0, omega (arith, place), later.1.2), later.2)

over_root : (root : ℕ) (xs : List Eigenvalue) (x : Eigenvalue) → All (λ x. x.root ≡ root) xs → Contains xs x → x.root ≡ root
over_root root xs x all place = subst (λ (y : Eigenvalue). y.root ≡ root) place.2 (all place.0 x place.1)

is_value : {V : Type 0} {o : Operations V} {root : ℕ} (laws : IsExactField o root) (x : Eigenvalue) → IsValueOf o x (eigenvalue_in o x)
is_value {V} {o} laws x = (
  laws.over_plus _ _ (laws.over_rational _) (laws.over_times _ o.square_root (laws.over_rational _) laws.over_root),
  sym (embed_plus laws (eigenvalue_of x) (eigenvalue_of x)) ∙ ap (embed laws) (twice_eigenvalue x),
)

module _ (root : ℕ) (h : IsRoot root) (small : root < 2 ^ 32) where
  comparison : (xs : List Eigenvalue) → All (λ x. x.root ≡ root) xs → (i j : ℕ) → i < length xs → j < length xs
      → (let o = value_operations root in
      (difference_fits (theta_at o xs i) (theta_at o xs j) ≡ true) × (sign_fits root (plus (theta_at o xs i) (minus (theta_at o xs j))) ≡ true))
  comparison xs over i j hi hj =
      let o = value_operations root in
      let laws = value_laws root h in
      let x = picked o xs i hi in
      let y = picked o xs j hj in
      let fits = quadratics_fit root h x.0 y.0 (eigenvalue_in o x.0) (eigenvalue_in o y.0) small (over_root root xs x.0 over x.1) (over_root root xs y.0 over y.1) (is_value laws x.0) (is_value laws y.0) in
      (ap₂ difference_fits x.2 y.2 ∙ fits.0, ap₂ (λ u v. sign_fits root (plus u (minus v))) x.2 y.2 ∙ fits.1)

-- ---- what is made for a frame
-- the values in the field are those of the frame
record AreValues {V : Type 0} (o : Operations V) (a : Entries) (value : V → Value) (x : ℕ → V) (theta : ℕ → Value) (p q : ℕ → ℕ → Value) : Type 0 where
  thetas : (i : ℕ) → i ≤ diameter a → theta i ≡ value (x i)
  eigens : (i r : ℕ) → i ≤ diameter a → r ≤ diameter a → p i r ≡ value (eigen_entry o a (x i) r)
  duals : (r i : ℕ) → r ≤ diameter a → i ≤ diameter a → q r i ≡ value (dual_entry o a (x i) r)

module _ {V : Type 0} (o : Operations V) (root : ℕ) (value : V → Value) (keeps : KeepsWork o root value) (a : Entries) (x : ℕ → V) (fit : AllFit o a x)
    (theta : ℕ → Value) (p q : ℕ → ℕ → Value) (are : AreValues o a value x theta p q) where
  abbrev d : ℕ
  d = diameter a

  eigen_shown : (i r : ℕ) → i ≤ d → r ≤ d → AreShown (p i r)
  eigen_shown i r h k =
      subst AreShown (sym (are.eigens i r h k ∙ keeps.product (size_value o a r) (cosine o a (x i) r)))
      (values_product_shown root _ _ (keeps.products_fit (size_value o a r) (cosine o a (x i) r) (fit.reached.reached.reached.eigen i r (omega arith) (omega arith))))

  dual_shown : (r i : ℕ) → r ≤ d → i ≤ d → AreShown (q r i)
  dual_shown r i h k =
      subst AreShown (sym (are.duals r i h k ∙ keeps.product (multiplicity_of o a (x i)) (cosine o a (x i) r)))
      (values_product_shown root _ _ (keeps.products_fit (multiplicity_of o a (x i)) (cosine o a (x i) r) (fit.reached.reached.dual r i (omega arith) (omega arith))))

  recurrences_are : (i j : ℕ) → i ≤ d → j ≤ d → recurrence_fits (value_operations root) a (theta i) (p i) j ≡ true
  recurrences_are i j h k =
      ap (λ t. recurrence_fits (value_operations root) a t (p i) j) (are.thetas i h)
      ∙ same_recurrence (value_operations root) a (p i) (λ l. value (eigen_entry o a (x i) l)) (λ l less. are.eigens i l h (omega arith)) (value (x i)) j (omega arith)
      ∙ recurrences_fit keeps a (eigen_entry o a (x i)) (x i) j (fit.reached.recurrences i j (omega arith) (omega arith))

  product_is : (i j : ℕ) → i ≤ d → j ≤ d → dot_fits (value_operations root) (map (p i) (range_with_len 0 (suc d))) (map (λ r. q r j) (range_with_len 0 (suc d))) ≡ true
  product_is i j h k =
      ap₂ (dot_fits (value_operations root))
      (same_row (p i) (λ l. value (eigen_entry o a (x i) l)) (suc d) (suc d) refl (λ l less. are.eigens i l h (omega arith)))
      (same_row (λ r. q r j) (λ l. value (dual_entry o a (x j) l)) (suc d) (suc d) refl (λ l less. are.duals l j (omega arith) k))
      ∙ dots_fit keeps (eigen_entry o a (x i)) (dual_entry o a (x j)) 0 (suc d) (fit.product i j (omega arith) (omega arith))

module _ (a : Entries) (array : IsArray a) (root : ℕ) (theta : ℕ → Value) (u p q : ℕ → ℕ → Value) (is : IsFrameOf (value_operations root) root a theta u p q) where
  abbrev frame : FrameValues
  frame = record { root = root; theta = theta; cosine = u; eigen = p; dual = q }

  is_root : IsRoot root
  is_root = is.spectrum.common_root.is_root

  abbrev o : Operations Value
  o = value_operations root

  small : root < 2 ^ 32
  small = small_root a array root is.thetas is.spectrum

  above : (i : ℕ) → i < diameter a → IsAboveWithin root (theta i) (theta (suc i))
  above i h =
      let places = spectrum_length a root is.thetas is.spectrum in
      let fits = comparison root is_root small is.thetas is.spectrum.roots.over_root i (suc i) (omega (arith, places, h)) (omega (arith, places, h)) in
      let first = is.values i (omega arith) in
      let second = is.values (suc i) (omega arith) in
      let laws = value_laws root is_root in
      record {
        fits = ap₂ difference_fits first second ∙ fits.0;
        sign = ap₂ (λ x y. sign_fits root (plus x (minus y))) first second ∙ fits.1;
        over = laws.over_plus (theta i) (minus (theta (suc i))) (is.frame.theta_over i (omega arith)) (laws.over_minus (theta (suc i)) (is.frame.theta_over (suc i) (omega arith)));
        positive = is.frame.descends i h;
      }

  module _ {V : Type 0} (field : Operations V) (value : V → Value) (keeps : KeepsWork field root value) (x : ℕ → V) (fit : AllFit field a x) (are : AreValues field a value x theta p q) where
    by_values : IsWithinRange a frame
    by_values = record {
      root = is_root;
      root_test = root_passes root is_root small;
      frame = is.frame;
      above = above;
      eigen_shown = eigen_shown field root value keeps a x fit theta p q are;
      dual_shown = dual_shown field root value keeps a x fit theta p q are;
      recurrences = recurrences_are field root value keeps a x fit theta p q are;
      product = product_is field root value keeps a x fit theta p q are;
    }

  equations : HasEquations o a theta u p q
  equations = record {
    p_over = λ i r h k. is.frame.p_over i r (omega arith) (omega arith);
    first = is.first;
    rows = is.rows;
    columns = is.columns;
    recurrence = is.frame.recurrence;
    product = λ i h. is.frame.product i i (omega arith) (omega arith) ∙ delta_same o.nil (count_value o a) i;
  }

  -- the quantities by their formulas at the eigenvalues are those of the frame
  above_zero : AreValues o a (λ z. z) (theta_at o is.thetas) theta p q
  above_zero =
      let laws = value_laws root is_root in
      record {
        thetas = is.values;
        eigens = λ i r h k. eigen_is laws a array theta u p q equations i h r k ∙ ap (λ z. eigen_entry o a z r) (is.values i h);
        duals = λ r i k h. dual_is laws a array theta u p q equations i h r k ∙ ap (λ z. dual_entry o a z r) (is.values i h);
      }

-- over root 0 the quantities are made with fractions
over_zero : (a : Entries) (array : IsArray a) (theta : ℕ → Value) (u p q : ℕ → ℕ → Value) (is : IsFrameOf (value_operations 0) 0 a theta u p q)
    → AllFit rational_operations a (theta_at rational_operations is.thetas) → IsWithinRange a (record { root = 0; theta = theta; cosine = u; eigen = p; dual = q })
over_zero a array theta u p q is fit = by_values a array 0 theta u p q is rational_operations rational rationals_keep (theta_at rational_operations is.thetas) fit are
  where
    same : (i : ℕ) → i ≤ diameter a → (theta i).a ≡ theta_at rational_operations is.thetas i
    same i h = ap (λ (z : Value). z.a) (is.values i h ∙ sym (item_is (eigenvalue_in rational_operations) (eigenvalue_in (value_operations 0)) eigenvalue_is is.thetas i))

    has : HasEquations rational_operations a (λ i. (theta i).a) (λ i r. (u i r).a) (λ i r. (p i r).a) (λ r i. (q r i).a)
    has = rational_parts a theta u p q (equations a array 0 theta u p q is)

    are : AreValues rational_operations a rational (theta_at rational_operations is.thetas) theta p q
    are = record {
      thetas = λ i h. flat_value (theta i) (is.frame.theta_over i h) ∙ ap rational (same i h);
      eigens = λ i r h k. flat_value (p i r) (is.frame.p_over i r (omega arith) (omega arith))
          ∙ ap rational (eigen_is (rational_laws 0 refl) a array (λ i. (theta i).a) (λ i r. (u i r).a) (λ i r. (p i r).a) (λ r i. (q r i).a) has i h r k ∙ ap (λ z. eigen_entry rational_operations a z r) (same i h));
      duals = λ r i k h. flat_value (q r i) (is.frame.q_over r i (omega arith) (omega arith))
          ∙ ap rational (dual_is (rational_laws 0 refl) a array (λ i. (theta i).a) (λ i r. (u i r).a) (λ i r. (p i r).a) (λ r i. (q r i).a) has i h r k ∙ ap (λ z. dual_entry rational_operations a z r) (same i h));
    }

within : (a : Entries) → IsArray a → (root : ℕ) (theta : ℕ → Value) (u p q : ℕ → ℕ → Value) (is : IsFrameOf (value_operations root) root a theta u p q) → FrameFits a root is.thetas
    → IsWithinRange a (record { root = root; theta = theta; cosine = u; eigen = p; dual = q })
within a array zero theta u p q is fit = over_zero a array theta u p q is fit
within a array (suc n) theta u p q is fit =
    by_values a array (suc n) theta u p q is (value_operations (suc n)) (λ z. z) (values_keep (suc n)) (theta_at (value_operations (suc n)) is.thetas) fit (above_zero a array (suc n) theta u p q is)

pub within_range : OneSplit → (a : Entries) → IsArray a → (f : FrameValues) → HasFrame a f → IsFrameMade a → IsWithinRange a f
within_range split a array f is made =
    let same = one_spectrum split a made.root f.root made.thetas is.thetas made.spectrum is.spectrum in
    within a array f.root f.theta f.cosine f.eigen f.dual is (subst (λ (r : ℕ). FrameFits a r is.thetas) same.0 (subst (FrameFits a made.root) same.1 made.fits))
