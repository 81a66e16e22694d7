-- Tables that are filled by the formulas are the frame of the array.
use Rattle.std.proofs.Common.{◌≡◌, ℕ, zero, suc, ◌≤◌, List, length, true, false, refl, ap, ap₂, sym, ◌∙◌, subst, subst₂, arith, inl, inr}
use Rattle.std.specs.Prelude.{nat_lt, if◌then◌else◌}
use Rattle.std.proofs.lemmas.Bool.{cases_lt}
use Rattle.std.proofs.lemmas.Bool.Decides.{nat_tests}
use Rattle.drg_algebra.proofs.Totals.{same_sum}
use Rattle.drg_array.specs.Entries.{Entries, IsArray, diameter, b_at, c_at}
use Rattle.drg_fraction.specs.Operations.{Operations}
use Rattle.drg_fraction.specs.Field.{IsExactField}
use Rattle.drg_matrix.specs.Frame.{IsFrame, neighbours, before}
use Rattle.drg_matrix.specs.Product.{ProductIsScalar}
use Rattle.drg_eigen.specs.Characteristic.{characteristic}
use Rattle.drg_quadratic.specs.declared.eigenvalue.Eigenvalue.{Eigenvalue}
use Rattle.drg_eigen.specs.Spectrum.{IsSpectrum}
use Rattle.drg_matrices.specs.Values.{theta_at, a_value, b_value, c_value, size_value, count_value}
use Rattle.drg_matrices.specs.Formulas.{cosine, eigen_entry, dual_entry, multiplicity_of}
use Rattle.drg_matrices.specs.Tables.{FrameTables, theta_in, cosine_in, eigen_in, dual_in}
use Rattle.drg_matrices.specs.Filling.{HasFormulas}
use Rattle.drg_matrices.specs.Frame.{IsFrameOf}
use Rattle.drg_matrices.proofs.Frames.{is_frame}
use Rattle.drg_matrices.proofs.Spectra.{theta_over, theta_descends, theta_root, spectrum_length}

module _ {A V : Type 0} (value : A → V) (operations : ℕ → Operations V) (root_of : A → ℕ) (root : ℕ) (laws : IsExactField (operations root) root)
    (a : Entries) (array : IsArray a) (one_c : c_at a 1 ≡ 1) (thetas : List Eigenvalue) (spectrum : IsSpectrum (b_at a 0) (characteristic a) root thetas)
    (t : FrameTables A) (filled : HasFormulas value operations root_of root a (theta_at (operations root) thetas) t) where
  abbrev o : Operations V
  o = operations root

  abbrev d : ℕ
  d = diameter a

  abbrev theta : ℕ → V
  theta = theta_at o thetas

  places : length thetas ≡ suc d
  places = spectrum_length a root thetas spectrum

  -- the frame by its formulas
  formulas : IsFrame o a theta (λ i r. eigen_entry o a (theta i) r) (λ r i. dual_entry o a (theta i) r)
  formulas =
      is_frame laws a array one_c theta
      (λ i h. theta_over laws thetas i (omega (arith, places)))
      (λ i h. theta_root laws (characteristic a) thetas spectrum.roots i (omega (arith, places)))
      (λ i h. theta_descends laws thetas spectrum.roots.descending spectrum.roots.over_root i (omega (arith, places)))

  cosines_are : (i r : ℕ) → i ≤ d → r ≤ d → cosine_in value operations t i r ≡ cosine o a (theta i) r
  cosines_are i r h k = filled.cosines.values i r (omega arith) (inl (omega arith))

  eigen_are : (i r : ℕ) → i ≤ d → r ≤ d → eigen_in value operations t i r ≡ eigen_entry o a (theta i) r
  eigen_are i r h k = filled.eigen.values i r (omega arith) (inl (omega arith))

  dual_are : (r i : ℕ) → r ≤ d → i ≤ d → dual_in value operations t r i ≡ dual_entry o a (theta i) r
  dual_are r i h k = filled.dual.values r i (omega arith) (inl (omega arith))

  thetas_are : (i : ℕ) → i ≤ d → theta_in value operations t i ≡ theta i
  thetas_are i h = let some = array.some in eigen_are i 1 h (omega arith) ∙ formulas.eigenvalues i h

  same_neighbours : (p q : ℕ → V) → ((l : ℕ) → l ≤ d → p l ≡ q l) → (j : ℕ) → j ≤ d → neighbours o a p j ≡ neighbours o a q j
  same_neighbours p q same j h = ap₂ o.plus (ap₂ o.plus (before_same j h) (ap (o.times (a_value o a j)) (same j h))) (after_same j h)
    where
      before_same : (j : ℕ) → j ≤ d → before o (λ l. o.times (b_value o a l) (p l)) j ≡ before o (λ l. o.times (b_value o a l) (q l)) j
      before_same zero h = refl
      before_same (suc j) h = ap (o.times (b_value o a j)) (same j (omega arith))

      after_same : (j : ℕ) → j ≤ d
          → (if nat_lt j d then o.times (c_value o a (suc j)) (p (suc j)) else o.nil) ≡ (if nat_lt j d then o.times (c_value o a (suc j)) (q (suc j)) else o.nil)
      after_same j h =
          elim (cases_lt j d) [
            | inl less ↦ (let test : nat_lt j d ≡ true = grind (arith, nat_tests) in rw test (ap (o.times (c_value o a (suc j))) (same (suc j) (omega arith))))
            | inr more ↦ (let test : nat_lt j d ≡ false = grind (arith, nat_tests) in rw test refl)
          ]

  product_is : ProductIsScalar o (suc d) (eigen_in value operations t) (dual_in value operations t) (count_value o a)
  product_is i j h k =
      same_sum laws.ring (suc d) (λ l. o.times (eigen_in value operations t i l) (dual_in value operations t l j)) (λ l. o.times (eigen_entry o a (theta i) l) (dual_entry o a (theta j) l))
      (λ l g. ap₂ o.times (eigen_are i l (omega arith) (omega arith)) (dual_are l j (omega arith) (omega arith)))
      ∙ formulas.product i j h k

  frame_is : IsFrame o a (theta_in value operations t) (eigen_in value operations t) (dual_in value operations t)
  frame_is = record {
    theta_over = λ i h. subst o.IsOver (sym (thetas_are i h)) (formulas.theta_over i h);
    p_over = λ i j h k. subst o.IsOver (sym (eigen_are i j (omega arith) (omega arith))) (formulas.p_over i j h k);
    q_over = λ r i h k. subst o.IsOver (sym (dual_are r i (omega arith) (omega arith))) (formulas.q_over r i h k);
    descends = λ i h. subst₂ (λ (x y : V). o.IsPositive (o.plus x (o.minus y))) (sym (thetas_are i (omega arith))) (sym (thetas_are (suc i) (omega arith))) (formulas.descends i h);
    ones = λ i h. eigen_are i 0 h (omega arith) ∙ formulas.ones i h;
    eigenvalues = λ i h. refl;
    recurrence = λ i j h k.
        ap₂ o.times (thetas_are i h) (eigen_are i j h k) ∙ formulas.recurrence i j h k
        ∙ sym (same_neighbours (eigen_in value operations t i) (eigen_entry o a (theta i)) (λ l g. eigen_are i l h g) j k);
    product = product_is;
  }

  multiplicity_is : (i : ℕ) → i ≤ d → dual_in value operations t 0 i ≡ multiplicity_of o a (theta i)
  multiplicity_is i h = dual_are 0 i (omega arith) h ∙ laws.ring.times_unit (multiplicity_of o a (theta i))

  pub frame_of_formulas : IsFrameOf o root a (theta_in value operations t) (cosine_in value operations t) (eigen_in value operations t) (dual_in value operations t)
  frame_of_formulas = record {
    thetas = thetas;
    spectrum = spectrum;
    values = thetas_are;
    frame = frame_is;
    first = λ i h. cosines_are i 0 h (omega arith);
    rows = λ i r h k. eigen_are i r h k ∙ ap (o.times (size_value o a r)) (sym (cosines_are i r h k));
    columns = λ i r h k. dual_are r i k h ∙ ap₂ o.times (sym (multiplicity_is i h)) (sym (cosines_are i r h k));
  }
