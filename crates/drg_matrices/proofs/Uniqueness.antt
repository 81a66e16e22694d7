-- An array has at most one frame over a root.
use Rattle.std.proofs.Common.{◌≡◌, ℕ, zero, suc, ◌<◌, ◌≤◌, List, [], ◌∷◌, true, refl, ap, ap₂, sym, ◌∙◌, subst, arith, ◌⊎◌, inl, inr}
use Rattle.std.specs.Prelude.{ℤ, All, Contains, nat_lt, if◌then◌else◌}
use Rattle.std.proofs.lemmas.Bool.Decides.{nat_tests}
use Rattle.std.proofs.lemmas.List.Elements.{All-head, All-tail}
use Rattle.drg_algebra.specs.Ring.{one, ◌⊕◌, ◌⊗◌, neg, from_one, ring2, ring3, ring4}
use Rattle.drg_algebra.specs.Tables.{total}
use Rattle.drg_algebra.proofs.Totals.{same_sum, scale_sum, delta_same}
use Rattle.drg_array.specs.Entries.{Entries, IsArray, diameter, c_at}
use Rattle.drg_array.proofs.EntryLemmas.{c-positive}
use Rattle.drg_array.proofs.SizeSigns.{count_above}
use Rattle.drg_array.specs.Numbers.{vertex_count}
use Rattle.drg_fraction.specs.Operations.{Operations}
use Rattle.drg_fraction.specs.Field.{IsExactField}
use Rattle.drg_quadratic.specs.declared.eigenvalue.Eigenvalue.{Eigenvalue}
use Rattle.drg_quadratic.proofs.EigenvalueFields.{values_descend}
use Rattle.drg_eigen.specs.Characteristic.{characteristic}
use Rattle.drg_matrix.specs.Frame.{neighbours}
use Rattle.drg_eigen.specs.Spectrum.{AreDescending, AreRoots}
use Rattle.drg_matrices.specs.Values.{difference, eigenvalue_in, theta_at, b_value, c_value, a_value, size_value, count_value}
use Rattle.drg_matrices.specs.Frame.{IsFrameOf, AreSame, OneFrame}
use Rattle.drg_matrices.proofs.Fields.{positive_apart, number_apart, cancel}
use Rattle.drg_matrices.proofs.Frames.{size_positive}
use Rattle.drg_matrices.proofs.Spectra.{is_value}

-- what is in a list is its first item or among the others
first_or_later : (y : Eigenvalue) (ys : List Eigenvalue) (x : Eigenvalue) → Contains (y ∷ ys) x → (y ≡ x) ⊎ Contains ys x
first_or_later y ys x (zero, h, e) = inl e
first_or_later y ys x (suc i, h, e) = inr (i, omega arith, e)

first_in : (y : Eigenvalue) (ys : List Eigenvalue) → Contains (y ∷ ys) y
first_in y ys = (0, omega arith, refl)

later_in : (y : Eigenvalue) (ys : List Eigenvalue) (x : Eigenvalue) → Contains ys x → Contains (y ∷ ys) x
later_in y ys x (i, h, e) = (suc i, omega arith, e)

module _ {V : Type 0} {o : Operations V} {root : ℕ} (laws : IsExactField o root) where
  abbrev OverRoot : List Eigenvalue → Type 0
  OverRoot xs = All (λ x. x.root ≡ root) xs

  -- the first of a descending list is above each other one
  above_all : (y : Eigenvalue) (ys : List Eigenvalue) → AreDescending (y ∷ ys) → OverRoot (y ∷ ys) → (x : Eigenvalue) → Contains ys x
      → o.IsPositive (difference o (eigenvalue_in o y) (eigenvalue_in o x))
  above_all y [] h over x at = let none_there = at.1 in absurd (omega (arith, none_there))
  above_all y (z ∷ zs) h over x at =
      let rest = All-tail (λ x. x.root ≡ root) y (z ∷ zs) over in
      let step = values_descend laws y z (eigenvalue_in o y) (eigenvalue_in o z) (All-head (λ x. x.root ≡ root) y (z ∷ zs) over) (All-head (λ x. x.root ≡ root) z zs rest) h.0 (is_value laws y) (is_value laws z) in
      elim (first_or_later z zs x at) [
        | inl e ↦ subst (λ (w : Eigenvalue). o.IsPositive (difference o (eigenvalue_in o y) (eigenvalue_in o w))) e step
        | inr later ↦ subst o.IsPositive
            (ring3 laws.ring (λ x y z. (x ⊕ neg y) ⊕ (y ⊕ neg z)) (λ x y z. x ⊕ neg z) refl (eigenvalue_in o y) (eigenvalue_in o z) (eigenvalue_in o x))
            (laws.positive_plus _ _ (between y z) (between z x) step (above_all z zs h.1 rest x later))
      ]
    where
      between : (x y : Eigenvalue) → o.IsOver (difference o (eigenvalue_in o x) (eigenvalue_in o y))
      between x y = laws.over_plus (eigenvalue_in o x) (o.minus (eigenvalue_in o y)) (is_value laws x).0 (laws.over_minus (eigenvalue_in o y) (is_value laws y).0)

  not_above_itself : (x : V) → ¬ (o.IsPositive (difference o x x))
  not_above_itself x h = positive_apart laws (difference o x x) h (laws.ring.plus_minus x)

  not_both_above : (x y : Eigenvalue) → o.IsPositive (difference o (eigenvalue_in o x) (eigenvalue_in o y)) → o.IsPositive (difference o (eigenvalue_in o y) (eigenvalue_in o x)) → ⊥
  not_both_above x y h k =
      not_above_itself (eigenvalue_in o x)
      (subst o.IsPositive (ring2 laws.ring (λ x y. (x ⊕ neg y) ⊕ (y ⊕ neg x)) (λ x y. x ⊕ neg x) refl (eigenvalue_in o x) (eigenvalue_in o y))
      (laws.positive_plus _ _ (between x y) (between y x) h k))
    where
      between : (x y : Eigenvalue) → o.IsOver (difference o (eigenvalue_in o x) (eigenvalue_in o y))
      between x y = laws.over_plus (eigenvalue_in o x) (o.minus (eigenvalue_in o y)) (is_value laws x).0 (laws.over_minus (eigenvalue_in o y) (is_value laws y).0)

  -- descending lists with the same members are one list
  one_list : (xs ys : List Eigenvalue) → AreDescending xs → AreDescending ys → OverRoot xs → OverRoot ys
      → ((x : Eigenvalue) → Contains xs x → Contains ys x) → ((x : Eigenvalue) → Contains ys x → Contains xs x) → xs ≡ ys
  one_list [] [] p q r s f g = refl
  one_list [] (y ∷ ys) p q r s f g = let none_there = (g y (first_in y ys)).1 in absurd (omega (arith, none_there))
  one_list (x ∷ xs) [] p q r s f g = let none_there = (f x (first_in x xs)).1 in absurd (omega (arith, none_there))
  one_list (x ∷ xs) (y ∷ ys) p q r s f g =
      ap₂ (λ (z : Eigenvalue) (zs : List Eigenvalue). z ∷ zs) same
      (one_list xs ys (descending x xs p) (descending y ys q) (All-tail (λ x. x.root ≡ root) x xs r) (All-tail (λ x. x.root ≡ root) y ys s) there back)
    where
      descending : (x : Eigenvalue) (xs : List Eigenvalue) → AreDescending (x ∷ xs) → AreDescending xs
      descending x [] h = tt
      descending x (y ∷ ys) h = h.1

      same : x ≡ y
      same =
          elim (first_or_later y ys x (f x (first_in x xs))) [
            | inl e ↦ sym e
            | inr below ↦ elim (first_or_later x xs y (g y (first_in y ys))) [
              | inl e ↦ e
              | inr above ↦ absurd (not_both_above x y (above_all x xs p r y above) (above_all y ys q s x below))
            ]
          ]

      there : (w : Eigenvalue) → Contains xs w → Contains ys w
      there w at =
          elim (first_or_later y ys w (f w (later_in x xs w at))) [
            | inl e ↦ absurd (not_above_itself (eigenvalue_in o w) (subst (λ (v : Eigenvalue). o.IsPositive (difference o (eigenvalue_in o v) (eigenvalue_in o w))) (same ∙ e) (above_all x xs p r w at)))
            | inr later ↦ later
          ]

      back : (w : Eigenvalue) → Contains ys w → Contains xs w
      back w at =
          elim (first_or_later x xs w (g w (later_in y ys w at))) [
            | inl e ↦ absurd (not_above_itself (eigenvalue_in o w) (subst (λ (v : Eigenvalue). o.IsPositive (difference o (eigenvalue_in o v) (eigenvalue_in o w))) (sym same ∙ e) (above_all y ys q s w at)))
            | inr later ↦ later
          ]

  one_spectrum : (f : List ℤ) (xs ys : List Eigenvalue) → AreRoots f root xs → AreRoots f root ys → xs ≡ ys
  one_spectrum f xs ys h k =
      one_list xs ys h.descending k.descending h.over_root k.over_root
      (λ x at. let over = over_of xs x h.over_root at in (k.all x over).0 ((h.all x over).1 at))
      (λ x at. let over = over_of ys x k.over_root at in (h.all x over).0 ((k.all x over).1 at))
    where
      over_of : (xs : List Eigenvalue) (x : Eigenvalue) → OverRoot xs → Contains xs x → x.root ≡ root
      over_of xs x over (i, h, e) = subst (λ (y : Eigenvalue). y.root ≡ root) e (over i x h)

  module _ (a : Entries) (array : IsArray a) where
    abbrev d : ℕ
    d = diameter a

    -- what two rows with one eigenvalue come to
    last_terms : (x c p s : V) → o.plus x (o.times c p) ≡ o.plus x (o.times c s) → o.times c p ≡ o.times c s
    last_terms x c p s e = from_one laws.ring _ _ o.unit _ _ e (ring4 laws.ring (λ x c p s. c ⊗ p ⊕ one ⊗ (x ⊕ c ⊗ s)) (λ x c p s. c ⊗ s ⊕ one ⊗ (x ⊕ c ⊗ p)) refl x c p s)

    inside_term : (p : ℕ → V) (j : ℕ) → j < d → (if nat_lt j d then o.times (c_value o a (suc j)) (p (suc j)) else o.nil) ≡ o.times (c_value o a (suc j)) (p (suc j))
    inside_term p j h = let less : nat_lt j d ≡ true = grind (arith, nat_tests) in rw less refl

    one_row : (x : V) (p s : ℕ → V) → p 0 ≡ s 0 → p 1 ≡ s 1
        → ((j : ℕ) → j ≤ d → o.times x (p j) ≡ neighbours o a p j) → ((j : ℕ) → j ≤ d → o.times x (s j) ≡ neighbours o a s j)
        → (j : ℕ) → suc j ≤ d → (p j ≡ s j) × (p (suc j) ≡ s (suc j))
    one_row x p s e f h k zero l = (e, f)
    one_row x p s e f h k (suc j) l =
        let earlier = one_row x p s e f h k j (omega arith) in
        let terms = λ (q : ℕ → V). o.plus (o.times (b_value o a j) (q j)) (o.times (a_value o a (suc j)) (q (suc j))) in
        let same : terms p ≡ terms s = ap₂ (λ (u v : V). o.plus (o.times (b_value o a j) u) (o.times (a_value o a (suc j)) v)) earlier.0 earlier.1 in
        let c = c_value o a (suc (suc j)) in
        let full : o.plus (terms s) (o.times c (p (suc (suc j)))) ≡ o.plus (terms s) (o.times c (s (suc (suc j)))) =
        ap (λ z. o.plus z (o.times c (p (suc (suc j))))) (sym same)
        ∙ ap (o.plus (terms p)) (sym (inside_term p (suc j) (omega arith)))
        ∙ sym (h (suc j) (omega arith)) ∙ ap (o.times x) earlier.1 ∙ k (suc j) (omega arith)
        ∙ ap (o.plus (terms s)) (inside_term s (suc j) (omega arith)) in
        (earlier.1, cancel laws c (p (suc (suc j))) (s (suc (suc j))) (laws.over_rational _) (number_apart laws (c_at a (suc (suc j))) (c-positive a (suc j) array l)) (last_terms (terms s) c (p (suc (suc j))) (s (suc (suc j))) full))

    module _ (theta eta : ℕ → V) (u p q t s w : ℕ → ℕ → V) (f : IsFrameOf o root a theta u p q) (g : IsFrameOf o root a eta t s w) where
      same_theta : (i : ℕ) → i ≤ d → theta i ≡ eta i
      same_theta i h = f.values i h ∙ ap (λ xs. theta_at o xs i) (one_spectrum (characteristic a) f.thetas g.thetas f.spectrum.roots g.spectrum.roots) ∙ sym (g.values i h)

      same_first : (i : ℕ) → i ≤ d → p i 0 ≡ s i 0
      same_first i h = f.frame.ones i h ∙ sym (g.frame.ones i h)

      same_second : (i : ℕ) → i ≤ d → p i 1 ≡ s i 1
      same_second i h = f.frame.eigenvalues i h ∙ same_theta i h ∙ sym (g.frame.eigenvalues i h)

      same_eigen : (i r : ℕ) → i ≤ d → r ≤ d → p i r ≡ s i r
      same_eigen i zero h k = same_first i h
      same_eigen i (suc r) h k =
          (one_row (theta i) (p i) (s i) (same_first i h) (same_second i h) (λ j l. f.frame.recurrence i j h l)
          (λ j l. ap (λ x. o.times x (s i j)) (same_theta i h) ∙ g.frame.recurrence i j h l) r k).1

      same_cosine : (i r : ℕ) → i ≤ d → r ≤ d → u i r ≡ t i r
      same_cosine i r h k = cancel laws (size_value o a r) (u i r) (t i r) (laws.over_rational _) (positive_apart laws _ (size_positive laws a array r k)) (sym (f.rows i r h k) ∙ same_eigen i r h k ∙ g.rows i r h k)

    -- the multiplicity times the sum of k_r u_r² is n
    squares : (ℕ → V) → V
    squares u = total o.nil o.plus (suc d) (λ l. o.times (o.times (size_value o a l) (u l)) (u l))

    diagonal : (theta : ℕ → V) (u p q : ℕ → ℕ → V) → IsFrameOf o root a theta u p q → (i : ℕ) → i ≤ d → o.times (squares (u i)) (q 0 i) ≡ count_value o a
    unfolding squares
    diagonal theta u p q f i h =
        laws.ring.times_comm (squares (u i)) (q 0 i)
        ∙ scale_sum laws.ring (suc d) (q 0 i) (λ l. o.times (o.times (size_value o a l) (u i l)) (u i l))
        ∙ same_sum laws.ring (suc d) (λ l. o.times (q 0 i) (o.times (o.times (size_value o a l) (u i l)) (u i l))) (λ l. o.times (p i l) (q l i)) (λ l k.
        ring3 laws.ring (λ m p u. m ⊗ (p ⊗ u)) (λ m p u. p ⊗ (m ⊗ u)) refl (q 0 i) (o.times (size_value o a l) (u i l)) (u i l)
        ∙ ap₂ o.times (sym (f.rows i l h (omega arith))) (sym (f.columns i l h (omega arith))))
        ∙ f.frame.product i i (omega arith) (omega arith) ∙ delta_same o.nil (count_value o a) i

    count_apart : ¬ (count_value o a ≡ o.nil)
    count_apart = positive_apart laws (count_value o a) (laws.rational_positive (vertex_count a) (count_above a array))

    module _ (theta eta : ℕ → V) (u p q t s w : ℕ → ℕ → V) (f : IsFrameOf o root a theta u p q) (g : IsFrameOf o root a eta t s w) where
      same_squares : (i : ℕ) → i ≤ d → squares (u i) ≡ squares (t i)
      unfolding squares
      same_squares i h = same_sum laws.ring (suc d) _ _ (λ l k. ap (λ x. o.times (o.times (size_value o a l) x) x) (same_cosine theta eta u p q t s w f g i l h (omega arith)))

      -- n m = S m' m = S m m' = n m', where S is the sum of k_r u_r²
      same_multiplicity : (i : ℕ) → i ≤ d → q 0 i ≡ w 0 i
      same_multiplicity i h =
          cancel laws (count_value o a) (q 0 i) (w 0 i) (laws.over_rational _) count_apart
          (ap (λ z. o.times z (q 0 i)) (sym (diagonal eta t s w g i h) ∙ ap (λ z. o.times z (w 0 i)) (sym (same_squares i h)))
          ∙ ring3 laws.ring (λ z m n. (z ⊗ n) ⊗ m) (λ z m n. (z ⊗ m) ⊗ n) refl (squares (u i)) (q 0 i) (w 0 i)
          ∙ ap (λ z. o.times z (w 0 i)) (diagonal theta u p q f i h))

      same : AreSame d theta eta u p q t s w
      same = record {
        thetas = same_theta theta eta u p q t s w f g;
        cosines = same_cosine theta eta u p q t s w f g;
        eigen = same_eigen theta eta u p q t s w f g;
        dual = λ r i k h. f.columns i r h k ∙ ap₂ o.times (same_multiplicity i h) (same_cosine theta eta u p q t s w f g i r h k) ∙ sym (g.columns i r h k);
      }

  pub one_frame : OneFrame o root
  one_frame a theta eta u p q t s w array f g = same a array theta eta u p q t s w f g
