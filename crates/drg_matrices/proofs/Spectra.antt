-- The eigenvalues of a spectrum as values: they belong to the root, descend, and are roots of the characteristic polynomial.
use Rattle.std.proofs.Common.{◌≡◌, ℕ, zero, suc, ◌<◌, ◌≤◌, pos, List, [], ◌∷◌, length, refl, ap, ap₂, sym, ◌∙◌, subst, arith}
use Rattle.std.specs.Prelude.{ℤ, neg_ℤ, All, Contains}
use Rattle.std.proofs.lemmas.List.Elements.{All-head, All-tail}
use Rattle.drg_algebra.specs.Ring.{CommutativeRing, none, one, ◌⊕◌, ◌⊗◌, neg, from_one, ring2, ring5}
use Rattle.drg_algebra.specs.Integer.{whole_numbers}
use Rattle.drg_algebra.specs.Maps.{IsMap}
use Rattle.drg_algebra.specs.Pairs.{root_values}
use Rattle.drg_algebra.specs.Rational.{ℚ, whole}
use Rattle.drg_algebra.specs.Rational as Rational
use Rattle.drg_algebra.specs.RingLaws.{embedded}
use Rattle.drg_algebra.proofs.RootValues.{product_of_values}
use Rattle.drg_array.specs.Entries.{Entries, diameter, a_at, b_at}
use Rattle.drg_fraction.specs.Operations.{Operations}
use Rattle.drg_fraction.specs.Field.{IsExactField}
use Rattle.drg_quadratic.specs.Values.{Value}
use Rattle.drg_quadratic.specs.declared.eigenvalue.Eigenvalue.{Eigenvalue}
use Rattle.drg_quadratic.specs.Eigenvalue.{eigenvalue_of}
use Rattle.drg_quadratic.specs.EigenvalueFields.{IsValueOf}
use Rattle.drg_quadratic.proofs.Embedded.{embed, embed_plus}
use Rattle.drg_quadratic.proofs.EigenvalueValues.{twice_eigenvalue}
use Rattle.drg_quadratic.proofs.EigenvalueFields.{values_descend}
use Rattle.drg_eigen.specs.Polynomial.{add, scale, times_linear, eval}
use Rattle.drg_eigen.specs.Characteristic.{polynomial, weight_at, characteristic}
use Rattle.drg_eigen.specs.Spectrum.{AreDescending, IsRootOf, AreRoots, IsSpectrum}
use Rattle.drg_matrices.specs.Values.{difference, eigenvalue_in, theta_at}
use Rattle.drg_matrices.proofs.Fields.{ring_of}
use Rattle.drg_matrices.proofs.Recurrences.{of_whole}

-- the value of a polynomial is carried along by a map of rings
eval_map : (r q p : CommutativeRing) (m : r.Of → q.Of) (g : q.Of → p.Of) → IsMap q p g → (z : q.Of) (f : List r.Of)
    → eval r p (λ x. g (m x)) (g z) f ≡ g (eval r q m z f)
eval_map r q p m g h z [] = sym h.nil
eval_map r q p m g h z (x ∷ f) =
    ap (λ y. p.plus (g (m x)) (p.times (g z) y)) (eval_map r q p m g h z f)
    ∙ ap (p.plus (g (m x))) (sym (h.times z (eval r q m z f))) ∙ sym (h.plus (m x) (q.times z (eval r q m z f)))

module _ {V : Type 0} {o : Operations V} {root : ℕ} (laws : IsExactField o root) where
  embed_nil : embed laws (root_values root).nil ≡ o.nil
  embed_nil = ap (λ z. o.plus z (o.times z o.square_root)) laws.rational_nil ∙ ring2 laws.ring (λ w x. none ⊕ none ⊗ w) (λ w x. none) refl o.square_root o.square_root

  embed_times : (x y : Value) → embed laws ((root_values root).times x y) ≡ o.times (embed laws x) (embed laws y)
  embed_times x y =
      ap (embed laws) (product_of_values root x y)
      ∙ ap₂ (λ (u v : V). o.plus u (o.times v o.square_root))
      (laws.rational_plus (Rational.times x.a y.a) (Rational.times (whole (pos root)) (Rational.times x.b y.b))
      ∙ ap₂ o.plus (laws.rational_times x.a y.a)
      (laws.rational_times (whole (pos root)) (Rational.times x.b y.b) ∙ ap₂ o.times (sym laws.square) (laws.rational_times x.b y.b)))
      (laws.rational_plus (Rational.times x.a y.b) (Rational.times x.b y.a) ∙ ap₂ o.plus (laws.rational_times x.a y.b) (laws.rational_times x.b y.a))
      ∙ ring5 laws.ring
      (λ a b c e w. (a ⊗ c ⊕ (w ⊗ w) ⊗ (b ⊗ e)) ⊕ (a ⊗ e ⊕ b ⊗ c) ⊗ w)
      (λ a b c e w. (a ⊕ b ⊗ w) ⊗ (c ⊕ e ⊗ w))
      refl (o.rational x.a) (o.rational x.b) (o.rational y.a) (o.rational y.b) o.square_root

  embed_minus : (x : Value) → embed laws ((root_values root).minus x) ≡ o.minus (embed laws x)
  embed_minus x =
      let nothing : o.plus (embed laws x) (embed laws ((root_values root).minus x)) ≡ o.nil =
      sym (embed_plus laws x ((root_values root).minus x)) ∙ ap (embed laws) ((root_values root).laws.plus_minus x) ∙ embed_nil in
      from_one laws.ring _ _ o.unit _ _ nothing (ring2 laws.ring (λ x y. y ⊕ one ⊗ none) (λ x y. neg x ⊕ one ⊗ (x ⊕ y)) refl (embed laws x) (embed laws ((root_values root).minus x)))

  of_embedded : (n : ℤ) → embed laws (embedded n) ≡ of_whole laws n
  of_embedded n =
      ap (λ z. o.plus (of_whole laws n) (o.times z o.square_root)) laws.rational_nil
      ∙ ring2 laws.ring (λ x w. x ⊕ none ⊗ w) (λ x w. x) refl (of_whole laws n) o.square_root

  embed_map : IsMap (root_values root) (ring_of laws) (embed laws)
  embed_map = record {
    nil = embed_nil;
    unit = of_embedded (pos 1) ∙ laws.rational_unit;
    plus = embed_plus laws;
    times = embed_times;
    minus = embed_minus;
  }

  -- a root of a polynomial is one as a value
  root_in : (f : List ℤ) (x : Eigenvalue) → x.root ≡ root → IsRootOf f x → eval whole_numbers (ring_of laws) (of_whole laws) (eigenvalue_in o x) f ≡ o.nil
  root_in f x e h =
      let zero_value : eval whole_numbers (root_values root) embedded (eigenvalue_of x) f ≡ (root_values root).nil =
      subst (λ (n : ℕ). eval whole_numbers (root_values n) embedded (eigenvalue_of x) f ≡ (root_values n).nil) e h in
      ap (λ m. eval whole_numbers (ring_of laws) m (eigenvalue_in o x) f) (λ i n. sym (of_embedded n) i)
      ∙ eval_map whole_numbers (root_values root) (ring_of laws) embedded (embed laws) embed_map (eigenvalue_of x) f
      ∙ ap (embed laws) zero_value ∙ embed_nil

  value_over : (x : Eigenvalue) → o.IsOver (eigenvalue_in o x)
  value_over x = laws.over_plus _ _ (laws.over_rational _) (laws.over_times _ o.square_root (laws.over_rational _) laws.over_root)

  pub is_value : (x : Eigenvalue) → IsValueOf o x (eigenvalue_in o x)
  is_value x = (value_over x, sym (embed_plus laws (eigenvalue_of x) (eigenvalue_of x)) ∙ ap (embed laws) (twice_eigenvalue x))

  -- the eigenvalue at a place
  picked : (xs : List Eigenvalue) (i : ℕ) → i < length xs → (x : Eigenvalue) × Contains xs x × (theta_at o xs i ≡ eigenvalue_in o x)
  picked [] i h = absurd (omega arith)
  picked (x ∷ xs) zero h = (x, (0, omega arith, refl), refl)
  picked (x ∷ xs) (suc i) h =
      let later = picked xs i (omega arith) in
      let place = later.1.1 in
      (later.0, (suc later.1.0, omega (arith, place), later.1.2), later.2)

  pub theta_over : (xs : List Eigenvalue) (i : ℕ) → i < length xs → o.IsOver (theta_at o xs i)
  theta_over xs i h = let x = picked xs i h in subst o.IsOver (sym x.2) (value_over x.0)

  pub theta_descends : (xs : List Eigenvalue) → AreDescending xs → All (λ x. x.root ≡ root) xs → (i : ℕ) → suc i < length xs
      → o.IsPositive (difference o (theta_at o xs i) (theta_at o xs (suc i)))
  theta_descends [] h over i l = absurd (omega arith)
  theta_descends (x ∷ []) h over i l = absurd (omega arith)
  theta_descends (x ∷ y ∷ xs) h over zero l =
      values_descend laws x y (eigenvalue_in o x) (eigenvalue_in o y) (All-head (λ x. x.root ≡ root) x (y ∷ xs) over)
      (All-head (λ x. x.root ≡ root) y xs (All-tail (λ x. x.root ≡ root) x (y ∷ xs) over)) h.0 (is_value x) (is_value y)
  theta_descends (x ∷ y ∷ xs) h over (suc i) l = theta_descends (y ∷ xs) h.1 (All-tail (λ x. x.root ≡ root) x (y ∷ xs) over) i (omega arith)

  pub theta_root : (f : List ℤ) (xs : List Eigenvalue) → AreRoots f root xs → (i : ℕ) → i < length xs
      → eval whole_numbers (ring_of laws) (of_whole laws) (theta_at o xs i) f ≡ o.nil
  theta_root f xs roots i h =
      let x = picked xs i h in
      let place = x.1 in
      let over : x.0.root ≡ root = subst (λ (y : Eigenvalue). y.root ≡ root) place.2 (roots.over_root place.0 x.0 place.1) in
      ap (λ z. eval whole_numbers (ring_of laws) (of_whole laws) z f) x.2 ∙ root_in f x.0 over ((roots.all x.0 over).1 place)

-- ---- how many there are
length_scale : (c : ℤ) (f : List ℤ) → length (scale whole_numbers c f) ≡ length f
length_scale c [] = refl
length_scale c (x ∷ f) = ap suc (length_scale c f)

length_add : (f g : List ℤ) → length g ≤ length f → length (add whole_numbers f g) ≡ length f
length_add [] [] h = refl
length_add [] (y ∷ g) h = absurd (omega arith)
length_add (x ∷ f) [] h = refl
length_add (x ∷ f) (y ∷ g) h = ap suc (length_add f g (omega arith))

lengths : (f g : List ℤ) (u w : ℤ) (j : ℕ) → length f ≡ suc (suc j) → length g ≡ suc j
    → length (add whole_numbers (times_linear whole_numbers u f) (scale whole_numbers (neg_ℤ w) g)) ≡ suc (suc (suc j))
lengths f g u w j lf lg =
    let sf = length_scale (neg_ℤ u) f in
    let sg = length_scale (neg_ℤ w) g in
    let lin = length_add (pos 0 ∷ f) (scale whole_numbers (neg_ℤ u) f) (omega (arith, sf)) in
    let all = length_add (times_linear whole_numbers u f) (scale whole_numbers (neg_ℤ w) g) (omega (arith, sg, lin, lf, lg)) in
    omega (arith, all, lin, lf)

length_polynomial : (a : Entries) (j : ℕ) → length (polynomial a j) ≡ suc j
length_polynomial a zero = refl
length_polynomial a (suc zero) = refl
length_polynomial a (suc (suc j)) =
    lengths (polynomial a (suc j)) (polynomial a j) (a_at a (suc j)) (weight_at a (suc j)) j (length_polynomial a (suc j)) (length_polynomial a j)

-- a spectrum of the array has d+1 eigenvalues
pub spectrum_length : (a : Entries) (root : ℕ) (thetas : List Eigenvalue) → IsSpectrum (b_at a 0) (characteristic a) root thetas → length thetas ≡ suc (diameter a)
spectrum_length a root thetas h = let count = h.roots.count in let all = length_polynomial a (suc (diameter a)) in omega (arith, count, all)
