-- Where the value of a factor at an eigenvalue is 0, and that of a product of factors.
use Rattle.std.proofs.Common.{◌≡◌, ℕ, refl, ap, ap₂, sym, ◌∙◌, subst, arith, ℤ, pos, List, [], ◌∷◌, ◌⊎◌, inl, inr}
use Rattle.std.specs.Prelude.{◌+ℤ◌, ◌*ℤ◌, neg_ℤ}
use Rattle.std.proofs.lemmas.Int.{ints}
use Rattle.drg_algebra.specs.Ring.{sub, none, one, ◌⊕◌, ◌⊗◌, neg, ring2, ring3}
use Rattle.drg_algebra.specs.Integer.{integers, whole_numbers}
use Rattle.drg_algebra.specs.Rational.{whole}
use Rattle.drg_algebra.specs.Rational as Rational
use Rattle.drg_algebra.specs.Pairs.{pair_path, root_values}
use Rattle.drg_algebra.specs.RingLaws.{embedded}
use Rattle.drg_algebra.proofs.Maps.{whole_map, embedded_map}
use Rattle.drg_algebra.proofs.RootValues.{product_of_values}
use Rattle.drg_algebra.proofs.WholeParts.{same_whole}
use Rattle.drg_quadratic.specs.Values.{IsRoot, IsOver, Value, times, invert}
use Rattle.drg_quadratic.specs.Laws.{value_laws}
use Rattle.drg_quadratic.specs.Eigenvalue.{eigenvalue_of}
use Rattle.drg_quadratic.specs.declared.eigenvalue.Eigenvalue.{Eigenvalue}
use Rattle.drg_quadratic.proofs.Embedded.{one_half}
use Rattle.drg_quadratic.proofs.EigenvalueValues.{twice_eigenvalue, value_over}
use Rattle.drg_eigen.specs.Polynomial.{eval}
use Rattle.drg_eigen.specs.Factor.{Factor, linear, quadratic, discriminant, times_factor, product, IsIrreducible}
use Rattle.drg_eigen.proofs.PolynomialValues.{eval_linear, eval_quadratic}
use Rattle.drg_eigen.proofs.Irreducible.{whole_domain}

-- ---- whole numbers
twice_whole : (d f : ℤ) → d *ℤ f +ℤ f *ℤ d ≡ pos 0 → (d ≡ pos 0) ⊎ (f ≡ pos 0)
twice_whole d f e = whole_domain d f (half (d *ℤ f) (f *ℤ d) (integers.times_comm f d) e)
  where
    half : (x y : ℤ) → y ≡ x → x +ℤ y ≡ pos 0 → x ≡ pos 0
    half x y p q = omega (arith, ints, p, q)

-- D² + root F² is a discriminant that is no square, and D F = 0: so D = 0
no_first_part : (root : ℕ) (s t d f : ℤ) → IsIrreducible (quadratic s t) → d *ℤ d +ℤ pos root *ℤ (f *ℤ f) ≡ discriminant s t → d *ℤ f +ℤ f *ℤ d ≡ pos 0
    → d ≡ pos 0
no_first_part root s t d f free e nothing = go (twice_whole d f nothing)
  where
    go : (d ≡ pos 0) ⊎ (f ≡ pos 0) → d ≡ pos 0
    go (inl h) = h
    go (inr h) = absurd (free d
        (ring2 integers (λ d k. d ⊗ d) (λ d k. d ⊗ d ⊕ k ⊗ (none ⊗ none)) refl d (pos root)
        ∙ ap (λ (z : ℤ). d *ℤ d +ℤ pos root *ℤ (z *ℤ z)) (sym h) ∙ e))

module _ (root : ℕ) where
  abbrev to_value : List ℤ → Value → Value
  to_value f z = eval whole_numbers (root_values root) embedded z f

  -- z - r, and z² - s z + t
  abbrev pub factor_at : Factor → Value → Value
  factor_at (linear r) z = sub (root_values root) z (embedded r)
  factor_at (quadratic s t) z = (root_values root).plus (sub (root_values root) ((root_values root).times z z) ((root_values root).times (embedded s) z)) (embedded t)

  at_factor : (c : Factor) (f : List ℤ) (z : Value) → to_value (times_factor c f) z ≡ (root_values root).times (factor_at c z) (to_value f z)
  at_factor (linear r) f z = eval_linear whole_numbers (root_values root) embedded (embedded_map root) z r f
  at_factor (quadratic s t) f z = eval_quadratic whole_numbers (root_values root) embedded (embedded_map root) z s t f

  -- one of the factors is 0 at z
  abbrev pub IsNilAtOne : List Factor → Value → Type 0
  IsNilAtOne [] z = ⊥
  IsNilAtOne (c ∷ cs) z = (factor_at c z ≡ (root_values root).nil) ⊎ IsNilAtOne cs z

  nil_times : (x y : Value) → x ≡ (root_values root).nil → (root_values root).times x y ≡ (root_values root).nil
  nil_times x y e = ap (λ (v : Value). (root_values root).times v y) e ∙ ring2 (root_values root).laws (λ y z. none ⊗ y) (λ y z. none) refl y y

  times_nil : (x y : Value) → y ≡ (root_values root).nil → (root_values root).times x y ≡ (root_values root).nil
  times_nil x y e = (root_values root).laws.times_comm x y ∙ nil_times y x e

  pub one_to_product : (cs : List Factor) (z : Value) → IsNilAtOne cs z → to_value (product cs (pos 1 ∷ [])) z ≡ (root_values root).nil
  one_to_product [] z h = absurd h
  one_to_product (c ∷ cs) z (inl e) = at_factor c (product cs (pos 1 ∷ [])) z ∙ nil_times (factor_at c z) (to_value (product cs (pos 1 ∷ [])) z) e
  one_to_product (c ∷ cs) z (inr h) =
      at_factor c (product cs (pos 1 ∷ [])) z ∙ times_nil (factor_at c z) (to_value (product cs (pos 1 ∷ [])) z) (one_to_product cs z h)

  module _ (h : IsRoot root) where
    factor_over : (c : Factor) (z : Value) → IsOver root z → IsOver root (factor_at c z)
    factor_over (linear r) z o =
        let laws = value_laws root h in
        laws.over_plus z ((root_values root).minus (embedded r)) o (laws.over_minus (embedded r) (laws.over_rational (whole r)))
    factor_over (quadratic s t) z o =
        let laws = value_laws root h in
        let first = laws.over_times z z o o in
        let second = laws.over_times (embedded s) z (laws.over_rational (whole s)) o in
        laws.over_plus (sub (root_values root) ((root_values root).times z z) ((root_values root).times (embedded s) z)) (embedded t)
        (laws.over_plus (times root z z) ((root_values root).minus ((root_values root).times (embedded s) z)) first (laws.over_minus (times root (embedded s) z) second))
        (laws.over_rational (whole t))

    domain : (x y : Value) → IsOver root x → (root_values root).times x y ≡ (root_values root).nil → (x ≡ (root_values root).nil) ⊎ (y ≡ (root_values root).nil)
    domain x y o e = go ((value_laws root h).told x)
      where
        go : (x ≡ (root_values root).nil) ⊎ (¬ (x ≡ (root_values root).nil)) → (x ≡ (root_values root).nil) ⊎ (y ≡ (root_values root).nil)
        go (inl k) = inl k
        go (inr n) = inr
            (ring2 (root_values root).laws (λ y z. y) (λ y z. one ⊗ y) refl y y
            ∙ ap (λ (v : Value). (root_values root).times v y) (sym ((value_laws root h).inverse x o n))
            ∙ ring3 (root_values root).laws (λ x i y. (x ⊗ i) ⊗ y) (λ x i y. i ⊗ (x ⊗ y)) refl x (invert root x) y
            ∙ times_nil (invert root x) _ e)

    one_apart : (z : Value) → ¬ (to_value (pos 1 ∷ []) z ≡ (root_values root).nil)
    one_apart z e = (value_laws root h).apart
        (ring2 (root_values root).laws (λ u z. u) (λ u z. u ⊕ z ⊗ none) refl (root_values root).unit z
        ∙ ap (λ (u : Value). (root_values root).plus u ((root_values root).times z (root_values root).nil)) (sym (embedded_map root).unit) ∙ e)

    pub product_to_one : (cs : List Factor) (z : Value) → IsOver root z → to_value (product cs (pos 1 ∷ [])) z ≡ (root_values root).nil → IsNilAtOne cs z
    product_to_one [] z o e = absurd (one_apart z e)
    product_to_one (c ∷ cs) z o e =
        go (domain (factor_at c z) (to_value (product cs (pos 1 ∷ [])) z) (factor_over c z o) (sym (at_factor c (product cs (pos 1 ∷ [])) z) ∙ e)) (product_to_one cs z o)
      where
        go : (factor_at c z ≡ (root_values root).nil) ⊎ (to_value (product cs (pos 1 ∷ [])) z ≡ (root_values root).nil)
            → (to_value (product cs (pos 1 ∷ [])) z ≡ (root_values root).nil → IsNilAtOne cs z) → IsNilAtOne (c ∷ cs) z
        go (inl k) later = inl k
        go (inr k) later = inr (later k)

    -- ---- at an eigenvalue x = (S + F √root) / 2
    module _ (x : Eigenvalue) where
      abbrev z : Value
      z = eigenvalue_of x

      doubled : (r : ℤ) → (root_values root).plus (embedded r) (embedded r) ≡ embedded (r +ℤ r)
      doubled r = sym ((embedded_map root).plus r r)

      -- it is r where S = 2 r and F = 0
      pub nil_to_whole : (r : ℤ) → factor_at (linear r) z ≡ (root_values root).nil → (x.s ≡ r +ℤ r) × (x.f ≡ pos 0)
      nil_to_whole r e =
          let same : z ≡ embedded r =
          ring2 (root_values root).laws (λ z r. z) (λ z r. (z ⊕ neg r) ⊕ r) refl z (embedded r)
          ∙ ap (λ (v : Value). (root_values root).plus v (embedded r)) e
          ∙ ring2 (root_values root).laws (λ r x. none ⊕ r) (λ r x. r) refl (embedded r) (embedded r) in
          let twice = sym (twice_eigenvalue x) ∙ ap₂ (root_values root).plus same same ∙ doubled r in
          (same_whole x.s (r +ℤ r) (ap (λ (v : Value). v.a) twice), same_whole x.f (pos 0) (ap (λ (v : Value). v.b) twice))

      pub whole_to_nil : (r : ℤ) → x.s ≡ r +ℤ r → x.f ≡ pos 0 → factor_at (linear r) z ≡ (root_values root).nil
      whole_to_nil r p q =
          let twice : (root_values root).plus z z ≡ (root_values root).plus (embedded r) (embedded r) =
          twice_eigenvalue x ∙ pair_path _ _ (ap whole p) (ap whole q) ∙ sym (doubled r) in
          ap (λ (v : Value). sub (root_values root) v (embedded r)) (one_half (value_laws root h) z (embedded r) twice)
          ∙ (root_values root).laws.plus_minus (embedded r)

      module _ (s t : ℤ) where
        -- D = S - s
        abbrev part : ℤ
        part = x.s +ℤ neg_ℤ s

        less : (root_values root).plus (record { a = whole x.s; b = whole x.f }) ((root_values root).minus (embedded s)) ≡ record { a = whole part; b = whole x.f }
        less = pair_path _ _
            (ap (Rational.plus (whole x.s)) (sym (whole_map.minus s)) ∙ sym (whole_map.plus x.s (neg_ℤ s)))
            (ring2 Rational.rationals (λ f x. f ⊕ neg none) (λ f x. f) refl (whole x.f) (whole x.f))

        square : (root_values root).times (record { a = whole part; b = whole x.f }) (record { a = whole part; b = whole x.f })
            ≡ record { a = whole (part *ℤ part +ℤ pos root *ℤ (x.f *ℤ x.f)); b = whole (part *ℤ x.f +ℤ x.f *ℤ part) }
        square =
            product_of_values root (record { a = whole part; b = whole x.f }) (record { a = whole part; b = whole x.f })
            ∙ pair_path _ _
            (ap₂ Rational.plus (sym (whole_map.times part part)) (ap (Rational.times (whole (pos root))) (sym (whole_map.times x.f x.f)) ∙ sym (whole_map.times (pos root) (x.f *ℤ x.f)))
            ∙ sym (whole_map.plus (part *ℤ part) (pos root *ℤ (x.f *ℤ x.f))))
            (ap₂ Rational.plus (sym (whole_map.times part x.f)) (sym (whole_map.times x.f part)) ∙ sym (whole_map.plus (part *ℤ x.f) (x.f *ℤ part)))

        -- 4 (z² - s z + t) = (2 z - s)² - (s² - 4 t)
        abbrev four : Value → Value
        four v = (root_values root).plus ((root_values root).plus v v) ((root_values root).plus v v)

        abbrev rest : Value
        rest = sub (root_values root) ((root_values root).times (embedded s) (embedded s)) (four (embedded t))

        rest_is : rest ≡ embedded (discriminant s t)
        rest_is =
            ap₂ (root_values root).plus (sym ((embedded_map root).times s s))
            (ap (root_values root).minus (ap₂ (root_values root).plus (doubled t) (doubled t) ∙ sym ((embedded_map root).plus (t +ℤ t) (t +ℤ t))) ∙ sym ((embedded_map root).minus ((t +ℤ t) +ℤ (t +ℤ t))))
            ∙ sym ((embedded_map root).plus (s *ℤ s) (neg_ℤ ((t +ℤ t) +ℤ (t +ℤ t))))
            ∙ ap embedded (same_number (s *ℤ s))
          where
            same_number : (y : ℤ) → y +ℤ neg_ℤ ((t +ℤ t) +ℤ (t +ℤ t)) ≡ y +ℤ neg_ℤ (pos 4 *ℤ t)
            same_number y = omega (arith, ints)

        four_times : four (factor_at (quadratic s t) z)
            ≡ record { a = Rational.plus (whole (part *ℤ part +ℤ pos root *ℤ (x.f *ℤ x.f))) (Rational.minus (whole (discriminant s t))); b = Rational.plus (whole (part *ℤ x.f +ℤ x.f *ℤ part)) (Rational.minus (whole (pos 0))) }
        four_times =
            ring3 (root_values root).laws
            (λ z s t. (((z ⊗ z ⊕ neg (s ⊗ z)) ⊕ t) ⊕ ((z ⊗ z ⊕ neg (s ⊗ z)) ⊕ t)) ⊕ (((z ⊗ z ⊕ neg (s ⊗ z)) ⊕ t) ⊕ ((z ⊗ z ⊕ neg (s ⊗ z)) ⊕ t)))
            (λ z s t. ((z ⊕ z) ⊕ neg s) ⊗ ((z ⊕ z) ⊕ neg s) ⊕ neg (s ⊗ s ⊕ neg ((t ⊕ t) ⊕ (t ⊕ t)))) refl z (embedded s) (embedded t)
            ∙ ap₂ (λ (v w : Value). sub (root_values root) ((root_values root).times v v) w)
            (ap (λ (v : Value). sub (root_values root) v (embedded s)) (twice_eigenvalue x) ∙ less) rest_is
            ∙ ap (λ (v : Value). sub (root_values root) v (embedded (discriminant s t))) square

        same_numbers : (m n : ℤ) → Rational.plus (whole m) (Rational.minus (whole n)) ≡ whole (pos 0) → m ≡ n
        same_numbers m n e = same_whole m n
            (ring2 Rational.rationals (λ m n. m) (λ m n. (m ⊕ neg n) ⊕ n) refl (whole m) (whole n)
            ∙ ap (λ q. Rational.plus q (whole n)) e ∙ ring2 Rational.rationals (λ n m. none ⊕ n) (λ n m. n) refl (whole n) (whole n))

        -- it is a root of x² - s x + t where S = s and F² root = s² - 4 t
        pub nil_to_half : IsIrreducible (quadratic s t) → factor_at (quadratic s t) z ≡ (root_values root).nil
            → (x.s ≡ s) × ((x.f *ℤ x.f) *ℤ pos root ≡ discriminant s t)
        nil_to_half free e =
            let all = sym four_times ∙ ap four e ∙ ring2 (root_values root).laws (λ x y. (none ⊕ none) ⊕ (none ⊕ none)) (λ x y. none) refl z z in
            let first = same_numbers (part *ℤ part +ℤ pos root *ℤ (x.f *ℤ x.f)) (discriminant s t) (ap (λ (v : Value). v.a) all) in
            let second = same_numbers (part *ℤ x.f +ℤ x.f *ℤ part) (pos 0) (ap (λ (v : Value). v.b) all) in
            let nothing = no_first_part root s t part x.f free first second in (
              same_sum x.s s nothing,
              ring2 integers (λ f k. (f ⊗ f) ⊗ k) (λ f k. none ⊗ none ⊕ k ⊗ (f ⊗ f)) refl x.f (pos root)
                  ∙ ap (λ (d : ℤ). d *ℤ d +ℤ pos root *ℤ (x.f *ℤ x.f)) (sym nothing) ∙ first,
            )
          where
            same_sum : (a b : ℤ) → a +ℤ neg_ℤ b ≡ pos 0 → a ≡ b
            same_sum a b e = omega (arith, ints, e)

        pub half_to_nil : x.s ≡ s → (x.f *ℤ x.f) *ℤ pos root ≡ discriminant s t → factor_at (quadratic s t) z ≡ (root_values root).nil
        half_to_nil p q =
            let nothing : part ≡ pos 0 = ap (λ (y : ℤ). y +ℤ neg_ℤ s) p ∙ integers.plus_minus s in
            let first : part *ℤ part +ℤ pos root *ℤ (x.f *ℤ x.f) ≡ discriminant s t =
            ap (λ (d : ℤ). d *ℤ d +ℤ pos root *ℤ (x.f *ℤ x.f)) nothing
            ∙ ring2 integers (λ f k. none ⊗ none ⊕ k ⊗ (f ⊗ f)) (λ f k. (f ⊗ f) ⊗ k) refl x.f (pos root) ∙ q in
            let second : part *ℤ x.f +ℤ x.f *ℤ part ≡ pos 0 =
            ap (λ (d : ℤ). d *ℤ x.f +ℤ x.f *ℤ d) nothing ∙ ring2 integers (λ f k. none ⊗ f ⊕ f ⊗ none) (λ f k. none) refl x.f x.f in
            let all : four (factor_at (quadratic s t) z) ≡ (root_values root).nil =
            four_times ∙ pair_path _ _ (ap (λ (n : ℤ). Rational.plus (whole n) (Rational.minus (whole (discriminant s t)))) first ∙ Rational.rationals.plus_minus (whole (discriminant s t)))
            (ap (λ (n : ℤ). Rational.plus (whole n) (Rational.minus (whole (pos 0)))) second ∙ Rational.rationals.plus_minus (whole (pos 0))) in
            nil_of_double (factor_at (quadratic s t) z) (nil_of_double _ all)
          where
            nil_of_double : (v : Value) → (root_values root).plus v v ≡ (root_values root).nil → v ≡ (root_values root).nil
            nil_of_double v e = one_half (value_laws root h) v (root_values root).nil
                (e ∙ ring2 (root_values root).laws (λ x y. none) (λ x y. none ⊕ none) refl v v)

      own_over : (root ≡ x.root) → IsOver root z
      own_over e = subst (λ (n : ℕ). IsOver n z) (sym e) (value_over x)
