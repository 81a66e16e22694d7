-- Products of factors: their order, their degree, and which irreducible factors divide them.
use Rattle.std.proofs.Common.{◌≡◌, suc, ◌≤◌, refl, ap, ap₂, sym, ◌∙◌, arith, ℤ, pos, List, [], ◌∷◌, length, ◌⊎◌, inl, inr}
use Rattle.drg_algebra.specs.Ring.{CommutativeRing, none, ◌⊗◌, ring2, ring3}
use Rattle.drg_algebra.specs.Integer.{whole_numbers}
use Rattle.drg_eigen.specs.Polynomial.{add, scale, times_linear, times_quadratic}
use Rattle.drg_eigen.specs.Factor.{Factor, linear, quadratic, times_factor, Divides, product, IsAmong}
use Rattle.drg_eigen.specs.FactorLaws.{FactorsCommute, DegreesAdd, FactorsOfProduct, FactorsDivide}
use Rattle.drg_eigen.proofs.Irreducible.{irreducibles_are_prime}

module _ (r : CommutativeRing) where
  add_comm : (f g : List r.Of) → add r f g ≡ add r g f
  add_comm [] [] = refl
  add_comm [] (y ∷ g) = refl
  add_comm (x ∷ f) [] = refl
  add_comm (x ∷ f) (y ∷ g) = ap₂ (λ (a : r.Of) (l : List r.Of). a ∷ l) (r.laws.plus_comm x y) (add_comm f g)

  add_none : (f : List r.Of) → add r f [] ≡ f
  add_none [] = refl
  add_none (x ∷ f) = refl

  add_assoc : (f g h : List r.Of) → add r (add r f g) h ≡ add r f (add r g h)
  add_assoc [] g h = refl
  add_assoc (x ∷ f) [] h = refl
  add_assoc (x ∷ f) (y ∷ g) [] = refl
  add_assoc (x ∷ f) (y ∷ g) (z ∷ h) = ap₂ (λ (a : r.Of) (l : List r.Of). a ∷ l) (r.laws.plus_assoc x y z) (add_assoc f g h)

  add_four : (f g h k : List r.Of) → add r (add r f g) (add r h k) ≡ add r (add r f h) (add r g k)
  add_four f g h k = add_assoc f g (add r h k) ∙ ap (add r f) (sym (add_assoc g h k) ∙ ap (λ l. add r l k) (add_comm g h) ∙ add_assoc h g k) ∙ sym (add_assoc f h (add r g k))

  scale_add : (c : r.Of) (f g : List r.Of) → scale r c (add r f g) ≡ add r (scale r c f) (scale r c g)
  scale_add c [] g = refl
  scale_add c (x ∷ f) [] = refl
  scale_add c (x ∷ f) (y ∷ g) = ap₂ (λ (a : r.Of) (l : List r.Of). a ∷ l) (r.laws.times_plus c x y) (scale_add c f g)

  scale_scale : (c d : r.Of) (f : List r.Of) → scale r c (scale r d f) ≡ scale r d (scale r c f)
  scale_scale c d [] = refl
  scale_scale c d (x ∷ f) = ap₂ (λ (a : r.Of) (l : List r.Of). a ∷ l) (ring3 r.laws (λ c d x. c ⊗ (d ⊗ x)) (λ c d x. d ⊗ (c ⊗ x)) refl c d x) (scale_scale c d f)

  -- X f
  abbrev shift : List r.Of → List r.Of
  shift f = r.nil ∷ f

  shift_add : (f g : List r.Of) → shift (add r f g) ≡ add r (shift f) (shift g)
  shift_add f g = ap (λ a. a ∷ add r f g) (sym (r.laws.plus_nil r.nil))

  shift_scale : (c : r.Of) (f : List r.Of) → shift (scale r c f) ≡ scale r c (shift f)
  shift_scale c f = ap (λ a. a ∷ scale r c f) (ring2 r.laws (λ c d. none) (λ c d. c ⊗ none) refl c c)

  -- what keeps sums, multiples and shifts
  record IsLinear (t : List r.Of → List r.Of) : Type 0 where
    pub of_add : (f g : List r.Of) → t (add r f g) ≡ add r (t f) (t g)
    pub of_scale : (c : r.Of) (f : List r.Of) → t (scale r c f) ≡ scale r c (t f)
    pub of_shift : (f : List r.Of) → t (shift f) ≡ shift (t f)

  linear_linear : (c : r.Of) → IsLinear (times_linear r c)
  linear_linear c = record {
    of_add = λ f g. ap₂ (add r) (shift_add f g) (scale_add (r.minus c) f g) ∙ add_four (shift f) (shift g) (scale r (r.minus c) f) (scale r (r.minus c) g);
    of_scale = λ d f. ap₂ (add r) (shift_scale d f) (scale_scale (r.minus c) d f) ∙ sym (scale_add d (shift f) (scale r (r.minus c) f));
    of_shift = λ f. ap (add r (shift (shift f))) (sym (shift_scale (r.minus c) f)) ∙ sym (shift_add (shift f) (scale r (r.minus c) f));
  }

  linear_quadratic : (s t : r.Of) → IsLinear (times_quadratic r s t)
  linear_quadratic s t =
      let m = r.minus s in
      record {
        of_add = λ f g.
            ap₂ (add r) (ap shift (shift_add f g) ∙ shift_add (shift f) (shift g))
            (ap₂ (add r) (ap shift (scale_add m f g) ∙ shift_add (scale r m f) (scale r m g)) (scale_add t f g) ∙ add_four (shift (scale r m f)) (shift (scale r m g)) (scale r t f) (scale r t g))
            ∙ add_four (shift (shift f)) (shift (shift g)) (add r (shift (scale r m f)) (scale r t f)) (add r (shift (scale r m g)) (scale r t g));
        of_scale = λ d f.
            ap₂ (add r) (ap shift (shift_scale d f) ∙ shift_scale d (shift f))
            (ap₂ (add r) (ap shift (scale_scale m d f) ∙ shift_scale d (scale r m f)) (scale_scale t d f) ∙ sym (scale_add d (shift (scale r m f)) (scale r t f)))
            ∙ sym (scale_add d (shift (shift f)) (add r (shift (scale r m f)) (scale r t f)));
        of_shift = λ f.
            ap (add r (shift (shift (shift f))))
            (ap₂ (add r) (ap shift (sym (shift_scale m f))) (sym (shift_scale t f)) ∙ sym (shift_add (shift (scale r m f)) (scale r t f)))
            ∙ sym (shift_add (shift (shift f)) (add r (shift (scale r m f)) (scale r t f)));
      }

  commute_linear : (t : List r.Of → List r.Of) → IsLinear t → (c : r.Of) (f : List r.Of) → t (times_linear r c f) ≡ times_linear r c (t f)
  commute_linear t l c f = l.of_add (shift f) (scale r (r.minus c) f) ∙ ap₂ (add r) (l.of_shift f) (l.of_scale (r.minus c) f)

  commute_quadratic : (t : List r.Of → List r.Of) → IsLinear t → (s u : r.Of) (f : List r.Of) → t (times_quadratic r s u f) ≡ times_quadratic r s u (t f)
  commute_quadratic t l s u f =
      l.of_add (shift (shift f)) (add r (shift (scale r (r.minus s) f)) (scale r u f))
      ∙ ap₂ (add r) (l.of_shift (shift f) ∙ ap shift (l.of_shift f))
      (l.of_add (shift (scale r (r.minus s) f)) (scale r u f) ∙ ap₂ (add r) (l.of_shift (scale r (r.minus s) f) ∙ ap shift (l.of_scale (r.minus s) f)) (l.of_scale u f))

  length_scale : (c : r.Of) (f : List r.Of) → length (scale r c f) ≡ length f
  length_scale c [] = refl
  length_scale c (x ∷ f) = ap suc (length_scale c f)

  length_add : (f g : List r.Of) → length g ≤ length f → length (add r f g) ≡ length f
  length_add [] [] h = refl
  length_add [] (y ∷ g) h = absurd (omega arith)
  length_add (x ∷ f) [] h = refl
  length_add (x ∷ f) (y ∷ g) h = ap suc (length_add f g (omega arith))

pub factors_commute : FactorsCommute
factors_commute (linear x) (linear y) f = commute_linear whole_numbers (times_linear whole_numbers x) (linear_linear whole_numbers x) y f
factors_commute (linear x) (quadratic s t) f = commute_quadratic whole_numbers (times_linear whole_numbers x) (linear_linear whole_numbers x) s t f
factors_commute (quadratic s t) (linear y) f = commute_linear whole_numbers (times_quadratic whole_numbers s t) (linear_quadratic whole_numbers s t) y f
factors_commute (quadratic s t) (quadratic u v) f = commute_quadratic whole_numbers (times_quadratic whole_numbers s t) (linear_quadratic whole_numbers s t) u v f

pub degrees_add : DegreesAdd
degrees_add (linear x) f =
    let e = length_scale whole_numbers (whole_numbers.minus x) f in
    let g = length_add whole_numbers (pos 0 ∷ f) (scale whole_numbers (whole_numbers.minus x) f) (omega arith) in
    omega arith
degrees_add (quadratic s t) f =
    let e = length_scale whole_numbers (whole_numbers.minus s) f in
    let h = length_scale whole_numbers t f in
    let g = length_add whole_numbers (pos 0 ∷ scale whole_numbers (whole_numbers.minus s) f) (scale whole_numbers t f) (omega arith) in
    let k = length_add whole_numbers (pos 0 ∷ pos 0 ∷ f) (add whole_numbers (pos 0 ∷ scale whole_numbers (whole_numbers.minus s) f) (scale whole_numbers t f)) (omega arith) in
    omega arith

length_product : (es : List Factor) (g : List ℤ) → length g ≤ length (product es g)
length_product [] g = omega arith
length_product (e ∷ es) g = omega (arith, length_product es g, degrees_add e (product es g))

pub factors_of_product : FactorsOfProduct
factors_of_product c [] g i js h d = inr d
factors_of_product c (e ∷ es) g i js h d = go (irreducibles_are_prime c e (product es g) i js.0 (omega (arith, length_product es g)) d) (factors_of_product c es g i js.1 h)
  where
    go : (c ≡ e) ⊎ Divides c (product es g) → (Divides c (product es g) → IsAmong c es ⊎ Divides c g) → ((c ≡ e) ⊎ IsAmong c es) ⊎ Divides c g
    go (inl q) rec = inl (inl q)
    go (inr q) rec = deeper (rec q)
      where
        deeper : IsAmong c es ⊎ Divides c g → ((c ≡ e) ⊎ IsAmong c es) ⊎ Divides c g
        deeper (inl a) = inl (inr a)
        deeper (inr a) = inr a

through : (c e : Factor) (f : List ℤ) → Divides c f → Divides c (times_factor e f)
through c e f d = (times_factor e d.0, factors_commute c e d.0 ∙ ap (times_factor e) d.1)

pub factors_divide : FactorsDivide
factors_divide c [] g (inl a) = absurd a
factors_divide c [] g (inr d) = d
factors_divide c (e ∷ es) g (inl (inl q)) = (product es g, ap (λ (x : Factor). times_factor x (product es g)) q)
factors_divide c (e ∷ es) g (inl (inr a)) = through c e (product es g) (factors_divide c es g (inl a))
factors_divide c (e ∷ es) g (inr d) = through c e (product es g) (factors_divide c es g (inr d))
