-- The product of two reduced ratios, reduced across, is reduced, and so is a square; and what a sum over the least common
-- denominator has in common with that denominator.
use Rattle.std.proofs.Common.{◌≡◌, ◌<ℤ◌, ℕ, ◌*◌, ℤ, pos, unsigned_abs, int_div, refl, ap, ap₂, sym, ◌∙◌, subst}
use Rattle.std.specs.Prelude.{◌+ℤ◌, ◌*ℤ◌, neg_ℤ}
use Rattle.std.specs.Int.{◌∣◌}
use Rattle.std.proofs.Math.Nat.{eq-one_of_dvd-one, dvd-mul_left, dvd-mul_right}
use Rattle.std.proofs.lemmas.Nat.Gcd.{dvd_trans, dvd_refl, dvd_antisymm}
use Rattle.std.proofs.lemmas.Int.{unsigned_abs-mul}
use native.Mathlib.Nat.{mul-div_cancel', mul_assoc}
use Rattle.drg_algebra.specs.Gcd.{gcd_of, gcd_is}
use Rattle.drg_algebra.specs.Ring.{◌⊕◌, ◌⊗◌, neg, ring2, ring3}
use Rattle.drg_algebra.specs.Integer.{integers}
use Rattle.drg_algebra.specs.Ratio.{div_abs, div_exact}
use Rattle.drg_algebra.specs.Reduced.{common, top, bottom, reduced, top_is, bottom_is}
use Rattle.drg_algebra.proofs.Divisors.{gcd_commutes, coprime_to_product, euclids_lemma_holds}

-- divisors of numbers without a common divisor have none
coprime_below : (x x' y y' : ℕ) → x' ∣ x → y' ∣ y → gcd_of x y ≡ 1 → gcd_of x' y' ≡ 1
coprime_below x x' y y' p q e =
    let g = gcd_is x' y' in
    eq-one_of_dvd-one (subst (λ (n : ℕ). gcd_of x' y' ∣ n) e ((gcd_is x y).2 _ (dvd_trans _ g.0 p) (dvd_trans _ g.1 q)))

part_divides : (n : ℤ) (g : ℕ) → g ∣ unsigned_abs n → unsigned_abs (int_div n (pos g)) ∣ unsigned_abs n
part_divides n g h =
    let e : g * unsigned_abs (int_div n (pos g)) ≡ unsigned_abs n = ap (λ (x : ℕ). g * x) (div_abs n g) ∙ mul-div_cancel' g h in
    subst (λ (x : ℕ). unsigned_abs (int_div n (pos g)) ∣ x) e (dvd-mul_left (unsigned_abs (int_div n (pos g))) g)

module _ (a b c d : ℤ) (h : pos 0 <ℤ b) (k : pos 0 <ℤ d) (r : common a b ≡ 1) (s : common c d ≡ 1) where
  pub product_reduced : common (top a d *ℤ top c b) (bottom c b *ℤ bottom a d) ≡ 1
  product_reduced =
      let g = gcd_is (unsigned_abs a) (unsigned_abs d) in
      let f = gcd_is (unsigned_abs c) (unsigned_abs b) in
      let ab : common (top a d) (bottom c b) ≡ 1 = coprime_below _ _ _ _ (part_divides a (common a d) g.0) (part_divides b (common c b) f.1) r in
      let cd : common (top c b) (bottom a d) ≡ 1 = coprime_below _ _ _ _ (part_divides c (common c b) f.0) (part_divides d (common a d) g.1) s in
      let p = unsigned_abs (top a d) in
      let q = unsigned_abs (top c b) in
      let x = unsigned_abs (bottom c b) in
      let y = unsigned_abs (bottom a d) in
      let px : gcd_of (x * y) p ≡ 1 = gcd_commutes (x * y) p ∙ coprime_to_product p x y ab (reduced a d k) in
      let qx : gcd_of (x * y) q ≡ 1 = gcd_commutes (x * y) q ∙ coprime_to_product q x y (reduced c b h) cd in
      ap₂ gcd_of (unsigned_abs-mul (top a d) (top c b)) (unsigned_abs-mul (bottom c b) (bottom a d))
      ∙ gcd_commutes (p * q) (x * y) ∙ coprime_to_product (x * y) p q px qx

-- numbers without a common divisor have squares without one
pub square_reduced : (a b : ℤ) → common a b ≡ 1 → common (a *ℤ a) (b *ℤ b) ≡ 1
square_reduced a b r =
    let x = unsigned_abs a in
    let y = unsigned_abs b in
    let xy : gcd_of (y * y) x ≡ 1 = gcd_commutes (y * y) x ∙ coprime_to_product x y y r r in
    ap₂ gcd_of (unsigned_abs-mul a a) (unsigned_abs-mul b b) ∙ gcd_commutes (x * x) (y * y) ∙ coprime_to_product (y * y) x x xy xy

-- ---- sums
-- what divides a sum and one of its terms divides the other
divides_left : (k : ℕ) (x y : ℤ) → k ∣ unsigned_abs (x +ℤ y) → k ∣ unsigned_abs y → k ∣ unsigned_abs x
divides_left k x y h i =
    let u = int_div (x +ℤ y) (pos k) in
    let v = int_div y (pos k) in
    let e : x ≡ pos k *ℤ (u +ℤ neg_ℤ v) =
    ring2 integers (λ x y. x) (λ x y. (x ⊕ y) ⊕ neg y) refl x y
    ∙ ap₂ (λ s t. s +ℤ neg_ℤ t) (sym (div_exact (x +ℤ y) k h)) (sym (div_exact y k i))
    ∙ ring3 integers (λ k u v. k ⊗ u ⊕ neg (k ⊗ v)) (λ k u v. k ⊗ (u ⊕ neg v)) refl (pos k) u v in
    subst (λ (n : ℕ). k ∣ n) (sym (ap unsigned_abs e ∙ unsigned_abs-mul (pos k) (u +ℤ neg_ℤ v))) (dvd-mul_right k (unsigned_abs (u +ℤ neg_ℤ v)))

-- a q + y has no divisor in common with p, where a and q have none and p divides y
sum_coprime : (a q y p b : ℤ) → unsigned_abs p ∣ unsigned_abs y → unsigned_abs p ∣ unsigned_abs b → common a b ≡ 1 → common p q ≡ 1 → common (a *ℤ q +ℤ y) p ≡ 1
sum_coprime a q y p b py pb ab pq =
    let k = common (a *ℤ q +ℤ y) p in
    let g = gcd_is (unsigned_abs (a *ℤ q +ℤ y)) (unsigned_abs p) in
    let kaq : k ∣ unsigned_abs a * unsigned_abs q =
    subst (λ (n : ℕ). k ∣ n) (unsigned_abs-mul a q) (divides_left k (a *ℤ q) y g.0 (dvd_trans k g.1 py)) in
    let qk : gcd_of (unsigned_abs q) k ≡ 1 = gcd_commutes (unsigned_abs q) k ∙ coprime_below (unsigned_abs p) k (unsigned_abs q) (unsigned_abs q) g.1 (dvd_refl (unsigned_abs q)) pq in
    let ka : k ∣ unsigned_abs a = euclids_lemma_holds k (unsigned_abs q) (unsigned_abs a) qk kaq in
    eq-one_of_dvd-one (subst (λ (n : ℕ). k ∣ n) ab ((gcd_is (unsigned_abs a) (unsigned_abs b)).2 k ka (dvd_trans k g.1 pb)))

-- a factor without common divisors with n counts for nothing in those of n
drop_coprime : (n g m : ℕ) → gcd_of n m ≡ 1 → gcd_of n (g * m) ≡ gcd_of n g
drop_coprime n g m e =
    let k = gcd_of n (g * m) in
    let all = gcd_is n (g * m) in
    let part = gcd_is n g in
    let mk : gcd_of m k ≡ 1 = gcd_commutes m k ∙ coprime_below n k m m all.0 (dvd_refl m) e in
    dvd_antisymm (part.2 k all.0 (euclids_lemma_holds k m g mk all.1)) (all.2 (gcd_of n g) part.0 (dvd_trans (gcd_of n g) part.1 (dvd-mul_right g m)))

-- a sum over the least common denominator has with it the divisors that it has with the common divisor of both
module _ (a b c d : ℤ) (k : pos 0 <ℤ d) (r : common a b ≡ 1) (s : common c d ≡ 1) where
  pub sum_divisor : common (a *ℤ bottom b d +ℤ c *ℤ top b d) (b *ℤ bottom b d) ≡ common (a *ℤ bottom b d +ℤ c *ℤ top b d) (pos (common b d))
  sum_divisor =
      let p = top b d in
      let q = bottom b d in
      let g = common b d in
      let n = unsigned_abs (a *ℤ q +ℤ c *ℤ p) in
      let x = unsigned_abs p in
      let y = unsigned_abs q in
      let pq : common p q ≡ 1 = reduced b d k in
      let b_is : g * x ≡ unsigned_abs b = sym (unsigned_abs-mul (pos g) p) ∙ ap unsigned_abs (top_is b d) in
      let d_is : g * y ≡ unsigned_abs d = sym (unsigned_abs-mul (pos g) q) ∙ ap unsigned_abs (bottom_is b d) in
      let pb : x ∣ unsigned_abs b = subst (λ (m : ℕ). x ∣ m) b_is (dvd-mul_left x g) in
      let qd : y ∣ unsigned_abs d = subst (λ (m : ℕ). y ∣ m) d_is (dvd-mul_left y g) in
      let cp : x ∣ unsigned_abs (c *ℤ p) = subst (λ (m : ℕ). x ∣ m) (sym (unsigned_abs-mul c p)) (dvd-mul_left x (unsigned_abs c)) in
      let aq : y ∣ unsigned_abs (a *ℤ q) = subst (λ (m : ℕ). y ∣ m) (sym (unsigned_abs-mul a q)) (dvd-mul_left y (unsigned_abs a)) in
      let np : gcd_of n x ≡ 1 = sum_coprime a q (c *ℤ p) p b cp pb r pq in
      let turned : c *ℤ p +ℤ a *ℤ q ≡ a *ℤ q +ℤ c *ℤ p = integers.plus_comm (c *ℤ p) (a *ℤ q) in
      let nq : gcd_of n y ≡ 1 = ap (λ z. common z q) (sym turned) ∙ sum_coprime c p (a *ℤ q) q d aq qd s (gcd_commutes y x ∙ pq) in
      let under : unsigned_abs (b *ℤ q) ≡ g * (x * y) = unsigned_abs-mul b q ∙ ap (λ (m : ℕ). m * y) (sym b_is) ∙ mul_assoc g x y in
      ap (gcd_of n) under ∙ drop_coprime n g (x * y) (coprime_to_product n x y np nq)
