-- The greatest common divisor of the coefficients of the free terms decides whether an equation fails modulo some number.
use Rattle.std.proofs.Common.{◌≡◌, ℕ, zero, suc, ◌<◌, ◌≤◌, ◌*◌, ℤ, pos, negsuc, ◌*ℤ◌, ◌+ℤ◌, ◌-ℤ◌, ◌≤ℤ◌, ◌<ℤ◌, Bool, true, false, List, [], ◌∷◌, refl, ap, sym, ◌∙◌, subst, arith, inl, inr}
use Rattle.std.specs.Prelude.{◌⊎◌, ◌||◌, not, ⊤, if◌then◌else◌, unsigned_abs}
use Rattle.std.specs.Int.{◌∣◌}
use Rattle.std.specs.Ordering.{int_eq}
use Rattle.std.specs.Int.Signed.{lt_z}
use Rattle.std.proofs.lemmas.Int.{ints, unsigned_abs-mul}
use Rattle.std.proofs.lemmas.Nat.Gcd.{dvd_trans, le_of_dvd, dvd-zero}
use Rattle.std.proofs.Math.Nat.{eq-zero_of_zero-dvd, dvd-mul_right}
use native.Mathlib.Nat.{mul-div_cancel'}
use Rattle.drg_algebra.specs.Gcd.{gcd_of, gcd_is}
use Rattle.drg_algebra.proofs.Tests.{both, and-in, never, same-number}
use Rattle.drg_whole.specs.Residues.{residue, divides}
use Rattle.drg_whole.specs.Sums.{sum_from}
use Rattle.drg_whole.proofs.Residues.{divided, residue_multiple}
use Rattle.drg_whole.proofs.Quotients.{nothing}
use Rattle.drg_linear.specs.Unknowns.{place}
use Rattle.drg_linear.specs.Equations.{Term, EquationContent}
use Rattle.drg_linear.specs.declared.bounds.End.{End}
use Rattle.drg_linear.specs.declared.bounds.End.TheVariants.{Least, Greatest}
use Rattle.drg_linear.specs.Rooms.{RoomBounds, bounds_at, are_ordered, end_of, end_product, end_products, end_sum}
use Rattle.drg_linear.specs.Closing.{Misses, FailsModulo}
use Rattle.drg_linear.specs.Moduli.{is_free, is_fixed, term_divides, divides_free, fixed_product, fixed_products, less_from}
use Rattle.drg_solver.specs.Moduli.{divisor_with, divisor_from}
use Rattle.drg_solver.proofs.Fits.{order_at}

-- ---- divisors of whole numbers
by_divides : (g : ℕ) (z : ℤ) → 0 < g → divides g z ≡ true → g ∣ unsigned_abs z
by_divides g z h e =
    let d = divided g z h (same-number (residue g z) 0 e) in
    let p : unsigned_abs z ≡ g * unsigned_abs d.0 = ap unsigned_abs (sym d.1) ∙ unsigned_abs-mul (pos g) d.0 in
    subst (λ (n : ℕ). g ∣ n) (sym p) (dvd-mul_right g (unsigned_abs d.0))

times_of : (g q : ℕ) (z : ℤ) → g * q ≡ unsigned_abs z → (k : ℤ) × (z ≡ pos g *ℤ k)
times_of g q (pos n) e = (pos q, omega (arith, ints, e))
times_of g zero (negsuc n) e = absurd (omega (arith, e))
times_of g (suc q) (negsuc n) e = (negsuc q, omega (arith, ints, e))

to_divides : (g : ℕ) (z : ℤ) → 0 < g → g ∣ unsigned_abs z → divides g z ≡ true
to_divides g z h d =
    let k = times_of g _ z (mul-div_cancel' g d) in
    let none : residue g z ≡ 0 = residue_multiple g z h k in rw none refl

-- ---- the free terms
-- h divides the coefficient of each free term
abbrev DividesEach : ℕ → RoomBounds → ℕ → List Term → Type 0
DividesEach d room h [] = ⊤
DividesEach d room h (t ∷ ts) = (is_free d room t ≡ true → h ∣ unsigned_abs t.1) × DividesEach d room h ts

to_free : (d : ℕ) (room : RoomBounds) (h : ℕ) (ts : List Term) → 0 < h → DividesEach d room h ts → divides_free d room h ts ≡ true
to_free d room h [] l e = refl
to_free d room h (t ∷ ts) l e = and-in (term_divides d room h t) (divides_free d room h ts) (one (is_free d room t) refl) (to_free d room h ts l e.1)
  where
    one : (b : Bool) → is_free d room t ≡ b → (not b || divides h t.1) ≡ true
    one true f = to_divides h t.1 l (e.0 f)
    one false f = refl

by_free : (d : ℕ) (room : RoomBounds) (h : ℕ) (ts : List Term) → 0 < h → divides_free d room h ts ≡ true → DividesEach d room h ts
by_free d room h [] l e = tt
by_free d room h (t ∷ ts) l e =
    let s = both (term_divides d room h t) (divides_free d room h ts) e in
    (λ f. by_divides h t.1 l (one (is_free d room t) (divides h t.1) s.0 f), by_free d room h ts l s.1)
  where
    one : (b c : Bool) → (not b || c) ≡ true → b ≡ true → c ≡ true
    one true c h e = h
    one false c h e = cc

-- ---- their greatest common divisor
down_with : (g a : ℤ) (b : Bool) (h : ℕ) → h ∣ unsigned_abs (if b then pos (gcd_of (unsigned_abs g) (unsigned_abs a)) else g) → (h ∣ unsigned_abs g) × (b ≡ true → h ∣ unsigned_abs a)
down_with g a true h d =
    let is = gcd_is (unsigned_abs g) (unsigned_abs a) in (dvd_trans h d is.0, λ e. dvd_trans h d is.1)
down_with g a false h d = (d, λ e. cc)

up_with : (g a : ℤ) (b : Bool) (h : ℕ) → h ∣ unsigned_abs g → (b ≡ true → h ∣ unsigned_abs a) → h ∣ unsigned_abs (if b then pos (gcd_of (unsigned_abs g) (unsigned_abs a)) else g)
up_with g a true h d f = (gcd_is (unsigned_abs g) (unsigned_abs a)).2 h d (f refl)
up_with g a false h d f = d

down : (d : ℕ) (room : RoomBounds) (g : ℤ) (ts : List Term) (h : ℕ) → h ∣ unsigned_abs (divisor_from d room g ts) → (h ∣ unsigned_abs g) × DividesEach d room h ts
down d room g [] h e = (e, tt)
down d room g (t ∷ ts) h e =
    let later = down d room (divisor_with d room g t) ts h e in
    let here = down_with g t.1 (is_free d room t) h later.0 in
    (here.0, (here.1, later.1))

up : (d : ℕ) (room : RoomBounds) (g : ℤ) (ts : List Term) (h : ℕ) → h ∣ unsigned_abs g → DividesEach d room h ts → h ∣ unsigned_abs (divisor_from d room g ts)
up d room g [] h e f = e
up d room g (t ∷ ts) h e f = up d room (divisor_with d room g t) ts h (up_with g t.1 (is_free d room t) h e f.0) f.1

self_dvd : (n : ℕ) → n ∣ n
self_dvd n = subst (λ (m : ℕ). n ∣ m) (one n) (dvd-mul_right n 1)
  where
    one : (n : ℕ) → n * 1 ≡ n
    one n = omega arith

divisor_not_negative : (d : ℕ) (room : RoomBounds) (g : ℤ) (ts : List Term) → pos 0 ≤ℤ g → pos 0 ≤ℤ divisor_from d room g ts
divisor_not_negative d room g [] h = h
divisor_not_negative d room g (t ∷ ts) h = divisor_not_negative d room (divisor_with d room g t) ts (with_one (is_free d room t) (gcd_of (unsigned_abs g) (unsigned_abs t.1)) g h)
  where
    with_one : (b : Bool) (n : ℕ) (g : ℤ) → pos 0 ≤ℤ g → pos 0 ≤ℤ (if b then pos n else g)
    with_one true n g h = omega (arith, ints)
    with_one false n g h = h

at_least_two : (g : ℤ) → pos 2 ≤ℤ g → 2 ≤ unsigned_abs g
at_least_two (pos n) h = omega (arith, ints)
at_least_two (negsuc n) h = absurd (omega (arith, ints))

some : (n : ℕ) → 2 ≤ n → 0 < n
some n h = omega (arith, h)

pub fails_modulo : (d : ℕ) (room : RoomBounds) (e : EquationContent) (g : ℤ) → g ≡ divisor_from d room (pos 0) e.terms → pos 2 ≤ℤ g
    → divides (unsigned_abs g) (less_from e.right (fixed_products d room e.terms)) ≡ false → FailsModulo d room e (unsigned_abs g)
fails_modulo d room e g is two not_left =
    let n = at_least_two g two in
    let h = unsigned_abs g in
    let self : h ∣ unsigned_abs (divisor_from d room (pos 0) e.terms) = subst (λ (z : ℤ). h ∣ unsigned_abs z) is (self_dvd h) in
    record {
      modulus = n;
      free = to_free d room h e.terms (some h n) (down d room (pos 0) e.terms h self).1;
      fixed = not_left;
    }

-- ---- no term is free
nothing_added : (s x : ℤ) → s +ℤ (pos 0 *ℤ x) ≡ s
nothing_added s x = omega (arith, ints)

fixed_end : (side : End) (b : ℤ × ℤ) (a : ℤ) → int_eq b.0 b.1 ≡ true → end_of side b a ≡ b.0
fixed_end Least b a h = pick (lt_z (pos 0) a) b.0 b.1 (grind (arith, ints))
  where
    pick : (c : Bool) (x y : ℤ) → x ≡ y → (if c then x else y) ≡ x
    pick true x y e = refl
    pick false x y e = sym e
fixed_end Greatest b a h = pick (lt_z (pos 0) a) b.0 b.1 (grind (arith, ints))
  where
    pick : (c : Bool) (x y : ℤ) → x ≡ y → (if c then y else x) ≡ x
    pick true x y e = sym e
    pick false x y e = refl

free_else : (low high : ℤ) → low ≤ℤ high → int_eq low high ≡ false → lt_z low high ≡ true
free_else low high o e = grind (arith, ints)

fixed_sum_at : (d : ℕ) (side : End) (room : RoomBounds) (t : Term) (ts : List Term) (r s : ℤ) (b : Bool) → is_fixed d room t ≡ b → are_ordered room ≡ true
    → (is_free d room t ≡ true → 0 ∣ unsigned_abs t.1)
    → ((r s : ℤ) → less_from r (fixed_products d room ts) +ℤ sum_from s (end_products d side room ts) ≡ r +ℤ s)
    → less_from r (if b then fixed_product d room t ∷ fixed_products d room ts else fixed_products d room ts) +ℤ sum_from (s +ℤ end_product d side room t) (end_products d side room ts) ≡ r +ℤ s
fixed_sum_at d side room t ts r s true e o z more =
    let b = bounds_at room (place d t.0) in
    let p : end_product d side room t ≡ fixed_product d room t = ap (λ (x : ℤ). t.1 *ℤ x) (fixed_end side b t.1 e) in
    more (r -ℤ fixed_product d room t) (s +ℤ end_product d side room t) ∙ level r s (fixed_product d room t) (end_product d side room t) p
  where
    level : (r s p q : ℤ) → q ≡ p → (r -ℤ p) +ℤ (s +ℤ q) ≡ r +ℤ s
    level r s p q e = omega (arith, ints)
fixed_sum_at d side room t ts r s false e o z more =
    let b = bounds_at room (place d t.0) in
    let zero_abs : unsigned_abs t.1 ≡ 0 = eq-zero_of_zero-dvd (z (free_else b.0 b.1 (order_at room (place d t.0) o) e)) in
    let none : t.1 ≡ pos 0 = nothing t.1 zero_abs in
    let p : end_product d side room t ≡ pos 0 *ℤ end_of side b t.1 = ap (λ (a : ℤ). a *ℤ end_of side b t.1) none in
    ap (λ (x : ℤ). less_from r (fixed_products d room ts) +ℤ sum_from (s +ℤ x) (end_products d side room ts)) p
    ∙ (ap (λ (x : ℤ). less_from r (fixed_products d room ts) +ℤ sum_from x (end_products d side room ts)) (nothing_added s (end_of side b t.1)) ∙ more r s)

fixed_sum : (d : ℕ) (side : End) (room : RoomBounds) (ts : List Term) (r s : ℤ) → are_ordered room ≡ true → DividesEach d room 0 ts
    → less_from r (fixed_products d room ts) +ℤ sum_from s (end_products d side room ts) ≡ r +ℤ s
fixed_sum d side room [] r s o z = refl
fixed_sum d side room (t ∷ ts) r s o z = fixed_sum_at d side room t ts r s (is_fixed d room t) refl o z.0 (λ r s. fixed_sum d side room ts r s o z.1)

-- what is left of an equation without a free term is 0, or the equation misses
left_or_miss : (right left least greatest : ℤ) → left +ℤ least ≡ right +ℤ pos 0 → left +ℤ greatest ≡ right +ℤ pos 0 → (left ≡ pos 0 → ⊥) → (right <ℤ least) ⊎ (greatest <ℤ right)
left_or_miss right (pos zero) least greatest l g h = absurd (h refl)
left_or_miss right (pos (suc n)) least greatest l g h = inr (omega (arith, ints))
left_or_miss right (negsuc n) least greatest l g h = inl (omega (arith, ints))

divides_nothing : (h : ℕ) (z : ℤ) → 0 < h → divides h z ≡ false → z ≡ pos 0 → ⊥
divides_nothing h z l f e = never (divides h z) (to_divides h z l (rw e (dvd-zero h))) f

misses_fixed : (d : ℕ) (room : RoomBounds) (e : EquationContent) (h : ℕ) → are_ordered room ≡ true → DividesEach d room 0 e.terms → FailsModulo d room e h → Misses d room e
misses_fixed d room e h o z f =
    left_or_miss e.right (less_from e.right (fixed_products d room e.terms)) (end_sum d Least room e.terms) (end_sum d Greatest room e.terms)
    (fixed_sum d Least room e.terms e.right (pos 0) o z) (fixed_sum d Greatest room e.terms e.right (pos 0) o z)
    (divides_nothing h (less_from e.right (fixed_products d room e.terms)) (some h f.modulus) f.fixed)

-- what fails modulo some number fails modulo the divisor, or misses
divisor_of : (d : ℕ) (room : RoomBounds) (e : EquationContent) (h : ℕ) → FailsModulo d room e h → h ∣ unsigned_abs (divisor_from d room (pos 0) e.terms)
divisor_of d room e h f = up d room (pos 0) e.terms h (dvd-zero h) (by_free d room h e.terms (some h f.modulus) f.free)

pub small_divisor : (d : ℕ) (room : RoomBounds) (e : EquationContent) (g : ℤ) → are_ordered room ≡ true → g ≡ divisor_from d room (pos 0) e.terms → g <ℤ pos 2
    → (h : ℕ) → FailsModulo d room e h → Misses d room e
small_divisor d room e g o is less h f =
    let low = divisor_not_negative d room (pos 0) e.terms (omega (arith, ints)) in
    let by = divisor_of d room e h f in
    by_size (divisor_from d room (pos 0) e.terms) low (rw is at less) by (λ (z : divisor_from d room (pos 0) e.terms ≡ pos 0). misses_fixed d room e h o (down d room (pos 0) e.terms 0 (rw z (dvd-zero 0))).1 f)
  where
    by_size : (g : ℤ) → pos 0 ≤ℤ g → g <ℤ pos 2 → h ∣ unsigned_abs g → (g ≡ pos 0 → Misses d room e) → Misses d room e
    by_size (pos zero) l u by more = more refl
    by_size (pos (suc n)) l u by more = (let k = le_of_dvd {n = suc n} (omega arith) by in let m = f.modulus in absurd (omega (arith, ints, k, m)))
    by_size (negsuc n) l u by more = absurd (omega (arith, ints))

pub left_divided : (d : ℕ) (room : RoomBounds) (e : EquationContent) (g : ℤ) → g ≡ divisor_from d room (pos 0) e.terms → pos 2 ≤ℤ g
    → divides (unsigned_abs g) (less_from e.right (fixed_products d room e.terms)) ≡ true → (h : ℕ) → FailsModulo d room e h → Misses d room e
left_divided d room e g is two left h f =
    let n = at_least_two g two in
    let z = less_from e.right (fixed_products d room e.terms) in
    let by : h ∣ unsigned_abs g = rw is (divisor_of d room e h f) in
    absurd (never (divides h z) (to_divides h z (some h f.modulus) (dvd_trans h by (by_divides (unsigned_abs g) z (some (unsigned_abs g) n) left))) f.fixed)
