-- The numbers [i] to a whole base other than 0 and -1 are whole, and only [0] is 0.
use Rattle.std.proofs.Common.{◌≡◌, ℕ, zero, suc, ◌+◌, ◌*◌, ◌≤◌, ◌<◌, refl, sym, ap, subst, ◌∙◌, arith, ◌⊎◌, inl, inr}
use Rattle.std.specs.Prelude.{ℤ, pos, negsuc, ◌+ℤ◌, ◌*ℤ◌, unsigned_abs, ◌≢◌}
use Rattle.std.proofs.lemmas.Int.{ints, unsigned_abs-mul}
use Rattle.drg_algebra.specs.Rational.{ℚ, whole, plus, times}
use Rattle.drg_algebra.proofs.Maps.{whole_map}
use Rattle.drg_algebra.proofs.WholeParts.{same_whole}
use Rattle.drg_array.specs.Entries.{Entries}
use Rattle.drg_census.specs.Classical.{IsTried, bracket, next_bracket}

abbrev whole_bracket : ℤ → ℕ → ℤ
whole_bracket b zero = pos 0
whole_bracket b (suc i) = pos 1 +ℤ b *ℤ whole_bracket b i

bracket_is : (b : ℤ) (i : ℕ) → bracket (whole b) i ≡ whole (whole_bracket b i)
bracket_is b zero = refl
bracket_is b (suc i) =
    ap (λ x. plus (whole (pos 1)) (times (whole b) x)) (bracket_is b i)
    ∙ ap (plus (whole (pos 1))) (sym (whole_map.times b (whole_bracket b i)))
    ∙ sym (whole_map.plus (pos 1) (b *ℤ whole_bracket b i))

-- to the base 1, [i] is i
to_one : (i : ℕ) → whole_bracket (pos 1) i ≡ pos i
to_one zero = refl
to_one (suc i) = let e = to_one i in omega (arith, ints, e)

-- a factor of 1 is 1
one_by_factors : (x y : ℕ) → x * y ≡ 1 → x ≡ 1
one_by_factors zero y e = absurd (omega (arith, e))
one_by_factors (suc zero) y e = refl
one_by_factors (suc (suc x)) zero e = absurd (let z : suc (suc x) * 0 ≡ 0 = omega arith in omega (arith, e, z))
one_by_factors (suc (suc x)) (suc y) e = absurd (let z : suc (suc x) * suc y ≡ suc (suc (x + y + x * y + y)) = omega arith in omega (arith, e, z))

base_one : (b z : ℤ) → b ≢ negsuc 0 → pos 1 +ℤ b *ℤ z ≡ pos 0 → b ≡ pos 1
base_one b z f e = go b f (one_by_factors (unsigned_abs b) (unsigned_abs z) (sym (unsigned_abs-mul b z) ∙ size (b *ℤ z) e))
  where
    size : (w : ℤ) → pos 1 +ℤ w ≡ pos 0 → unsigned_abs w ≡ 1
    size w h = omega (arith, ints, h)

    go : (c : ℤ) → c ≢ negsuc 0 → unsigned_abs c ≡ 1 → c ≡ pos 1
    go (pos n) g h = ap pos h
    go (negsuc n) g h = absurd (g (let z : n ≡ 0 = omega arith in ap negsuc z))

whole_bracket_some : (b : ℤ) (i : ℕ) → b ≢ negsuc 0 → whole_bracket b (suc i) ≡ pos 0 → ⊥
whole_bracket_some b i f e =
    let one = base_one b (whole_bracket b i) f e in
    let same : whole_bracket (pos 1) (suc i) ≡ pos 0 = subst (λ t. whole_bracket t (suc i) ≡ pos 0) one e in
    let value = to_one (suc i) in
    omega (arith, ints, same, value)

pub bracket_some : (b : ℤ) (i : ℕ) → b ≢ negsuc 0 → ¬ (bracket (whole b) (suc i) ≡ whole (pos 0))
bracket_some b i f e = whole_bracket_some b i f (same_whole _ _ (sym (bracket_is b (suc i)) ∙ e))

pub last_some : (b : ℤ) (d : ℕ) → 1 ≤ d → b ≢ negsuc 0 → ¬ (bracket (whole b) d ≡ whole (pos 0))
last_some b zero h f = absurd (omega arith)
last_some b (suc d) h f = bracket_some b d f

pub next_some : (b : ℤ) → b ≢ negsuc 0 → ¬ (plus (whole (pos 1)) (whole b) ≡ whole (pos 0))
next_some b f e = go (same_whole _ _ (whole_map.plus (pos 1) b ∙ e))
  where
    go : pos 1 +ℤ b ≡ pos 0 → ⊥
    go h = f (omega (arith, ints, h))
