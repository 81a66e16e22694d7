-- Different unknowns have different places, below d·d·d.
use Rattle.std.proofs.Common.{◌≡◌, ℕ, ◌<◌, ◌≤◌, ◌+◌, ◌*◌, ◌-◌, true, ap, sym, ◌∙◌, arith, inl, inr}
use Rattle.std.proofs.Math.Nat.{mul-le-mul_left}
use Rattle.std.proofs.lemmas.Bool.{cases_lt}
use Rattle.drg_linear.specs.declared.unknown.Unknown.{Unknown}
use Rattle.drg_linear.specs.Unknowns.{is_unknown, place}
use Rattle.drg_linear.proofs.Counting.{indices}

-- a number in two digits to the base d
no_less : (d a b a' b' : ℕ) → b < d → a * d + b ≡ a' * d + b' → a < a' → ⊥
no_less d a b a' b' l e h =
    let k : d * (a + 1) ≤ d * a' = mul-le-mul_left d (omega (arith, h)) in
    omega (arith, l, e, k)

first_digit : (d a b a' b' : ℕ) → b < d → b' < d → a * d + b ≡ a' * d + b' → a ≡ a'
first_digit d a b a' b' l l' e =
    elim (cases_lt a a') [
      | inl less ↦ absurd (no_less d a b a' b' l e less)
      | inr more ↦ elim (cases_lt a' a) [
        | inl less ↦ absurd (no_less d a' b' a b l' (sym e) less)
        | inr same ↦ omega (arith, more, same)
      ]
    ]

second_digit : (d a b a' b' : ℕ) → a ≡ a' → a * d + b ≡ a' * d + b' → b ≡ b'
second_digit d a b a' b' h e = let k : a * d ≡ a' * d = ap (λ n. n * d) h in omega (arith, e, k)

same_index : (x y : ℕ) → 1 ≤ x → 1 ≤ y → x - 1 ≡ y - 1 → x ≡ y
same_index x y h k e = omega (arith, h, k, e)

below_index : (d x : ℕ) → 1 ≤ x → x ≤ d → x - 1 < d
below_index d x h k = omega (arith, h, k)

pub one_place : (d : ℕ) (u v : Unknown) → is_unknown d u ≡ true → is_unknown d v ≡ true → place d u ≡ place d v → u ≡ v
unfolding place
one_place d u v hu hv e =
    let i = indices d u hu in
    let j = indices d v hv in
    let ut = below_index d u.t i.t_low i.t_high in
    let vt = below_index d v.t j.t_low j.t_high in
    let us = below_index d u.s i.s_low i.s_high in
    let vs = below_index d v.s j.s_low j.s_high in
    let first = first_digit d ((u.r - 1) * d + (u.s - 1)) (u.t - 1) ((v.r - 1) * d + (v.s - 1)) (v.t - 1) ut vt e in
    let t = second_digit d ((u.r - 1) * d + (u.s - 1)) (u.t - 1) ((v.r - 1) * d + (v.s - 1)) (v.t - 1) first e in
    let r = first_digit d (u.r - 1) (u.s - 1) (v.r - 1) (v.s - 1) us vs first in
    let s = second_digit d (u.r - 1) (u.s - 1) (v.r - 1) (v.s - 1) r first in
    rebuilt u v (same_index u.r v.r i.r_low j.r_low r) (same_index u.s v.s i.s_low j.s_low s) (same_index u.t v.t i.t_low j.t_low t)
  where
    rebuilt : (u v : Unknown) → u.r ≡ v.r → u.s ≡ v.s → u.t ≡ v.t → u ≡ v
    rebuilt u v r q p =
        let made : ℕ → ℕ → ℕ → Unknown = λ r s t. record { r = r; s = s; t = t } in
        ap (λ (n : ℕ). made n u.s u.t) r ∙ ap (λ (n : ℕ). made v.r n u.t) q ∙ ap (λ (n : ℕ). made v.r v.s n) p

two_digits : (d n a b : ℕ) → a < n → b < d → a * d + b < n * d
two_digits d n a b h k =
    let m : d * (a + 1) ≤ d * n = mul-le-mul_left d (omega (arith, h)) in
    omega (arith, k, m)

pub place_below : (d : ℕ) (u : Unknown) → is_unknown d u ≡ true → place d u < d * d * d
unfolding place
place_below d u h =
    let i = indices d u h in
    two_digits d (d * d) ((u.r - 1) * d + (u.s - 1)) (u.t - 1)
    (two_digits d d (u.r - 1) (u.s - 1) (below_index d u.r i.r_low i.r_high) (below_index d u.s i.s_low i.s_high))
    (below_index d u.t i.t_low i.t_high)
