-- Each place below d³ is that of one unknown.
use Rattle.std.proofs.Common.{◌≡◌, ℕ, zero, suc, ◌+◌, ◌-◌, ◌*◌, ◌<◌, ◌≤◌, Bool, true, false, refl, ap, ◌∙◌, arith}
use Rattle.std.specs.Prelude.{◌/◌, ◌%◌, nat_le}
use Rattle.std.proofs.lemmas.Nat.{div-mul-add, mod-mul-add, div-add-mod'}
use Rattle.std.proofs.Math.Nat.{mod-lt}
use Rattle.std.proofs.lemmas.Bool.Decides.{nat_tests}
use Rattle.drg_linear.specs.declared.unknown.Unknown.{Unknown}
use Rattle.drg_linear.specs.Unknowns.{is_unknown, place}
use Rattle.drg_linear.proofs.Counting.{indices}
use Rattle.drg_triple_numbers.specs.Places.{unknown_at, UnknownsHavePlaces, PlacesHaveUnknowns}

-- a number of m parts of d, with a rest
below_times : (m d q t : ℕ) → q < m → t < d → q * d + t < m * d
below_times zero d q t h l = absurd (omega arith)
below_times (suc m) d zero t h l = omega arith
below_times (suc m) d (suc q) t h l = let less = below_times m d q t (omega arith) l in omega arith

below_parts : (k m d : ℕ) → k < m * d → k / d < m
below_parts k m d h = by (nat_le m (k / d)) refl where
  least : (m n : ℕ) → m ≤ n → m * d ≤ n * d
  least zero n l = omega arith
  least (suc m) zero l = absurd (omega arith)
  least (suc m) (suc n) l = let less = least m n (omega arith) in omega arith

  by : (b : Bool) → nat_le m (k / d) ≡ b → k / d < m
  by true l = absurd (let parts = div-add-mod' k d in let more = least m (k / d) (grind (arith, nat_tests)) in omega (arith, parts, more, h))
  by false l = grind (arith, nat_tests)

number_is : (r : ℕ) → 1 ≤ r → r - 1 + 1 ≡ r
number_is r h = omega arith

less_one : (n : ℕ) → n + 1 - 1 ≡ n
less_one n = omega arith

-- the numbers of the unknown at a place, each less 1, are its digits to the base d
digits : (d r s t : ℕ) → r < d → s < d → t < d → unknown_at d ((r * d + s) * d + t) ≡ record { r = r + 1; s = s + 1; t = t + 1 }
unfolding unknown_at
digits d r s t hr hs ht = rw (div-mul-add (r * d + s) d t ht, div-mul-add r d s hs, mod-mul-add r d s hs, mod-mul-add (r * d + s) d t ht) refl

within : (d : ℕ) (n : Unknown) → is_unknown d n ≡ true → place d n < d * d * d
unfolding place
within d n h =
    let i = indices d n h in
    let r_low = i.r_low in
    let r_high = i.r_high in
    let s_low = i.s_low in
    let s_high = i.s_high in
    let t_low = i.t_low in
    let t_high = i.t_high in
    below_times (d * d) d ((n.r - 1) * d + (n.s - 1)) (n.t - 1) (below_times d d (n.r - 1) (n.s - 1) (omega arith) (omega arith)) (omega arith)

back : (d : ℕ) (n : Unknown) → is_unknown d n ≡ true → unknown_at d (place d n) ≡ n
unfolding place
back d n h =
    let i = indices d n h in
    let r_low = i.r_low in
    let r_high = i.r_high in
    let s_low = i.s_low in
    let s_high = i.s_high in
    let t_low = i.t_low in
    let t_high = i.t_high in
    digits d (n.r - 1) (n.s - 1) (n.t - 1) (omega arith) (omega arith) (omega arith) ∙ rw (number_is n.r r_low, number_is n.s s_low, number_is n.t t_low) refl

pub unknowns_have_places : UnknownsHavePlaces
unknowns_have_places = record { within = within; back = back }

place_back : (d k : ℕ) → place d (unknown_at d k) ≡ k
unfolding place unknown_at
place_back d k = rw (less_one (k / d / d), less_one (k / d % d), less_one (k % d)) (ap (λ q. q * d + k % d) (div-add-mod' (k / d) d) ∙ div-add-mod' k d)

unknown_by : (d r s t : ℕ) → r < d → s < d → t < d → is_unknown d (record { r = r + 1; s = s + 1; t = t + 1 }) ≡ true
unknown_by d r s t hr hs ht = grind (arith, nat_tests)

some_part : (d k : ℕ) → k < d * d * d → 0 < d
some_part zero k h = absurd (omega arith)
some_part (suc d) k h = omega arith

numbers_in : (d k : ℕ) → k < d * d * d → is_unknown d (unknown_at d k) ≡ true
unfolding unknown_at
numbers_in d k h =
    let some = some_part d k h in
    unknown_by d (k / d / d) (k / d % d) (k % d) (below_parts (k / d) d d (below_parts k (d * d) d h)) (mod-lt (k / d) some) (mod-lt k some)

pub places_have_unknowns : PlacesHaveUnknowns
places_have_unknowns d k h = record { numbers = numbers_in d k h; place_is = place_back d k }
