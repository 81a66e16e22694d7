-- A room that closes in one step holds no solution.
use Rattle.std.proofs.Common.{◌≡◌, ℕ, zero, suc, ◌<◌, ◌≤◌, ℤ, pos, ◌≤ℤ◌, ◌<ℤ◌, ◌⊎◌, inl, inr, List, [], ◌∷◌, length, arith}
use Rattle.std.specs.Prelude.{slice_index_or}
use Rattle.std.proofs.lemmas.Int.{ints}
use Rattle.drg_algebra.proofs.Tests.{never}
use Rattle.drg_linear.specs.Unknowns.{place}
use Rattle.drg_linear.specs.Equations.{EquationContent, Meets, MeetsAll, value_from}
use Rattle.drg_linear.specs.declared.bounds.End.TheVariants.{Least, Greatest}
use Rattle.drg_linear.specs.Rooms.{end_sum}
use Rattle.drg_linear.specs.Values.{least_value, greatest_value}
use Rattle.drg_linear.specs.Closing.{ByMiss, ByModulus, ByValues}
use Rattle.drg_linear.proofs.Sums.{sums_bound_value}
use Rattle.drg_rooms.specs.Laws.{ClosedHoldsNone}
use Rattle.drg_rooms.proofs.RoomLaws.{at_least, at_most}
use Rattle.drg_rooms.proofs.ModLaws.{left_is_divided}

meets_one : (d : ℕ) (x : ℕ → ℤ) (es : List EquationContent) (k : ℕ) (e : EquationContent) → k < length es → slice_index_or es k e ≡ e → MeetsAll d x es → Meets d x e
meets_one d x [] k e h is m = absurd (omega (arith, h))
meets_one d x (f ∷ es) zero e h is m = rw is at m.0
meets_one d x (f ∷ es) (suc k) e h is m = meets_one d x es k e (omega (arith, h)) is m.1

between : (least value most right : ℤ) → least ≤ℤ value → value ≤ℤ most → value ≡ right → (right <ℤ least) ⊎ (most <ℤ right) → ⊥
between least value most right l g m (inl b) = omega (arith, ints)
between least value most right l g m (inr b) = omega (arith, ints)

crossed : (least z most : ℤ) → least ≤ℤ z → z ≤ℤ most → most <ℤ least → ⊥
crossed least z most l g h = omega (arith, ints)

some_modulus : (g : ℕ) → 2 ≤ g → 0 < g
some_modulus g h = omega (arith, h)

pub closed_holds_none : ClosedHoldsNone
closed_holds_none d room equations x (ByMiss e c h) s =
    let b = sums_bound_value d room x e.terms s.0 in
    between (end_sum d Least room e.terms) (value_from d x (pos 0) e.terms) (end_sum d Greatest room e.terms) e.right b.0 b.1 (meets_one d x equations c.0 e c.1 c.2 s.1) h
closed_holds_none d room equations x (ByModulus e g c h) s =
    never _ (left_is_divided d x room g e (some_modulus g h.modulus) h.free (meets_one d x equations c.0 e c.1 c.2 s.1) s.0) h.fixed
closed_holds_none d room equations x (ByValues u e f c k h) s =
    crossed (least_value d room u e) (x (place d u)) (greatest_value d room u f)
    (at_least d x room u e h.least (meets_one d x equations c.0 e c.1 c.2 s.1) s.0)
    (at_most d x room u f h.greatest (meets_one d x equations k.0 f k.1 k.2 s.1) s.0) h.above
