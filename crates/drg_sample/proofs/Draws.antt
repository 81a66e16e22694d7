-- States and draws one after another.
use Rattle.std.proofs.Common.{◌≡◌, ◌∙◌, ◌+◌, ◌-◌, ◌*◌, ◌/◌, ◌≤◌, refl, sym, ap, arith, ℕ, zero, suc}
use Rattle.drg_sample.specs.Draws.{draw, next_state, state_after}

pub state_after_more : (m n t s : ℕ) → m + n ≡ t → state_after n (state_after m s) ≡ state_after t s
state_after_more zero n t s e = let same : n ≡ t = omega (arith, e) in ap (λ k. state_after k s) same
state_after_more (suc m) n zero s e = absurd (omega (arith, e))
state_after_more (suc m) n (suc t) s e = state_after_more m n t (next_state s) (omega (arith, e))

-- the state after one more draw
pub one_more : (n s : ℕ) → next_state (state_after n s) ≡ state_after (suc n) s
one_more n s = state_after_more n 1 (suc n) s (omega arith)

-- the first draw from a later state is a later draw
pub later_draw : (n s : ℕ) → draw (state_after n s) 0 ≡ draw s n
later_draw n s = ap (λ k. k / 65536) (one_more n s)
