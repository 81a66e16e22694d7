-- Laws of the polynomials F_j of a recurrence of three terms: the identity of Christoffel and Darboux in its forms.
use Rattle.std.specs.Prelude.{◌≡◌, ℕ, suc, ◌<◌}
use Rattle.drg_algebra.specs.Ring.{CommutativeRing, sub}
use Rattle.drg_algebra.specs.Pairs.{constant, duals}
use Rattle.drg_eigen.specs.Polynomial.{eval}
use Rattle.drg_eigen.specs.Recurrence.{at, slope, weighted, quotients, chain}

-- the coefficients of F_j give its values, also in a ring to which a map takes them
abbrev pub ChainGivesValues : CommutativeRing → Type 0
ChainGivesValues r = (a w : ℕ → r.Of) (x : r.Of) (j : ℕ) → eval r r (λ z. z) x (chain r a w j) ≡ at r a w x j

-- without divisions: (x - y) times the weighted sum is F_(m+1)(x) F_m(y) - F_m(x) F_(m+1)(y)
abbrev pub ChristoffelDarboux : CommutativeRing → Type 0
ChristoffelDarboux r = (a w : ℕ → r.Of) (x y : r.Of) (m : ℕ)
    → r.times (sub r x y) (weighted r a w x y m) ≡ sub r (r.times (at r a w x (suc m)) (at r a w y m)) (r.times (at r a w x m) (at r a w y (suc m)))

-- with quotients g_j, where g_(j+1) w_(j+1) = g_j
abbrev pub QuotientForm : CommutativeRing → Type 0
QuotientForm r = (a w g : ℕ → r.Of) (x y : r.Of) (m : ℕ) → ((j : ℕ) → j < m → r.times (g (suc j)) (w (suc j)) ≡ g j)
    → r.times (sub r x y) (quotients r a w g x y m) ≡ r.times (g m) (sub r (r.times (at r a w x (suc m)) (at r a w y m)) (r.times (at r a w x m) (at r a w y (suc m))))

-- confluent, for y = x: the weighted sum is F_(m+1)'(x) F_m(x) - F_m'(x) F_(m+1)(x)
abbrev pub Confluent : CommutativeRing → Type 0
Confluent r = (a w : ℕ → r.Of) (x : r.Of) (m : ℕ)
    → weighted r a w x x m ≡ sub r (r.times (slope r a w x (suc m)) (at r a w x m)) (r.times (slope r a w x m) (at r a w x (suc m)))

-- the same with quotients
abbrev pub ConfluentQuotientForm : CommutativeRing → Type 0
ConfluentQuotientForm r = (a w g : ℕ → r.Of) (x : r.Of) (m : ℕ) → ((j : ℕ) → j < m → r.times (g (suc j)) (w (suc j)) ≡ g j)
    → quotients r a w g x x m ≡ r.times (g m) (sub r (r.times (slope r a w x (suc m)) (at r a w x m)) (r.times (slope r a w x m) (at r a w x (suc m))))

-- the value at x + y ε is F_m(x) + y F_m'(x) ε, so F_m' is the derivative
abbrev pub AtDual : CommutativeRing → Type 0
AtDual r = (a w : ℕ → r.Of) (x y : r.Of) (m : ℕ)
    → at (duals r) (λ j. constant r (a j)) (λ j. constant r (w j)) (record { a = x; b = y }) m ≡ record { a = at r a w x m; b = r.times y (slope r a w x m) }
