-- The order of factors: the x - r with r descending, then the x² - s x + t with s descending, then t descending.
use Rattle.std.specs.Prelude.{◌≡◌, List, [], ◌∷◌, ◌<ℤ◌}
use Rattle.std.proofs.Common.{◌⊎◌}
use Rattle.drg_eigen.specs.Factor.{Factor, linear, quadratic}

abbrev pub ComesBefore : Factor → Factor → Type 0
ComesBefore (linear r) (linear v) = v <ℤ r
ComesBefore (linear r) (quadratic s t) = Unit {0}
ComesBefore (quadratic s t) (linear r) = ⊥
ComesBefore (quadratic s t) (quadratic u v) = (u <ℤ s) ⊎ ((s ≡ u) × (v <ℤ t))

abbrev pub AreInOrder : List Factor → Type 0
AreInOrder [] = Unit {0}
AreInOrder (e ∷ []) = Unit {0}
AreInOrder (e ∷ d ∷ es) = ComesBefore e d × AreInOrder (d ∷ es)
