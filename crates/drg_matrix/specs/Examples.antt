-- A frame by hand: the complete graph with 4 vertices, of the array {3;1}, has the eigenvalues 3 and -1, and its matrices
-- P and Q both are
--   1  3
--   1 -1
use Rattle.std.specs.Prelude.{◌≡◌, ℕ, zero, suc, ℤ, pos, neg_ℤ, [], ◌∷◌}
use Rattle.drg_algebra.specs.Rational.{whole}
use Rattle.drg_array.specs.Entries.{Entries}
use Rattle.drg_fraction.specs.Operations.{Operations}
use Rattle.drg_matrix.specs.Frame.{IsFrame, multiplicity}
use Rattle.drg_matrix.specs.Krein.{AreKreinNumbers}

abbrev pub complete : Entries
complete = record { b = 3 ∷ []; c = 1 ∷ [] }

abbrev pub complete_table : ℕ → ℕ → ℤ
complete_table i zero = pos 1
complete_table zero (suc j) = pos 3
complete_table (suc i) (suc j) = neg_ℤ (pos 1)

-- the second column of P
abbrev pub complete_value : ℕ → ℤ
complete_value i = complete_table i 1

-- q^0_00 = 1, q^0_11 = 3, q^1_01 = q^1_10 = 1, q^1_11 = 2, and the others are 0
abbrev pub complete_krein : ℕ → ℕ → ℕ → ℤ
complete_krein zero zero zero = pos 1
complete_krein zero (suc i) (suc j) = pos 3
complete_krein (suc h) zero (suc j) = pos 1
complete_krein (suc h) (suc i) zero = pos 1
complete_krein (suc h) (suc i) (suc j) = pos 2
complete_krein zero zero (suc j) = pos 0
complete_krein zero (suc i) zero = pos 0
complete_krein (suc h) zero zero = pos 0

module _ {V : Type 0} (o : Operations V) where
  abbrev pub CompleteFrame : Type 0
  CompleteFrame =
      IsFrame o complete (λ i. o.rational (whole (complete_value i)))
      (λ i j. o.rational (whole (complete_table i j)))
      (λ i j. o.rational (whole (complete_table i j)))

  abbrev pub CompleteKrein : Type 0
  CompleteKrein = AreKreinNumbers o 1 (λ i j. o.rational (whole (complete_table i j))) (λ h i j. o.rational (whole (complete_krein h i j)))

  -- of which 3 occurs once and -1 three times
  abbrev pub CompleteMultiplicities : Type 0
  CompleteMultiplicities =
      let q : ℕ → ℕ → V = λ i j. o.rational (whole (complete_table i j)) in
      (multiplicity q 0 ≡ o.rational (whole (pos 1))) × (multiplicity q 1 ≡ o.rational (whole (pos 3)))
