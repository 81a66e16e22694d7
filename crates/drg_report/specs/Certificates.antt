-- The lines of the certificate that no one quadratic field holds all eigenvalues.
use Rattle.std.specs.Prelude.{ℕ, ℤ, List, [], ◌++◌, Option, Some, None, codes}
use Rattle.std.specs.Fmt.{signed_decimal}
use Rattle.std.specs.List.{flat_map}
use Rattle.drg_eigen.specs.declared.split.OtherSpectrum.{OtherSpectrum}
use Rattle.drg_eigen.specs.declared.split.OtherSpectrum.TheVariants.{Rest, TwoFields}
use Rattle.drg_report.specs.Pieces.{spaced}

-- the coefficients of a polynomial from the constant upwards, with one space before each
abbrev pub coefficients_text : List ℤ → List ℕ
coefficients_text coefficients = flat_map (λ z. spaced (signed_decimal z)) coefficients

-- a word and the coefficients of a polynomial
abbrev pub poly_line : List ℕ → List ℤ → List ℕ
poly_line word poly = word ++ coefficients_text poly ++ codes "\n"

-- a line for each factor, in their order
abbrev pub factor_lines : List (List ℤ) → List ℕ
factor_lines factors = flat_map (poly_line (codes "factor")) factors

-- the factors, and what is left without them; or the two factors with roots in different fields
abbrev pub certificate_lines : OtherSpectrum → List ℕ
certificate_lines (Rest factors rest) = factor_lines factors ++ poly_line (codes "rest") rest
certificate_lines (TwoFields factors first second) =
    factor_lines factors ++ poly_line (codes "first") first ++ poly_line (codes "second") second

-- the same, where there is a certificate
abbrev pub other_lines : Option OtherSpectrum → List ℕ
other_lines None = []
other_lines (Some other) = certificate_lines other
