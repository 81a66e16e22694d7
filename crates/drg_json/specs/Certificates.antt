-- The certificate that no one quadratic field holds all eigenvalues, where there is one.
use Rattle.std.specs.Prelude.{ℤ, List, Option, Some, None, map}
use Rattle.std.specs.Fmt.{signed_decimal}
use Rattle.serde_json.specs.Data.{Data}
use Rattle.drg_eigen.specs.declared.split.OtherSpectrum.{OtherSpectrum}
use Rattle.drg_eigen.specs.declared.split.OtherSpectrum.TheVariants.{Rest, TwoFields}
use Rattle.drg_json.specs.Pieces.{list, texts}

-- the coefficients of a polynomial from the constant upwards, each as a text
abbrev pub poly_data : List ℤ → Data
poly_data coefficients = texts (map signed_decimal coefficients)

-- the polynomials in their order
abbrev pub polys_data : List (List ℤ) → Data
polys_data polys = list (map poly_data polys)

-- the factors among the candidates
abbrev pub factors_data : Option OtherSpectrum → Option Data
factors_data None = None
factors_data (Some (Rest factors rest)) = Some (polys_data factors)
factors_data (Some (TwoFields factors first second)) = Some (polys_data factors)

-- what is left without the factors, where something is
abbrev pub rest_data : Option OtherSpectrum → Option Data
rest_data None = None
rest_data (Some (Rest factors rest)) = Some (poly_data rest)
rest_data (Some (TwoFields factors first second)) = None

-- the first quadratic factor, where nothing is left
abbrev pub first_data : Option OtherSpectrum → Option Data
first_data None = None
first_data (Some (Rest factors rest)) = None
first_data (Some (TwoFields factors first second)) = Some (poly_data first)

-- the first factor with roots in another field, where nothing is left
abbrev pub second_data : Option OtherSpectrum → Option Data
second_data None = None
second_data (Some (Rest factors rest)) = None
second_data (Some (TwoFields factors first second)) = Some (poly_data second)
