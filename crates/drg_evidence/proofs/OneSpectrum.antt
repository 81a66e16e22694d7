-- An array has one spectrum, which has d+1 eigenvalues.
use Rattle.std.proofs.Common.{◌≡◌, ℕ, suc, List, [], length, ap, arith}
use Rattle.drg_array.specs.Entries.{Entries, b_at, diameter}
use Rattle.drg_eigen.specs.Characteristic.{characteristic}
use Rattle.drg_eigen.specs.Spectrum.{IsSpectrum}
use Rattle.drg_eigen.specs.SplitLaws.{OneSplit}
use Rattle.drg_eigen.specs.declared.split.Split.{Split}
use Rattle.drg_eigen.specs.declared.split.Split.TheVariants as split
use Rattle.drg_quadratic.specs.declared.eigenvalue.Eigenvalue.{Eigenvalue}
use Rattle.drg_evidence.proofs.MonicPolynomials.{characteristic_is_monic, characteristic_length}

abbrev root_in : Split → ℕ
root_in (split.Spectrum s) = s.root
root_in (split.Other o) = 0

abbrev thetas_in : Split → List Eigenvalue
thetas_in (split.Spectrum s) = s.thetas
thetas_in (split.Other o) = []

pub one_spectrum : OneSplit → (a : Entries) (root other : ℕ) (thetas etas : List Eigenvalue) → IsSpectrum (b_at a 0) (characteristic a) root thetas → IsSpectrum (b_at a 0) (characteristic a) other etas
    → (root ≡ other) × (thetas ≡ etas)
one_spectrum law a root other thetas etas has also =
    let same = law (b_at a 0) (characteristic a) (split.Spectrum (record { root = root; thetas = thetas }))
    (split.Spectrum (record { root = other; thetas = etas })) (characteristic_is_monic a) has also in
    (ap root_in same, ap thetas_in same)

pub spectrum_length : (a : Entries) (root : ℕ) (thetas : List Eigenvalue) → IsSpectrum (b_at a 0) (characteristic a) root thetas → length thetas ≡ suc (diameter a)
spectrum_length a root thetas h = let count = h.roots.count in let all = characteristic_length a in omega (arith, count, all)
