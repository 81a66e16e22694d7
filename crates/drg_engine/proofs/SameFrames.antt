-- An array has one frame, and no report has its Krein parameters, so the lines of its tables are one text.
use Rattle.std.proofs.Common.{◌≡◌, ℕ, ◌<◌, ◌≤◌, List, ◌++◌, None, Some, refl, sym, ap, ap₂, ◌∙◌, subst, arith}
use Rattle.std.specs.Prelude.{Option}
use Rattle.drg_array.specs.Entries.{Entries, IsArray, diameter}
use Rattle.drg_array.specs.declared.test.Test.{Test}
use Rattle.drg_evidence.specs.FrameValues.{FrameValues, HasFrame, values_of}
use Rattle.drg_evidence.specs.Laws.{OneFrameOfValues}
use Rattle.drg_fraction.specs.Fraction.{rational_of}
use Rattle.drg_fraction.specs.Rationals.{rational_operations}
use Rattle.drg_fraction.specs.declared.fraction.Fraction.{Fraction}
use Rattle.drg_matrices.specs.Frame.{AreSame}
use Rattle.drg_matrices.specs.Tables.{FrameTables, diameter_of, root_of_tables, theta_in, cosine_in, eigen_in, dual_in}
use Rattle.drg_quadratic.specs.Operations.{value_operations}
use Rattle.drg_quadratic.specs.Quadratic.{value_of}
use Rattle.drg_quadratic.specs.Values.{Value}
use Rattle.drg_quadratic.specs.declared.quadratic.Quadratic.{Quadratic as TheQuadratic}
use Rattle.drg_report.specs.KreinTexts.{krein_lines}
use Rattle.drg_report.specs.SpectralTexts.{spectra_lines}
use Rattle.drg_report.specs.declared.verdict.Spectra.{Spectra}
use Rattle.drg_report.specs.declared.verdict.Spectra.TheVariants.{Rational, Quadratic}
use Rattle.drg_report.proofs.FrameTexts.{same_lines}
use Rattle.drg_engine.specs.Parameters.{HasParameters}
use Rattle.drg_engine.specs.Verdicts.{AreSpectraOf, HasSpectra}
use Rattle.drg_engine.proofs.NoParameters.{none_over}

abbrev pub of_fractions : FrameTables Fraction → FrameValues
of_fractions t = values_of rational_of (λ root. rational_operations) t

abbrev pub of_quadratics : FrameTables TheQuadratic → FrameValues
of_quadratics t = values_of value_of value_operations t

module _ (one : OneFrameOfValues) (a : Entries) (array : IsArray a) where
  fractions : (t u : FrameTables Fraction) → diameter_of t ≡ diameter a → HasFrame a (of_fractions t) → HasFrame a (of_fractions u)
      → AreSame (diameter_of t) (theta_in rational_of (λ root. rational_operations) t) (theta_in rational_of (λ root. rational_operations) u)
      (cosine_in rational_of (λ root. rational_operations) t) (eigen_in rational_of (λ root. rational_operations) t) (dual_in rational_of (λ root. rational_operations) t)
      (cosine_in rational_of (λ root. rational_operations) u) (eigen_in rational_of (λ root. rational_operations) u) (dual_in rational_of (λ root. rational_operations) u)
  fractions t u d has also =
      let same = one a (of_fractions t) (of_fractions u) array has also in
      let part : Value → _ = λ (x : Value). x.a in
      record {
        thetas = λ i h. ap part (same.thetas i (omega (arith, h, d)));
        cosines = λ i r h k. ap part (same.cosines i r (omega (arith, h, d)) (omega (arith, k, d)));
        eigen = λ i r h k. ap part (same.eigen i r (omega (arith, h, d)) (omega (arith, k, d)));
        dual = λ r i h k. ap part (same.dual r i (omega (arith, h, d)) (omega (arith, k, d)));
      }

  quadratics : (t u : FrameTables TheQuadratic) → diameter_of t ≡ diameter a → HasFrame a (of_quadratics t) → HasFrame a (of_quadratics u)
      → AreSame (diameter_of t) (theta_in value_of value_operations t) (theta_in value_of value_operations u)
      (cosine_in value_of value_operations t) (eigen_in value_of value_operations t) (dual_in value_of value_operations t)
      (cosine_in value_of value_operations u) (eigen_in value_of value_operations u) (dual_in value_of value_operations u)
  quadratics t u d has also =
      let same = one a (of_quadratics t) (of_quadratics u) array has also in
      record {
        thetas = λ i h. same.thetas i (omega (arith, h, d));
        cosines = λ i r h k. same.cosines i r (omega (arith, h, d)) (omega (arith, k, d));
        eigen = λ i r h k. same.eigen i r (omega (arith, h, d)) (omega (arith, k, d));
        dual = λ r i h k. same.dual r i (omega (arith, h, d)) (omega (arith, k, d));
      }

  same_tables : (tests : List Test) (s t : Spectra) (xs ys : Option (List (List ℕ))) → AreSpectraOf a s → AreSpectraOf a t
      → HasParameters tests (Some s) xs → HasParameters tests (Some t) ys → spectra_lines (Some s) ≡ spectra_lines (Some t)
  same_tables tests (Rational x) (Rational y) xs ys (d, r, has) (e, q, also) left right =
      let frames = same_lines rational_of (λ root. rational_operations) x.frame y.frame (d ∙ sym e) (r ∙ sym q) (fractions x.frame y.frame d has also) in
      let parameters = (none_over rational_of (λ root. rational_operations) tests x.frame x.krein xs left).0
      ∙ sym (none_over rational_of (λ root. rational_operations) tests y.frame y.krein ys right).0 in
      ap₂ (λ (l m : List ℕ). l ++ m) frames (ap (krein_lines rational_of (λ root. rational_operations)) parameters)
  same_tables tests (Rational x) (Quadratic y) xs ys (d, r, has) (e, above, also) left right =
      let same = (one a (of_fractions x.frame) (of_quadratics y.frame) array has also).roots in absurd (omega (arith, same, above, r))
  same_tables tests (Quadratic x) (Rational y) xs ys (d, above, has) (e, q, also) left right =
      let same = (one a (of_quadratics x.frame) (of_fractions y.frame) array has also).roots in absurd (omega (arith, same, above, q))
  same_tables tests (Quadratic x) (Quadratic y) xs ys (d, r, has) (e, q, also) left right =
      let frames = same_lines value_of value_operations x.frame y.frame (d ∙ sym e) (one a (of_quadratics x.frame) (of_quadratics y.frame) array has also).roots
      (quadratics x.frame y.frame d has also) in
      let parameters = (none_over value_of value_operations tests x.frame x.krein xs left).0
      ∙ sym (none_over value_of value_operations tests y.frame y.krein ys right).0 in
      ap₂ (λ (l m : List ℕ). l ++ m) frames (ap (krein_lines value_of value_operations) parameters)

  pub same_spectra : (tests : List Test) (s t : Option Spectra) (xs ys : Option (List (List ℕ))) → HasSpectra a tests s → HasSpectra a tests t
      → HasParameters tests s xs → HasParameters tests t ys → spectra_lines s ≡ spectra_lines t
  same_spectra tests None None xs ys has also left right = refl
  same_spectra tests None (Some y) xs ys has (t, runs, asks, also) left right = absurd (has t runs asks)
  same_spectra tests (Some x) None xs ys (t, runs, asks, has) also left right = absurd (also t runs asks)
  same_spectra tests (Some x) (Some y) xs ys (t, runs, asks, has) (u, others, ask, also) left right = same_tables tests x y xs ys has also left right
