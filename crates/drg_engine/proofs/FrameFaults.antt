-- The faults on the way to a frame.
use Rattle.std.proofs.Common.{◌≡◌, ◌≤◌, ℕ, ℤ, List, [], ◌∷◌, Result, Ok, Err, sym, subst, arith, inr, inl}
use Rattle.std.specs.Prelude.{slice_index, IfErr}
use Rattle.std.specs.Result.{IsErrAnd}
use Rattle.std.specs.List.{AllByRecursion}
use Rattle.drg_array.specs.Entries.{Entries, IsArray, IsEntry, b_at}
use Rattle.drg_eigen.specs.Candidates.{AllDivisionsFit, IsSplitFault}
use Rattle.drg_eigen.specs.Characteristic.{characteristic}
use Rattle.drg_eigen.specs.Fits.{AllFit}
use Rattle.drg_eigen.specs.declared.fault.EigenFault.{EigenFault}
use Rattle.drg_eigen.specs.declared.fault.EigenFault.TheVariants.{Wide, Memory}
use Rattle.drg_engine.specs.Frames.{IsFactored}
use Rattle.drg_engine.specs.declared.spectra.SpectraFault.{SpectraFault}
use Rattle.drg_engine.specs.SpectraFaults.{IsSpectraFault, of_eigen}

first_small : (l : List ℕ) → AllByRecursion IsEntry l → slice_index l 0 ≤ 4095
first_small [] h = omega arith
first_small (x ∷ l) h = let top = h.0.1 in omega (arith, top)

pub valency_small : (a : Entries) → IsArray a → b_at a 0 ≤ 4095
valency_small a array = first_small a.b array.entries_b

-- what a conversion of a fault gives
pub err_weaker : {S E : Type 0} (r : Result S E) (P Q : E → Type 0) → ((e : E) → P e → Q e) → IsErrAnd r P → IfErr r Q
err_weaker (Ok x) P Q into h = tt
err_weaker (Err e) P Q into h = into e h

split_here : (a : Entries) (fault : EigenFault) → AllFit a → IsSplitFault (b_at a 0) (characteristic a) fault → IsSpectraFault a (of_eigen fault)
split_here a (Wide node) fits is = inr (inl (record { polynomials = fits; division = is }))
split_here a Memory fits is = tt

module _ (a : Entries) (k : ℕ) (f : List ℤ) (valency : k ≡ b_at a 0) (polynomial : f ≡ characteristic a) (fits : AllFit a) where
  -- a fault of the search for factors, where the polynomials fit
  pub split_fault : (fault : EigenFault) → IsSplitFault k f fault → (other : SpectraFault) → other ≡ of_eigen fault → IsSpectraFault a other
  split_fault fault is other e =
      subst (IsSpectraFault a) (sym e)
      (split_here a fault fits (subst (λ (n : ℕ). IsSplitFault n (characteristic a) fault) valency (subst (λ g. IsSplitFault k g fault) polynomial is)))

  -- and where the search has no fault
  pub factored : AllDivisionsFit k f → IsFactored a
  factored all = record {
    polynomials = fits;
    divisions = subst (λ (n : ℕ). AllDivisionsFit n (characteristic a)) valency (subst (AllDivisionsFit k) polynomial all);
  }
