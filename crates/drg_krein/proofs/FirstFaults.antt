-- The faults of Krein parameters, from the first formula that doesn't fit.
use Rattle.std.proofs.Common.{◌≡◌, ℕ, ◌≤◌, Bool, true, false, sym, ◌∙◌, subst}
use Rattle.std.proofs.lemmas.Bool.{false≢true}
use Rattle.drg_array.specs.declared.node.Node.TheVariants.{Krein, Kprod, Sign}
use Rattle.drg_fraction.specs.Operations.{Operations}
use Rattle.drg_krein.specs.Values.{FrameValues}
use Rattle.drg_krein.specs.Fits.{Fits}
use Rattle.drg_krein.specs.Faults.{IsFault, NumbersFit, ProductsFit}
use Rattle.drg_krein.specs.Filling.{NumbersFitBefore, ProductsFitBefore, SignsFitBefore}
use Rattle.drg_krein.specs.declared.fault.KreinFault.{KreinFault}
use Rattle.drg_krein.specs.declared.fault.KreinFault.TheVariants.{Wide}

-- a test that is false isn't true
pub not_fitting : (b : Bool) → b ≡ false → ¬ (b ≡ true)
not_fitting b e h = false≢true (sym e ∙ h)

module _ {V : Type 0} (o : Operations V) (f : FrameValues V) where
  pub number_fault : (i j h : ℕ) (x : KreinFault) → x ≡ Wide (Krein i j h) → i ≤ j → j ≤ f.d → h ≤ f.d → ¬ (Fits o f (Krein i j h)) → NumbersFitBefore o f i j h → IsFault o f x
  number_fault i j h x e a b c wide before = subst (IsFault o f) (sym e) (record { ordered = a; inside = b; third = c; fails = wide; before = before })

  pub product_fault : (i j r : ℕ) (x : KreinFault) → x ≡ Wide (Kprod i j r) → i ≤ j → j ≤ f.d → r ≤ f.d → NumbersFit o f → ¬ (Fits o f (Kprod i j r)) → ProductsFitBefore o f i j r → IsFault o f x
  product_fault i j r x e a b c numbers wide before =
      subst (IsFault o f) (sym e) (record { numbers = numbers; first = record { ordered = a; inside = b; third = c; fails = wide; before = before } })

  pub sign_fault : (i j h : ℕ) (x : KreinFault) → x ≡ Wide (Sign i j h) → i ≤ j → j ≤ f.d → h ≤ f.d → NumbersFit o f → ProductsFit o f → ¬ (Fits o f (Sign i j h)) → SignsFitBefore o f i j h → IsFault o f x
  sign_fault i j h x e a b c numbers products wide before =
      subst (IsFault o f) (sym e) (record { numbers = numbers; products = products; first = record { ordered = a; inside = b; third = c; fails = wide; before = before } })
