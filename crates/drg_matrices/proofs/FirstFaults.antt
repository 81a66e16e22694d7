-- The faults of frames, from the first formula that doesn't fit.
use Rattle.std.proofs.Common.{◌≡◌, ℕ, suc, ◌<◌, Bool, true, false, sym, ◌∙◌, subst}
use Rattle.std.proofs.lemmas.Bool.{false≢true}
use Rattle.drg_array.specs.Entries.{Entries, diameter}
use Rattle.drg_array.specs.declared.node.Node.TheVariants.{U, M, Qrow, Rec, Pq}
use Rattle.drg_fraction.specs.Operations.{Operations}
use Rattle.drg_matrices.specs.Fits.{Fits}
use Rattle.drg_matrices.specs.Faults.{HoldsBefore, IsFault, CosinesFit, ReachesDual, ReachesRecurrences, ReachesProduct}
use Rattle.drg_matrices.specs.declared.fault.FrameFault.{FrameFault}
use Rattle.drg_matrices.specs.declared.fault.FrameFault.TheVariants.{Wide}

-- a test that is false isn't true
pub not_fitting : (b : Bool) → b ≡ false → ¬ (b ≡ true)
not_fitting b e h = false≢true (sym e ∙ h)

module _ {V : Type 0} (o : Operations V) (a : Entries) (theta : ℕ → V) where
  abbrev n : ℕ
  n = suc (diameter a)

  pub cosine_fault : (i r : ℕ) (fault : FrameFault) → fault ≡ Wide (U i r) → i < n → r < n → ¬ (Fits o a theta (U i r))
      → HoldsBefore n (λ i r. Fits o a theta (U i r)) i r → IsFault o a theta fault
  cosine_fault i r fault e h k wide before = subst (IsFault o a theta) (sym e) (record { row = h; col = k; fails = wide; before = before })

  pub multiplicity_fault : (i : ℕ) (fault : FrameFault) → fault ≡ Wide (M i) → i < n → CosinesFit o a theta → ¬ (Fits o a theta (M i))
      → ((j : ℕ) → j < i → Fits o a theta (M j)) → IsFault o a theta fault
  multiplicity_fault i fault e h cosines wide before = subst (IsFault o a theta) (sym e) (record { cosines = cosines; inside = h; fails = wide; before = before })

  pub dual_fault : (r i : ℕ) (fault : FrameFault) → fault ≡ Wide (Qrow r i) → r < n → i < n → ReachesDual o a theta → ¬ (Fits o a theta (Qrow r i))
      → HoldsBefore n (λ r i. Fits o a theta (Qrow r i)) r i → IsFault o a theta fault
  dual_fault r i fault e h k reached wide before =
      subst (IsFault o a theta) (sym e) (record { reached = reached; first = record { row = h; col = k; fails = wide; before = before } })

  pub recurrence_fault : (i j : ℕ) (fault : FrameFault) → fault ≡ Wide (Rec i j) → i < n → j < n → ReachesRecurrences o a theta → ¬ (Fits o a theta (Rec i j))
      → HoldsBefore n (λ i j. Fits o a theta (Rec i j)) i j → IsFault o a theta fault
  recurrence_fault i j fault e h k reached wide before =
      subst (IsFault o a theta) (sym e) (record { reached = reached; first = record { row = h; col = k; fails = wide; before = before } })

  pub product_fault : (i j : ℕ) (fault : FrameFault) → fault ≡ Wide (Pq i j) → i < n → j < n → ReachesProduct o a theta → ¬ (Fits o a theta (Pq i j))
      → HoldsBefore n (λ i j. Fits o a theta (Pq i j)) i j → IsFault o a theta fault
  product_fault i j fault e h k reached wide before =
      subst (IsFault o a theta) (sym e) (record { reached = reached; first = record { row = h; col = k; fails = wide; before = before } })
