-- The first formula that doesn't fit is one.
use Rattle.std.proofs.Common.{◌≡◌, ℕ, zero, suc, ◌<◌, refl, ap, arith, inl, inr}
use Rattle.std.specs.Prelude.{◌⊎◌}
use Rattle.drg_array.specs.Entries.{Entries}
use Rattle.drg_array.specs.declared.node.Node.TheVariants.{Poly}
use Rattle.drg_eigen.specs.Fits.{IsFirstWide}
use Rattle.drg_eigen.specs.FaultLaws.{OneFault, NoFaultWhereAllFit}
use Rattle.drg_eigen.specs.declared.fault.EigenFault.TheVariants.{Wide, Memory}

compare : (m n : ℕ) → (m < n) ⊎ ((m ≡ n) ⊎ (n < m))
compare zero zero = inr (inl refl)
compare zero (suc n) = inl (omega arith)
compare (suc m) zero = inr (inr (omega arith))
compare (suc m) (suc n) = elim (compare m n) [ inl e ↦ inl (omega (arith, e)) | inr (inl e) ↦ inr (inl (ap suc e)) | inr (inr e) ↦ inr (inr (omega (arith, e))) ]

one_first : (a : Entries) (i j : ℕ) → IsFirstWide a i → IsFirstWide a j → i ≡ j
one_first a i j first second =
    elim (compare i j) [
      | inl less ↦ absurd (first.wide (second.before i less))
      | inr (inl same) ↦ same
      | inr (inr more) ↦ absurd (second.wide (first.before j more))
    ]

pub one_fault : OneFault
one_fault a Memory g nf ng f h = absurd (nf refl)
one_fault a f Memory nf ng h k = absurd (ng refl)
one_fault a (Wide (Poly i)) (Wide (Poly j)) nf ng f g = ap (λ (n : ℕ). Wide (Poly n)) (one_first a i j f g)
one_fault a (Wide (Poly i)) (Wide node) nf ng f g = absurd g
one_fault a (Wide node) g nf ng f h = absurd f

pub no_fault : NoFaultWhereAllFit
no_fault a Memory nf fit f = absurd (nf refl)
no_fault a (Wide (Poly j)) nf fit f = f.wide (fit j (omega (arith, f.inside)))
no_fault a (Wide node) nf fit f = absurd f
