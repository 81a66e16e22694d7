-- One cause of a fault.
use Rattle.std.proofs.Common.{◌≡◌, ℕ, ◌<◌, refl, ap, ap₂, sym, arith, ◌⊎◌, inl, inr}
use Rattle.std.specs.Prelude.{◌≢◌}
use Rattle.std.proofs.lemmas.Bool.{cases_lt}
use Rattle.drg_array.specs.Entries.{Entries}
use Rattle.drg_array.specs.declared.node.Node.{Node}
use Rattle.drg_array.specs.declared.node.Node.TheVariants.{U, M, Qrow, Rec, Pq}
use Rattle.drg_fraction.specs.Operations.{Operations}
use Rattle.drg_matrices.specs.Fits.{Fits}
use Rattle.drg_matrices.specs.Faults.{HoldsAll, IsFirst, IsFirstMultiplicity, AllFit, IsFault}
use Rattle.drg_matrices.specs.Laws.{OneFault, NoFaultWhereAllFit, FaultsDontFit}
use Rattle.drg_matrices.specs.declared.fault.FrameFault.{FrameFault}
use Rattle.drg_matrices.specs.declared.fault.FrameFault.TheVariants.{Wide, Memory}

-- less, the same, or more
compared : (m n : ℕ) → (m < n) ⊎ ((m ≡ n) ⊎ (n < m))
compared m n =
    elim (cases_lt m n) [
      | inl less ↦ inl less
      | inr more ↦ elim (cases_lt n m) [
        | inl less ↦ inr (inr less)
        | inr also ↦ inr (inl (omega arith))
      ]
    ]

module _ (n : ℕ) (P : ℕ → ℕ → Type 0) where
  none : (k l : ℕ) → IsFirst n P k l → HoldsAll n P → ⊥
  none k l h all = h.fails (all k l h.row h.col)

  -- there is one first place at which P doesn't hold
  one_first : (i j k l : ℕ) → IsFirst n P i j → IsFirst n P k l → (i ≡ k) × (j ≡ l)
  one_first i j k l h g =
      elim (compared i k) [
        | inl less ↦ absurd (h.fails (g.before i j h.col (inl less)))
        | inr (inr more) ↦ absurd (g.fails (h.before k l g.col (inl more)))
        | inr (inl same) ↦ elim (compared j l) [
          | inl less ↦ absurd (h.fails (g.before i j h.col (inr (same, less))))
          | inr (inr more) ↦ absurd (g.fails (h.before k l g.col (inr (sym same, more))))
          | inr (inl also) ↦ (same, also)
        ]
      ]

module _ {V : Type 0} (o : Operations V) (a : Entries) (theta : ℕ → V) where
  one_multiplicity : (i k : ℕ) → IsFirstMultiplicity o a theta i → IsFirstMultiplicity o a theta k → i ≡ k
  one_multiplicity i k h g =
      elim (compared i k) [
        | inl less ↦ absurd (h.fails (g.before i less))
        | inr (inl same) ↦ same
        | inr (inr more) ↦ absurd (g.fails (h.before k more))
      ]

  named : (make : ℕ → ℕ → Node) (i j k l : ℕ) → (i ≡ k) × (j ≡ l) → Wide (make i j) ≡ Wide (make k l)
  named make i j k l e = ap₂ (λ (x y : ℕ). Wide (make x y)) e.0 e.1

  one : (f g : FrameFault) → f ≢ Memory → g ≢ Memory → IsFault o a theta f → IsFault o a theta g → f ≡ g
  one Memory g p q h k = absurd (p refl)
  one (Wide (U i r)) Memory p q h k = absurd (q refl)
  one (Wide (M i)) Memory p q h k = absurd (q refl)
  one (Wide (Qrow r i)) Memory p q h k = absurd (q refl)
  one (Wide (Rec i j)) Memory p q h k = absurd (q refl)
  one (Wide (Pq i j)) Memory p q h k = absurd (q refl)
  one (Wide (U i r)) (Wide (U l s)) p q h k = named U i r l s (one_first _ (λ i r. Fits o a theta (U i r)) i r l s h k)
  one (Wide (U i r)) (Wide (M l)) p q h k = absurd (none _ _ i r h k.cosines)
  one (Wide (U i r)) (Wide (Qrow s l)) p q h k = absurd (none _ _ i r h k.reached.cosines)
  one (Wide (U i r)) (Wide (Rec l m)) p q h k = absurd (none _ _ i r h k.reached.reached.cosines)
  one (Wide (U i r)) (Wide (Pq l m)) p q h k = absurd (none _ _ i r h k.reached.reached.reached.cosines)
  one (Wide (M i)) (Wide (U l s)) p q h k = absurd (none _ _ l s k h.cosines)
  one (Wide (M i)) (Wide (M l)) p q h k = ap (λ (x : ℕ). Wide (M x)) (one_multiplicity i l h k)
  one (Wide (M i)) (Wide (Qrow s l)) p q h k = absurd (h.fails (k.reached.multiplicities i h.inside))
  one (Wide (M i)) (Wide (Rec l m)) p q h k = absurd (h.fails (k.reached.reached.multiplicities i h.inside))
  one (Wide (M i)) (Wide (Pq l m)) p q h k = absurd (h.fails (k.reached.reached.reached.multiplicities i h.inside))
  one (Wide (Qrow r i)) (Wide (U l s)) p q h k = absurd (none _ _ l s k h.reached.cosines)
  one (Wide (Qrow r i)) (Wide (M l)) p q h k = absurd (k.fails (h.reached.multiplicities l k.inside))
  one (Wide (Qrow r i)) (Wide (Qrow s l)) p q h k = named Qrow r i s l (one_first _ (λ r i. Fits o a theta (Qrow r i)) r i s l h.first k.first)
  one (Wide (Qrow r i)) (Wide (Rec l m)) p q h k = absurd (none _ _ r i h.first k.reached.dual)
  one (Wide (Qrow r i)) (Wide (Pq l m)) p q h k = absurd (none _ _ r i h.first k.reached.reached.dual)
  one (Wide (Rec i j)) (Wide (U l s)) p q h k = absurd (none _ _ l s k h.reached.reached.cosines)
  one (Wide (Rec i j)) (Wide (M l)) p q h k = absurd (k.fails (h.reached.reached.multiplicities l k.inside))
  one (Wide (Rec i j)) (Wide (Qrow s l)) p q h k = absurd (none _ _ s l k.first h.reached.dual)
  one (Wide (Rec i j)) (Wide (Rec l m)) p q h k = named Rec i j l m (one_first _ (λ i j. Fits o a theta (Rec i j)) i j l m h.first k.first)
  one (Wide (Rec i j)) (Wide (Pq l m)) p q h k = absurd (none _ _ i j h.first k.reached.recurrences)
  one (Wide (Pq i j)) (Wide (U l s)) p q h k = absurd (none _ _ l s k h.reached.reached.reached.cosines)
  one (Wide (Pq i j)) (Wide (M l)) p q h k = absurd (k.fails (h.reached.reached.reached.multiplicities l k.inside))
  one (Wide (Pq i j)) (Wide (Qrow s l)) p q h k = absurd (none _ _ s l k.first h.reached.reached.dual)
  one (Wide (Pq i j)) (Wide (Rec l m)) p q h k = absurd (none _ _ l m k.first h.reached.recurrences)
  one (Wide (Pq i j)) (Wide (Pq l m)) p q h k = named Pq i j l m (one_first _ (λ i j. Fits o a theta (Pq i j)) i j l m h.first k.first)
  one (Wide (U i r)) (Wide other) p q h k = absurd k
  one (Wide (M i)) (Wide other) p q h k = absurd k
  one (Wide (Qrow r i)) (Wide other) p q h k = absurd k
  one (Wide (Rec i j)) (Wide other) p q h k = absurd k
  one (Wide (Pq i j)) (Wide other) p q h k = absurd k
  one (Wide node) other p q h k = absurd h

  no_fault : (f : FrameFault) → f ≢ Memory → AllFit o a theta → IsFault o a theta f → ⊥
  no_fault Memory p all h = p refl
  no_fault (Wide (U i r)) p all h = none _ _ i r h all.reached.reached.reached.cosines
  no_fault (Wide (M i)) p all h = h.fails (all.reached.reached.reached.multiplicities i h.inside)
  no_fault (Wide (Qrow r i)) p all h = none _ _ r i h.first all.reached.reached.dual
  no_fault (Wide (Rec i j)) p all h = none _ _ i j h.first all.reached.recurrences
  no_fault (Wide (Pq i j)) p all h = none _ _ i j h.first all.product
  no_fault (Wide node) p all h = h

  not_fitting : (node : Node) → IsFault o a theta (Wide node) → ¬ (Fits o a theta node)
  not_fitting (U i r) h = h.fails
  not_fitting (M i) h = h.fails
  not_fitting (Qrow r i) h = h.first.fails
  not_fitting (Rec i j) h = h.first.fails
  not_fitting (Pq i j) h = h.first.fails
  not_fitting node h = absurd h

pub one_fault_holds : {V : Type 0} (o : Operations V) → OneFault o
one_fault_holds o a theta f g p q h k = one o a theta f g p q h k

pub no_fault_where_all_fit : {V : Type 0} (o : Operations V) → NoFaultWhereAllFit o
no_fault_where_all_fit o a theta f p all h = no_fault o a theta f p all h

pub faults_dont_fit : {V : Type 0} (o : Operations V) → FaultsDontFit o
faults_dont_fit o a theta node h = not_fitting o a theta node h
