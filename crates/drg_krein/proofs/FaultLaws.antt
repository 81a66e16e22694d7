-- One cause of a fault.
use Rattle.std.proofs.Common.{◌≡◌, ℕ, ◌<◌, refl, ap, sym, subst, arith, ◌⊎◌, inl, inr}
use Rattle.std.specs.Prelude.{◌≢◌}
use Rattle.std.proofs.lemmas.Bool.{cases_lt}
use Rattle.drg_array.specs.declared.node.Node.{Node}
use Rattle.drg_array.specs.declared.node.Node.TheVariants.{Krein, Kprod, Sign}
use Rattle.drg_fraction.specs.Operations.{Operations}
use Rattle.drg_krein.specs.Values.{FrameValues}
use Rattle.drg_krein.specs.Fits.{Fits}
use Rattle.drg_krein.specs.Faults.{HoldsAll, IsFirst, AllFit, IsFault}
use Rattle.drg_krein.specs.Laws.{OneFault, NoFaultWhereAllFit, FaultsDontFit}
use Rattle.drg_krein.specs.declared.fault.KreinFault.{KreinFault}
use Rattle.drg_krein.specs.declared.fault.KreinFault.TheVariants.{Wide, Memory}

-- less, the same, or more
compared : (m n : ℕ) → (m < n) ⊎ ((m ≡ n) ⊎ (n < m))
compared m n =
    elim (cases_lt m n) [
      | inl less ↦ inl less
      | inr more ↦ elim (cases_lt n m) [
        | inl less ↦ inr (inr less)
        | inr also ↦ inr (inl (omega arith))
      ]
    ]

module _ (d : ℕ) (P : ℕ → ℕ → ℕ → Type 0) where
  none : (k l m : ℕ) → IsFirst d P k l m → HoldsAll d P → ⊥
  none k l m h all = h.fails (all k l m h.ordered h.inside h.third)

  -- there is one first place at which P doesn't hold
  one_first : (i j h k l m : ℕ) → IsFirst d P i j h → IsFirst d P k l m → (i ≡ k) × ((j ≡ l) × (h ≡ m))
  one_first i j h k l m x y =
      elim (compared i k) [
        | inl less ↦ absurd (x.fails (y.before i j h x.ordered x.inside x.third (inl less)))
        | inr (inr more) ↦ absurd (y.fails (x.before k l m y.ordered y.inside y.third (inl more)))
        | inr (inl same) ↦ elim (compared j l) [
          | inl less ↦ absurd (x.fails (y.before i j h x.ordered x.inside x.third (inr (same, inl less))))
          | inr (inr more) ↦ absurd (y.fails (x.before k l m y.ordered y.inside y.third (inr (sym same, inl more))))
          | inr (inl also) ↦ elim (compared h m) [
            | inl less ↦ absurd (x.fails (y.before i j h x.ordered x.inside x.third (inr (same, inr (also, less)))))
            | inr (inr more) ↦ absurd (y.fails (x.before k l m y.ordered y.inside y.third (inr (sym same, inr (sym also, more)))))
            | inr (inl third) ↦ (same, (also, third))
          ]
        ]
      ]

module _ {V : Type 0} (o : Operations V) (f : FrameValues V) where
  named : (make : ℕ → ℕ → ℕ → Node) (i j h k l m : ℕ) → (i ≡ k) × ((j ≡ l) × (h ≡ m)) → Wide (make i j h) ≡ Wide (make k l m)
  named make i j h k l m e =
      subst (λ (x : ℕ). Wide (make i j h) ≡ Wide (make x l m)) e.0
      (subst (λ (x : ℕ). Wide (make i j h) ≡ Wide (make i x m)) e.1.0 (ap (λ (x : ℕ). Wide (make i j x)) e.1.1))

  one : (x y : KreinFault) → x ≢ Memory → y ≢ Memory → IsFault o f x → IsFault o f y → x ≡ y
  one Memory y p q a b = absurd (p refl)
  one (Wide (Krein i j h)) Memory p q a b = absurd (q refl)
  one (Wide (Kprod i j r)) Memory p q a b = absurd (q refl)
  one (Wide (Sign i j h)) Memory p q a b = absurd (q refl)
  one (Wide (Krein i j h)) (Wide (Krein k l m)) p q a b = named Krein i j h k l m (one_first _ (λ i j h. Fits o f (Krein i j h)) i j h k l m a b)
  one (Wide (Krein i j h)) (Wide (Kprod k l m)) p q a b = absurd (none _ _ i j h a b.numbers)
  one (Wide (Krein i j h)) (Wide (Sign k l m)) p q a b = absurd (none _ _ i j h a b.numbers)
  one (Wide (Kprod i j r)) (Wide (Krein k l m)) p q a b = absurd (none _ _ k l m b a.numbers)
  one (Wide (Kprod i j r)) (Wide (Kprod k l m)) p q a b = named Kprod i j r k l m (one_first _ (λ i j r. Fits o f (Kprod i j r)) i j r k l m a.first b.first)
  one (Wide (Kprod i j r)) (Wide (Sign k l m)) p q a b = absurd (none _ _ i j r a.first b.products)
  one (Wide (Sign i j h)) (Wide (Krein k l m)) p q a b = absurd (none _ _ k l m b a.numbers)
  one (Wide (Sign i j h)) (Wide (Kprod k l m)) p q a b = absurd (none _ _ k l m b.first a.products)
  one (Wide (Sign i j h)) (Wide (Sign k l m)) p q a b = named Sign i j h k l m (one_first _ (λ i j h. Fits o f (Sign i j h)) i j h k l m a.first b.first)
  one (Wide (Krein i j h)) (Wide other) p q a b = absurd b
  one (Wide (Kprod i j r)) (Wide other) p q a b = absurd b
  one (Wide (Sign i j h)) (Wide other) p q a b = absurd b
  one (Wide node) other p q a b = absurd a

  no_fault : (x : KreinFault) → x ≢ Memory → AllFit o f → IsFault o f x → ⊥
  no_fault Memory p all a = p refl
  no_fault (Wide (Krein i j h)) p all a = none _ _ i j h a all.numbers
  no_fault (Wide (Kprod i j r)) p all a = none _ _ i j r a.first all.products
  no_fault (Wide (Sign i j h)) p all a = none _ _ i j h a.first all.signs
  no_fault (Wide node) p all a = a

  not_fitting : (node : Node) → IsFault o f (Wide node) → ¬ (Fits o f node)
  not_fitting (Krein i j h) a = a.fails
  not_fitting (Kprod i j r) a = a.first.fails
  not_fitting (Sign i j h) a = a.first.fails
  not_fitting node a = absurd a

pub one_fault_holds : {V : Type 0} (o : Operations V) → OneFault o
one_fault_holds o f x y p q a b = one o f x y p q a b

pub no_fault_where_all_fit : {V : Type 0} (o : Operations V) → NoFaultWhereAllFit o
no_fault_where_all_fit o f x p all a = no_fault o f x p all a

pub faults_dont_fit : {V : Type 0} (o : Operations V) → FaultsDontFit o
faults_dont_fit o f node a = not_fitting o f node a
