-- The parameters in the tables meet the equations of Krein parameters.
use Rattle.std.proofs.Common.{◌≡◌, ℕ, suc, ◌≤◌, true, false, ap, sym, ◌∙◌, subst, arith, inl, inr}
use Rattle.std.specs.Prelude.{nat_lt}
use Rattle.std.proofs.lemmas.Bool.{cases_lt}
use Rattle.std.proofs.lemmas.Bool.Decides.{nat_tests}
use Rattle.drg_algebra.proofs.Totals.{same_sum}
use Rattle.drg_array.specs.Entries.{Entries, diameter}
use Rattle.drg_fraction.specs.Operations.{Operations}
use Rattle.drg_fraction.specs.Field.{IsExactField}
use Rattle.drg_matrix.specs.Krein.{AreKreinNumbers}
use Rattle.drg_matrices.specs.Values.{count_value}
use Rattle.drg_krein.specs.Values.{FrameValues}
use Rattle.drg_krein.specs.Formulas.{krein_number}
use Rattle.drg_krein.specs.Tables.{KreinTables, krein_in}
use Rattle.drg_krein.specs.Filling.{AreFull}

-- the formula for the diameter and the number of vertices of an array
module _ {V : Type 0} (o : Operations V) (u p q : ℕ → ℕ → V) where
  abbrev make : ℕ → V → FrameValues V
  make d n = record { d = d; n = n; u = u; p = p; q = q }

  pub numbers_of_array : (a : Entries) (d : ℕ) (n : V) → d ≡ diameter a → count_value o a ≡ n
      → AreKreinNumbers o (diameter a) q (λ h i j. krein_number o (make (diameter a) (count_value o a)) i j h)
      → AreKreinNumbers o d q (λ h i j. krein_number o (make d n) i j h)
  numbers_of_array a d n e s h =
      subst (λ x. AreKreinNumbers o d q (λ h i j. krein_number o (make d x) i j h)) s
      (subst (λ (m : ℕ). AreKreinNumbers o m q (λ h i j. krein_number o (make m (count_value o a)) i j h)) (sym e) h)

  pub symmetric_of_array : (a : Entries) (d : ℕ) (n : V) → d ≡ diameter a → count_value o a ≡ n
      → ((i j h : ℕ) → i ≤ diameter a → j ≤ diameter a → krein_number o (make (diameter a) (count_value o a)) i j h ≡ krein_number o (make (diameter a) (count_value o a)) j i h)
      → (i j h : ℕ) → i ≤ d → j ≤ d → krein_number o (make d n) i j h ≡ krein_number o (make d n) j i h
  symmetric_of_array a d n e s h =
      subst (λ x. (i j h : ℕ) → i ≤ d → j ≤ d → krein_number o (make d x) i j h ≡ krein_number o (make d x) j i h) s
      (subst (λ (m : ℕ). (i j h : ℕ) → i ≤ m → j ≤ m → krein_number o (make m (count_value o a)) i j h ≡ krein_number o (make m (count_value o a)) j i h) (sym e) h)

module _ {A V : Type 0} (value : A → V) (operations : ℕ → Operations V) (root : ℕ) (f : FrameValues V) (t : KreinTables A)
    (full : AreFull value operations root f t.tables (suc f.d))
    (symmetric : (i j h : ℕ) → i ≤ f.d → j ≤ f.d → krein_number (operations root) f i j h ≡ krein_number (operations root) f j i h) where
  krein_is : (i j h : ℕ) → i ≤ f.d → j ≤ f.d → h ≤ f.d → krein_in value operations t h i j ≡ krein_number (operations root) f i j h
  krein_is i j h a b c =
      elim (cases_lt j i) [
        | inl less ↦ (let test : nat_lt j i ≡ true = grind (arith, nat_tests) in
            rw test ((full.full j (omega arith)).values i h a c (inl (omega arith)) (omega arith) ∙ symmetric j i h b a))
        | inr more ↦ (let test : nat_lt j i ≡ false = grind (arith, nat_tests) in
            rw test ((full.full i (omega arith)).values j h b c (inl (omega arith)) more))
      ]

  pub tables_meet : IsExactField (operations root) root → AreKreinNumbers (operations root) f.d f.q (λ h i j. krein_number (operations root) f i j h)
      → AreKreinNumbers (operations root) f.d f.q (krein_in value operations t)
  tables_meet laws formula i j a b r c =
      formula i j a b r c
      ∙ same_sum laws.ring (suc f.d) (λ h. (operations root).times (krein_number (operations root) f i j h) (f.q r h)) (λ h. (operations root).times (krein_in value operations t h i j) (f.q r h))
      (λ h k. ap (λ x. (operations root).times x (f.q r h)) (sym (krein_is i j h a b (omega arith))))
