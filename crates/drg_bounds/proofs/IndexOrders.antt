-- The indices of the claims krein and absolute, walked in their order.
use Rattle.std.proofs.Common.{◌≡◌, ℕ, suc, ◌≤◌, sym, subst, arith, inl, inr}
use Rattle.std.specs.Prelude.{Some}
use Rattle.drg_array.specs.ClaimOrder.{ComesBefore}
use Rattle.drg_array.specs.declared.claim.Claim.{Claim}
use Rattle.drg_array.specs.declared.claim.Claim.TheVariants.{Krein, Absolute as AbsoluteClaim}
use Rattle.drg_fraction.specs.Operations.{Operations}
use Rattle.drg_krein.specs.Tables.{KreinTables}
use Rattle.drg_bounds.specs.KreinSigns.{TablesFailKrein}
use Rattle.drg_bounds.specs.Signs.{IsNegativeAt, NoneNegativeBefore, IsFirstNegative}
use Rattle.drg_bounds.specs.AbsoluteBound.{BoundValues, IsExceeded, FailsAbsolute}
use Rattle.drg_bounds.specs.AbsoluteFits.{AbsoluteFits, PassBefore, FitUpTo, IsFirstClaim}
use Rattle.drg_bounds.proofs.Segments.{same_or_before}

-- ---- i ≤ j ≤ h
module _ {A V : Type 0} (value : A → V) (operations : ℕ → Operations V) (t : KreinTables A) where
  abbrev NoneBefore : ℕ → ℕ → ℕ → Type 0
  NoneBefore = NoneNegativeBefore value operations t

  pub negative_none : NoneBefore 1 0 0
  negative_none i j h a b c e (inl g) n = absurd (omega arith)
  negative_none i j h a b c e (inr (p, inl g)) n = absurd (omega arith)
  negative_none i j h a b c e (inr (p, inr (q, g))) n = absurd (omega arith)

  pub negative_second : (k : ℕ) → NoneBefore k 0 0 → NoneBefore k k 0
  negative_second k before i j h a b c e (inl g) = before i j h a b c e (inl g)
  negative_second k before i j h a b c e (inr (p, inl g)) = absurd (omega arith)
  negative_second k before i j h a b c e (inr (p, inr (q, g))) = absurd (omega arith)

  pub negative_third : (k l : ℕ) → NoneBefore k l 0 → NoneBefore k l l
  negative_third k l before i j h a b c e (inl g) = before i j h a b c e (inl g)
  negative_third k l before i j h a b c e (inr (p, inl g)) = before i j h a b c e (inr (p, inl g))
  negative_third k l before i j h a b c e (inr (p, inr (q, g))) = absurd (omega arith)

  pub negative_next : (k l m n : ℕ) → n ≡ suc m → NoneBefore k l m → ¬ (IsNegativeAt value operations t k l m) → NoneBefore k l n
  negative_next k l m n s before here i j h a b c e (inl g) = before i j h a b c e (inl g)
  negative_next k l m n s before here i j h a b c e (inr (p, inl g)) = before i j h a b c e (inr (p, inl g))
  negative_next k l m n s before here i j h a b c e (inr (p, inr (q, g))) =
      elim (same_or_before h m (omega arith)) [
        | inl less ↦ before i j h a b c e (inr (p, inr (q, less)))
        | inr same ↦ (λ x. here (subst (λ (y : ℕ). IsNegativeAt value operations t y l m) p
            (subst (λ (y : ℕ). IsNegativeAt value operations t i y m) q (subst (λ (y : ℕ). IsNegativeAt value operations t i j y) same x))))
      ]

  pub negative_row : (k l m n : ℕ) → m ≡ suc t.d → n ≡ suc l → NoneBefore k l m → NoneBefore k n 0
  negative_row k l m n s u before i j h a b c e (inl g) = before i j h a b c e (inl g)
  negative_row k l m n s u before i j h a b c e (inr (p, inl g)) =
      elim (same_or_before j l (omega arith)) [
        | inl less ↦ before i j h a b c e (inr (p, inl less))
        | inr same ↦ before i j h a b c e (inr (p, inr (same, omega arith)))
      ]
  negative_row k l m n s u before i j h a b c e (inr (p, inr (q, g))) = absurd (omega arith)

  pub negative_first : (k l n : ℕ) → l ≡ suc t.d → n ≡ suc k → NoneBefore k l 0 → NoneBefore n 0 0
  negative_first k l n s u before i j h a b c e (inl g) =
      elim (same_or_before i k (omega arith)) [
        | inl less ↦ before i j h a b c e (inl less)
        | inr same ↦ before i j h a b c e (inr (same, inl (omega arith)))
      ]
  negative_first k l n s u before i j h a b c e (inr (p, inl g)) = absurd (omega arith)
  negative_first k l n s u before i j h a b c e (inr (p, inr (q, g))) = absurd (omega arith)

  abbrev Fails : Claim → Type 0
  Fails = TablesFailKrein value operations t

  pub negative_all : (k : ℕ) → k ≡ suc t.d → NoneBefore k 0 0 → (claim : Claim) → Fails claim → ⊥
  negative_all k s before (Krein i j h) f =
      let inside = f.3 in let third = f.2 in let ordered = f.1 in
      before i j h f.0 f.1 f.2 f.3 (inl (omega arith)) f.4
  negative_all k s before claim f = absurd f

  pub negative_fails : (claim : Claim) → IsFirstNegative value operations t claim → Fails claim
  negative_fails (Krein i j h) f = (f.some, f.ordered, f.third, f.inside, f.negative)
  negative_fails claim f = absurd f

  pub negative_earlier : (claim : Claim) → IsFirstNegative value operations t claim → (earlier : Claim) → ComesBefore earlier claim → Fails earlier → ⊥
  negative_earlier (Krein k l m) f (Krein i j h) (inl less) n = absurd (omega arith)
  negative_earlier (Krein k l m) f (Krein i j h) (inr (e, inl less)) n = f.before i j h n.0 n.1 n.2 n.3 (inl less) n.4
  negative_earlier (Krein k l m) f (Krein i j h) (inr (e, inr (p, inl less))) n = f.before i j h n.0 n.1 n.2 n.3 (inr (p, inl less)) n.4
  negative_earlier (Krein k l m) f (Krein i j h) (inr (e, inr (p, inr (q, inl less)))) n = f.before i j h n.0 n.1 n.2 n.3 (inr (p, inr (q, less))) n.4
  negative_earlier (Krein k l m) f (Krein i j h) (inr (e, inr (p, inr (q, inr (r, none))))) n = absurd none
  negative_earlier (Krein k l m) f earlier before n = absurd n
  negative_earlier claim f earlier before n = absurd f

-- ---- i ≤ j
module _ {V : Type 0} (o : Operations V) (b : BoundValues V) where
  abbrev Pass : ℕ → ℕ → Type 0
  Pass = PassBefore o b

  pub pass_none : Pass 1 0
  pass_none i j p q r (inl g) = absurd (omega arith)
  pass_none i j p q r (inr (e, g)) = absurd (omega arith)

  pub pass_second : (k : ℕ) → Pass k 0 → Pass k k
  pass_second k before i j p q r (inl g) = before i j p q r (inl g)
  pass_second k before i j p q r (inr (e, g)) = absurd (omega arith)

  pub pass_next : (k l n : ℕ) → n ≡ suc l → Pass k l → AbsoluteFits o b k l → ¬ (IsExceeded o b k l) → Pass k n
  pass_next k l n s before fits not i j p q r (inl g) = before i j p q r (inl g)
  pass_next k l n s before fits not i j p q r (inr (e, g)) =
      elim (same_or_before j l (omega arith)) [
        | inl less ↦ before i j p q r (inr (e, less))
        | inr same ↦ subst (λ (x : ℕ). AbsoluteFits o b x j × (¬ (IsExceeded o b x j))) (sym e)
            (subst (λ (x : ℕ). AbsoluteFits o b k x × (¬ (IsExceeded o b k x))) (sym same) (fits, not))
      ]

  pub pass_row : (k l n : ℕ) → l ≡ suc b.d → n ≡ suc k → Pass k l → Pass n 0
  pass_row k l n s u before i j p q r (inl g) =
      elim (same_or_before i k (omega arith)) [
        | inl less ↦ before i j p q r (inl less)
        | inr same ↦ before i j p q r (inr (same, omega arith))
      ]
  pass_row k l n s u before i j p q r (inr (e, g)) = absurd (omega arith)

  pub pass_all_fit : (k : ℕ) → k ≡ suc b.d → Pass k 0 → (i j : ℕ) → 1 ≤ i → i ≤ j → j ≤ b.d → AbsoluteFits o b i j
  pass_all_fit k s before i j p q r = (before i j p q r (inl (omega arith))).0

  pub pass_all : (k : ℕ) → k ≡ suc b.d → Pass k 0 → (claim : Claim) → FailsAbsolute o b claim → ⊥
  pass_all k s before (AbsoluteClaim i j) f =
      let inside = f.2 in let ordered = f.1 in
      (before i j f.0 f.1 f.2 (inl (omega arith))).1 f.3
  pass_all k s before claim f = absurd f

  pub exceeded_fails : (claim : Claim) → IsFirstClaim o b claim → FailsAbsolute o b claim
  exceeded_fails (AbsoluteClaim k l) f = (f.some, f.ordered, f.inside, f.exceeded)
  exceeded_fails claim f = absurd f

  pub exceeded_earlier : (claim : Claim) → IsFirstClaim o b claim → (earlier : Claim) → ComesBefore earlier claim → FailsAbsolute o b earlier → ⊥
  exceeded_earlier (AbsoluteClaim k l) f (AbsoluteClaim i j) (inl less) n = absurd (omega arith)
  exceeded_earlier (AbsoluteClaim k l) f (AbsoluteClaim i j) (inr (e, inl less)) n = (f.before i j n.0 n.1 n.2 (inl less)).1 n.3
  exceeded_earlier (AbsoluteClaim k l) f (AbsoluteClaim i j) (inr (e, inr (p, inl less))) n = (f.before i j n.0 n.1 n.2 (inr (p, less))).1 n.3
  exceeded_earlier (AbsoluteClaim k l) f (AbsoluteClaim i j) (inr (e, inr (p, inr (q, none)))) n = absurd none
  exceeded_earlier (AbsoluteClaim k l) f earlier before n = absurd n
  exceeded_earlier claim f earlier before n = absurd f

  pub exceeded_fit : (claim : Claim) → IsFirstClaim o b claim → FitUpTo o b (Some claim)
  exceeded_fit (AbsoluteClaim k l) f = (f.fits, f.before)
  exceeded_fit claim f = absurd f
