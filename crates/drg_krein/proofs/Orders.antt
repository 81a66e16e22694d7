-- What holds of all i ≤ j and h before a place: one place more, one row more, all.
use Rattle.std.proofs.Common.{◌≡◌, ℕ, suc, ◌<◌, sym, subst, arith, ◌⊎◌, inl, inr}
use Rattle.std.proofs.lemmas.Bool.{cases_lt}
use Rattle.drg_krein.specs.Faults.{HoldsBefore, HoldsAll}

pub same_or_before : (m n : ℕ) → m < suc n → (m < n) ⊎ (m ≡ n)
same_or_before m n h =
    elim (cases_lt m n) [
      | inl less ↦ inl less
      | inr more ↦ inr (omega arith)
    ]

module _ (d : ℕ) (P : ℕ → ℕ → ℕ → Type 0) where
  pub before_none : HoldsBefore d P 0 0 0
  before_none i j h a b c (inl g) = absurd (omega arith)
  before_none i j h a b c (inr (e, inl g)) = absurd (omega arith)
  before_none i j h a b c (inr (e, inr (f, g))) = absurd (omega arith)

  -- no j below i counts
  pub before_start : (k : ℕ) → HoldsBefore d P k 0 0 → HoldsBefore d P k k 0
  before_start k before i j h a b c (inl g) = before i j h a b c (inl g)
  before_start k before i j h a b c (inr (e, inl g)) = absurd (omega arith)
  before_start k before i j h a b c (inr (e, inr (f, g))) = absurd (omega arith)

  pub before_next : (k l m n : ℕ) → n ≡ suc m → HoldsBefore d P k l m → P k l m → HoldsBefore d P k l n
  before_next k l m n s before here i j h a b c (inl g) = before i j h a b c (inl g)
  before_next k l m n s before here i j h a b c (inr (e, inl g)) = before i j h a b c (inr (e, inl g))
  before_next k l m n s before here i j h a b c (inr (e, inr (f, g))) =
      elim (same_or_before h m (omega arith)) [
        | inl less ↦ before i j h a b c (inr (e, inr (f, less)))
        | inr same ↦ subst (λ (x : ℕ). P x j h) (sym e) (subst (λ (x : ℕ). P k x h) (sym f) (subst (λ (x : ℕ). P k l x) (sym same) here))
      ]

  pub before_row : (k l m n : ℕ) → m ≡ suc d → n ≡ suc l → HoldsBefore d P k l m → HoldsBefore d P k n 0
  before_row k l m n s t before i j h a b c (inl g) = before i j h a b c (inl g)
  before_row k l m n s t before i j h a b c (inr (e, inl g)) =
      elim (same_or_before j l (omega arith)) [
        | inl less ↦ before i j h a b c (inr (e, inl less))
        | inr same ↦ before i j h a b c (inr (e, inr (same, omega arith)))
      ]
  before_row k l m n s t before i j h a b c (inr (e, inr (f, g))) = absurd (omega arith)

  pub before_first : (k l n : ℕ) → l ≡ suc d → n ≡ suc k → HoldsBefore d P k l 0 → HoldsBefore d P n 0 0
  before_first k l n s t before i j h a b c (inl g) =
      elim (same_or_before i k (omega arith)) [
        | inl less ↦ before i j h a b c (inl less)
        | inr same ↦ before i j h a b c (inr (same, inl (omega arith)))
      ]
  before_first k l n s t before i j h a b c (inr (e, inl g)) = absurd (omega arith)
  before_first k l n s t before i j h a b c (inr (e, inr (f, g))) = absurd (omega arith)

  pub before_all : (k : ℕ) → k ≡ suc d → HoldsBefore d P k 0 0 → HoldsAll d P
  before_all k s before i j h a b c = before i j h a b c (inl (omega arith))
