-- The rows of an array, base by base.
use Rattle.std.proofs.Common.{◌≡◌, ℕ, zero, suc, ◌+◌, ◌≤◌, ◌<◌, List, [], ◌∷◌, ◌++◌, length, refl, sym, ap, ap₂, subst, ◌∙◌, arith, ◌⊎◌, inl, inr}
use Rattle.std.specs.Prelude.{ℤ, pos, negsuc, neg_ℤ, ◌+ℤ◌, ◌-ℤ◌, ◌<ℤ◌, ◌≢◌, ◌↔◌, Contains, unsigned_abs}
use Rattle.std.proofs.lemmas.Bool.{cases_lt}
use Rattle.std.proofs.lemmas.Int.{ints}
use Rattle.std.proofs.lemmas.List.Elements.{Contains-append_left, Contains-push, Contains-push_cases}
use Rattle.drg_algebra.specs.Rational.{ℚ, whole}
use Rattle.drg_array.specs.Entries.{Entries, IsArray, b_at, diameter}
use Rattle.drg_fraction.specs.Fraction.{rational_of, one_fraction}
use Rattle.drg_fraction.specs.declared.fraction.Fraction.{Fraction}
use Rattle.drg_census.specs.Classical.{AreClassicalParameters, IsTried}
use Rattle.drg_census.specs.ClassicalRows.{AreClassicalRows, DoAscend, IsBelowAll, IsRow, base_of}
use Rattle.drg_census.specs.ClassicalWork.{AllPass, IsRefuted, IsWide, alpha_of, beta_of, steps}
use Rattle.drg_census.specs.Rows.{AreRowsBelow, IsPair, IsTheRow, NoRow}
use Rattle.drg_census.specs.declared.bases.ClassicalRow.{ClassicalRow}
use Rattle.drg_census.specs.declared.bases.ClassicalRow.TheVariants.{Holds, Wide}
use Rattle.drg_census.specs.declared.parameters.Parameters.{Parameters}
use Rattle.drg_census.proofs.ClassicalLaws.{one_pair, passing_are_parameters}
use Rattle.drg_census.proofs.StepLists.{pass_or_wide_not_refuted, wide_not_passing, wide_not_refuted}

-- ---- the row of one base
tried_of : (a : Entries) (row : ClassicalRow) → IsRow a row → IsTried a (base_of row)
tried_of a (Holds b alpha beta) is = is.0
tried_of a (Wide b) is = is.0

pub not_tried : (a : Entries) (b : ℤ) → (IsTried a b → ⊥) → NoRow a b
not_tried a b f row is e = f (subst (IsTried a) e (tried_of a row is))

module _ (a : Entries) (b : ℤ) (array : IsArray a) (some : 2 ≤ diameter a) (tried : IsTried a b) where
  pub refuted_has_none : IsRefuted (steps a b) → NoRow a b
  refuted_has_none r (Holds c alpha beta) is e = pass_or_wide_not_refuted (steps a b) r (subst (λ t. AllPass (steps a t)) e is.2)
  refuted_has_none r (Wide c) is e = wide_not_refuted (steps a b) (subst (λ t. IsWide (steps a t)) e is.1) r

  pub wide_row : IsWide (steps a b) → IsTheRow a b (Wide b)
  wide_row w = record { is = (tried, w); base = refl; alone = alone }
    where
      alone : (other : ClassicalRow) → IsRow a other → base_of other ≡ b → other ≡ Wide b
      alone (Holds c alpha beta) is e = absurd (wide_not_passing (steps a b) w (subst (λ t. AllPass (steps a t)) e is.2))
      alone (Wide c) is e = ap Wide e

  pub pair_row : (pair : Parameters) → IsPair a b pair → IsTheRow a b (Holds b pair.alpha pair.beta)
  pair_row pair p = record { is = (tried, here, p.pass); base = refl; alone = alone }
    where
      here : AreClassicalParameters a b (rational_of pair.alpha) (rational_of pair.beta)
      here = subst (λ t. AreClassicalParameters a b t (rational_of pair.beta)) (sym p.alpha)
          (subst (λ t. AreClassicalParameters a b (alpha_of a (whole b)) t) (sym p.beta) (passing_are_parameters a b array tried some p.pass))

      same : (c : ℤ) (alpha beta : Fraction) → c ≡ b → AreClassicalParameters a c (rational_of alpha) (rational_of beta) → Holds c alpha beta ≡ Holds b pair.alpha pair.beta
      same c alpha beta e has =
          let one = one_pair a b (rational_of alpha) (rational_of beta) array tried (subst (λ t. AreClassicalParameters a t (rational_of alpha) (rational_of beta)) e has) some in
          let x = one_fraction alpha pair.alpha (one.0 ∙ sym p.alpha) in
          let y = one_fraction beta pair.beta (one.1 ∙ sym p.beta) in
          λ i. Holds (e i) (x i) (y i)

      alone : (other : ClassicalRow) → IsRow a other → base_of other ≡ b → other ≡ Holds b pair.alpha pair.beta
      alone (Holds c alpha beta) is e = same c alpha beta e is.1
      alone (Wide c) is e = absurd (wide_not_passing (steps a b) (subst (λ t. IsWide (steps a t)) e is.1) p.pass)

-- ---- base by base
no_member : (row : ClassicalRow) → Contains [] row → ⊥
no_member row (i, l, e) = omega arith

low : (b : ℤ) (k : ℕ) → unsigned_abs b ≤ k → b <ℤ (pos 0 -ℤ pos k) → ⊥
low b k h l = omega (arith, ints, h, l)

pub none_below : (a : Entries) → AreRowsBelow a (pos 0 -ℤ pos (b_at a 0)) []
none_below a = record { exactly = λ row. (λ c. absurd (no_member row c), λ m. absurd (low (base_of row) (b_at a 0) (tried_of a row m.0).small m.1)); ascending = tt }

up_to_next : (x y : ℤ) → x <ℤ (y +ℤ pos 1) → (x ≡ y) ⊎ (x <ℤ y)
up_to_next (pos m) (pos n) h = elim (cases_lt m n) [
  | inl less ↦ inr (omega (arith, ints, less))
  | inr more ↦ inl (ap pos (let l : m < n + 1 = omega (arith, ints, h) in omega (arith, more, l)))
]
up_to_next (pos m) (negsuc n) h = absurd (omega (arith, ints, h))
up_to_next (negsuc m) (pos n) h = inr (omega (arith, ints))
up_to_next (negsuc m) (negsuc n) h = elim (cases_lt n m) [
  | inl less ↦ inr (omega (arith, ints, less))
  | inr more ↦ inl (ap negsuc (let l : n < m + 1 = omega (arith, ints, h) in omega (arith, more, l)))
]

later : (x y : ℤ) → x <ℤ y → x <ℤ (y +ℤ pos 1)
later x y h = omega (arith, ints, h)

here_below : (x y : ℤ) → x ≡ y → x <ℤ (y +ℤ pos 1)
here_below x y e = omega (arith, ints, e)

pub no_row_more : (a : Entries) (b : ℤ) (rows : List ClassicalRow) → AreRowsBelow a b rows → NoRow a b → AreRowsBelow a (b +ℤ pos 1) rows
no_row_more a b rows below none = record {
  exactly = λ row. (
    λ c. (let m = (below.exactly row).0 c in (m.0, later (base_of row) b m.1)),
    λ m. elim (up_to_next (base_of row) b m.1) [ inl e ↦ absurd (none row m.0 e) | inr l ↦ (below.exactly row).1 (m.0, l) ],
  );
  ascending = below.ascending;
}

ascend_more : (rows : List ClassicalRow) (row : ClassicalRow) → DoAscend rows → ((other : ClassicalRow) → Contains rows other → base_of other <ℤ base_of row)
    → DoAscend (rows ++ row ∷ [])
ascend_more [] row up h = (tt, tt)
ascend_more (r ∷ rows) row up h = (
  below_more rows up.0,
  ascend_more rows row up.1 (λ other c. h other (tail c)),
)
  where
    tail : {other : ClassicalRow} → Contains rows other → Contains (r ∷ rows) other
    tail (i, l, e) = (suc i, omega arith, e)

    below_more : (rs : List ClassicalRow) → IsBelowAll (base_of r) rs → IsBelowAll (base_of r) (rs ++ row ∷ [])
    below_more [] b = (h r (0, omega arith, refl), tt)
    below_more (x ∷ rs) b = (b.0, below_more rs b.1)

pub row_more : (a : Entries) (b : ℤ) (rows : List ClassicalRow) (row : ClassicalRow) → AreRowsBelow a b rows → IsTheRow a b row
    → AreRowsBelow a (b +ℤ pos 1) (rows ++ row ∷ [])
row_more a b rows row below the = record { exactly = exactly; ascending = ascend_more rows row below.ascending lower }
  where
    lower : (other : ClassicalRow) → Contains rows other → base_of other <ℤ base_of row
    lower other c = subst (λ t. base_of other <ℤ t) (sym the.base) ((below.exactly other).0 c).1

    exactly : (other : ClassicalRow) → Contains (rows ++ row ∷ []) other ↔ (IsRow a other × (base_of other <ℤ (b +ℤ pos 1)))
    exactly other = (to, from)
      where
        to : Contains (rows ++ row ∷ []) other → IsRow a other × (base_of other <ℤ (b +ℤ pos 1))
        to c = elim (Contains-push_cases rows row other c) [
          | inl s ↦ (let m = (below.exactly other).0 s in (m.0, later (base_of other) b m.1))
          | inr e ↦ subst (λ t. IsRow a t × (base_of t <ℤ (b +ℤ pos 1))) e (the.is, here_below (base_of row) b the.base)
        ]

        from : IsRow a other × (base_of other <ℤ (b +ℤ pos 1)) → Contains (rows ++ row ∷ []) other
        from m = elim (up_to_next (base_of other) b m.1) [
          | inl e ↦ subst (λ t. Contains (rows ++ row ∷ []) t) (sym (the.alone other m.0 e)) (Contains-push rows row)
          | inr l ↦ Contains-append_left rows (row ∷ []) other ((below.exactly other).1 (m.0, l))
        ]

high : (b : ℤ) (k : ℕ) → unsigned_abs b ≤ k → b <ℤ (pos k +ℤ pos 1)
high b k h = omega (arith, ints, h)

pub all_rows : (a : Entries) (rows : List ClassicalRow) → AreRowsBelow a (pos (b_at a 0) +ℤ pos 1) rows → AreClassicalRows a rows
all_rows a rows below = record {
  exactly = λ row. (λ c. ((below.exactly row).0 c).0, λ is. (below.exactly row).1 (is, high (base_of row) (b_at a 0) (tried_of a row is).small));
  ascending = below.ascending;
}
