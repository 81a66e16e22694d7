-- The multiplicities that the absolute bound counts, one place after the other, and their sum.
use Rattle.std.proofs.Common.{◌≡◌, ℕ, zero, suc, ◌+◌, ◌-◌, true, false, List, [], ◌∷◌, refl, sym, ap, ap₂, ◌∙◌, arith, inl, inr}
use Rattle.std.specs.Prelude.{ℤ, ◌≢◌, ◌⊎◌, fold, if◌then◌else◌}
use Rattle.drg_algebra.specs.Ring.{CommutativeRing}
use Rattle.drg_algebra.specs.Tables.{total, list_sum}
use Rattle.drg_algebra.proofs.Tests.{decided, never}
use Rattle.drg_algebra.proofs.Totals.{same_sum}
use Rattle.drg_fraction.specs.Operations.{Operations}
use Rattle.drg_fraction.specs.Field.{sum_of, sums_fit, sums_fit_from}
use Rattle.drg_quadratic.specs.Values.{IsRoot, Value, nil, plus}
use Rattle.drg_quadratic.specs.Operations.{value_operations}
use Rattle.drg_quadratic.specs.Laws.{value_laws}
use Rattle.drg_replay.specs.FieldNumbers.{value_at}
use Rattle.drg_replay.specs.KreinClaims.{vanishes, counted_from}
use Rattle.drg_replay.proofs.SumLaws.{ring, sum_of_list}
use Rattle.drg_replay.proofs.ValueLaws.{same_value}

module _ (root : ℕ) (m numbers : List ℤ) where
  pub counted_end : (h left : ℕ) → left ≡ 0 → counted_from root m numbers h left ≡ []
  unfolding counted_from
  counted_end h zero e = refl
  counted_end h (suc n) e = absurd (omega arith)

  pub counted_skip : (h left : ℕ) → left ≢ 0 → vanishes root numbers h ≡ true → counted_from root m numbers h left ≡ counted_from root m numbers (h + 1) (left - 1)
  unfolding counted_from
  counted_skip h zero e v = absurd (e refl)
  counted_skip h (suc n) e v =
      let place : suc h ≡ h + 1 = omega arith in
      let count : suc n - 1 ≡ n = omega arith in
      rw (v, count, sym place) refl

  pub counted_next : (h left : ℕ) → left ≢ 0 → vanishes root numbers h ≡ false → counted_from root m numbers h left ≡ value_at root m h ∷ counted_from root m numbers (h + 1) (left - 1)
  unfolding counted_from
  counted_next h zero e v = absurd (e refl)
  counted_next h (suc n) e v =
      let place : suc h ≡ h + 1 = omega arith in
      let count : suc n - 1 ≡ n = omega arith in
      rw (v, count, sym place) refl

  -- the sum of all that are counted, one place after the other
  abbrev o : Operations Value
  o = value_operations root

  pub fits_end : (h left : ℕ) → left ≡ 0 → sums_fit o (counted_from root m numbers h left) ≡ true
  fits_end h left e = ap (sums_fit o) (counted_end h left e)

  pub sum_end : (h left : ℕ) → left ≡ 0 → sum_of o (counted_from root m numbers h left) ≡ nil
  sum_end h left e = ap (sum_of o) (counted_end h left e)

  pub fits_skip : (h left : ℕ) → left ≢ 0 → vanishes root numbers h ≡ true → sums_fit o (counted_from root m numbers h left) ≡ sums_fit o (counted_from root m numbers (h + 1) (left - 1))
  fits_skip h left e v = ap (sums_fit o) (counted_skip h left e v)

  pub sum_skip : (h left : ℕ) → left ≢ 0 → vanishes root numbers h ≡ true → sum_of o (counted_from root m numbers h left) ≡ sum_of o (counted_from root m numbers (h + 1) (left - 1))
  sum_skip h left e v = ap (sum_of o) (counted_skip h left e v)

  pub fits_first : (h left : ℕ) → left ≢ 0 → vanishes root numbers h ≡ false → sums_fit o (counted_from root m numbers h left) ≡ sums_fit_from o (value_at root m h) (counted_from root m numbers (h + 1) (left - 1))
  fits_first h left e v = ap (sums_fit o) (counted_next h left e v)

  pub sum_first : (h left : ℕ) → left ≢ 0 → vanishes root numbers h ≡ false → sum_of o (counted_from root m numbers h left) ≡ fold plus (value_at root m h) (counted_from root m numbers (h + 1) (left - 1))
  sum_first h left e v = ap (sum_of o) (counted_next h left e v)

  -- what the place h counts for
  abbrev pub counted : ℕ → Value
  counted h = if vanishes root numbers h then nil else value_at root m h

  pub counted_vanishing : (h : ℕ) → value_at root numbers h ≡ nil → counted h ≡ nil
  counted_vanishing h e = let v = (same_value (value_at root numbers h) nil).1 e in rw v refl

  pub counted_others : (h : ℕ) → ¬ (value_at root numbers h ≡ nil) → counted h ≡ value_at root m h
  counted_others h f = by (decided (vanishes root numbers h))
    where
      by : (vanishes root numbers h ≡ true) ⊎ (vanishes root numbers h ≡ false) → counted h ≡ value_at root m h
      by (inl v) = absurd (f ((same_value (value_at root numbers h) nil).0 v))
      by (inr v) = rw v refl

  module _ (is_root : IsRoot root) where
    abbrev values : CommutativeRing
    values = ring (value_operations root) (value_laws root is_root).ring

    nil_first : (x : Value) → x ≡ plus nil x
    nil_first x = let r = values.laws in sym (r.plus_comm nil x ∙ r.plus_nil x)

    counted_sum : (h n : ℕ) → list_sum values (counted_from root m numbers h n) ≡ total nil plus n (λ l. counted (h + l))
    unfolding counted_from
    counted_sum h zero = refl
    counted_sum h (suc n) = by (decided (vanishes root numbers h)) (counted_sum (suc h) n)
      where
        rest : list_sum values (counted_from root m numbers (suc h) n) ≡ total nil plus n (λ l. counted (suc h + l))
            → list_sum values (counted_from root m numbers (suc h) n) ≡ total nil plus n (λ l. counted (h + suc l))
        rest sum = sum ∙ same_sum values.laws n (λ l. counted (suc h + l)) (λ l. counted (h + suc l)) (λ l less. ap counted (omega arith))

        first : counted h ≡ counted (h + 0)
        first = ap counted (omega arith)

        skip : vanishes root numbers h ≡ true → counted_from root m numbers h (suc n) ≡ counted_from root m numbers (suc h) n
        skip v = rw v refl

        next : vanishes root numbers h ≡ false → counted_from root m numbers h (suc n) ≡ value_at root m h ∷ counted_from root m numbers (suc h) n
        next v = rw v refl

        by : (vanishes root numbers h ≡ true) ⊎ (vanishes root numbers h ≡ false)
            → list_sum values (counted_from root m numbers (suc h) n) ≡ total nil plus n (λ l. counted (suc h + l))
            → list_sum values (counted_from root m numbers h (suc n)) ≡ plus (counted (h + 0)) (total nil plus n (λ l. counted (h + suc l)))
        by (inl v) sum =
            let none : nil ≡ counted (h + 0) = sym (counted_vanishing h ((same_value (value_at root numbers h) nil).0 v)) ∙ first in
            ap (λ xs. list_sum values xs) (skip v) ∙ (nil_first (list_sum values (counted_from root m numbers (suc h) n)) ∙ ap₂ plus none (rest sum))
        by (inr v) sum =
            let some : value_at root m h ≡ counted (h + 0) =
            sym (counted_others h (λ e. never (vanishes root numbers h) ((same_value (value_at root numbers h) nil).1 e) v)) ∙ first in
            ap (λ xs. list_sum values xs) (next v) ∙ ap₂ plus some (rest sum)

    -- the sum from left to right is the sum over all places
    pub counted_total : (d : ℕ) → sum_of (value_operations root) (counted_from root m numbers 0 (d + 1)) ≡ total nil plus (suc d) counted
    counted_total d =
        let side : d + 1 ≡ suc d = omega arith in
        sum_of_list (value_operations root) values.laws (counted_from root m numbers 0 (d + 1))
        ∙ counted_sum 0 (d + 1)
        ∙ same_sum values.laws (d + 1) (λ l. counted (0 + l)) counted (λ l less. ap counted (omega arith))
        ∙ ap (λ (n : ℕ). total nil plus n counted) side
