-- The test of a root finds the squarefree numbers.
use Rattle.std.proofs.Common.{◌≡◌, ℕ, zero, suc, ◌+◌, ◌*◌, ◌%◌, ◌<◌, ◌≤◌, Bool, true, false, refl, sym, ap, subst, arith, inl, inr, ℤ, pos, negsuc}
use Rattle.std.specs.Prelude.{◌&&◌, ◌⊎◌, not, nat_eq, nat_lt, int_le, unsigned_abs}
use Rattle.std.specs.Int.{◌∣◌}
use Rattle.std.specs.Ordering.{int_eq}
use Rattle.std.proofs.lemmas.Bool.Decides.{nat_tests, Decides-int_eq}
use Rattle.std.proofs.lemmas.Int.{ints}
use Rattle.std.proofs.lemmas.Nat.{mul-le}
use Rattle.std.proofs.lemmas.Nat.Gcd.{le_of_dvd, dvd_of_mod-eq-zero, mod-eq-zero_of_dvd}
use Rattle.drg_algebra.specs.Root.{IsSquarefree}
use Rattle.drg_algebra.proofs.Tests.{both, either, and-in, or-left, or-right}
use Rattle.drg_quadratic.specs.Values.{IsRoot}
use Rattle.drg_replay.specs.Indices.{is_index}
use Rattle.drg_replay.specs.Roots.{has_no_square, is_root, IsSquarefreeRoot, RootLaw}
use Rattle.drg_replay.proofs.StepLaws.{not_met, is_less, is_same, are_same}
use Rattle.drg_replay.proofs.RowLaws.{two_cases}

-- a number up to m + 1 that passes
passes : (n m : ℕ) → has_no_square n m ≡ true → (k : ℕ) → k < m → (k + 2) * (k + 2) ∣ n → ⊥
unfolding has_no_square
passes n zero h k less d = absurd (omega arith)
passes n (suc m) h k less d =
    let parts = both (has_no_square n m) (not (nat_eq (n % ((m + 2) * (m + 2))) 0)) h in
    elim (two_cases k m less) [
      | inl same ↦ (let D : ℕ → Type 0 = λ j. (j + 2) * (j + 2) ∣ n in
          not_met _ parts.1 (are_same _ _ (mod-eq-zero_of_dvd ((m + 2) * (m + 2)) (subst D same d))))
      | inr before ↦ passes n m parts.0 k before d
    ]

no_rest : (n k : ℕ) (b : Bool) → nat_eq (n % k) 0 ≡ b → ¬ (k ∣ n) → not b ≡ true
no_rest n k true e free = absurd (free (dvd_of_mod-eq-zero k (is_same _ _ e)))
no_rest n k false e free = refl

fails : (n m : ℕ) → IsSquarefree n → has_no_square n m ≡ true
unfolding has_no_square
fails n zero free = refl
fails n (suc m) free = and-in _ _ (fails n m free) (no_rest n ((m + 2) * (m + 2)) _ refl (free.free (m + 2) (omega arith)))

at_least : (a b : ℕ) → nat_lt a b ≡ false → b ≤ a
at_least a b h = grind (arith, nat_tests)

below_limit : (j n : ℕ) → (j + 2) * (j + 2) ≤ n → n ≤ 4294967295 → j < 65534
below_limit j n small high = by (nat_lt j 65534) refl where
  by : (b : Bool) → nat_lt j 65534 ≡ b → j < 65534
  by true e = is_less j 65534 e
  by false e =
      let large = at_least j 65534 e in
      let square = mul-le 65536 65536 (j + 2) (j + 2) (omega (arith, large)) (omega (arith, large)) in
      absurd (omega (arith, square, small, high))

free_at : (n : ℕ) → 0 < n → n ≤ 4294967295 → has_no_square n 65534 ≡ true → (k : ℕ) → 1 < k → ¬ (k * k ∣ n)
free_at n positive high h zero low d = absurd (omega arith)
free_at n positive high h (suc zero) low d = absurd (omega arith)
free_at n positive high h (suc (suc j)) low d =
    let two : suc (suc j) ≡ j + 2 = omega arith in
    let here = subst (λ (x : ℕ). x * x ∣ n) two d in
    passes n 65534 h j (below_limit j n (le_of_dvd positive here) high) here

found : (root : ℤ) → is_index 2 root 4294967295 ≡ true → has_no_square (unsigned_abs root) 65534 ≡ true → IsSquarefreeRoot root
found (pos n) inside h =
    let range = both (int_le (pos 2) (pos n)) (int_le (pos n) (pos 4294967295)) inside in
    let low : 1 < n = let r = range.0 in omega (arith, ints, r) in
    let high : n ≤ 4294967295 = let r = range.1 in omega (arith, ints, r) in
    record { number = n; is = refl; low = low; high = high; free = record { free = free_at n (omega (arith, low)) high h } }
found (negsuc n) inside h = absurd (let low = (both (int_le (pos 2) (negsuc n)) (int_le (negsuc n) (pos 4294967295)) inside).0 in cc)

whole_at_most : (m n : ℕ) → m ≤ n → int_le (pos m) (pos n) ≡ true
whole_at_most m n h = by (int_le (pos m) (pos n)) refl where
  by : (b : Bool) → int_le (pos m) (pos n) ≡ b → b ≡ true
  by true e = refl
  by false e = absurd (omega (arith, ints))

taken : (root : ℤ) → (root ≡ pos 0) ⊎ IsSquarefreeRoot root → is_root root ≡ true
taken root (inl e) = or-left _ _ ((Decides-int_eq root (pos 0)).1 e)
taken root (inr r) =
    let low = r.low in
    subst (λ z. is_root z ≡ true) (sym r.is)
    (or-right (int_eq (pos r.number) (pos 0)) _ (and-in _ _ (and-in _ _ (whole_at_most 2 r.number (omega (arith, low))) (whole_at_most r.number 4294967295 r.high)) (fails r.number 65534 r.free)))

pub root_found : RootLaw
root_found root = (
  λ h. elim (either (int_eq root (pos 0)) (is_index 2 root 4294967295 && has_no_square (unsigned_abs root) 65534) h) [
    | inl e ↦ inl ((Decides-int_eq root (pos 0)).0 e)
    | inr e ↦ (let parts = both (is_index 2 root 4294967295) (has_no_square (unsigned_abs root) 65534) e in inr (found root parts.0 parts.1))
  ],
  taken root,
)

-- such a root is one of an exact field
pub root_is : (root : ℤ) → is_root root ≡ true → IsRoot (unsigned_abs root)
root_is root h positive = elim ((root_found root).0 h) [
  | inl e ↦ absurd (let none : unsigned_abs root ≡ 0 = ap unsigned_abs e in omega (arith, none, positive))
  | inr r ↦ (let here : r.number ≡ unsigned_abs root = ap unsigned_abs (sym r.is) in
      (subst IsSquarefree here r.free, (let low = r.low in omega (arith, here, low))))
]
