-- The text of a list grows by a comma and a number, and the canonical text is in the grammar.
use Rattle.std.proofs.Common.{◌≡◌, ℕ, ◌+◌, ◌-◌, ◌*◌, ◌/◌, ◌%◌, subst, ◌<◌, ◌≤◌, ◌⊎◌, inl, inr, List, [], ◌∷◌, ◌++◌, length, take, get_or, refl, sym, ap, ◌∙◌, arith, append_assoc, append-nil, add-one, length-take, take-suc}
use Rattle.std.specs.Prelude.{decimal}
use Rattle.std.specs.List.{AllByRecursion}
use Rattle.std.proofs.lemmas.Fmt.{decimal_by_steps}
use Rattle.drg_array.specs.Entries.{Entries, IsEntry, IsArray}
use Rattle.drg_array.specs.Text.{IsNumber, AreMore, AreNumbers, IsArrayText, numbers_text, array_text}
use Rattle.drg_array.specs.declared.limits.TheConstants.{MAX_ENTRY}
use Rattle.drg_array.proofs.Prefixes.{number-push}

pub numbers_text-push : (ns : List ℕ) (n : ℕ) → 1 ≤ length ns → numbers_text (ns ++ n ∷ []) ≡ numbers_text ns ++ 44 ∷ decimal n
numbers_text-push [] n h = absurd (omega (arith, h))
numbers_text-push (m ∷ []) n h = refl
numbers_text-push (m ∷ k ∷ ns) n h =
    ap (λ l. decimal m ++ 44 ∷ l) (numbers_text-push (k ∷ ns) n (omega arith))
    ∙ sym (append_assoc (decimal m) (44 ∷ numbers_text (k ∷ ns)) (44 ∷ decimal n))

-- a first number, or a comma and a number, goes to the end
pub text-more : (start before mid after text numbers : List ℕ) (i : ℕ) → i < length numbers → text ≡ decimal (get_or numbers i 0)
    → before ≡ start ++ numbers_text (take i numbers) → after ≡ mid ++ text
    → ((0 < i) × (mid ≡ before ++ 44 ∷ [])) ⊎ ((i ≡ 0) × (mid ≡ before)) → after ≡ start ++ numbers_text (take (i + 1) numbers)
text-more start before mid after text numbers i h is was now (inl (pos, comma)) =
    let some : 1 ≤ length (take i numbers) = simp length-take (omega arith) in
    rw (now, comma, was, is, add-one, take-suc numbers i 0 h, numbers_text-push (take i numbers) (get_or numbers i 0) some)
    (simp append_assoc)
text-more start before mid after text [] i h is was now (inr (none, same)) = absurd (omega (arith, h))
text-more start before mid after text (n ∷ ns) i h is was now (inr (none, same)) =
    let first : text ≡ decimal n = rw none at is in
    let before_is : before ≡ start = (rw none at was) ∙ append-nil start in
    rw (none, now, same, before_is, first) refl

-- ---- the canonical text is in the grammar
decimal_number : (n : ℕ) → IsEntry n → IsNumber (decimal n) n
decimal_number n h =
    decimal_by_steps (λ m ds. 1 ≤ m → m ≤ MAX_ENTRY → IsNumber ds m)
    (λ m small. λ some low. (omega arith, omega arith, low, omega arith))
    (λ m ds large step. λ some low. (
    let front : IsNumber ds (m / 10) = step (omega arith) (omega arith) in
    let same : m / 10 * 10 + ((48 + m % 10) - 48) ≡ m = omega arith in
    subst (λ k. IsNumber (ds ++ ((48 + m % 10) ∷ [])) k) same (number-push (m / 10) (48 + m % 10) ds front (omega arith, omega arith) (omega arith))))
    n (omega (arith, h.1)) h.0 h.1

more-text : (n : ℕ) (ns : List ℕ) → AllByRecursion IsEntry (n ∷ ns) → AreMore (44 ∷ numbers_text (n ∷ ns)) (n ∷ ns)
more-text n [] h = (0, 0, decimal n, [], ap (λ l. 44 ∷ l) (sym (append-nil (decimal n))), decimal_number n h.0, (0, refl))
more-text n (m ∷ ns) h = (0, 0, decimal n, 44 ∷ numbers_text (m ∷ ns), refl, decimal_number n h.0, more-text m ns h.1)

numbers-canonical : (ns : List ℕ) → 1 ≤ length ns → AllByRecursion IsEntry ns → AreNumbers (numbers_text ns) ns
numbers-canonical [] some h = absurd (omega (arith, some))
numbers-canonical (n ∷ []) some h = (0, decimal n, [], sym (append-nil (decimal n)), decimal_number n h.0, (0, refl))
numbers-canonical (n ∷ m ∷ ns) some h = (0, decimal n, 44 ∷ numbers_text (m ∷ ns), refl, decimal_number n h.0, more-text m ns h.1)

pub canonical : (a : Entries) → IsArray a → IsArrayText (array_text a) a
canonical a h = record {
  before = 0;
  text_b = numbers_text a.b;
  text_c = numbers_text a.c;
  after = 0;
  whole = refl;
  numbers_b = numbers-canonical a.b h.some h.entries_b;
  numbers_c = numbers-canonical a.c (omega (arith, h.some, h.same_length)) h.entries_c;
  array = h;
}
