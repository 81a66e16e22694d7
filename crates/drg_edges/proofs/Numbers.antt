-- Texts of numbers, as they are parsed.
use Rattle.std.proofs.Common.{◌≡◌, ℕ, suc, ◌<◌, List, [], ◌∷◌, ◌++◌, length, take, drop, true, eqb, Result, Ok, Err, refl, sym, ap, ap₂, subst, ◌∙◌, arith, inl, inr}
use Rattle.std.specs.Prelude.{◌≢◌, ◌==◌, decimal, IfSome, IfNone, slice_index}
use Rattle.std.specs.Result.{result_ok}
use Rattle.std.specs.Str.Parse.{AllDigits, ParsesUnsigned, digits_value}
use Rattle.std.proofs.lemmas.Bool.{cases_lt}
use Rattle.std.proofs.lemmas.Fmt.{decimal_is_IsNumeral, decimal_nonempty, decimal_digit, first_decimal, parse-decimal, decimal-digits_value, decimal_injective}
use Rattle.std.proofs.lemmas.Str.Parse.{IsNumeralModel, numerals_by_value, tells_digits, digit_at, parse_plain}
use Rattle.std.specs.Cmp.Lexicographic.{pointwise}
use Rattle.std.proofs.lemmas.List.{take-append-drop}
use Rattle.drg_algebra.proofs.Tests.{both, same-number}
use Rattle.drg_edges.specs.Reading.{HasNone}
use Rattle.drg_edges.specs.Text.{IsCount, IsPair, head_line, pair_line}
use Rattle.drg_edges.proofs.Lines.{one_split, none_of_two}
use Rattle.drg_edges.proofs.TextLaws.{decimal_none, first_of}

numerals : IsNumeralModel (AllDigits 10) (digits_value 10)
numerals = numerals_by_value (AllDigits 10) tells_digits

-- no number begins with a plus, and only 0 with a zero
pub plus_none : (n first : ℕ) (rest text : List ℕ) → n < 65536 → text ≡ decimal n → text ≡ first ∷ rest → first ≡ 43 → ⊥
plus_none n first rest text small e parts plus =
    let some = decimal_nonempty n (omega (arith, small)) in
    let digit = digit_at (decimal n) 0 (decimal_is_IsNumeral n (omega (arith, small))).0.1 some in
    let at : slice_index (decimal n) 0 ≡ 43 = ap (λ bs. slice_index bs 0) (sym e ∙ parts) ∙ plus in
    let least = digit.0 in
    omega (arith, least, at)

pub zero_none : (n first : ℕ) (rest text : List ℕ) → n < 65536 → text ≡ decimal n → text ≡ first ∷ rest → first ≡ 48 → 0 < length rest → ⊥
zero_none n first rest text small e parts zeros more = elim (cases_lt 0 n) [
  | inl less ↦ (let high = first_decimal n less (omega (arith, small)) in
      let at : slice_index (decimal n) 0 ≡ 48 = ap (λ bs. slice_index bs 0) (sym e ∙ parts) ∙ zeros in
      omega (arith, high, at))
  | inr none ↦ (let one = decimal_digit n (omega (arith, none)) in
      let long : length (first ∷ rest) ≡ 1 = ap length (sym parts ∙ (e ∙ one)) in
      omega (arith, long, more))
]

pub parsed : (E : Type 0) (first : ℕ) (rest text : List ℕ) (r : Result ℕ E) → text ≡ first ∷ rest → first ≢ 43 → (first ≡ 48 → length rest ≡ 0) → ParsesUnsigned 16 10 text r
    → IfSome (result_ok r) (λ n. text ≡ decimal n)
parsed E first rest text (Ok x) parts plus zeros h =
    let read = parse_plain numerals {E = E} 16 text (Ok x) h (λ e. plus (sym (ap (λ bs. slice_index bs 0) parts) ∙ e)) in
    let value = read.1 in
    let small = read.0.2 in
    let some = read.0.1 in
    sym (ap decimal value ∙ decimal-digits_value numerals text read.0.0 some
    (λ e. (let none = zeros (sym (ap (λ bs. slice_index bs 0) parts) ∙ e) in let long : length text ≡ suc (length rest) = ap length parts in omega (arith, none, long)))
    (omega (arith, small)))
parsed E first rest text (Err e) parts plus zeros h = tt

pub parsed_none : (E : Type 0) (text : List ℕ) (r : Result ℕ E) → ParsesUnsigned 16 10 text r → IfNone (result_ok r) ((n : ℕ) → n < 65536 → text ≢ decimal n)
parsed_none E text (Ok x) h = tt
parsed_none E text (Err e) h = λ n small same. (let f = parse-decimal {E = E} 16 n text (Err e) (omega (arith, small)) (omega (arith, small)) same h in cc)

-- ---- lines of pairs
-- a line with no space is no line of a pair
pub no_space : (n : ℕ) (line : List ℕ) (p : ℕ × ℕ) → HasNone 32 line → IsPair n p → line ≡ pair_line p → ⊥
no_space n line p none h e = none_of_two 32 (decimal p.0) (decimal p.1) (subst (HasNone 32) e none)

-- the parts around the first space
pub pair_parts : (n : ℕ) (line left right : List ℕ) (p : ℕ × ℕ) → IsCount n → IsPair n p → line ≡ left ++ 32 ∷ right → HasNone 32 left → line ≡ pair_line p
    → (left ≡ decimal p.0) × (right ≡ decimal p.1)
pair_parts n line left right p count h whole none e =
    let most = count.1 in
    one_split 32 left (decimal p.0) right (decimal p.1) none (decimal_none 32 p.0 (omega arith) (omega (arith, h.0, most))) (sym whole ∙ e)

-- ---- the first line
same_bytes : (xs ys : List ℕ) → pointwise eqb xs ys ≡ true → xs ≡ ys
same_bytes [] [] e = refl
same_bytes [] (y ∷ ys) e = (let f = e in cc)
same_bytes (x ∷ xs) [] e = (let f = e in cc)
same_bytes (x ∷ xs) (y ∷ ys) e = (let parts = both (x == y) (pointwise eqb xs ys) e in ap₂ (λ a b. a ∷ b) (same-number x y parts.0) (same_bytes xs ys parts.1))

pub after_front : (line front rest : List ℕ) → pointwise eqb (take (length front) line) front ≡ true → rest ≡ drop (length front) line → line ≡ front ++ rest
after_front line front rest begins ends =
    sym (take-append-drop (length front) line) ∙ ap₂ (λ a b. a ++ b) (same_bytes (take (length front) line) front begins) (sym ends)

pub same_head_text : (n count : ℕ) (line : List ℕ) (more rest : List (List ℕ)) → IsCount n → count ≡ 0 → line ≡ head_line count → line ∷ more ≡ head_line n ∷ rest → ⊥
same_head_text n count line more rest h none whole e =
    let most = h.1 in
    let least = h.0 in
    let same = first_of line (head_line n) more rest e in
    let digits : decimal count ≡ decimal n = ap (drop 6) (sym whole ∙ same) in
    let equal = decimal_injective count n (omega (arith, none)) (omega (arith, most)) digits in
    omega (arith, equal, none, least)
