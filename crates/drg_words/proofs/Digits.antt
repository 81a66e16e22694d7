-- A word that has the digits of a number is read as this number, and as no other one.
use Rattle.std.proofs.Common.{◌≡◌, ◌∙◌, ◌<◌, ℕ, List, None, Some, Result, false, ap, sym, subst, arith, true≢false}
use Rattle.std.specs.Prelude.{decimal, ◌^◌}
use Rattle.std.specs.Result.{result_ok}
use Rattle.std.specs.Str.{bytes_eq}
use Rattle.std.specs.Str.Parse.{ParsesUnsigned}
use Rattle.std.proofs.lemmas.Fmt.{parse-decimal}
use Rattle.drg_words.proofs.Rules.{same_text}

is_read : {E : Type 0} (word : List ℕ) (n : ℕ) (result : Result ℕ E) → n < 2 ^ 32 → word ≡ decimal n → ParsesUnsigned 32 10 word result → result_ok result ≡ Some n
is_read word n result small same parses = ap result_ok (parse-decimal 32 n word result small (omega (arith, small)) same parses)

none≢some : (n : ℕ) → None ≡ Some n → ⊥
none≢some n e = cc

same_value : (m n : ℕ) → Some m ≡ Some n → m ≡ n
same_value m n e = cc

-- a word that can't be read has the digits of no number
pub unread : {E : Type 0} (word : List ℕ) (n : ℕ) (result : Result ℕ E) → ParsesUnsigned 32 10 word result → None ≡ result_ok result → n < 2 ^ 32 → word ≡ decimal n → ⊥
unread word n result parses none small same = none≢some n (none ∙ is_read word n result small same parses)

-- a word that is read as one number has the digits of no other one
pub read_as : {E : Type 0} (word : List ℕ) (m n : ℕ) (result : Result ℕ E) → ParsesUnsigned 32 10 word result → Some m ≡ result_ok result → n < 2 ^ 32 → word ≡ decimal n → m ≡ n
read_as word m n result parses some small same = same_value m n (some ∙ is_read word n result small same parses)

-- digits that differ from a word aren't its own
pub other_digits : (digits word : List ℕ) → bytes_eq digits word ≡ false → digits ≡ word → ⊥
other_digits digits word differ same = true≢false (sym (same_text word) ∙ subst (λ text. bytes_eq text word ≡ false) same differ)
