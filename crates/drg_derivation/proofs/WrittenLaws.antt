-- A line is read exactly where its text is words and numbers.
use Rattle.std.proofs.Common.{◌≡◌, ℕ, List, [], ◌∷◌, ◌++◌, None, Some, refl, sym, ap, subst, ◌∙◌, ℤ, append_assoc}
use Rattle.std.specs.Prelude.{Option}
use Rattle.drg_array.specs.declared.claim_name.ClaimName.{ClaimName}
use Rattle.drg_derivation.specs.Integers.{AreIntegers}
use Rattle.drg_derivation.specs.Reading.{integers_of}
use Rattle.drg_derivation.specs.Words.{Written, IsWrittenText, word_text, second_text}
use Rattle.drg_derivation.specs.WordReading.{written_at, word_at, name_at}
use Rattle.drg_derivation.proofs.OptionLaws.{same_some, bound}
use Rattle.drg_derivation.proofs.IntegerLaws.{integers_of-takes, integers_of-again}
use Rattle.drg_derivation.proofs.WordLaws.{word_at-takes, word_at-again, name_at-takes, name_at-again, IsSpaced}

spaced-numbers : (text : List ℕ) (zs : List ℤ) → AreIntegers text zs → IsSpaced text
spaced-numbers text [] e = rw e tt
spaced-numbers text (z ∷ zs) (first, rest, whole, number, more) = rw whole refl

spaced-name : (name : Option ClaimName) (text : List ℕ) → IsSpaced text → IsSpaced (second_text name ++ text)
spaced-name None text s = s
spaced-name (Some test) text s = refl

pub written_at-takes : (text : List ℕ) (line : Written) → written_at text ≡ Some line → IsWrittenText text line
unfolding written_at
written_at-takes text line e =
    let w = bound (word_at text) _ _ e in
    let m = bound (name_at w.0.0 w.0.1) _ _ w.2 in
    let n = bound (integers_of m.0.1) _ _ m.2 in
    let name = name_at-takes w.0.0 w.0.1 m.0.0 m.0.1 m.1 in
    let whole : text ≡ (word_text w.0.0 ++ second_text m.0.0) ++ m.0.1 =
    word_at-takes text w.0.0 w.0.1 w.1 ∙ (ap (λ l. word_text w.0.0 ++ l) name.whole ∙ sym (append_assoc (word_text w.0.0) (second_text m.0.0) m.0.1)) in
    let t : IsWrittenText text (record { word = w.0.0; name = m.0.0; numbers = n.0 }) =
    record { numbers = m.0.1; whole = whole; named = name.named; numbers_are = integers_of-takes m.0.1 n.0 n.1 } in
    subst (IsWrittenText text) (same_some _ line n.2) t

pub written_at-again : (text : List ℕ) (line : Written) → IsWrittenText text line → written_at text ≡ Some line
unfolding written_at
written_at-again text line t =
    let spaced = spaced-numbers t.numbers line.numbers t.numbers_are in
    let whole : text ≡ word_text line.word ++ (second_text line.name ++ t.numbers) =
    t.whole ∙ append_assoc (word_text line.word) (second_text line.name) t.numbers in
    let word = word_at-again line.word (second_text line.name ++ t.numbers) (spaced-name line.name t.numbers spaced) in
    let name = name_at-again line.word line.name t.numbers t.named spaced in
    rw (whole, word) (rw name (rw (integers_of-again t.numbers line.numbers t.numbers_are) refl))

-- a text is that of one line
pub one-line : (text : List ℕ) (line other : Written) → IsWrittenText text line → IsWrittenText text other → line ≡ other
one-line text line other a b = same_some line other (sym (written_at-again text line a) ∙ written_at-again text other b)
