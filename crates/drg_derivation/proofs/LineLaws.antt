-- A line is read at its place exactly where it stands there.
use Rattle.std.proofs.Common.{◌≡◌, ℕ, false, inl, inr, List, [], length, None, Some, refl, sym, ap, subst, ◌∙◌, ℤ}
use Rattle.std.specs.Prelude.{Option, ◌==◌, is_some}
use Rattle.std.proofs.lemmas.Bool.Decides.{Decides-eqb}
use Rattle.std.proofs.lemmas.List.{nil_from_length}
use Rattle.drg_array.specs.Entries.{diameter}
use Rattle.drg_array.specs.declared.claim_name.ClaimName.{ClaimName}
use Rattle.drg_derivation.specs.Header.{version_read, array_read, claim_read}
use Rattle.drg_derivation.specs.Lines.{kind_of, numbers_of, line_made, IsSuited, after_line}
use Rattle.drg_derivation.specs.LineReading.{suits, evidence_of, evidence_with, evidence_read, line_read}
use Rattle.drg_derivation.specs.Places.{IsLineAt, StandsAt, next_place}
use Rattle.drg_derivation.specs.Shapes.{form_of, first_of, first_context, context_after, Suits}
use Rattle.drg_derivation.specs.Words.{Written, IsWrittenText, written, takes_name}
use Rattle.drg_derivation.specs.WordReading.{written_at}
use Rattle.drg_derivation.specs.declared.context.Context.{Context}
use Rattle.drg_derivation.specs.declared.kind.Kind.{Kind}
use Rattle.drg_derivation.specs.declared.line.Line.{Line}
use Rattle.drg_derivation.specs.declared.place.Place.{Place}
use Rattle.drg_derivation.specs.declared.place.Place.TheVariants as place
use Rattle.drg_derivation.specs.declared.view.LineView.{LineView}
use Rattle.drg_derivation.specs.declared.view.LineView.TheVariants.{Version, Array, Claim, Evidence, End}
use Rattle.drg_derivation.specs.declared.word.Word.{Word}
use Rattle.drg_derivation.specs.declared.word.Word.TheVariants as word
use Rattle.drg_derivation.proofs.OptionLaws.{chosen, same_some, bound}
use Rattle.drg_derivation.proofs.WrittenLaws.{written_at-takes, written_at-again}
use Rattle.drg_derivation.proofs.ShapeLaws.{suits-Decides, made-all, made-again, kind-made}
use Rattle.drg_derivation.proofs.HeaderLaws.{written-eq, no-name, version_read-takes, version_read-again, array_read-takes, array_read-again, claim_read-takes, claim_read-again}

-- the line that was read from words and numbers
pub record ReadsLine (place : Place) (w : Written) (line : LineView) (next : Place) : Type 0 where
  pub stands : StandsAt place line
  pub is : written line ≡ w
  pub next_is : next ≡ next_place place line

reads : (place : Place) (w : Written) (x : LineView × Place) (line : LineView) (next : Place) → ReadsLine place w x.0 x.1 → Some x ≡ Some (line, next) → ReadsLine place w line next
reads place w x line next r e = subst (λ (y : LineView × Place). ReadsLine place w y.0 y.1) (same_some x (line, next) e) r

evidence-reads : (context : Context) (k : Kind) (name : Option ClaimName) (numbers : List ℤ) (line : LineView) (next : Place) → false ≡ is_some name
    → evidence_of context k numbers ≡ Some (line, next)
    → ReadsLine (place.Evidence context) (record { word = word.Evidence k; name = name; numbers = numbers }) line next
evidence-reads context k name numbers line next named e =
    elim (chosen (suits context (form_of k) (first_of numbers) (length numbers)) _ _ _ e) [
      | inl good ↦ (let s = (suits-Decides context (form_of k) (first_of numbers) (length numbers)).0 good.0 in
          let l = line_made k numbers in
          let all : numbers_of l ≡ numbers = (made-all context k numbers s).1 in
          let kinds : kind_of l ≡ k = kind-made k numbers in
          let suited : IsSuited context l =
          subst (λ (x : Kind). Suits context (form_of x) (first_of (numbers_of l)) (length (numbers_of l))) (sym kinds)
          (subst (λ (zs : List ℤ). Suits context (form_of k) (first_of zs) (length zs)) (sym all) s) in
          reads _ _ (Evidence l, place.Evidence (context_after context k (first_of numbers))) line next
          (record {
            stands = suited;
            is = ap (λ (x : Kind). let w : Written = record { word = word.Evidence x; name = None; numbers = numbers_of l } in w) kinds ∙ written-eq (word.Evidence k) None name (numbers_of l) numbers (sym (no-name name named)) all;
            next_is = rw (kinds, all) refl;
          })
          good.1)
      | inr bad ↦ (let none = bad.1 in cc)
    ]

end-reads : (context : Context) (name : Option ClaimName) (numbers : List ℤ) (line : LineView) (next : Place) → false ≡ is_some name
    → evidence_with context word.End numbers ≡ Some (line, next)
    → ReadsLine (place.Evidence context) (record { word = word.End; name = name; numbers = numbers }) line next
end-reads context name numbers line next named e =
    elim (chosen (length numbers == 0) _ _ _ e) [
      | inl good ↦ (let none : numbers ≡ [] = nil_from_length numbers ((Decides-eqb (length numbers) 0).0 good.0) in
          reads _ _ (End, place.After) line next
          (record { stands = tt; is = written-eq word.End None name [] numbers (sym (no-name name named)) (sym none); next_is = refl })
          good.1)
      | inr bad ↦ (let none = bad.1 in cc)
    ]

among-reads : (context : Context) (word : Word) (name : Option ClaimName) (numbers : List ℤ) (line : LineView) (next : Place) → takes_name word ≡ is_some name
    → evidence_with context word numbers ≡ Some (line, next)
    → ReadsLine (place.Evidence context) (record { word = word; name = name; numbers = numbers }) line next
among-reads context (word.Evidence k) name numbers line next named e = evidence-reads context k name numbers line next named e
among-reads context word.End name numbers line next named e = end-reads context name numbers line next named e
among-reads context _ name numbers line next named e = (let none = e in cc)

pub line_read-takes : (place : Place) (w : Written) (line : LineView) (next : Place) → takes_name w.word ≡ is_some w.name → line_read place w ≡ Some (line, next)
    → ReadsLine place w line next
unfolding line_read evidence_read
line_read-takes place.Version w line next named e =
    let b = bound (version_read w) _ _ e in
    let v = version_read-takes w b.0 named b.1 in
    reads _ _ (Version b.0, place.Array b.0) line next (record { stands = v.0; is = v.1; next_is = refl }) b.2
line_read-takes (place.Array version) w line next named e =
    let b = bound (array_read w) _ _ e in
    let a = array_read-takes w b.0 named b.1 in
    reads _ _ (Array b.0, place.Claim (first_context version (diameter b.0))) line next (record { stands = a.0; is = a.1; next_is = refl }) b.2
line_read-takes (place.Claim context) w line next named e =
    let b = bound (claim_read w) _ _ e in
    let c = claim_read-takes w b.0 b.1 in
    reads _ _ (Claim b.0, place.Evidence context) line next (record { stands = c.0; is = c.1; next_is = refl }) b.2
line_read-takes (place.Evidence context) w line next named e = among-reads context w.word w.name w.numbers line next named e
line_read-takes place.After w line next named e = (let none = e in cc)

evidence-again : (context : Context) (l : Line) → IsSuited context l
    → evidence_of context (kind_of l) (numbers_of l) ≡ Some (Evidence l, place.Evidence (after_line context l))
evidence-again context l s =
    rw ((suits-Decides context (form_of (kind_of l)) (first_of (numbers_of l)) (length (numbers_of l))).1 s, made-again l) refl

pub line_read-again : (place : Place) (line : LineView) → StandsAt place line → line_read place (written line) ≡ Some (line, next_place place line)
unfolding line_read evidence_read
line_read-again place.Version (Version v) s = rw (version_read-again v s) refl
line_read-again (place.Array version) (Array a) s = rw (array_read-again a s) refl
line_read-again (place.Claim context) (Claim c) s = rw (claim_read-again c s) refl
line_read-again (place.Evidence context) (Evidence l) s = evidence-again context l s
line_read-again (place.Evidence context) End s = refl
line_read-again _ line s = absurd s

-- ---- lines of a text
pub line-is : (place : Place) (text : List ℕ) (w : Written) (line : LineView) (next : Place) → written_at text ≡ Some w → line_read place w ≡ Some (line, next)
    → IsLineAt place text line × (next ≡ next_place place line)
line-is place text w line next e f =
    let t = written_at-takes text w e in
    let r = line_read-takes place w line next t.named f in
    (record { written = subst (λ (x : Written). IsWrittenText text x) (sym r.is) t; stands = r.stands }, r.next_is)

pub none-at : (place : Place) (text : List ℕ) → written_at text ≡ None → (line : LineView) → IsLineAt place text line → ⊥
none-at place text e line is = (let some = written_at-again text (written line) is.written in cc)

pub none-stands : (place : Place) (text : List ℕ) (w : Written) → written_at text ≡ Some w → line_read place w ≡ None → (line : LineView) → IsLineAt place text line → ⊥
none-stands place text w e f line is =
    let same : w ≡ written line = same_some w (written line) (sym e ∙ written_at-again text (written line) is.written) in
    let some : line_read place w ≡ Some (line, next_place place line) = ap (line_read place) same ∙ line_read-again place line is.stands in
    cc

-- a text is that of one line of the place
pub one-at : (place : Place) (text : List ℕ) (line other : LineView) → IsLineAt place text line → IsLineAt place text other → line ≡ other
one-at place text line other a b =
    let same : written line ≡ written other = same_some (written line) (written other) (sym (written_at-again text (written line) a.written) ∙ written_at-again text (written other) b.written) in
    ap (λ (x : LineView × Place). x.0)
    (same_some (line, next_place place line) (other, next_place place other)
    (sym (line_read-again place line a.stands) ∙ (ap (line_read place) same ∙ line_read-again place other b.stands)))
