-- Bytes begin with a derivation or are refused, and lines that come to the end are those of one.
use Rattle.std.proofs.Common.{◌≡◌, ℕ, zero, suc, ◌+◌, ◌-◌, ◌<◌, inl, inr, List, [], ◌∷◌, ◌++◌, length, drop, None, Some, refl, sym, ap, subst, ◌∙◌, arith, length-append}
use Rattle.std.specs.Prelude.{◌≢◌, ◌⊎◌, Option}
use Rattle.std.proofs.lemmas.Bool.Decides.{eqb_tells}
use Rattle.std.proofs.Math.Seq.{drop-append_seam}
use Rattle.drg_array.specs.Entries.{Entries}
use Rattle.drg_derivation.specs.Content.{Content}
use Rattle.drg_derivation.specs.Laws.{AreLinesOfDerivation}
use Rattle.drg_derivation.specs.LineReading.{line_read}
use Rattle.drg_derivation.specs.Places.{Reading, start, HandsOut, HandsOutAll, StopsAfter, IsBad, IsRefusedAt, IsLineAt, HasNoEnd, AreLinesFrom, next_place}
use Rattle.drg_derivation.specs.Text.{Begins, evidence_views, lines_of}
use Rattle.drg_derivation.specs.Words.{Written}
use Rattle.drg_derivation.specs.WordReading.{written_at}
use Rattle.drg_derivation.specs.declared.context.Context.{Context}
use Rattle.drg_derivation.specs.declared.line.Line.{Line}
use Rattle.drg_derivation.specs.declared.place.Place.{Place}
use Rattle.drg_derivation.specs.declared.place.Place.TheVariants as place
use Rattle.drg_derivation.specs.declared.view.LineView.{LineView}
use Rattle.drg_derivation.specs.declared.view.LineView.TheVariants.{Version, Array, Claim, Evidence, End}
use Rattle.drg_derivation.proofs.LineLaws.{line-is, none-at, none-stands}
use Rattle.drg_derivation.proofs.ReadingLaws.{hands-text, refused-at, read-whole}

-- ---- one line
-- bytes have a first line, or no line end
first-line : (bytes : List ℕ) → ((first : List ℕ) × (more : List ℕ) × (bytes ≡ first ++ 10 ∷ more) × HasNoEnd first) ⊎ HasNoEnd bytes
first-line [] = inr tt
first-line (c ∷ cs) =
    elim (eqb_tells c 10) [
      | inl ends ↦ inl ([], cs, (let e = ends.1 in cc), tt)
      | inr other ↦ (elim (first-line cs) [
        | inl some ↦ inl (c ∷ some.0, some.1, ap (λ (l : List ℕ). c ∷ l) some.2, (other.1, some.3))
        | inr none ↦ inr (other.1, none)
      ])
    ]

-- a text is a line of the place, or none
line-there : (place : Place) (text : List ℕ) → ((line : LineView) × IsLineAt place text line) ⊎ ((line : LineView) → IsLineAt place text line → ⊥)
line-there place text = of (written_at text) refl
  where
    with : (w : Written) (o : Option (LineView × Place)) → written_at text ≡ Some w → line_read place w ≡ o
        → ((line : LineView) × IsLineAt place text line) ⊎ ((line : LineView) → IsLineAt place text line → ⊥)
    with w None e f = inr (none-stands place text w e f)
    with w (Some x) e f = inl (x.0, (line-is place text w x.0 x.1 e f).0)

    of : (o : Option Written) → written_at text ≡ o → ((line : LineView) × IsLineAt place text line) ⊎ ((line : LineView) → IsLineAt place text line → ⊥)
    of None e = inr (none-at place text e)
    of (Some w) e = with w (line_read place w) e refl

-- a reading hands out a line, or there is one to refuse
pub hands-or-bad : (reading : Reading) → ((line : LineView) × (next : Reading) × HandsOut reading line next) ⊎ IsBad reading.place reading.rest
hands-or-bad reading =
    elim (first-line reading.rest) [
      | inr none ↦ inr (inl none)
      | inl some ↦ (elim (line-there reading.place some.0) [
        | inl found ↦ (let next : Reading = record { place = next_place reading.place found.0; rest = some.1; line = suc reading.line } in
            inl (found.0, next, record { text = some.0; whole = some.2; is = found.1; place = refl; counted = refl }))
        | inr nothing ↦ inr (inr (some.0, some.1, some.2, some.3, nothing))
      ])
    ]

pub line-or-bad : (reading : Reading) → reading.place ≢ place.After → ((line : LineView) × (next : Reading) × HandsOut reading line next) ⊎ IsBad reading.place reading.rest
line-or-bad reading going = hands-or-bad reading

-- ---- all lines
-- a reader comes to the end or stops
record Ends (old : Reading) : Type 0 where
  lines : List LineView
  last : Reading
  hands : HandsOutAll old lines last
  ends : last.place ≡ place.After

shorter : (old new : Reading) (line : LineView) → HandsOut old line new → length new.rest < length old.rest
shorter old new line t = omega (arith, ap length t.whole, length-append t.text (10 ∷ new.rest))

is-past : (p : Place) → (p ≡ place.After) ⊎ (p ≢ place.After)
is-past place.After = inl refl
is-past _ = inr (λ e. cc)

ends-or-stops : (fuel : ℕ) (old : Reading) → length old.rest < fuel → Ends old ⊎ ((number : ℕ) × StopsAfter old number)
ends-or-stops zero old h = absurd (omega arith)
ends-or-stops (suc fuel) old h =
    elim (is-past old.place) [
      | inl past ↦ inl (record { lines = []; last = old; hands = refl; ends = past })
      | inr going ↦ (elim (hands-or-bad old) [
        | inr bad ↦ inr (suc old.line, record { lines = []; last = old; hands = refl; stops = record { going = going; counted = refl; bad = bad } })
        | inl some ↦ (let less = shorter old some.1 some.0 some.2 in
            elim (ends-or-stops fuel some.1 (omega arith)) [
              | inl more ↦ inl (record { lines = some.0 ∷ more.lines; last = more.last; hands = (some.1, some.2, more.hands); ends = more.ends })
              | inr stop ↦ inr (stop.0, record { lines = some.0 ∷ stop.1.lines; last = stop.1.last; hands = (some.1, some.2, stop.1.hands); stops = stop.1.stops })
            ])
      ])
    ]

-- ---- lines that come to the end
-- evidence lines and `end`
record AreEvidenceTo (lines : List LineView) : Type 0 where
  evidence : List Line
  lines_are : lines ≡ evidence_views evidence ++ End ∷ []

past-end : (text : List ℕ) (lines : List LineView) (last : Place) → AreLinesFrom place.After text lines last → lines ≡ []
past-end text [] last h = refl
past-end text (line ∷ lines) last (first, rest, whole, is, more) = absurd is.stands

to-end : (context : Context) (text : List ℕ) (lines : List LineView) → AreLinesFrom (place.Evidence context) text lines place.After → AreEvidenceTo lines
to-end context text [] h = (let e = h.1 in cc)
to-end context text (Evidence line ∷ lines) (first, rest, whole, is, more) =
    let others = to-end _ rest lines more in
    record { evidence = line ∷ others.evidence; lines_are = ap (λ (l : List LineView). Evidence line ∷ l) others.lines_are }
to-end context text (End ∷ lines) (first, rest, whole, is, more) =
    record { evidence = []; lines_are = ap (λ (l : List LineView). End ∷ l) (past-end rest lines place.After more) }
to-end context text (_ ∷ lines) (first, rest, whole, is, more) = absurd is.stands

-- the lines of a derivation
record AreOf (lines : List LineView) : Type 0 where
  derivation : Content
  lines_are : lines ≡ lines_of derivation

claim-on : (context : Context) (version : ℕ) (a : Entries) (text : List ℕ) (lines : List LineView) → version ≡ 1 → AreLinesFrom (place.Claim context) text lines place.After
    → AreOf (Version version ∷ Array a ∷ lines)
claim-on context version a text [] one h = (let e = h.1 in cc)
claim-on context version a text (Claim claim ∷ lines) one (first, rest, whole, is, more) =
    let e = to-end context rest lines more in
    record {
      derivation = record { array = a; claim = claim; lines = e.evidence };
      lines_are = (let all = e.lines_are in cc);
    }
claim-on context version a text (_ ∷ lines) one (first, rest, whole, is, more) = absurd is.stands

array-on : (version : ℕ) (text : List ℕ) (lines : List LineView) → version ≡ 1 → AreLinesFrom (place.Array version) text lines place.After → AreOf (Version version ∷ lines)
array-on version text [] one h = (let e = h.1 in cc)
array-on version text (Array a ∷ lines) one (first, rest, whole, is, more) = claim-on _ version a rest lines one more
array-on version text (_ ∷ lines) one (first, rest, whole, is, more) = absurd is.stands

all-lines : (text : List ℕ) (lines : List LineView) → AreLinesFrom place.Version text lines place.After → AreOf lines
all-lines text [] h = (let e = h.1 in cc)
all-lines text (Version version ∷ lines) (first, rest, whole, is, more) = array-on version rest lines is.stands more
all-lines text (_ ∷ lines) (first, rest, whole, is, more) = absurd is.stands

rest-dropped : (bytes text rest : List ℕ) → bytes ≡ text ++ rest → rest ≡ drop (length bytes - length rest) bytes
rest-dropped bytes text rest e =
    let len : length bytes ≡ length text + length rest = ap length e ∙ length-append text rest in
    let n : length bytes - length rest ≡ length text = omega arith in
    rw n (rw e (sym (drop-append_seam text rest)))

pub lines-of-derivation : (bytes : List ℕ) (lines : List LineView) (last : Reading) → HandsOutAll (start bytes) lines last → last.place ≡ place.After
    → AreLinesOfDerivation bytes lines last
lines-of-derivation bytes lines last h ends =
    let t = hands-text (start bytes) last lines h in
    let are = all-lines t.0 lines (subst (λ (p : Place). AreLinesFrom place.Version t.0 lines p) ends t.1.lines_are) in
    let whole = read-whole bytes are.derivation last (subst (λ (l : List LineView). HandsOutAll (start bytes) l last) are.lines_are h) in
    record { n = length bytes - length last.rest; derivation = are.derivation; begins = whole.begins; lines_are = are.lines_are; rest = rest-dropped bytes t.0 last.rest t.1.whole }

pub begins-or-is-refused : (bytes : List ℕ) → ((n : ℕ) × (δ : Content) × Begins bytes n δ) ⊎ ((number : ℕ) × IsRefusedAt bytes number)
begins-or-is-refused bytes =
    elim (ends-or-stops (suc (length bytes)) (start bytes) (omega arith)) [
      | inl e ↦ (let d = lines-of-derivation bytes e.lines e.last e.hands e.ends in inl (d.n, d.derivation, d.begins))
      | inr stop ↦ inr (stop.0, refused-at bytes stop.0 stop.1)
    ]
