-- Lines that are handed out one after the other make up the text.
use Rattle.std.proofs.Common.{◌≡◌, ℕ, zero, suc, ◌+◌, ◌-◌, ◌≤◌, List, [], ◌∷◌, ◌++◌, length, take, refl, sym, ap, subst, ◌∙◌, arith, append_assoc, length-append, ℤ, pos, negsuc}
use Rattle.std.specs.Prelude.{◌≢◌}
use Rattle.std.specs.List.{AllByRecursion}
use Rattle.std.proofs.Math.Seq.{take-append_seam}
use Rattle.drg_derivation.specs.Content.{Content}
use Rattle.drg_derivation.specs.Faults.{IsStop, IsCause}
use Rattle.drg_derivation.specs.Integers.{greatest, IsShort, IsPositiveText, IsIntegerText, AreIntegers}
use Rattle.drg_derivation.specs.Lines.{numbers_of, AreFit, after_line}
use Rattle.drg_derivation.specs.Places.{Reading, start, HandsOut, HandsOutAll, StopsAfter, IsRefusedAt, StandsAt, AreLinesFrom, IsAmong, IsAtArray, IsAtClaim, next_place}
use Rattle.drg_derivation.specs.Text.{Begins, HasText, IsDerivationText, context_of, evidence_views, lines_of}
use Rattle.drg_derivation.specs.declared.context.Context.{Context}
use Rattle.drg_derivation.specs.declared.fault.DerivationFault.{DerivationFault}
use Rattle.drg_derivation.specs.declared.fault.DerivationFault.TheVariants.{BadText, Memory}
use Rattle.drg_derivation.specs.declared.line.Line.{Line}
use Rattle.drg_derivation.specs.declared.place.Place.{Place}
use Rattle.drg_derivation.specs.declared.place.Place.TheVariants.{Version, Array, Claim, Evidence, After}
use Rattle.drg_derivation.specs.declared.view.LineView.{LineView}
use Rattle.drg_derivation.specs.declared.view.LineView.TheVariants as view

-- ---- several lines
pub hands-more : (a b c : Reading) (xs : List LineView) (y : LineView) → HandsOutAll a xs b → HandsOut b y c → HandsOutAll a (xs ++ y ∷ []) c
hands-more a b c [] y h t = (c, subst (λ (r : Reading). HandsOut r y c) h t, refl)
hands-more a b c (x ∷ xs) y (mid, one, h) t = (mid, one, hands-more mid b c xs y h t)

hands-join : (a b c : Reading) (xs ys : List LineView) → HandsOutAll a xs b → HandsOutAll b ys c → HandsOutAll a (xs ++ ys) c
hands-join a b c [] ys h k = subst (λ (r : Reading). HandsOutAll r ys c) h k
hands-join a b c (x ∷ xs) ys (mid, one, h) k = (mid, one, hands-join mid b c xs ys h k)

-- from a to b the text was read
pub record Handed (a : Reading) (text : List ℕ) (lines : List LineView) (b : Reading) : Type 0 where
  pub whole : a.rest ≡ text ++ b.rest
  pub lines_are : AreLinesFrom a.place text lines b.place
  pub counted : b.line ≡ a.line + length lines

pub hands-text : (a b : Reading) (lines : List LineView) → HandsOutAll a lines b → (text : List ℕ) × Handed a text lines b
hands-text a b [] h = (
  [],
  record {
    whole = sym (ap (λ (r : Reading). r.rest) h);
    lines_are = (refl, ap (λ (r : Reading). r.place) h);
    counted = (let same = ap (λ (r : Reading). r.line) h in omega arith);
  },
)
hands-text a b (line ∷ lines) (mid, t, h) =
    let m = hands-text mid b lines h in (
      t.text ++ 10 ∷ m.0,
      record {
        whole = t.whole ∙ (ap (λ (l : List ℕ). t.text ++ 10 ∷ l) m.1.whole ∙ sym (append_assoc t.text (10 ∷ m.0) b.rest));
        lines_are = (t.text, m.0, refl, t.is, subst (λ (p : Place). AreLinesFrom p m.0 lines b.place) t.place m.1.lines_are);
        counted = (let one = t.counted in let more = m.1.counted in omega arith);
      },
    )

-- ---- numbers of a text can be written
short-positive : (text : List ℕ) (n : ℕ) → IsPositiveText text n → n ≤ greatest
short-positive [] n h = absurd h
short-positive (c ∷ cs) n (low, high, small, more) = small

short-integer : (text : List ℕ) (z : ℤ) → IsIntegerText text z → IsShort z
short-integer text (pos zero) h = omega arith
short-integer text (pos (suc n)) h = short-positive text (suc n) h
short-integer text (negsuc n) (digits, whole, h) = short-positive digits (suc n) h

short-integers : (text : List ℕ) (zs : List ℤ) → AreIntegers text zs → AllByRecursion IsShort zs
short-integers text [] h = tt
short-integers text (z ∷ zs) (first, rest, whole, number, more) = (short-integer first z number, short-integers rest zs more)

-- ---- lines at their places
-- evidence lines at their places fit, and past them comes the end
record FitsTo (context : Context) (lines : List Line) (last : Place) : Type 0 where
  evidence : AreFit context lines
  ends : last ≡ After

fits-from : (context : Context) (last : Place) (text : List ℕ) (lines : List Line) → AreLinesFrom (Evidence context) text (evidence_views lines ++ view.End ∷ []) last
    → FitsTo context lines last
fits-from context last text [] (first, rest, whole, is, more) = record { evidence = record { evidence = tt; short = tt }; ends = more.1 }
fits-from context last text (line ∷ lines) (first, rest, whole, is, more) =
    let others = fits-from (after_line context line) last rest lines more in
    record {
      evidence = record {
        evidence = (is.stands, others.evidence.evidence);
        short = (short-integers is.written.numbers (numbers_of line) is.written.numbers_are, others.evidence.short);
      };
      ends = others.ends;
    }

-- what the lines of a derivation at their places say of it
pub record IsTextTo (δ : Content) (last : Place) : Type 0 where
  pub has_text : HasText δ
  pub ends : last ≡ After

pub text-to : (text : List ℕ) (δ : Content) (last : Place) → AreLinesFrom Version text (lines_of δ) last → IsTextTo δ last
text-to text δ last (v, text1, e1, is1, (a, text2, e2, is2, (c, text3, e3, is3, more))) =
    let fit = fits-from (context_of δ.array) last text3 δ.lines more in
    record { has_text = record { array = is2.stands; claim = is3.stands; evidence = fit.evidence.evidence; short = fit.evidence.short }; ends = fit.ends }

-- ---- what can come next
-- the line at the array's place is one
abbrev pub IsArrayThen : LineView → Place → Type 0
IsArrayThen (view.Array array) next = IsAtClaim next
IsArrayThen _ next = ⊥

array-next : (place : Place) (line : LineView) → IsAtArray place → StandsAt place line → IsArrayThen line (next_place place line)
array-next (Array version) (view.Array array) h s = tt
array-next (Array version) _ h s = absurd s
array-next _ line h s = absurd h

-- the line at the claim's place is one
abbrev pub IsClaimThen : LineView → Place → Type 0
IsClaimThen (view.Claim claim) next = IsAmong next
IsClaimThen _ next = ⊥

claim-next : (place : Place) (line : LineView) → IsAtClaim place → StandsAt place line → IsClaimThen line (next_place place line)
claim-next (Claim context) (view.Claim claim) h s = tt
claim-next (Claim context) _ h s = absurd s
claim-next _ line h s = absurd h

-- a line after the claim is an evidence line or the last
abbrev pub IsEvidenceThen : LineView → Place → Type 0
IsEvidenceThen (view.Evidence line) next = IsAmong next
IsEvidenceThen view.End next = Unit {0}
IsEvidenceThen _ next = ⊥

evidence-next : (place : Place) (line : LineView) → IsAmong place → StandsAt place line → IsEvidenceThen line (next_place place line)
evidence-next (Evidence context) (view.Evidence line) h s = tt
evidence-next (Evidence context) view.End h s = tt
evidence-next (Evidence context) _ h s = absurd s
evidence-next _ line h s = absurd h

pub hands-array : (a b : Reading) (line : LineView) → IsAtArray a.place → HandsOut a line b → IsArrayThen line b.place
hands-array a b line h t = subst (λ (p : Place). IsArrayThen line p) (sym t.place) (array-next a.place line h t.is.stands)

pub hands-claim : (a b : Reading) (line : LineView) → IsAtClaim a.place → HandsOut a line b → IsClaimThen line b.place
hands-claim a b line h t = subst (λ (p : Place). IsClaimThen line p) (sym t.place) (claim-next a.place line h t.is.stands)

pub hands-evidence : (a b : Reading) (line : LineView) → IsAmong a.place → HandsOut a line b → IsEvidenceThen line b.place
hands-evidence a b line h t = subst (λ (p : Place). IsEvidenceThen line p) (sym t.place) (evidence-next a.place line h t.is.stands)

pub array-going : (place : Place) → IsAtArray place → place ≢ After
array-going place h e = subst IsAtArray e h

pub claim-going : (place : Place) → IsAtClaim place → place ≢ After
claim-going place h e = subst IsAtClaim e h

pub among-going : (place : Place) → IsAmong place → place ≢ After
among-going place h e = subst IsAmong e h

-- the first line is that of the version, and the array comes next
abbrev IsVersionThen : LineView → Place → Type 0
IsVersionThen (view.Version version) next = (version ≡ 1) × IsAtArray next
IsVersionThen _ next = ⊥

pub version-next : (bytes : List ℕ) (a b : Reading) (line : LineView) → a ≡ start bytes → HandsOut a line b → (line ≡ view.Version 1) × IsAtArray b.place
version-next bytes a b line e t = of line (subst (λ (r : Reading). HandsOut r line b) e t)
  where
    of : (l : LineView) → HandsOut (start bytes) l b → (l ≡ view.Version 1) × IsAtArray b.place
    of (view.Version version) u = (ap (λ (n : ℕ). view.Version n) u.is.stands, subst IsAtArray (sym u.place) tt)
    of _ u = absurd u.is.stands

-- ---- refusals
pub stop-after : (a b : Reading) (lines : List LineView) (fault : DerivationFault) → HandsOutAll a lines b → IsStop b fault → IsStop a fault
stop-after a b lines Memory h s = tt
stop-after a b lines (BadText number) h s = record {
  lines = lines ++ s.lines;
  last = s.last;
  hands = hands-join a b s.last lines s.lines h s.hands;
  stops = s.stops;
}

pub refused-at : (bytes : List ℕ) (number : ℕ) → StopsAfter (start bytes) number → IsRefusedAt bytes number
refused-at bytes number s =
    let t = hands-text (start bytes) s.last s.lines s.hands in
    record {
      before = t.0;
      rest = s.last.rest;
      lines = s.lines;
      place = s.last.place;
      whole = t.1.whole;
      lines_are = t.1.lines_are;
      going = s.stops.going;
      counted = (let one = s.stops.counted in let two = t.1.counted in omega arith);
      bad = s.stops.bad;
    }

cause-is : (bytes : List ℕ) (fault : DerivationFault) → IsStop (start bytes) fault → IsCause bytes fault
cause-is bytes Memory s = tt
cause-is bytes (BadText number) s = refused-at bytes number s

-- what stops a reader after some lines is the cause
pub cause-after : (bytes : List ℕ) (r b : Reading) (lines : List LineView) (fault : DerivationFault) → r ≡ start bytes → HandsOutAll r lines b → IsStop b fault → IsCause bytes fault
cause-after bytes r b lines fault e h s = cause-is bytes fault (subst (λ (x : Reading). IsStop x fault) e (stop-after r b lines fault h s))

-- ---- the whole text
take-front : (bytes text rest : List ℕ) (n : ℕ) → bytes ≡ text ++ rest → n ≡ length text → take n bytes ≡ text
take-front bytes text rest n e same = rw (same, e) (take-append_seam text rest)

-- the derivation whose lines were read, and the bytes that it has
pub record IsWhole (bytes : List ℕ) (δ : Content) (last : Reading) : Type 0 where
  pub has_text : HasText δ
  pub begins : Begins bytes (length bytes - length last.rest) δ
  pub shorter : length last.rest ≤ length bytes

pub read-whole : (bytes : List ℕ) (δ : Content) (last : Reading) → HandsOutAll (start bytes) (lines_of δ) last → IsWhole bytes δ last
read-whole bytes δ last h =
    let t = hands-text (start bytes) last (lines_of δ) h in
    let is = text-to t.0 δ last.place t.1.lines_are in
    let len : length bytes ≡ length t.0 + length last.rest = ap length t.1.whole ∙ length-append t.0 last.rest in
    let n : length bytes - length last.rest ≡ length t.0 = omega arith in
    let front : take (length bytes - length last.rest) bytes ≡ t.0 = take-front bytes t.0 last.rest (length bytes - length last.rest) t.1.whole n in
    let text : IsDerivationText t.0 δ = subst (λ (p : Place). AreLinesFrom Version t.0 (lines_of δ) p) is.ends t.1.lines_are in
    record {
      has_text = is.has_text;
      begins = record { within = omega arith; text = subst (λ (l : List ℕ). IsDerivationText l δ) (sym front) text };
      shorter = omega arith;
    }

pub whole-hands : (bytes : List ℕ) (r r1 r2 r3 r4 : Reading) (v : LineView) (δ : Content) → r ≡ start bytes → HandsOut r v r1 → HandsOut r1 (view.Array δ.array) r2
    → HandsOut r2 (view.Claim δ.claim) r3 → HandsOutAll r3 (evidence_views δ.lines ++ view.End ∷ []) r4 → HandsOutAll (start bytes) (lines_of δ) r4
whole-hands bytes r r1 r2 r3 r4 v δ e t u w h =
    let first : HandsOut (start bytes) (view.Version 1) r1 =
    subst (λ (x : LineView). HandsOut (start bytes) x r1) (version-next bytes r r1 v e t).0 (subst (λ (x : Reading). HandsOut x v r1) e t) in
    (r1, first, (r2, u, (r3, w, h)))

-- ---- the evidence lines one by one
views-more : (olds : List Line) (line : Line) → evidence_views (olds ++ line ∷ []) ≡ evidence_views olds ++ view.Evidence line ∷ []
views-more [] line = refl
views-more (old ∷ olds) line = ap (λ (l : List LineView). view.Evidence old ∷ l) (views-more olds line)

-- a reader has handed out these evidence lines, and more can come
pub record AreHanded (a : Reading) (lines : List Line) (b : Reading) : Type 0 where
  pub hands : HandsOutAll a (evidence_views lines) b
  pub among : IsAmong b.place

pub hands-line : (a b c : Reading) (olds news : List Line) (x : LineView) (line : Line) → HandsOutAll a (evidence_views olds) b → IsAmong b.place → HandsOut b x c
    → x ≡ view.Evidence line → news ≡ olds ++ line ∷ [] → AreHanded a news c
hands-line a b c olds news x line h among t is all =
    let u : HandsOut b (view.Evidence line) c = subst (λ (y : LineView). HandsOut b y c) is t in
    let views : evidence_views olds ++ view.Evidence line ∷ [] ≡ evidence_views news = sym (ap evidence_views all ∙ views-more olds line) in
    record { hands = subst (λ (l : List LineView). HandsOutAll a l c) views (hands-more a b c (evidence_views olds) (view.Evidence line) h u); among = hands-evidence b c (view.Evidence line) among u }

pub hands-end : (a b c : Reading) (olds : List Line) (x : LineView) → HandsOutAll a (evidence_views olds) b → HandsOut b x c → x ≡ view.End
    → HandsOutAll a (evidence_views olds ++ view.End ∷ []) c
hands-end a b c olds x h t is = hands-more a b c (evidence_views olds) view.End h (subst (λ (y : LineView). HandsOut b y c) is t)
