-- What is known of Krein parameters is what the `krein` lines state.
use Rattle.std.proofs.Common.{◌≡◌, ℕ, zero, suc, ◌<◌, true, false, List, [], ◌∷◌, ◌++◌, length, refl, sym, ap, ◌∙◌, subst, arith, inl, inr, Option, Some, None}
use Rattle.std.specs.Prelude.{ℤ, pos, ◌⊎◌, nat_eq, is_none, unsigned_abs, slice_index_or, Contains}
use Rattle.drg_algebra.proofs.Tests.{both, decided, and-in, not-true}
use Rattle.drg_array.specs.Entries.{Entries, diameter}
use Rattle.drg_array.specs.declared.claim.Claim.{Claim}
use Rattle.drg_derivation.specs.declared.line.Line.{Line}
use Rattle.drg_derivation.specs.declared.line.Line.TheVariants.{Frame, Theta, Prow, Qrow, Krein}
use Rattle.drg_replay.specs.Known.{KnownContent, FrameContent, KreinContent}
use Rattle.drg_replay.specs.Steps.{EachHolds}
use Rattle.drg_replay.specs.Frames.{frame_steps, in_frame}
use Rattle.drg_replay.specs.KreinLines.{is_of, krein_content, krein_stands, krein_numbers, krein_steps}
use Rattle.drg_replay.specs.Lines.{frame_after, known_of, steps_of}
use Rattle.drg_replay.specs.Answers.{AllAreMet}
use Rattle.drg_replay.specs.Laws.{StatesKrein, KnownKreinLaw}
use Rattle.drg_replay.proofs.LineLaws.{rule_holds}
use Rattle.drg_replay.proofs.StepLaws.{is_same, are_same}
use Rattle.drg_replay.proofs.KnownLaws.{later, newest, index_is}
use Rattle.drg_replay.proofs.KreinLaws.{added}

-- ---- one more line
-- what stands among these stands with one more at the end
abbrev Stays : List KreinContent → KreinContent → ℕ → ℕ → Type 0
Stays lines last i j =
    (krein_stands (lines ++ last ∷ []) i j ≡ true) × (krein_numbers (lines ++ last ∷ []) i j ≡ krein_numbers lines i j)

kept : (lines : List KreinContent) (last : KreinContent) (i j : ℕ) → krein_stands lines i j ≡ true → Stays lines last i j
kept [] last i j h = cc
kept (first ∷ rest) last i j h = by (decided (is_of first i j)) (kept rest last i j)
  where
    by : (is_of first i j ≡ true) ⊎ (is_of first i j ≡ false) → (krein_stands rest i j ≡ true → Stays rest last i j) → Stays (first ∷ rest) last i j
    by (inl e) further = (rw e refl, rw e refl)
    by (inr e) further = rw e (further (rw e at h))

-- and so does the last, where it is the first of its indices
abbrev Stands : List KreinContent → KreinContent → ℕ → ℕ → Type 0
Stands lines last i j =
    (krein_stands (lines ++ last ∷ []) i j ≡ true) × (krein_numbers (lines ++ last ∷ []) i j ≡ last.numbers)

last_stands : (lines : List KreinContent) (last : KreinContent) (i j : ℕ) → krein_stands lines i j ≡ false → is_of last i j ≡ true → Stands lines last i j
last_stands [] last i j none is = (rw is refl, rw is refl)
last_stands (first ∷ rest) last i j none is = by (decided (is_of first i j)) (λ n. last_stands rest last i j n is)
  where
    by : (is_of first i j ≡ true) ⊎ (is_of first i j ≡ false) → (krein_stands rest i j ≡ false → Stands rest last i j) → Stands (first ∷ rest) last i j
    by (inl e) further = let stands : true ≡ false = rw e at none in absurd cc
    by (inr e) further = rw e (further (rw e at none))

-- ---- a line of each kind
module _ (i j : ℕ) (values : List ℤ) where
  before_theta : (frame : Option FrameContent) (n : ℤ) (numbers : List ℤ) → StatesKrein (frame_after (Theta n numbers) frame) i j values → StatesKrein frame i j values
  before_theta None n numbers h = h
  before_theta (Some f) n numbers h = h

  after_theta : (frame : Option FrameContent) (n : ℤ) (numbers : List ℤ) → StatesKrein frame i j values → StatesKrein (frame_after (Theta n numbers) frame) i j values
  after_theta None n numbers h = h
  after_theta (Some f) n numbers h = h

  before_prow : (frame : Option FrameContent) (n : ℤ) (numbers : List ℤ) → StatesKrein (frame_after (Prow n numbers) frame) i j values → StatesKrein frame i j values
  before_prow None n numbers h = h
  before_prow (Some f) n numbers h = h

  after_prow : (frame : Option FrameContent) (n : ℤ) (numbers : List ℤ) → StatesKrein frame i j values → StatesKrein (frame_after (Prow n numbers) frame) i j values
  after_prow None n numbers h = h
  after_prow (Some f) n numbers h = h

  before_qrow : (frame : Option FrameContent) (n : ℤ) (numbers : List ℤ) → StatesKrein (frame_after (Qrow n numbers) frame) i j values → StatesKrein frame i j values
  before_qrow None n numbers h = h
  before_qrow (Some f) n numbers h = h

  after_qrow : (frame : Option FrameContent) (n : ℤ) (numbers : List ℤ) → StatesKrein frame i j values → StatesKrein (frame_after (Qrow n numbers) frame) i j values
  after_qrow None n numbers h = h
  after_qrow (Some f) n numbers h = h

  nothing_begun : (root : ℤ) (frame : Option FrameContent) → StatesKrein (frame_after (Frame root) frame) i j values → ⊥
  nothing_begun root frame h = let never : false ≡ true = h.0 in cc

  -- a met `frame` line is the first
  none_before : (k : KnownContent) (root : ℤ) → EachHolds (frame_steps k root) → StatesKrein k.frame i j values → ⊥
  none_before k root steps h = by k.frame steps.0 h
    where
      by : (frame : Option FrameContent) → is_none frame ≡ true → StatesKrein frame i j values → ⊥
      by None e h = h
      by (Some f) e h = cc

  -- what a met `krein` line adds is what it states
  before_krein : (a : Entries) (frame : Option FrameContent) (g r : ℤ) (numbers : List ℤ) → EachHolds (in_frame frame (λ f. krein_steps a f g r numbers)) → StatesKrein (frame_after (Krein g r numbers) frame) i j values
      → StatesKrein frame i j values ⊎ (Krein g r numbers ≡ Krein (pos i) (pos j) values)
  before_krein a None g r numbers steps h = inl h
  before_krein a (Some f) g r numbers steps h =
      elim (added f.krein (krein_content (unsigned_abs g) (unsigned_abs r) numbers) i j h.0) [
        | inl old ↦ inl (old.0, sym old.1 ∙ h.1)
        | inr new ↦ (let at = both (nat_eq (unsigned_abs g) i) (nat_eq (unsigned_abs r) j) new.0 in
            let first : g ≡ pos i = index_is 1 (diameter a) g steps.0 ∙ ap pos (is_same _ _ at.0) in
            let second : r ≡ pos j = index_is (unsigned_abs g) (diameter a) r steps.1.0 ∙ ap pos (is_same _ _ at.1) in
            let same : numbers ≡ values = sym new.1 ∙ h.1 in
            inr cc)
      ]

  after_krein : (frame : Option FrameContent) (g r : ℤ) (numbers : List ℤ) → StatesKrein frame i j values → StatesKrein (frame_after (Krein g r numbers) frame) i j values
  after_krein None g r numbers h = absurd h
  after_krein (Some f) g r numbers h =
      let more = kept f.krein (krein_content (unsigned_abs g) (unsigned_abs r) numbers) i j h.0 in (more.0, more.1 ∙ h.1)

  new_krein : (a : Entries) (frame : Option FrameContent) → EachHolds (in_frame frame (λ f. krein_steps a f (pos i) (pos j) values)) → StatesKrein (frame_after (Krein (pos i) (pos j) values) frame) i j values
  new_krein a None steps = let never : false ≡ true = steps.0 in absurd cc
  new_krein a (Some f) steps =
      last_stands f.krein (krein_content i j values) i j (not-true (krein_stands f.krein i j) steps.1.1.1.1.0)
      (and-in (nat_eq i i) (nat_eq j j) (are_same i i refl) (are_same j j refl))

-- ---- the lines that are known
states : (a : Entries) (claim : Claim) (lines : List Line) (i j : ℕ) (values : List ℤ) → AllAreMet a claim lines → StatesKrein (known_of a claim lines).frame i j values → Contains lines (Krein (pos i) (pos j) values)
states a claim [] i j values met h = absurd h
states a claim (Frame root ∷ earlier) i j values met h = absurd (nothing_begun i j values root (known_of a claim earlier).frame h)
states a claim (Theta n numbers ∷ earlier) i j values met h =
    later earlier (Theta n numbers) (Krein (pos i) (pos j) values) (states a claim earlier i j values met.0 (before_theta i j values (known_of a claim earlier).frame n numbers h))
states a claim (Prow n numbers ∷ earlier) i j values met h =
    later earlier (Prow n numbers) (Krein (pos i) (pos j) values) (states a claim earlier i j values met.0 (before_prow i j values (known_of a claim earlier).frame n numbers h))
states a claim (Qrow n numbers ∷ earlier) i j values met h =
    later earlier (Qrow n numbers) (Krein (pos i) (pos j) values) (states a claim earlier i j values met.0 (before_qrow i j values (known_of a claim earlier).frame n numbers h))
states a claim (Krein g r numbers ∷ earlier) i j values met h =
    let k = known_of a claim earlier in
    elim (before_krein i j values k.array k.frame g r numbers (rule_holds k (Krein g r numbers) met.1) h) [
      | inl old ↦ later earlier (Krein g r numbers) (Krein (pos i) (pos j) values) (states a claim earlier i j values met.0 old)
      | inr is ↦ subst (λ line. Contains (Krein g r numbers ∷ earlier) line) is (newest earlier (Krein g r numbers))
    ]
states a claim (line ∷ earlier) i j values met h = later earlier line (Krein (pos i) (pos j) values) (states a claim earlier i j values met.0 h)

-- the newest line
newest_stated : (a : Entries) (claim : Claim) (earlier : List Line) (g r : ℤ) (numbers : List ℤ) (i j : ℕ) (values : List ℤ) → EachHolds (steps_of (known_of a claim earlier) (Krein g r numbers)) → Krein g r numbers ≡ Krein (pos i) (pos j) values
    → StatesKrein (frame_after (Krein g r numbers) (known_of a claim earlier).frame) i j values
newest_stated a claim earlier g r numbers i j values steps e =
    let k = known_of a claim earlier in
    let first : pos i ≡ g = cc in
    let second : pos j ≡ r = cc in
    let same : values ≡ numbers = cc in
    let P : ℤ → ℤ → List ℤ → Type 0 = λ g r ns. EachHolds (in_frame k.frame (λ f. krein_steps k.array f g r ns)) in
    let Q : ℤ → ℤ → List ℤ → Type 0 = λ g r ns. StatesKrein (frame_after (Krein g r ns) k.frame) i j values in
    let here = subst (λ z. P z (pos j) values) (sym first) (subst (λ z. P g z values) (sym second) (subst (P g r) (sym same) steps)) in
    subst (Q g r) same (subst (λ z. Q g z values) second (subst (λ z. Q z (pos j) values) first (new_krein i j values k.array k.frame here)))

stated : (a : Entries) (claim : Claim) (lines : List Line) (i j : ℕ) (values : List ℤ) → AllAreMet a claim lines → (n : ℕ) → n < length lines
    → slice_index_or lines n (Krein (pos i) (pos j) values) ≡ Krein (pos i) (pos j) values → StatesKrein (known_of a claim lines).frame i j values
stated a claim [] i j values met n less is = absurd (omega arith)
stated a claim (Krein g r numbers ∷ earlier) i j values met zero less is =
    newest_stated a claim earlier g r numbers i j values (rule_holds (known_of a claim earlier) (Krein g r numbers) met.1) is
stated a claim (Krein g r numbers ∷ earlier) i j values met (suc n) less is =
    after_krein i j values (known_of a claim earlier).frame g r numbers (stated a claim earlier i j values met.0 n (omega arith) is)
stated a claim (Frame root ∷ earlier) i j values met zero less is = cc
stated a claim (Frame root ∷ earlier) i j values met (suc n) less is =
    let k = known_of a claim earlier in
    absurd (none_before i j values k root (rule_holds k (Frame root) met.1) (stated a claim earlier i j values met.0 n (omega arith) is))
stated a claim (Theta m numbers ∷ earlier) i j values met zero less is = cc
stated a claim (Theta m numbers ∷ earlier) i j values met (suc n) less is =
    after_theta i j values (known_of a claim earlier).frame m numbers (stated a claim earlier i j values met.0 n (omega arith) is)
stated a claim (Prow m numbers ∷ earlier) i j values met zero less is = cc
stated a claim (Prow m numbers ∷ earlier) i j values met (suc n) less is =
    after_prow i j values (known_of a claim earlier).frame m numbers (stated a claim earlier i j values met.0 n (omega arith) is)
stated a claim (Qrow m numbers ∷ earlier) i j values met zero less is = cc
stated a claim (Qrow m numbers ∷ earlier) i j values met (suc n) less is =
    after_qrow i j values (known_of a claim earlier).frame m numbers (stated a claim earlier i j values met.0 n (omega arith) is)
stated a claim (_ ∷ earlier) i j values met zero less is = cc
stated a claim (_ ∷ earlier) i j values met (suc n) less is = stated a claim earlier i j values met.0 n (omega arith) is

pub known_krein : KnownKreinLaw
known_krein a claim lines i j values met = (states a claim lines i j values met, λ h. stated a claim lines i j values met h.0 h.1 h.2)
