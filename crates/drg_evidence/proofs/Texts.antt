-- An accepted derivation of a claim that the array fails has a text.
use Rattle.std.proofs.Common.{◌≡◌, ℕ, zero, suc, ◌+◌, ◌-◌, ◌*◌, ◌^◌, ◌<◌, ◌≤◌, true, false, List, [], ◌∷◌, length, reverse, Ok, None, refl, sym, ap, ◌∙◌, subst, arith, inl, inr, Option}
use Rattle.std.specs.Prelude.{ℤ, pos, negsuc, ◌*ℤ◌, ◌⊎◌, int_le, unsigned_abs}
use Rattle.std.specs.List.{AllByRecursion}
use Rattle.std.proofs.lemmas.Int.{ints, unsigned_abs-mul}
use Rattle.std.proofs.lemmas.List.{reverse-reverse}
use Rattle.drg_algebra.proofs.Tests.{both}
use Rattle.drg_array.specs.Entries.{Entries, IsArray, diameter, c_at}
use Rattle.drg_array.specs.Claims.{class_of}
use Rattle.drg_array.specs.declared.claim.Claim.{Claim}
use Rattle.drg_array.specs.declared.claim.Claim.TheVariants.{First, Degree, Order, Cross, Size, Intersect, Handshake, Induced, Triangles}
use Rattle.drg_array.specs.declared.claim.Class.TheVariants.{Counting}
use Rattle.drg_array.proofs.EntryLemmas.{c-positive}
use Rattle.drg_derivation.specs.declared.line.Line.{Line}
use Rattle.drg_derivation.specs.declared.line.Line.TheVariants.{K, P, Frame, Theta, Prow, Qrow, Eq, Comb, Low, High, Split, Miss, Mod, Void}
use Rattle.drg_derivation.specs.Integers.{IsShort}
use Rattle.drg_derivation.specs.Lines.{AreEvidence, AreShort}
use Rattle.drg_derivation.specs.Shapes.{width_of}
use Rattle.drg_derivation.specs.Text.{context_of}
use Rattle.drg_derivation.specs.Words.{IsClaim}
use Rattle.drg_derivation.specs.declared.context.Context.{Context}
use Rattle.drg_replay.specs.Known.{KnownContent}
use Rattle.drg_replay.specs.Steps.{EachHolds}
use Rattle.drg_whole.specs.Range.{in_range}
use Rattle.drg_replay.specs.Sizes.{sizes_from, size_steps}
use Rattle.drg_replay.specs.Rows.{rows_at, balances_from}
use Rattle.drg_replay.specs.Indices.{is_index}
use Rattle.drg_replay.specs.Frames.{is_spectral, theta_steps, prow_steps, qrow_steps}
use Rattle.drg_replay.proofs.FrameLaws.{counting_unframed, needs_frame}
use Rattle.drg_replay.specs.Lines.{known_of}
use Rattle.drg_replay.specs.Roots.{IsSquarefreeRoot}
use Rattle.drg_replay.specs.Answers.{AllAreMet, outcome, progress_of}
use Rattle.drg_replay.proofs.Soundness.{above_zero}
use Rattle.drg_replay.proofs.ProgressLaws.{accepted, all_are_met, array_stays, claim_stays}
use Rattle.drg_replay.proofs.RootLaws.{root_found}
use Rattle.drg_replay.proofs.LineLaws.{rule_holds, rule_met}
use Rattle.drg_replay.proofs.UntypedLaws.{roomless, needs_rooms, needs_type}
use Rattle.drg_replay.specs.Systems.{type_of, eq_steps}
use Rattle.drg_replay.proofs.StepLaws.{at_most, is_less, is_same, is_whole_same}
use Rattle.drg_array.specs.Conditions.{CountsFail}
use Rattle.drg_evidence.specs.Laws.{CountsHaveText}
use Rattle.drg_evidence.proofs.TakenLines.{onto, all_onto}
use Rattle.drg_evidence.proofs.Acceptance.{answer_is}

-- ---- numbers that can be written
times_more : (n c : ℕ) → 1 ≤ c → n ≤ n * c
times_more n zero positive = absurd (omega arith)
times_more n (suc c) positive = omega arith

short : (z : ℤ) (c : ℕ) → 1 ≤ c → in_range (z *ℤ pos c) ≡ true → IsShort z
short z c positive inside =
    let less : unsigned_abs (z *ℤ pos c) < 2 ^ 127 = is_less _ _ inside in
    let product = unsigned_abs-mul z (pos c) in
    let more = times_more (unsigned_abs z) c positive in
    omega (arith, less, product, more)

index_short : (least : ℕ) (n : ℤ) (limit : ℕ) → limit ≤ 12 → is_index least n limit ≡ true → (unsigned_abs n ≤ limit) × IsShort n
index_short least (pos n) limit small h =
    let high = (both (int_le (pos least) (pos n)) (int_le (pos n) (pos limit)) h).1 in
    let less : n ≤ limit = omega (arith, ints, high) in
    (less, omega (arith, less, small))
index_short least (negsuc n) limit small h = absurd (let low = (both (int_le (pos least) (negsuc n)) (int_le (negsuc n) (pos limit)) h).0 in cc)

sizes_short : (a : Entries) (i : ℕ) (last : ℤ) (vs : List ℤ) → IsArray a → i + length vs ≤ diameter a → EachHolds (sizes_from a i last vs) → AllByRecursion IsShort vs
sizes_short a i last [] array inside h = tt
sizes_short a i last (v ∷ vs) array inside h =
    (short v (c_at a (suc i)) (c-positive a i array (omega (arith, inside))) h.0, sizes_short a (suc i) v vs array (omega (arith, inside)) h.1.1.1)

cells_short : (a : Entries) (h : ℕ) (rows : List (List ℤ)) (i j : ℕ) (values : List ℤ) → IsArray a → suc i ≤ diameter a → EachHolds (balances_from a h rows i j values) → AllByRecursion IsShort values
cells_short a h rows i j [] array inside steps = tt
cells_short a h rows i j (v ∷ vs) array inside steps =
    let turn : pos (c_at a (suc i)) *ℤ v ≡ v *ℤ pos (c_at a (suc i)) = omega (arith, ints) in
    let here : in_range (v *ℤ pos (c_at a (suc i))) ≡ true = ap in_range (sym turn) ∙ steps.0 in
    (short v (c_at a (suc i)) (c-positive a i array inside) here, cells_short a h rows i (suc j) vs array inside steps.1.1.1)

-- ---- lines that can be written
-- the line has its count of numbers, and each of them can be written
abbrev pub CanStand : Entries → Line → Type 0
CanStand a (K values) = (1 ≤ length values) × (length values ≤ suc (diameter a)) × AllByRecursion IsShort values
CanStand a (P h i values) = (length values ≡ suc (diameter a)) × IsShort h × IsShort i × AllByRecursion IsShort values
CanStand a (Frame root) = IsShort root
CanStand a line = ⊥

pub sizes_stand : (a : Entries) (array : IsArray a) (sizes : Option (List ℤ)) (values : List ℤ) → EachHolds (size_steps a sizes values) → CanStand a (K values)
sizes_stand a array sizes [] h = absurd (let e = h.0 in cc)
sizes_stand a array sizes (v ∷ vs) h =
    let long = at_most (length vs) (diameter a) h.1.0 in
    let first : v ≡ pos 1 = is_whole_same v (pos 1) h.1.1.0 in
    (omega arith, omega (arith, long), ((let P : ℤ → Type 0 = λ z. IsShort z in subst P (sym first) (omega arith)), sizes_short a 0 v vs array (omega (arith, long)) h.1.1.1))

root_short : (root : ℤ) → (root ≡ pos 0) ⊎ IsSquarefreeRoot root → IsShort root
root_short root (inl e) = subst IsShort (sym e) (omega arith)
root_short root (inr r) = (let high = r.high in let short : IsShort (pos r.number) = omega (arith, high) in subst IsShort (sym r.is) short)

stands : (k : KnownContent) → IsArray k.array → k.frame ≡ None → type_of k.claim ≡ None → k.rooms ≡ None → (line : Line) → outcome k line ≡ Ok tt → CanStand k.array line
stands k array none untyped bare (K values) met = sizes_stand k.array array _ values (rule_holds k (K values) met)
stands k array none untyped bare (P h i values) met =
    let steps = rule_holds k (P h i values) met in
    let small = array.short in
    let d = diameter k.array in
    let count = is_same (length values) (d + 1) steps.1.1.1.1.0 in (
      omega (arith, count),
      (index_short 0 h d small steps.0).1,
      (index_short 1 i d small steps.1.0).1,
      cells_short k.array (unsigned_abs h) (rows_at k.counts.rows (unsigned_abs h)) (unsigned_abs i - 1) 0 values array (above_zero i d steps.1.0) steps.1.1.1.1.1,
    )
stands k array none untyped bare (Frame root) met = root_short root ((root_found root).0 (rule_holds k (Frame root) met).1.1.1.0)
stands k array none untyped bare (Theta i values) met = needs_frame k.frame (λ f. theta_steps k.array f i values) none (rule_met k (Theta i values) met)
stands k array none untyped bare (Prow i values) met = needs_frame k.frame (λ f. prow_steps k.array f i values) none (rule_met k (Prow i values) met)
stands k array none untyped bare (Qrow r values) met = needs_frame k.frame (λ f. qrow_steps k.array k.counts.sizes f r values) none (rule_met k (Qrow r values) met)
stands k array none untyped bare (Eq n x y) met = needs_type (type_of k.claim) (λ ty. eq_steps k.array k.counts.rows ty n x y) untyped (rule_met k (Eq n x y) met)
stands k array none untyped bare (Comb m values) met = needs_rooms k.rooms (Comb m values) bare (rule_met k (Comb m values) met)
stands k array none untyped bare (Low r s t v n) met = needs_rooms k.rooms (Low r s t v n) bare (rule_met k (Low r s t v n) met)
stands k array none untyped bare (High r s t v n) met = needs_rooms k.rooms (High r s t v n) bare (rule_met k (High r s t v n) met)
stands k array none untyped bare (Split r s t v) met = needs_rooms k.rooms (Split r s t v) bare (rule_met k (Split r s t v) met)
stands k array none untyped bare (Miss n) met = needs_rooms k.rooms (Miss n) bare (rule_met k (Miss n) met)
stands k array none untyped bare (Mod n g) met = needs_rooms k.rooms (Mod n g) bare (rule_met k (Mod n g) met)
stands k array none untyped bare (Void r s t) met = needs_rooms k.rooms (Void r s t) bare (rule_met k (Void r s t) met)
stands k array none untyped bare line met = let steps = rule_met k line met in cc

all_stand : (a : Entries) (claim : Claim) → IsArray a → is_spectral (class_of claim) ≡ false → type_of claim ≡ None → (lines : List Line) → AllAreMet a claim lines
    → AllByRecursion (CanStand a) lines
all_stand a claim array counting typeless [] met = tt
all_stand a claim array counting typeless (line ∷ earlier) met =
    let here = array_stays a claim earlier in
    (subst (λ b. CanStand b line) here (stands (known_of a claim earlier) (subst IsArray (sym here) array) (counting_unframed a claim array earlier met.0 counting) (ap type_of (claim_stays a claim earlier) ∙ typeless) (roomless a claim typeless earlier) line met.1), all_stand a claim array counting typeless earlier met.0)

all_in : (Q : Line → Type 0) (lines earlier : List Line) → AllByRecursion Q lines → AllByRecursion Q earlier → AllByRecursion Q (onto lines earlier)
all_in Q [] earlier here there = there
all_in Q (line ∷ lines) earlier here there = all_in Q lines (line ∷ earlier) here.1 (here.0, there)

all_back : (Q : Line → Type 0) (lines : List Line) → AllByRecursion Q (reverse lines) → AllByRecursion Q lines
all_back Q lines all = subst (AllByRecursion Q) (all_onto (reverse lines) ∙ reverse-reverse lines) (all_in Q (reverse lines) [] all tt)

evidence : (a : Entries) (context : Context) (lines : List Line) → context.d ≡ diameter a → 1 ≤ context.version → AllByRecursion (CanStand a) lines → AreEvidence context lines
evidence a context [] d v all = tt
evidence a context (K values ∷ lines) d v all =
    (let can = all.0 in record { known = v; led = omega arith; followed = (omega arith, omega arith) }, evidence a context lines d v all.1)
evidence a context (P h i values ∷ lines) d v all =
    (let count = all.0.0 in record { known = v; led = omega arith; followed = omega arith }, evidence a context lines d v all.1)
evidence a context (Frame root ∷ lines) d v all = (record { known = v; led = omega arith; followed = omega arith }, evidence a (record context { width = width_of root }) lines d v all.1)
evidence a context (line ∷ lines) d v all = absurd all.0

all_short : (a : Entries) (lines : List Line) → AllByRecursion (CanStand a) lines → AreShort lines
all_short a [] all = tt
all_short a (K values ∷ lines) all = (all.0.2, all_short a lines all.1)
all_short a (P h i values ∷ lines) all = ((all.0.1, (all.0.2, all.0.3)), all_short a lines all.1)
all_short a (Frame root ∷ lines) all = ((all.0, tt), all_short a lines all.1)
all_short a (line ∷ lines) all = absurd all.0

-- ---- the claim
small : (a : Entries) (claim : Claim) → IsArray a → CountsFail a claim → IsClaim claim
small a First array fails = tt
small a (Degree i) array fails = let short = array.short in let h = fails.0.1 in (omega arith, tt)
small a (Order i) array fails = let short = array.short in let h = fails.1 in (omega arith, tt)
small a (Cross i j) array fails = let short = array.short in let h = fails.1 in (omega arith, (omega arith, tt))
small a (Size i) array fails = let short = array.short in let h = fails.0.1 in (omega arith, tt)
small a (Intersect h i j) array fails =
    let short = array.short in let hh = fails.0 in let hi = fails.1 in let hj = fails.2 in (omega arith, (omega arith, (omega arith, tt)))
small a (Handshake i) array fails = let short = array.short in let h = fails.0.1 in (omega arith, tt)
small a (Induced i j) array fails = let short = array.short in let h = fails.0.1 in let k = fails.1.1 in (omega arith, (omega arith, tt))
small a (Triangles i) array fails = let short = array.short in let h = fails.0.1 in (omega arith, tt)
small a claim array fails = absurd fails

-- the claims on counts are of the class Counting
counts : (a : Entries) (claim : Claim) → CountsFail a claim → is_spectral (class_of claim) ≡ false
counts a First fails = refl
counts a (Degree i) fails = refl
counts a (Order i) fails = refl
counts a (Cross i j) fails = refl
counts a (Size i) fails = refl
counts a (Intersect h i j) fails = refl
counts a (Handshake i) fails = refl
counts a (Induced i j) fails = refl
counts a (Triangles i) fails = refl
counts a claim fails = absurd fails

-- and none of them is on triples
untyped : (a : Entries) (claim : Claim) → CountsFail a claim → type_of claim ≡ None
untyped a First fails = refl
untyped a (Degree i) fails = refl
untyped a (Order i) fails = refl
untyped a (Cross i j) fails = refl
untyped a (Size i) fails = refl
untyped a (Intersect h i j) fails = refl
untyped a (Handshake i) fails = refl
untyped a (Induced i j) fails = refl
untyped a (Triangles i) fails = refl
untyped a claim fails = absurd fails

pub counts_have_text : CountsHaveText
counts_have_text derivation shows =
    let a = derivation.array in
    let claim = derivation.claim in
    let lines = reverse derivation.lines in
    let answer = answer_is a claim derivation.lines shows.array shows.fails shows.made shows.lines in
    let end = accepted (progress_of a claim lines) Counting (length lines + 4) answer in
    let met = (all_are_met a claim lines end.known end.all_met).0 in
    let all = all_back (CanStand a) derivation.lines (all_stand a claim shows.array (counts a claim shows.fails) (untyped a claim shows.fails) lines met) in
    record {
      array = shows.array;
      claim = small a claim shows.array shows.fails;
      evidence = evidence a (context_of a) derivation.lines refl (omega arith) all;
      short = all_short a derivation.lines all;
    }
