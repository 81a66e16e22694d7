-- What an accepted derivation, and each met line of it, says of graphs.
use Rattle.std.proofs.Common.{◌≡◌, ℕ, zero, suc, ◌+◌, ◌-◌, ◌<◌, ◌≤◌, Bool, true, false, List, [], ◌∷◌, length, reverse, Ok, refl, sym, ap, ◌∙◌, subst, arith, inl, inr, Option, Some, None}
use Rattle.std.specs.Prelude.{ℤ, pos, negsuc, unsigned_abs, ◌*ℤ◌, ◌<ℤ◌, ◌≢◌, ◌&&◌, ◌||◌, not, nat_eq, nat_le, nat_lt, int_le, is_some, if◌then◌else◌}
use Rattle.std.proofs.lemmas.Int.{ints}
use Rattle.drg_algebra.specs.Sums.{IsMultiple}
use Rattle.drg_algebra.proofs.Tests.{both, either}
use Rattle.drg_array.specs.Entries.{Entries, IsArray, diameter, b_at, c_at}
use Rattle.drg_array.specs.declared.claim.Claim.{Claim}
use Rattle.drg_array.specs.declared.claim.Claim.TheVariants as claim
use Rattle.drg_array.specs.declared.claim.Class.TheVariants.{Counting, Spectral}
use Rattle.drg_derivation.specs.declared.line.Line.{Line}
use Rattle.drg_derivation.specs.declared.line.Line.TheVariants.{K, P}
use Rattle.drg_array.proofs.EntryLemmas.{c-positive}
use Rattle.drg_graph.specs.Graph.{IsDistanceRegular, NoGraph}
use Rattle.drg_graph.specs.Numbers.{AreSizes}
use Rattle.drg_graph.specs.DistanceLaws.{FirstLaw, DegreeLaw, OrderLaw, CrossLaw}
use Rattle.drg_graph.specs.SizeLaws.{SizeLaw, SizesLaw}
use Rattle.drg_graph.specs.RowLaws.{IntersectLaw, RowsLaw}
use Rattle.drg_graph.specs.ParityLaws.{HandshakeLaw, InducedLaw, TrianglesLaw}
use Rattle.drg_replay.specs.Known.{KnownContent, FrameContent}
use Rattle.drg_replay.specs.Steps.{EachHolds, first_failure}
use Rattle.drg_whole.specs.Residues.{divides}
use Rattle.drg_replay.specs.Sizes.{size_at, values_of}
use Rattle.drg_replay.specs.Rows.{rows_at, entry}
use Rattle.drg_replay.specs.Rooms.{are_closed}
use Rattle.drg_replay.specs.Indices.{is_index}
use Rattle.drg_replay.specs.Lines.{known_of}
use Rattle.drg_replay.specs.Claims.{claim_is_met, is_distance, closing_of, closing_steps, size_closing, intersect_closing, handshake_closing, induced_closing, triangles_closing, mult_closing}
use Rattle.drg_replay.specs.Answers.{AllAreMet, progress_of, accepted_class}
use Rattle.drg_replay.specs.Laws.{ClassLaw}
use Rattle.drg_replay.specs.Soundness.{ClosedRoomsLaw, GraphLaw, MetSizesLaw, MetRowsLaw}
use Rattle.drg_replay.proofs.ProgressLaws.{all_are_met, claim_was_met, array_stays, claim_stays, accepted}
use Rattle.drg_whole.proofs.Residues.{residue_multiple}
use Rattle.drg_replay.proofs.LineLaws.{rule_holds}
use Rattle.drg_replay.proofs.StepLaws.{each_holds, not_met, at_most, is_less, is_same, are_same, is_whole_less}
use Rattle.drg_replay.proofs.SizeLaws.{Sized, no_sizes, sized, count_is_sum}
use Rattle.drg_replay.proofs.RowLaws.{Rowed, balance_is, fewer_rows, row_met, set_rowed, first_rowed}

-- ---- lines that are all met

-- an index that is in the range
pub above_zero : (n : ℤ) (limit : ℕ) → is_index 1 n limit ≡ true → suc (unsigned_abs n - 1) ≤ limit
above_zero (pos zero) limit h = cc
above_zero (pos (suc n)) limit h = let b = both (int_le (pos 1) (pos (suc n))) (int_le (pos (suc n)) (pos limit)) h in omega (arith, ints)
above_zero (negsuc n) limit h = cc

pub sizes_known : (a : Entries) (claim : Claim) (lines : List Line) → AllAreMet a claim lines → Sized (known_of a claim lines).array (values_of (known_of a claim lines).counts.sizes)
sizes_known a claim [] met = no_sizes a
sizes_known a claim (K values ∷ earlier) met =
    let k = known_of a claim earlier in sized k.array k.counts.sizes values (rule_holds k (K values) met.1)
sizes_known a claim (_ ∷ earlier) met = sizes_known a claim earlier met.0

pub rows_known : (a : Entries) (claim : Claim) (lines : List Line) → AllAreMet a claim lines → (h : ℕ) → Rowed (known_of a claim lines).array h (rows_at (known_of a claim lines).counts.rows h)
rows_known a claim [] met h = first_rowed a (diameter a + 1) h
rows_known a claim (P g i values ∷ earlier) met h =
    let k = known_of a claim earlier in
    let steps = rule_holds k (P g i values) met.1 in
    let old = rows_known a claim earlier met.0 in
    set_rowed k.array k.counts.rows (unsigned_abs g) _ old
    (row_met k.array (unsigned_abs g) (rows_at k.counts.rows (unsigned_abs g)) (unsigned_abs i - 1) values (above_zero i (diameter k.array) steps.1.0) steps.1.1 (old (unsigned_abs g)))
    h
rows_known a claim (_ ∷ earlier) met h = rows_known a claim earlier met.0 h

-- ---- the claims

broken : (m : ℕ) (z : ℤ) → 0 < m → not (divides m z) ≡ true → IsMultiple m z → ⊥
broken m z positive h multiple = not_met (divides m z) h (are_same _ _ (residue_multiple m z positive multiple))

not_same : (m n : ℕ) → not (nat_eq m n) ≡ true → m ≢ n
not_same m n h e = not_met (nat_eq m n) h (are_same m n e)

distance : (a : Entries) (i : ℕ) → is_distance a i ≡ true → (1 ≤ i) × (i ≤ diameter a)
distance a i h = let b = both (nat_le 1 i) (nat_le i (diameter a)) h in (at_most 1 i b.0, at_most i (diameter a) b.1)

-- what the laws on graphs say of the entries and numbers of an array
pub record Laws : Type 0 where
  pub first : FirstLaw
  pub degree : DegreeLaw
  pub order : OrderLaw
  pub cross : CrossLaw
  pub size : SizeLaw
  pub intersect : IntersectLaw
  pub handshake : HandshakeLaw
  pub induced : InducedLaw
  pub triangles : TrianglesLaw

module _ (laws : Laws) (a : Entries) (array : IsArray a) where
  order_excludes : (i : ℕ) → claim_is_met a (claim.Order i) ≡ true → (nat_lt (b_at a i) (b_at a (suc i)) || nat_lt (c_at a (suc i)) (c_at a i)) ≡ true → NoGraph a
  order_excludes i met h =
      let range = both (nat_le 1 i) (nat_lt i (diameter a)) met in
      laws.order a i array (at_most 1 i range.0) (is_less i (diameter a) range.1) (elim (either _ _ h) [ inl e ↦ inl (is_less _ _ e) | inr e ↦ inr (is_less _ _ e) ])

  cross_excludes : (i j : ℕ) → claim_is_met a (claim.Cross i j) ≡ true → nat_lt (b_at a j) (c_at a i) ≡ true → NoGraph a
  cross_excludes i j met h =
      let range = both (nat_le 1 i) (nat_le (i + j) (diameter a)) met in
      laws.cross a i j array (at_most 1 i range.0) (at_most (i + j) (diameter a) range.1) (is_less _ _ h)

  size_excludes : (sizes : Option (List ℤ)) (i : ℕ) → 1 ≤ i → i ≤ diameter a → EachHolds (size_closing a sizes i) → Sized a (values_of sizes) → NoGraph a
  size_excludes sizes zero low high h are = absurd (omega arith)
  size_excludes sizes (suc m) low high h are =
      let back : suc m - 1 ≡ m = omega arith in
      let steps = rw back at h in
      laws.size a (size_at sizes) m array high (are.are m (at_most _ _ h.0)) (broken _ _ (c-positive a m array high) steps.1.1.0)

  intersect_excludes : (h : ℕ) (rows : List (List ℤ)) (i j : ℕ) → h ≤ diameter a → i ≤ diameter a → j ≤ diameter a → EachHolds (intersect_closing a h rows i j) → Rowed a h rows → NoGraph a
  intersect_excludes h rows zero j hh hi hj steps rowed = cc
  intersect_excludes h rows (suc m) j hh hi hj asked rowed =
      let back : suc m - 1 ≡ m = omega arith in
      let steps = rw back at asked in
      let is = balance_is a h rows m j in
      laws.intersect a (entry h rows) h m j array hh hi hj (fewer_rows a h m (length rows) (entry h rows) (at_most _ _ steps.1.0) rowed.are)
      (elim (either _ _ steps.1.1.1.0) [
        | inl negative ↦ inl (let P : ℤ → Type 0 = λ z. z <ℤ pos 0 in subst P is (is_whole_less _ _ negative))
        | inr other ↦ inr (let P : ℤ → Type 0 = λ z. IsMultiple (c_at a (suc m)) z → ⊥ in subst P is (broken _ _ (c-positive a m array hi) other))
      ])

  -- all sizes stand
  full_sizes : (sizes : Option (List ℤ)) → length (values_of sizes) ≡ diameter a + 1 → Sized a (values_of sizes) → AreSizes a (diameter a) (size_at sizes)
  full_sizes sizes full are = are.are (diameter a) (omega arith)

  handshake_excludes : (sizes : Option (List ℤ)) (i : ℕ) → 1 ≤ i → i ≤ diameter a → EachHolds (handshake_closing a sizes i) → Sized a (values_of sizes) → NoGraph a
  handshake_excludes sizes i low high h are =
      let full = is_same _ _ h.0 in
      laws.handshake a (size_at sizes) i array (full_sizes sizes full are) low high
      (let Q : ℤ → Type 0 = λ z. IsMultiple 2 (z *ℤ size_at sizes i) → ⊥ in
      subst Q (count_is_sum sizes (suc (diameter a)) (omega arith)) (broken 2 _ (omega arith) h.1.0))

  induced_excludes : (sizes : Option (List ℤ)) (rows : List (List ℤ)) (i j : ℕ) → i ≤ diameter a → 1 ≤ j → j ≤ diameter a → EachHolds (induced_closing a sizes rows i j) → Sized a (values_of sizes) → Rowed a i rows → NoGraph a
  induced_excludes sizes rows i j hi low hj h are rowed =
      let full = is_same _ _ h.0 in
      laws.induced a (size_at sizes) (entry i rows) i j array (are.are i (omega arith)) (fewer_rows a i i (length rows) (entry i rows) (at_most _ _ h.1.0) rowed.are) low hi hj
      (broken 2 _ (omega arith) h.1.1.0)

  triangles_excludes : (sizes : Option (List ℤ)) (rows : List (List ℤ)) (i : ℕ) → 1 ≤ i → i ≤ diameter a → EachHolds (triangles_closing a sizes rows i) → Sized a (values_of sizes) → Rowed a i rows → NoGraph a
  triangles_excludes sizes rows i low high h are rowed =
      let full = is_same _ _ h.0 in
      laws.triangles a (size_at sizes) (entry i rows) i array (full_sizes sizes full are) (fewer_rows a i i (length rows) (entry i rows) (at_most _ _ h.1.0) rowed.are) low high
      (let Q : ℤ → Type 0 = λ z. IsMultiple 6 (z *ℤ size_at sizes i *ℤ entry i rows i i) → ⊥ in
      subst Q (count_is_sum sizes (suc (diameter a)) (omega arith)) (broken 6 _ (omega arith) h.1.1.0))

-- mult is closed with a frame alone
mult_needs_frame : (a : Entries) (frame : Option FrameContent) (i : ℕ) → is_some frame ≡ false → EachHolds (mult_closing a frame i) → ⊥
mult_needs_frame a None i e h = let never : false ≡ true = h.0 in cc
mult_needs_frame a (Some f) i e h = cc

-- a closed claim excludes every graph of the array in force, where there is no frame
module _ (laws : Laws) (k : KnownContent) (array : IsArray k.array) (unframed : is_some k.frame ≡ false) (closes : are_closed k.rooms ≡ true → NoGraph k.array) where
  closed_excludes : (c : Claim) → claim_is_met k.array c ≡ true → EachHolds (closing_of k c) → Sized k.array (values_of k.counts.sizes) → ((h : ℕ) → Rowed k.array h (rows_at k.counts.rows h)) → NoGraph k.array
  closed_excludes claim.First met h sizes rows = laws.first k.array array (not_same _ _ h.0)
  closed_excludes (claim.Degree i) met h sizes rows = (let range = distance k.array i met in laws.degree k.array i array range.0 range.1 (is_whole_less _ _ h.0))
  closed_excludes (claim.Order i) met h sizes rows = order_excludes laws k.array array i met h.0
  closed_excludes (claim.Cross i j) met h sizes rows = cross_excludes laws k.array array i j met h.0
  closed_excludes (claim.Size i) met h sizes rows = (let range = distance k.array i met in size_excludes laws k.array array k.counts.sizes i range.0 range.1 h sizes)
  closed_excludes (claim.Intersect h i j) met steps sizes rows =
      let outer = both (nat_le h (diameter k.array) && nat_le i (diameter k.array)) (nat_le j (diameter k.array)) met in
      let inner = both (nat_le h (diameter k.array)) (nat_le i (diameter k.array)) outer.0 in
      intersect_excludes laws k.array array h (rows_at k.counts.rows h) i j (at_most _ _ inner.0) (at_most _ _ inner.1) (at_most _ _ outer.1) steps (rows h)
  closed_excludes (claim.Handshake i) met h sizes rows = (let range = distance k.array i met in handshake_excludes laws k.array array k.counts.sizes i range.0 range.1 h sizes)
  closed_excludes (claim.Induced i j) met h sizes rows =
      let ranges = both (is_distance k.array i) (is_distance k.array j) met in
      let first = distance k.array i ranges.0 in
      let second = distance k.array j ranges.1 in
      induced_excludes laws k.array array k.counts.sizes (rows_at k.counts.rows i) i j first.1 second.0 second.1 h sizes (rows i)
  closed_excludes (claim.Triangles i) met h sizes rows =
      (let range = distance k.array i met in triangles_excludes laws k.array array k.counts.sizes (rows_at k.counts.rows i) i range.0 range.1 h sizes (rows i))
  closed_excludes (claim.Mult i) met h sizes rows = absurd (mult_needs_frame k.array k.frame i unframed h)
  closed_excludes (claim.Triple u v w) met h sizes rows = closes h.0
  closed_excludes _ met h sizes rows = cc

-- the class is that of counting rules where there is no frame
counting_unframed : (framed : Bool) → Counting ≡ (if framed then Spectral else Counting) → framed ≡ false
counting_unframed true e = cc
counting_unframed false e = refl

-- ---- the answer

-- the claim in force lies in the range of its test
pub met_in_force : (a : Entries) (c : Claim) (lines : List Line) → claim_is_met a c ≡ true → claim_is_met (known_of a c lines).array (known_of a c lines).claim ≡ true
met_in_force a c lines h = rw (array_stays a c lines, claim_stays a c lines) h

pub excludes : ClosedRoomsLaw → Laws → GraphLaw
excludes closes laws δ array h =
    let a = δ.array in
    let c = δ.claim in
    let lines = reverse δ.lines in
    let k = known_of a c lines in
    let end = accepted (progress_of a c lines) Counting (length lines + 4) h in
    let (met, known) = all_are_met a c lines end.known end.all_met in
    let closed = subst (λ k. first_failure (closing_steps k) ≡ Ok tt) known end.closed in
    let here = array_stays a c lines in
    subst NoGraph here
    (closed_excludes laws k (subst IsArray (sym here) array) (counting_unframed (is_some k.frame) (end.class_is ∙ ap accepted_class known)) (λ closed. subst NoGraph (sym here) (closes a c lines array met closed)) k.claim (met_in_force a c lines (claim_was_met a c lines end.known end.all_met)) (each_holds _ closed) (sizes_known a c lines met)
    (rows_known a c lines met))

pub class_is : ClassLaw
class_is δ class h =
    let end = accepted (progress_of δ.array δ.claim (reverse δ.lines)) class (length (reverse δ.lines) + 4) h in
    end.class_is ∙ ap accepted_class (all_are_met δ.array δ.claim (reverse δ.lines) end.known end.all_met).1

-- ---- met lines

pub met_sizes : SizesLaw → MetSizesLaw
met_sizes law g a claim lines array regular met x i vertex inside =
    let k = known_of a claim lines in
    let here = sym (array_stays a claim lines) in
    let known = sizes_known a claim lines met in
    let short = known.short in
    law g k.array (size_at k.counts.sizes) i x i (subst IsArray here array) (subst (IsDistanceRegular g) here regular) (omega arith) (known.are i inside) vertex (omega arith)

pub met_rows : RowsLaw → MetRowsLaw
met_rows law g a claim lines array regular met h x y i j distance stands inside =
    let k = known_of a claim lines in
    let here = sym (array_stays a claim lines) in
    let known = rows_known a claim lines met h in
    law g k.array (entry h (rows_at k.counts.rows h)) h (length (rows_at k.counts.rows h)) x y i j (subst IsArray here array) (subst (IsDistanceRegular g) here regular) known.short known.are distance
    stands inside
