-- What is known of the counts is what the lines `k` and `p` state.
use Rattle.std.proofs.Common.{◌≡◌, ℕ, zero, suc, ◌+◌, ◌-◌, ◌<◌, ◌≤◌, true, List, [], ◌∷◌, ◌++◌, length, Some, refl, sym, ap, ◌∙◌, subst, arith, inl, inr, Option}
use Rattle.std.specs.Prelude.{◌⊎◌, ℤ, pos, negsuc, unsigned_abs, int_le, is_none, slice_index_or, slice_set, replicate, Contains}
use Rattle.std.proofs.lemmas.Int.{ints}
use Rattle.drg_algebra.proofs.Tests.{both}
use Rattle.drg_array.specs.Entries.{Entries, diameter}
use Rattle.drg_array.specs.declared.claim.Claim.{Claim}
use Rattle.drg_derivation.specs.declared.line.Line.{Line}
use Rattle.drg_derivation.specs.declared.line.Line.TheVariants.{K, P}
use Rattle.drg_replay.specs.Steps.{EachHolds}
use Rattle.drg_replay.specs.Sizes.{size_steps}
use Rattle.drg_replay.specs.Rows.{rows_at, row_steps}
use Rattle.drg_replay.specs.Indices.{is_index}
use Rattle.drg_replay.specs.Lines.{known_of, steps_of}
use Rattle.drg_replay.specs.Answers.{AllAreMet}
use Rattle.drg_replay.specs.Laws.{KnownSizesLaw, IsRow, KnownRowsLaw}
use Rattle.drg_replay.proofs.LineLaws.{rule_holds}
use Rattle.drg_replay.proofs.StepLaws.{at_most, not_at_most}
use Rattle.drg_replay.proofs.RowLaws.{front, end, length_more, set_at, no_rows_at, two_cases}

-- a line that stands among the earlier ones
pub later : (lines : List Line) (newest line : Line) → Contains lines line → Contains (newest ∷ lines) line
later lines newest line h = let less = h.1 in (suc h.0, omega arith, h.2)

pub newest : (lines : List Line) (line : Line) → Contains (line ∷ lines) line
newest lines line = (0, omega arith, refl)

-- ---- the `k` line

sizes_stated : (a : Entries) (claim : Claim) (lines : List Line) (values : List ℤ) → (known_of a claim lines).counts.sizes ≡ Some values → Contains lines (K values)
sizes_stated a claim [] values h = cc
sizes_stated a claim (K numbers ∷ earlier) values h =
    let same : numbers ≡ values = cc in subst (λ v. Contains (K numbers ∷ earlier) (K v)) same (newest earlier (K numbers))
sizes_stated a claim (line ∷ earlier) values h = later earlier line (K values) (sizes_stated a claim earlier values h)

-- a met `k` line is the first
none_before : (a : Entries) (sizes : Option (List ℤ)) (numbers values : List ℤ) → EachHolds (size_steps a sizes numbers) → sizes ≡ Some values → ⊥
none_before a sizes [] values h e = cc
none_before a sizes (v ∷ vs) values h e = let none : is_none sizes ≡ true = h.0 in cc

sizes_stand : (a : Entries) (claim : Claim) (lines : List Line) (values : List ℤ) → AllAreMet a claim lines → (n : ℕ) → n < length lines
    → slice_index_or lines n (K values) ≡ K values → (known_of a claim lines).counts.sizes ≡ Some values
sizes_stand a claim [] values met n less is = absurd (omega arith)
sizes_stand a claim (K numbers ∷ earlier) values met zero less is = cc
sizes_stand a claim (K numbers ∷ earlier) values met (suc n) less is =
    let k = known_of a claim earlier in
    absurd (none_before k.array k.counts.sizes numbers values (rule_holds k (K numbers) met.1) (sizes_stand a claim earlier values met.0 n (omega arith) is))
sizes_stand a claim (_ ∷ earlier) values met zero less is = cc
sizes_stand a claim (_ ∷ earlier) values met (suc n) less is = sizes_stand a claim earlier values met.0 n (omega arith) is

pub known_sizes : KnownSizesLaw
known_sizes a claim lines values met = (sizes_stated a claim lines values, λ h. sizes_stand a claim lines values met h.0 h.1 h.2)

-- ---- the `p` lines

-- there are rows for each upper index from 0 to d
length_set : (rows : List (List (List ℤ))) (h : ℕ) (new : List (List ℤ)) → length (slice_set rows h new) ≡ length rows
length_set [] h new = refl
length_set (r ∷ rows) zero new = refl
length_set (r ∷ rows) (suc h) new = ap suc (length_set rows h new)

length_none : (n : ℕ) → length (replicate {A = List (List ℤ)} n []) ≡ n
length_none zero = refl
length_none (suc n) = ap suc (length_none n)

pub all_upper : (a : Entries) (claim : Claim) (lines : List Line) → length (known_of a claim lines).counts.rows ≡ diameter (known_of a claim lines).array + 1
all_upper a claim [] = length_none (diameter a + 1)
all_upper a claim (P g i numbers ∷ earlier) = length_set (known_of a claim earlier).counts.rows (unsigned_abs g) _ ∙ all_upper a claim earlier
all_upper a claim (_ ∷ earlier) = all_upper a claim earlier

set_here : (rows : List (List (List ℤ))) (h : ℕ) (new : List (List ℤ)) → h < length rows → rows_at (slice_set rows h new) h ≡ new
set_here [] h new less = absurd (omega arith)
set_here (r ∷ rows) zero new less = refl
set_here (r ∷ rows) (suc h) new less = set_here rows h new (omega arith)

-- an index that is in its range
pub index_is : (least limit : ℕ) (n : ℤ) → is_index least n limit ≡ true → n ≡ pos (unsigned_abs n)
index_is least limit (pos n) h = refl
index_is least limit (negsuc n) h = cc

pub index_below : (least limit : ℕ) (n : ℤ) → is_index least n limit ≡ true → unsigned_abs n ≤ limit
index_below least limit (pos n) h = let b = both (int_le (pos least) (pos n)) (int_le (pos n) (pos limit)) h in omega (arith, ints)
index_below least limit (negsuc n) h = cc

index_above : (limit : ℕ) (n : ℤ) → is_index 1 n limit ≡ true → unsigned_abs n ≡ suc (unsigned_abs n - 1)
index_above limit (pos n) h = let b = both (int_le (pos 1) (pos n)) (int_le (pos n) (pos limit)) h in omega (arith, ints)
index_above limit (negsuc n) h = cc

-- a met row is the one after those that stand
next_row : (a : Entries) (h : ℕ) (rows : List (List ℤ)) (i : ℕ) (values : List ℤ) → EachHolds (row_steps a h rows i values) → i ≡ length rows
next_row a h rows i values steps =
    let past = not_at_most (suc i) (length rows) steps.0 in
    let stands = at_most i (length rows) steps.1.0 in omega arith

-- the rows of one upper index with one more
row_kept : (rows : List (List ℤ)) (last : List ℤ) (i : ℕ) (values : List ℤ) → IsRow rows i values → IsRow (rows ++ last ∷ []) i values
row_kept rows last i values row =
    let stands = row.stands in
    let more = length_more rows last in
    record { stands = omega arith; numbers = front rows last i stands ∙ row.numbers }

row_added : (rows : List (List ℤ)) (i : ℕ) (values : List ℤ) → i ≡ length rows → IsRow (rows ++ values ∷ []) i values
row_added rows i values e =
    let more = length_more rows values in
    let P : ℕ → Type 0 = λ n. slice_index_or (rows ++ values ∷ []) n [] ≡ values in
    record { stands = omega arith; numbers = subst P (sym e) (end rows values) }

row_before : (rows : List (List ℤ)) (last : List ℤ) (i : ℕ) (values : List ℤ) → IsRow (rows ++ last ∷ []) i values → ((i ≡ length rows) × (last ≡ values)) ⊎ IsRow rows i values
row_before rows last i values row =
    let stands = row.stands in
    let more = length_more rows last in
    elim (two_cases i (length rows) (omega arith)) [
      | inl e ↦ (let P : ℕ → Type 0 = λ n. slice_index_or (rows ++ last ∷ []) n [] ≡ values in
          inl (e, sym (end rows last) ∙ subst P e row.numbers))
      | inr less ↦ inr (record { stands = less; numbers = sym (front rows last i less) ∙ row.numbers })
    ]

rows_stated : (a : Entries) (claim : Claim) (lines : List Line) (h i : ℕ) (values : List ℤ) → AllAreMet a claim lines → IsRow (rows_at (known_of a claim lines).counts.rows h) i values
    → Contains lines (P (pos h) (pos (suc i)) values)
rows_stated a claim [] h i values met row =
    let none : length (rows_at (replicate (diameter a + 1) []) h) ≡ 0 = ap length (no_rows_at (diameter a + 1) h) in
    let stands = row.stands in absurd (omega arith)
rows_stated a claim (P g r numbers ∷ earlier) h i values met row =
    let k = known_of a claim earlier in
    let rows = rows_at k.counts.rows (unsigned_abs g) in
    let steps = rule_holds k (P g r numbers) met.1 in
    let at = next_row k.array (unsigned_abs g) rows (unsigned_abs r - 1) numbers steps.1.1 in
    let upper = index_is 0 (diameter k.array) g steps.0 in
    let number = index_is 1 (diameter k.array) r steps.1.0 in
    let above = index_above (diameter k.array) r steps.1.0 in
    let before = λ (old : IsRow (rows_at k.counts.rows h) i values). later earlier (P g r numbers) (P (pos h) (pos (suc i)) values) (rows_stated a claim earlier h i values met.0 old) in
    elim (set_at k.counts.rows (unsigned_abs g) h (rows ++ numbers ∷ [])) [
      | inl same ↦ before (let Q : List (List ℤ) → Type 0 = λ x. IsRow x i values in subst Q same row)
      | inr new ↦ elim (row_before rows numbers i values (let Q : List (List ℤ) → Type 0 = λ x. IsRow x i values in subst Q new.1 row)) [
        | inl last ↦
            (let r_is : r ≡ pos (suc i) = number ∙ ap pos (above ∙ ap suc (at ∙ sym last.0)) in
            let g_is : g ≡ pos h = upper ∙ ap pos (sym new.0) in
            let line_is : P g r numbers ≡ P (pos h) (pos (suc i)) values = cc in
            subst (λ line. Contains (P g r numbers ∷ earlier) line) line_is (newest earlier (P g r numbers)))
        | inr old ↦ before (let Q : ℕ → Type 0 = λ x. IsRow (rows_at k.counts.rows x) i values in subst Q (sym new.0) old)
      ]
    ]
rows_stated a claim (line ∷ earlier) h i values met row = later earlier line (P (pos h) (pos (suc i)) values) (rows_stated a claim earlier h i values met.0 row)

-- the row of the newest line
newest_stands : (a : Entries) (claim : Claim) (earlier : List Line) (g r : ℤ) (numbers : List ℤ) (h i : ℕ) (values : List ℤ) → EachHolds (steps_of (known_of a claim earlier) (P g r numbers)) → P g r numbers ≡ P (pos h) (pos (suc i)) values
    → IsRow (rows_at (slice_set (known_of a claim earlier).counts.rows (unsigned_abs g) (rows_at (known_of a claim earlier).counts.rows (unsigned_abs g) ++ numbers ∷ [])) h) i values
newest_stands a claim earlier g r numbers h i values steps e =
    let k = known_of a claim earlier in
    let rows = rows_at k.counts.rows (unsigned_abs g) in
    let g_is : g ≡ pos h = cc in
    let r_is : r ≡ pos (suc i) = cc in
    let numbers_are : numbers ≡ values = cc in
    let upper : unsigned_abs g ≡ h = ap unsigned_abs g_is in
    let inside : unsigned_abs g ≤ diameter k.array = index_below 0 (diameter k.array) g steps.0 in
    let size : unsigned_abs r ≡ suc i = ap unsigned_abs r_is in
    let next = next_row k.array (unsigned_abs g) rows (unsigned_abs r - 1) numbers steps.1.1 in
    let place : i ≡ length rows = omega arith in
    let all = all_upper a claim earlier in
    let here = set_here k.counts.rows (unsigned_abs g) (rows ++ numbers ∷ []) (omega arith) in
    let Q : List (List ℤ) → Type 0 = λ x. IsRow x i values in
    let R : ℕ → Type 0 = λ x. IsRow (rows_at (slice_set k.counts.rows (unsigned_abs g) (rows ++ numbers ∷ [])) x) i values in
    let S : List ℤ → Type 0 = λ v. IsRow (rows ++ numbers ∷ []) i v in
    subst R upper (subst Q (sym here) (subst S numbers_are (row_added rows i numbers place)))

rows_stand : (a : Entries) (claim : Claim) (lines : List Line) (h i : ℕ) (values : List ℤ) → AllAreMet a claim lines → (n : ℕ) → n < length lines
    → slice_index_or lines n (P (pos h) (pos (suc i)) values) ≡ P (pos h) (pos (suc i)) values → IsRow (rows_at (known_of a claim lines).counts.rows h) i values
rows_stand a claim [] h i values met n less is = absurd (omega arith)
rows_stand a claim (P g r numbers ∷ earlier) h i values met zero less is =
    newest_stands a claim earlier g r numbers h i values (rule_holds (known_of a claim earlier) (P g r numbers) met.1) is
rows_stand a claim (P g r numbers ∷ earlier) h i values met (suc n) less is =
    let k = known_of a claim earlier in
    let rows = rows_at k.counts.rows (unsigned_abs g) in
    let old = rows_stand a claim earlier h i values met.0 n (omega arith) is in
    let Q : List (List ℤ) → Type 0 = λ x. IsRow x i values in
    elim (set_at k.counts.rows (unsigned_abs g) h (rows ++ numbers ∷ [])) [
      | inl same ↦ subst Q (sym same) old
      | inr new ↦ subst Q (sym new.1) (row_kept rows numbers i values (let R : ℕ → Type 0 = λ x. IsRow (rows_at k.counts.rows x) i values in subst R new.0 old))
    ]
rows_stand a claim (_ ∷ earlier) h i values met zero less is = cc
rows_stand a claim (_ ∷ earlier) h i values met (suc n) less is = rows_stand a claim earlier h i values met.0 n (omega arith) is

pub known_rows : KnownRowsLaw
known_rows a claim lines h i values met = (rows_stated a claim lines h i values met, λ at. rows_stand a claim lines h i values met at.0 at.1 at.2)
