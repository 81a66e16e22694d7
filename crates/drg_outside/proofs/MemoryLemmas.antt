-- Files in memory: the first of a name, and what is left of one.
use Rattle.std.proofs.Common.{◌≡◌, ℕ, zero, suc, ◌+◌, ◌<◌, ◌≤◌, List, [], ◌∷◌, ◌++◌, length, take, drop, get_or, true, Some, refl, ap, sym, ◌∙◌, arith, Vec, take-append-drop, min, add-zero}
use Rattle.std.proofs.lemmas.List.{length-take-le, nil_from_length}
use Rattle.std.proofs.Math.Seq.{take-append_seam, drop-drop}
use Rattle.std.specs.Prelude.{string_bytes}
use Rattle.std.specs.Str.{bytes_eq}
use Rattle.std.specs.declared.alloc.Global.{Global}
use Rattle.std.specs.declared.string.String.{String}
use Rattle.drg_outside.specs.Files.{content_of}
use Rattle.drg_outside.specs.Memory.{files_of, content_at}

-- a file's name and content
abbrev pub Entry : Type 0
Entry = String Global × Vec ℕ Global

pub content_at-out : (entries : List Entry) (i : ℕ) → length entries ≤ i → content_at (files_of entries) i ≡ []
content_at-out [] i h = refl
content_at-out (e ∷ es) zero h = absurd (omega (arith, h))
content_at-out (e ∷ es) (suc i) h = content_at-out es i (omega (arith, h))

pub content_at-get_or : (entries : List Entry) (i : ℕ) (d : Entry) → i < length entries
    → content_at (files_of entries) i ≡ (get_or entries i d).1.items
content_at-get_or [] i d h = absurd (omega (arith, h))
content_at-get_or (e ∷ es) zero d h = refl
content_at-get_or (e ∷ es) (suc i) d h = content_at-get_or es i d (omega (arith, h))

pub content_of-found : (entries : List Entry) (i : ℕ) (name : List ℕ) (d : Entry) → i < length entries
    → bytes_eq (string_bytes (get_or entries i d).0) name ≡ true
    → content_of name (files_of (drop i entries)) ≡ Some (content_at (files_of entries) i)
content_of-found [] i name d h e = absurd (omega (arith, h))
content_of-found (x ∷ xs) zero name d h e = rw e refl
content_of-found (x ∷ xs) (suc i) name d h e = content_of-found xs i name d (omega (arith, h)) e

-- what a read gives, and what it leaves, are together what was left
pub left-read : (rest content buf copied : List ℕ) (done count : ℕ) → rest ≡ drop done content → copied ≡ take count rest
    → count ≤ length rest → rest ≡ take count (copied ++ drop count buf) ++ drop (done + count) content
left-read rest content buf copied done count was got fits =
    let long : length copied ≡ count = ap length got ∙ length-take-le count rest fits in
    let front : take count (copied ++ drop count buf) ≡ copied = rw (← long) (take-append_seam copied (drop (length copied) buf)) in
    let back : drop (done + count) content ≡ drop count rest = sym (ap (drop count) was ∙ drop-drop count done content) in
    rw (front, back, got) (sym (take-append-drop count rest))

-- a count that is 0 where there is room leaves nothing, as nothing was left
pub nothing-left : (rest buf : List ℕ) (done count most : ℕ) (content : List ℕ) → rest ≡ drop done content
    → count ≡ min (min (length rest) (length buf)) most → 0 < most → count ≡ 0 → 0 < length buf → drop (done + count) content ≡ []
nothing-left rest buf done count most content was is some none wide =
    let short : length rest ≡ 0 = omega arith in
    let gone : rest ≡ [] = nil_from_length rest short in
    rw none (rw add-zero (sym was ∙ gone))
