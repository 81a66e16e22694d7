-- Where the numbers of an array or of a claim aren't appended whole.
use Rattle.std.proofs.Common.{◌≡◌, ℕ, zero, suc, ◌+◌, ◌<◌, ◌⊎◌, inl, inr, List, [], ◌∷◌, ◌++◌, length, take, drop, get_or, refl, sym, ◌∙◌, arith, append_assoc}
use Rattle.std.specs.Prelude.{Result, decimal, OnErr}
use Rattle.drg_algebra.specs.Beginnings.{BeginsWith}
use Rattle.drg_algebra.proofs.Beginnings.{begins, stops}
use Rattle.drg_array.specs.Claims.{spaced}
use Rattle.drg_array.specs.Text.{numbers_text}

-- the numbers before a place, the one at it, and the others
spaced-parts : (ns : List ℕ) (i : ℕ) → i < length ns → spaced ns ≡ spaced (take i ns) ++ (32 ∷ (decimal (get_or ns i 0) ++ spaced (drop (i + 1) ns)))
spaced-parts [] i h = absurd (omega arith)
spaced-parts (n ∷ ns) zero h = refl
spaced-parts (n ∷ ns) (suc i) h =
    let next : suc i + 1 ≡ suc (i + 1) = omega arith in
    rw (next, spaced-parts ns i (omega arith)) (sym (append_assoc (32 ∷ decimal n) (spaced (take i ns)) (32 ∷ (decimal (get_or ns i 0) ++ spaced (drop (i + 1) ns)))))

pub spaced-stops : {A E : Type 0} (r : Result A E) (old out new : List ℕ) (ns : List ℕ) (i : ℕ) → i < length ns → out ≡ old ++ spaced (take i ns) → new ≡ out
    → OnErr r (BeginsWith (spaced ns) old new)
spaced-stops r old out new ns i h was same = stops r old (spaced (take i ns)) _ (same ∙ was) (spaced-parts ns i h)

pub spaced-stops_inside : {A E : Type 0} (r : Result A E) (old out mid new : List ℕ) (ns : List ℕ) (i : ℕ) → i < length ns → out ≡ old ++ spaced (take i ns) → mid ≡ out ++ 32 ∷ []
    → new ≡ mid → OnErr r (BeginsWith (spaced ns) old new)
spaced-stops_inside r old out mid new ns i h was space same =
    stops r old (spaced (take i ns) ++ 32 ∷ []) (decimal (get_or ns i 0) ++ spaced (drop (i + 1) ns)) (rw (same, space, was) (append_assoc old (spaced (take i ns)) (32 ∷ [])))
    (spaced-parts ns i h ∙ sym (append_assoc (spaced (take i ns)) (32 ∷ []) (decimal (get_or ns i 0) ++ spaced (drop (i + 1) ns))))

-- a comma before each number but the first
comma : ℕ → List ℕ
comma zero = []
comma (suc i) = 44 ∷ []

-- the numbers before a place and the comma stand first
text-parts : (ns : List ℕ) (i : ℕ) → i < length ns → (rest : List ℕ) × (numbers_text ns ≡ numbers_text (take i ns) ++ (comma i ++ rest))
unfolding comma
text-parts [] i h = absurd (omega arith)
text-parts (n ∷ []) zero h = (decimal n, refl)
text-parts (n ∷ []) (suc i) h = absurd (omega arith)
text-parts (n ∷ m ∷ ns) zero h = (decimal n ++ 44 ∷ numbers_text (m ∷ ns), refl)
text-parts (n ∷ m ∷ ns) (suc zero) h = (numbers_text (m ∷ ns), refl)
text-parts (n ∷ m ∷ ns) (suc (suc i)) h =
    let more = text-parts (m ∷ ns) (suc i) (omega arith) in
    (more.0, rw more.1 (sym (append_assoc (decimal n) (44 ∷ numbers_text (m ∷ take i ns)) (44 ∷ more.0))))

pub text-stops : {A E : Type 0} (r : Result A E) (old out new : List ℕ) (ns : List ℕ) (i : ℕ) → i < length ns → out ≡ old ++ numbers_text (take i ns) → new ≡ out
    → OnErr r (BeginsWith (numbers_text ns) old new)
text-stops r old out new ns i h was same = (let parts = text-parts ns i h in stops r old (numbers_text (take i ns)) (comma i ++ parts.0) (same ∙ was) parts.1)

pub text-stops_inside : {A E : Type 0} (r : Result A E) (old out mid new : List ℕ) (ns : List ℕ) (i : ℕ) → i < length ns → out ≡ old ++ numbers_text (take i ns)
    → ((0 < i) × (mid ≡ out ++ 44 ∷ [])) ⊎ ((i ≡ 0) × (mid ≡ out)) → new ≡ mid → OnErr r (BeginsWith (numbers_text ns) old new)
unfolding comma
text-stops_inside r old out mid new ns zero h was (inl (some, next)) same = absurd (omega arith)
text-stops_inside r old out mid new ns (suc i) h was (inl (some, next)) same =
    let parts = text-parts ns (suc i) h in
    stops r old (numbers_text (take (suc i) ns) ++ 44 ∷ []) parts.0 (rw (same, next, was) (append_assoc old (numbers_text (take (suc i) ns)) (44 ∷ [])))
    (parts.1 ∙ sym (append_assoc (numbers_text (take (suc i) ns)) (44 ∷ []) parts.0))
text-stops_inside r old out mid new ns i h was (inr (none, next)) same = text-stops r old out new ns i h was (same ∙ next)

-- ---- the numbers of an array
-- the second list isn't appended whole, behind the first and a semicolon
pub second-begins : {A E : Type 0} (r : Result A E) (old mid new first second : List ℕ) → BeginsWith second mid new → mid ≡ ((old ++ 123 ∷ []) ++ first) ++ 59 ∷ []
    → OnErr r (BeginsWith (123 ∷ (first ++ 59 ∷ (second ++ 125 ∷ []))) old new)
second-begins r old mid new first second h was = begins r old (123 ∷ (first ++ 59 ∷ [])) (125 ∷ []) h (was ∙ simp append_assoc) (simp append_assoc)
