-- Where the lists of a report aren't appended whole, a beginning of them stands there.
use Rattle.std.proofs.Common.{◌≡◌, ℕ, zero, suc, ◌+◌, ◌<◌, inl, inr, List, [], ◌∷◌, ◌++◌, length, take, drop, get_or, refl, sym, ap, ◌∙◌, arith, append_assoc, append-nil}
use Rattle.std.specs.Prelude.{Result, Ok, Err, OnOk, OnErr, nat_lt}
use Rattle.std.specs.List.{flat_map}
use Rattle.std.proofs.lemmas.Bool.Decides.{nat_tests}
use Rattle.drg_algebra.specs.Beginnings.{BeginsWith}
use Rattle.drg_algebra.proofs.Beginnings.{begins}
use Rattle.drg_algebra.proofs.Tests.{decided}
use Rattle.drg_report.specs.Pieces.{pieces}

-- ---- pieces one after the other
pub onward : (old front piece : List ℕ) {mid next : List ℕ} → mid ≡ old ++ front → next ≡ mid ++ piece → next ≡ old ++ (front ++ piece)
onward old front piece was now = now ∙ (ap (λ x. x ++ piece) was ∙ append_assoc old front piece)

pub from_second : (a b c d e : List ℕ) → (((a ++ b) ++ c) ++ d) ++ e ≡ a ++ (b ++ ((c ++ d) ++ e))
from_second a b c d e = simp append_assoc

-- the call that appends the last piece
pub ends_ok : {B E : Type 0} (r : Result B E) (old front piece new : List ℕ) {mid : List ℕ} → OnOk r (new ≡ mid ++ piece) → mid ≡ old ++ front → OnOk r (new ≡ old ++ (front ++ piece))
ends_ok (Ok x) old front piece new now was = onward old front piece was now
ends_ok (Err e) old front piece new now was = tt

pub first_of_four : (a b c d : List ℕ) → ((a ++ b) ++ c) ++ d ≡ a ++ ((b ++ c) ++ d)
first_of_four a b c d = simp append_assoc

pub second_of_four : (a b c d : List ℕ) → ((a ++ b) ++ c) ++ d ≡ a ++ (b ++ (c ++ d))
second_of_four a b c d = simp append_assoc

-- nothing of a piece
pub nothing : (piece old : List ℕ) {new : List ℕ} → new ≡ old → BeginsWith piece old new
nothing piece old same = record { written = []; rest = piece; whole = refl; now = same ∙ sym (append-nil old) }

-- ---- a list with a text for each of its items
items-parts : {A : Type 0} (f : A → List ℕ) (xs : List A) (i : ℕ) (y : A) → i < length xs
    → flat_map f xs ≡ flat_map f (take i xs) ++ (f (get_or xs i y) ++ flat_map f (drop (i + 1) xs))
items-parts f [] i y h = absurd (omega arith)
items-parts f (x ∷ xs) zero y h = refl
items-parts f (x ∷ xs) (suc i) y h =
    let next : suc i + 1 ≡ suc (i + 1) = omega arith in
    rw next (ap (λ l. f x ++ l) (items-parts f xs i y (omega arith)) ∙ sym (append_assoc (f x) (flat_map f (take i xs)) (f (get_or xs i y) ++ flat_map f (drop (i + 1) xs))))

pub item-begins : {B E A : Type 0} (r : Result B E) (f : A → List ℕ) (xs : List A) (i : ℕ) (y : A) (old : List ℕ) {out new : List ℕ} → i < length xs
    → out ≡ old ++ flat_map f (take i xs) → BeginsWith (f (get_or xs i y)) out new → OnErr r (BeginsWith (flat_map f xs) old new)
item-begins r f xs i y old h was part = begins r old (flat_map f (take i xs)) (flat_map f (drop (i + 1) xs)) part was (items-parts f xs i y h)

-- ---- pieces
-- the piece at a place stands behind those before it
pieces-parts : (piece : ℕ → List ℕ) (m i : ℕ) → i < m → (rest : List ℕ) × (pieces piece m ≡ pieces piece i ++ (piece i ++ rest))
pieces-parts piece zero i h = absurd (omega arith)
pieces-parts piece (suc m) i h =
    elim (decided (nat_lt i m)) [
      | inl e ↦ (let more = pieces-parts piece m i (grind (arith, nat_tests, e)) in
          (more.0 ++ piece m, ap (λ l. l ++ piece m) more.1 ∙ ends (pieces piece i) (piece i) more.0 (piece m)))
      | inr e ↦ (let same : i ≡ m = grind (arith, nat_tests, e, h) in
          ([], rw same (ap (λ l. pieces piece m ++ l) (sym (append-nil (piece m))))))
    ]
  where
    ends : (a b c d : List ℕ) → (a ++ (b ++ c)) ++ d ≡ a ++ (b ++ (c ++ d))
    ends a b c d = simp append_assoc

pub piece-begins : {B E : Type 0} (r : Result B E) (piece : ℕ → List ℕ) (m i : ℕ) (old : List ℕ) {out new : List ℕ} → i < m
    → out ≡ old ++ pieces piece i → BeginsWith (piece i) out new → OnErr r (BeginsWith (pieces piece m) old new)
piece-begins r piece m i old h was part = (let parts = pieces-parts piece m i h in begins r old (pieces piece i) parts.0 part was parts.1)
