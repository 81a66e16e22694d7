-- Where a text isn't appended whole, what was appended before and a beginning of the next piece are a beginning of it.
use Rattle.std.proofs.Common.{◌≡◌, List, [], ◌++◌, ℕ, ap, sym, ◌∙◌, append_assoc, append-nil}
use Rattle.std.specs.Prelude.{Result, Ok, Err, OnErr}
use Rattle.drg_algebra.specs.Beginnings.{BeginsWith}

pub on_err : {A E : Type 0} (r : Result A E) (P : Type 0) → P → OnErr r P
on_err (Ok x) P p = tt
on_err (Err e) P p = p

-- what was appended before a piece of the text, and a beginning of the piece
with_piece : (old front back text piece mid new : List ℕ) → BeginsWith piece mid new → mid ≡ old ++ front → text ≡ front ++ (piece ++ back) → BeginsWith text old new
with_piece old front back text piece mid new h e whole = record {
  written = front ++ h.written;
  rest = h.rest ++ back;
  whole = whole ∙ (ap (λ (x : List ℕ). front ++ (x ++ back)) h.whole ∙ simp append_assoc);
  now = h.now ∙ (ap (λ (x : List ℕ). x ++ h.written) e ∙ append_assoc old front h.written);
}

-- the call that appends a piece fails, behind what was appended before
pub begins : {A E : Type 0} (r : Result A E) (old front back : List ℕ) {text piece mid new : List ℕ} → BeginsWith piece mid new → mid ≡ old ++ front
    → text ≡ front ++ (piece ++ back) → OnErr r (BeginsWith text old new)
begins r old front back {text = text} {piece = piece} {mid = mid} {new = new} h e whole =
    on_err r (BeginsWith text old new) (with_piece old front back text piece mid new h e whole)

-- the call that appends a piece appends nothing of it
pub stops : {A E : Type 0} (r : Result A E) (old front back : List ℕ) {text new : List ℕ} → new ≡ old ++ front → text ≡ front ++ back → OnErr r (BeginsWith text old new)
stops r old front back {text = text} {new = new} e whole = on_err r (BeginsWith text old new) (record { written = front; rest = back; whole = whole; now = e })

-- the call that appends the last piece
pub begins_last : {A E : Type 0} (r : Result A E) (old front piece new : List ℕ) {text mid : List ℕ} → OnErr r (BeginsWith piece mid new) → mid ≡ old ++ front
    → text ≡ front ++ piece → OnErr r (BeginsWith text old new)
begins_last (Ok x) old front piece new h e whole = tt
begins_last (Err e) old front piece new {text = text} {mid = mid} h same whole =
    with_piece old front [] text piece mid new h same (whole ∙ ap (λ (x : List ℕ). front ++ x) (sym (append-nil piece)))
