-- Pieces that were appended or taken one after the other.
use Rattle.std.proofs.Common.{◌≡◌, ℕ, ◌+◌, ◌≤◌, List, ◌++◌, length, take, drop, sym, ◌∙◌, subst, arith, length-append}
use Rattle.std.specs.Prelude.{Option}
use Rattle.std.proofs.Math.Seq.{take-add}
use Rattle.std.proofs.KnownBytes.{Appends-trans, Consumes-trans}
use Rattle.std.specs.Io.KnownBytes.{Appends, Consumes}
use Rattle.drg_outside.specs.Whole.{TakesCount, TakesAtMost}

-- n more bytes of the piece were appended
pub Appends-more : (a b c : Option (List ℕ)) (piece rest : List ℕ) (done n : ℕ) → rest ≡ drop done piece
    → Appends a b (take done piece) → Appends b c (take n rest) → Appends a c (take (done + n) piece)
Appends-more a b c piece rest done n is first second =
    let joined : take done piece ++ take n rest ≡ take (done + n) piece = rw is (sym (take-add done n piece)) in
    subst (Appends a c) joined (Appends-trans a b c (take done piece) (take n rest) first second)

-- what was taken with one more piece
pub TakesCount-more : (a b c : Option (List ℕ)) (bytes piece : List ℕ) (n : ℕ) → Consumes a b bytes → Consumes b c piece
    → length bytes + length piece ≡ n → TakesCount a c n
TakesCount-more a b c bytes piece n first second sized =
    (bytes ++ piece, Consumes-trans a b c bytes piece first second, length-append bytes piece ∙ sized)

-- what was taken is at most a greater number
pub TakesAtMost-count : (a b : Option (List ℕ)) (n limit : ℕ) → TakesCount a b n → n ≤ limit → TakesAtMost a b limit
TakesAtMost-count a b n limit (bytes, taken, sized) short = (bytes, taken, omega arith)
