-- The walk of clap over the words of a command, one word after the other.
use Rattle.std.proofs.Common.{◌≡◌, false, refl, [], ◌∷◌, List}
use Rattle.std.specs.Prelude.{fold}
use Rattle.clap.specs.Words.{Kinds, Shape, Text}
use Rattle.clap.specs.Faults.{check_fault, defaults_fault, settle_fault, turn_fault, walk_fault}
use Rattle.clap.specs.Kinds.{or_else}
use Rattle.clap.specs.Walk.{Held, Walk, finished, settled, walked}

or_else_assoc : (a b c : Kinds) → or_else (or_else a b) c ≡ or_else a (or_else b c)
or_else_assoc [] b c = refl
or_else_assoc (k ∷ ks) b c = refl

-- what is looked at when the words end
abbrev pub finish : Shape → Held → Kinds
finish s end = or_else (settle_fault s.rules false end) (or_else (defaults_fault (settled s.rules end).rows s.rules) (check_fault s (finished s.rules end) false))

abbrev pub rest_of : Shape → Walk → List Text → Kinds
rest_of s w words = or_else (walk_fault s [] w words) (finish s (fold (walked s.rules []) w words).held)

-- one more word
pub step : (s : Shape) (w : Walk) (word : Text) (rest : List Text) → rest_of s w (word ∷ rest) ≡ or_else (turn_fault s [] w word) (rest_of s (walked s.rules [] w word) rest)
unfolding walk_fault
step s w word rest = or_else_assoc (turn_fault s [] w word) (walk_fault s [] (walked s.rules [] w word) rest) (finish s (fold (walked s.rules []) (walked s.rules [] w word) rest).held)
