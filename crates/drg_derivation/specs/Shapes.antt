-- The form of each kind of evidence line: its word, and how many numbers follow it at its place.
use Rattle.std.specs.Prelude.{◌≡◌, ℕ, zero, suc, ◌≤◌, ◌+◌, ◌-◌, ◌*◌, ℤ, pos, negsuc, List, [], ◌∷◌, codes}
use Rattle.drg_derivation.specs.declared.context.Context.{Context}
use Rattle.drg_derivation.specs.declared.kind.Kind.{Kind}
use Rattle.drg_derivation.specs.declared.kind.Kind.TheVariants as kind
use Rattle.drg_derivation.specs.declared.kind.Shape.{Shape}
use Rattle.drg_derivation.specs.declared.kind.Tail.{Tail}
use Rattle.drg_derivation.specs.declared.kind.Tail.TheVariants.{Nothing, Sizes, Row, FieldNumber, FieldRow, Pairs}

-- a kind of line: its word, the version of the text that it comes with, how many numbers lead, and
-- what follows them
pub record Form : Type 0 where
  pub word : List ℕ
  pub since : ℕ
  pub leading : ℕ
  pub tail : Tail

abbrev pub row : List ℕ → ℕ → ℕ → Tail → Form
row word since leading tail = record { word = word; since = since; leading = leading; tail = tail }

abbrev pub form_of : Kind → Form
form_of kind.K = row (codes "k") 1 0 Sizes
form_of kind.P = row (codes "p") 1 2 Row
form_of kind.Frame = row (codes "frame") 1 1 Nothing
form_of kind.Theta = row (codes "theta") 1 1 FieldNumber
form_of kind.Prow = row (codes "prow") 1 1 FieldRow
form_of kind.Qrow = row (codes "qrow") 1 1 FieldRow
form_of kind.Krein = row (codes "krein") 1 2 FieldRow
form_of kind.Eq = row (codes "eq") 1 3 Nothing
form_of kind.Keq = row (codes "keq") 1 4 Nothing
form_of kind.Comb = row (codes "comb") 1 1 Pairs
form_of kind.Low = row (codes "low") 1 5 Nothing
form_of kind.High = row (codes "high") 1 5 Nothing
form_of kind.Split = row (codes "split") 1 4 Nothing
form_of kind.Miss = row (codes "miss") 1 1 Nothing
form_of kind.Mod = row (codes "mod") 1 2 Nothing
form_of kind.Void = row (codes "void") 1 3 Nothing

-- the form that a row of the code's table tells
abbrev pub form : Shape → Form
form shape = row shape.word.now shape.since shape.leading shape.tail

-- the first number, or 0 where there is none
abbrev pub first_of : List ℤ → ℤ
first_of [] = pos 0
first_of (z ∷ zs) = z

-- m pairs, where m is at least 1
abbrev pub AreTwice : ℤ → ℕ → Type 0
AreTwice (pos m) count = (1 ≤ m) × (count ≡ 2 * m)
AreTwice (negsuc m) count = ⊥

-- After its leading numbers a line with such a tail has `count` more, where `first` is the first number of the line.
abbrev pub HasTail : Context → Tail → ℤ → ℕ → Type 0
HasTail context Nothing first count = count ≡ 0
HasTail context Sizes first count = (1 ≤ count) × (count ≤ context.d + 1)
HasTail context Row first count = count ≡ context.d + 1
HasTail context FieldNumber first count = count ≡ context.width
HasTail context FieldRow first count = count ≡ context.width * (context.d + 1)
HasTail context Pairs first count = AreTwice first count

-- a line of this form may have so many numbers, the first of which is this one
pub record Suits (context : Context) (form : Form) (first : ℤ) (count : ℕ) : Type 0 where
  pub known : form.since ≤ context.version
  pub led : form.leading ≤ count
  pub followed : HasTail context form.tail first (count - form.leading)

-- a field number is two numbers where the root is 0, and four else
abbrev pub width_of : ℤ → ℕ
width_of (pos zero) = 2
width_of (pos (suc n)) = 4
width_of (negsuc n) = 4

-- before any `frame` line a field number is written as over the root 0
abbrev pub first_context : ℕ → ℕ → Context
first_context version d = record { version = version; d = d; width = 2 }

-- after a line of this kind with this first number, which is the root of a `frame` line
abbrev pub context_after : Context → Kind → ℤ → Context
context_after context kind.Frame root = record context { width = width_of root }
context_after context _ first = context
