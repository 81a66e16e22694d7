-- Why a counting system isn't made: its first equation that doesn't fit.
use Rattle.std.specs.Prelude.{◌≡◌, ℕ, true, false, List, ◌∷◌, ◌++◌, All}
use Rattle.drg_array.specs.declared.node.Node.{Node}
use Rattle.drg_array.specs.declared.node.Node.TheVariants.{Eq}
use Rattle.drg_intersection.specs.Numbers.{Numbers}
use Rattle.drg_linear.specs.declared.triple.TripleType.{TripleType}
use Rattle.drg_triples.specs.declared.counted.Counted.{Counted}
use Rattle.drg_triples.specs.declared.fault.TripleFault.{TripleFault}
use Rattle.drg_triples.specs.declared.fault.TripleFault.TheVariants.{Wide, Memory}
use Rattle.drg_triples.specs.Counting.{number_of_vertex, counted_of, equation_fits}

abbrev pub node_of : TripleType → Counted → Node
node_of ty c = Eq ty.u ty.v ty.w (number_of_vertex c.vertex) c.x c.y

abbrev pub Fits : Numbers → TripleType → Counted → Type 0
Fits numbers ty c = equation_fits numbers ty c ≡ true

-- each equation of some counts fits
abbrev pub AllFit : Numbers → TripleType → List Counted → Type 0
AllFit numbers ty counted = All (Fits numbers ty) counted

-- the node names the first of these equations that doesn't fit
pub record IsFirstWide (numbers : Numbers) (ty : TripleType) (counted : List Counted) (node : Node) : Type 0 where
  pub before : List Counted
  pub at : Counted
  pub after : List Counted
  pub whole : counted ≡ before ++ at ∷ after
  pub fit : AllFit numbers ty before
  pub wide : equation_fits numbers ty at ≡ false
  pub names : node ≡ node_of ty at

-- the cause of a fault of these equations
abbrev pub IsFaultAmong : Numbers → TripleType → List Counted → TripleFault → Type 0
IsFaultAmong numbers ty counted (Wide node) = IsFirstWide numbers ty counted node
IsFaultAmong numbers ty counted Memory = Unit {0}

-- the cause of a fault of the counting system
abbrev pub IsFault : Numbers → TripleType → TripleFault → Type 0
IsFault numbers ty fault = IsFaultAmong numbers ty (counted_of numbers.d) fault
