-- Which number of an array is the first that fails, in the order k 0 to k d, n, then p h i j by h, i and j.
use Rattle.std.specs.Prelude.{◌≡◌, ◌≤◌, ◌<◌, ◌⊎◌, Option, Some, None, IfSome}
use Rattle.drg_algebra.specs.Rational.{ℚ}
use Rattle.drg_array.specs.Entries.{Entries, diameter}
use Rattle.drg_array.specs.Numbers.{size, vertex_count, IsIntersectionNumber, IsWhole, IsNatural}
use Rattle.drg_array.specs.Conditions.{CountsFail}
use Rattle.drg_array.specs.declared.node.Node.{Node}
use Rattle.drg_array.specs.declared.node.Node.TheVariants.{K, N, P}
use Rattle.drg_array.specs.declared.claim.Claim.TheVariants.{Size, Intersect}
use Rattle.drg_intersection.specs.FirstNumbers.{FirstNumbers, AreFirstNumbers, EndBefore}
use Rattle.drg_intersection.specs.Fits.{Fits}
use Rattle.drg_intersection.specs.declared.fault.NumbersFault.{NumbersFault}
use Rattle.drg_intersection.specs.declared.fault.NumbersFault.TheVariants.{Fall, Wide, Memory}

-- The nodes of the numbers of an array.
abbrev pub IsNode : Entries → Node → Type 0
IsNode a (K i) = i ≤ diameter a
IsNode a N = Unit {0}
IsNode a (P h i j) = (h ≤ diameter a) × (i ≤ diameter a) × (j ≤ diameter a)
IsNode a node = ⊥

-- The order of these nodes.
abbrev pub IsBefore : Node → Node → Type 0
IsBefore (K i) (K j) = i < j
IsBefore (K i) N = Unit {0}
IsBefore (K i) (P h l j) = Unit {0}
IsBefore N (P h i j) = Unit {0}
IsBefore (P h i j) (P m n l) = (h < m) ⊎ ((h ≡ m) × ((i < n) ⊎ ((i ≡ n) × (j < l))))
IsBefore earlier node = ⊥

-- The number is whole, and isn't a negative intersection number.
abbrev pub IsRight : Entries → Node → Type 0
IsRight a (K i) = IsWhole (size a i)
IsRight a N = IsWhole (vertex_count a)
IsRight a (P h i j) = (x : ℚ) → IsIntersectionNumber a h i j x → IsNatural x
IsRight a node = ⊥

-- The number doesn't fail.
pub record Passes (a : Entries) (node : Node) : Type 0 where
  pub fits : Fits a node
  pub right : IsRight a node

-- No number before this one fails.
abbrev pub IsReached : Entries → Node → Type 0
IsReached a node = (earlier : Node) → IsNode a earlier → IsBefore earlier node → Passes a earlier

-- No number of the array fails.
abbrev pub AllPass : Entries → Type 0
AllPass a = (node : Node) → IsNode a node → Passes a node

-- The number is the first that fails, since its formula doesn't fit.
pub record IsFirstWide (a : Entries) (node : Node) : Type 0 where
  pub is_node : IsNode a node
  pub reached : IsReached a node
  pub wide : ¬ Fits a node

-- The number is the first that fails. Its formula fits, and it fails the test size or intersect.
pub record IsFirstFall (a : Entries) (node : Node) (fails : Type 0) : Type 0 where
  pub is_node : IsNode a node
  pub reached : IsReached a node
  pub fits : Fits a node
  pub failed : fails

-- The cause of a fault.
abbrev pub IsNumbersFault : Entries → NumbersFault → Type 0
IsNumbersFault a (Wide node) = IsFirstWide a node
IsNumbersFault a (Fall (Size i)) = IsFirstFall a (K i) (CountsFail a (Size i))
IsNumbersFault a (Fall (Intersect h i j)) = IsFirstFall a (P h i j) (CountsFail a (Intersect h i j))
IsNumbersFault a (Fall claim) = ⊥
IsNumbersFault a Memory = Unit {0}

-- The number that a fault names. Want of memory names none.
abbrev pub failing_node : NumbersFault → Option Node
failing_node (Wide node) = Some node
failing_node (Fall (Size i)) = Some (K i)
failing_node (Fall (Intersect h i j)) = Some (P h i j)
failing_node (Fall claim) = None
failing_node Memory = None

-- The numbers are all those before the one that the fault names.
pub record AreBefore (a : Entries) (fault : NumbersFault) (first : FirstNumbers) : Type 0 where
  pub are : AreFirstNumbers a first
  pub end : IfSome (failing_node fault) (EndBefore first)
