-- What `graph` finds in a list of edges.
use Rattle.std.specs.Prelude.{◌≡◌, ◌↔◌, ℕ, List}
use Rattle.drg_array.specs.Entries.{Entries, IsArray}
use Rattle.drg_graph.specs.Graph.{Graph, IsDistanceRegular}
use Rattle.drg_edges.specs.Answers.{IsAnswer}
use Rattle.drg_edges.specs.Faults.{IsGraphFault}
use Rattle.drg_edges.specs.Text.{IsGraphText}
use Rattle.drg_edges.specs.declared.answer.GraphAnswer.{GraphAnswer}
use Rattle.drg_edges.specs.declared.answer.GraphAnswer.TheVariants.{Array, Single, Apart, Differ, Far}
use Rattle.drg_edges.specs.declared.fault.GraphFault.TheVariants.{Bad}
use Rattle.drg_program.specs.GraphText.{graph_line}
use Rattle.drg_program.specs.declared.status.Status.{Status}
use Rattle.drg_program.specs.declared.status.Status.TheVariants.{Accepted, Rejected}

-- The graph is distance-regular with an array of the limits.
abbrev pub HasArray : Graph → Type 0
HasArray g = (a : Entries) × IsArray a × IsDistanceRegular g a

-- The answer holds of the graph, and no other one does. It is an array exactly where the graph is distance-regular with it.
pub record IsRightAnswer (g : Graph) (answer : GraphAnswer) : Type 0 where
  pub holds : IsAnswer g answer
  pub only : (other : GraphAnswer) → IsAnswer g other → other ≡ answer
  pub array : (a : Entries) → (answer ≡ Array a) ↔ (IsArray a × IsDistanceRegular g a)

-- An answer is told with this status.
abbrev pub graph_status : GraphAnswer → Status
graph_status (Array array) = Accepted
graph_status Single = Rejected
graph_status (Apart x y) = Rejected
graph_status (Differ x y x2 y2 distance up first second) = Rejected
graph_status (Far x y) = Rejected

-- The bytes list the edges of a graph, and this is the status and the line of its answer. It is accepted exactly where the
-- graph has an array, and rejected exactly where it has none.
pub record AnswersGraph (bytes : List ℕ) (status : Status) (text : List ℕ) : Type 0 where
  pub graph : Graph
  pub read : IsGraphText bytes graph
  pub answer : GraphAnswer
  pub right : IsRightAnswer graph answer
  pub told : status ≡ graph_status answer
  pub written : text ≡ graph_line answer
  pub accepted : (status ≡ Accepted) ↔ HasArray graph
  pub rejected : (status ≡ Rejected) ↔ (HasArray graph → ⊥)

-- The bytes list the edges of a graph.
abbrev pub ListsEdges : List ℕ → Type 0
ListsEdges bytes = (g : Graph) × IsGraphText bytes g

-- The bytes list the edges of no graph, and the first line that isn't as it should be is this one.
abbrev pub IsFaultInEdges : List ℕ → ℕ → Type 0
IsFaultInEdges bytes line = (ListsEdges bytes → ⊥) × IsGraphFault bytes (Bad line)
