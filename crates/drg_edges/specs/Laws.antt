-- A text is that of one graph or has one fault, and a graph has one answer. So a graph is distance-regular with an array
-- exactly where the answer is this array.
use Rattle.std.specs.Prelude.{◌≡◌, ◌≢◌, ◌↔◌, ℕ, List}
use Rattle.drg_array.specs.Entries.{Entries, IsArray}
use Rattle.drg_graph.specs.Graph.{Graph, IsDistanceRegular}
use Rattle.drg_edges.specs.Answers.{IsAnswer}
use Rattle.drg_edges.specs.Faults.{IsGraphFault}
use Rattle.drg_edges.specs.Text.{IsGraphText}
use Rattle.drg_edges.specs.declared.answer.GraphAnswer.{GraphAnswer}
use Rattle.drg_edges.specs.declared.answer.GraphAnswer.TheVariants.{Array}
use Rattle.drg_edges.specs.declared.fault.GraphFault.{GraphFault}
use Rattle.drg_edges.specs.declared.fault.GraphFault.TheVariants.{Memory}

-- A graph has one answer.
abbrev pub OneAnswer : Type 0
OneAnswer = (g : Graph) (p q : GraphAnswer) → IsAnswer g p → IsAnswer g q → p ≡ q

-- What an answer tells is an array exactly where the graph is distance-regular with it.
abbrev pub ArrayLaw : Type 0
ArrayLaw = (g : Graph) (answer : GraphAnswer) (a : Entries) → IsAnswer g answer → (answer ≡ Array a) ↔ (IsArray a × IsDistanceRegular g a)

-- A text is that of one graph.
abbrev pub OneGraph : Type 0
OneGraph = (text : List ℕ) (g h : Graph) → IsGraphText text g → IsGraphText text h → g ≡ h

-- A text that isn't a graph's has one fault, apart from want of memory.
abbrev pub OneFault : Type 0
OneFault = (text : List ℕ) (f g : GraphFault) → f ≢ Memory → g ≢ Memory → IsGraphFault text f → IsGraphFault text g → f ≡ g

-- The text of a graph has no fault, apart from want of memory.
abbrev pub NoFault : Type 0
NoFault = (text : List ℕ) (g : Graph) (f : GraphFault) → f ≢ Memory → IsGraphText text g → IsGraphFault text f → ⊥
