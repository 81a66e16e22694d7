-- A text with a fault lists no edges, and the status of an answer on a graph is one of the command.
use Rattle.std.proofs.Common.{◌≡◌, ◌≢◌, ℕ, List}
use Rattle.drg_edges.specs.Faults.{IsGraphFault}
use Rattle.drg_edges.specs.Laws.{NoFault}
use Rattle.drg_edges.specs.declared.answer.GraphAnswer.{GraphAnswer}
use Rattle.drg_edges.specs.declared.answer.GraphAnswer.TheVariants.{Array, Single, Apart, Differ, Far}
use Rattle.drg_edges.specs.declared.fault.GraphFault.TheVariants.{Bad, Memory}
use Rattle.drg_program.specs.Graph.{IsFaultInEdges, graph_status}
use Rattle.drg_program.specs.Run.{IsAnswerOf}
use Rattle.drg_words.specs.declared.command.Command.TheVariants.{Graph}
use Rattle.drg_program.specs.declared.status.Status.{Status}

not_memory : (line : ℕ) → Bad line ≢ Memory
not_memory line e = cc

-- a text with a fault
pub fault_in : (bytes : List ℕ) (line : ℕ) → NoFault → IsGraphFault bytes (Bad line) → IsFaultInEdges bytes line
fault_in bytes line law fault = ((λ (g, read). law bytes g (Bad line) (not_memory line) read fault), fault)

is_answer : (answer : GraphAnswer) (file : List ℕ) → IsAnswerOf (graph_status answer) (Graph file)
is_answer (Array a) file = tt
is_answer Single file = tt
is_answer (Apart x y) file = tt
is_answer (Differ x y x2 y2 distance up first second) file = tt
is_answer (Far x y) file = tt

-- the status of an answer
pub told : (answer : GraphAnswer) (status : Status) (file : List ℕ) → status ≡ graph_status answer → IsAnswerOf status (Graph file)
told answer status file e = rw e (is_answer answer file)
