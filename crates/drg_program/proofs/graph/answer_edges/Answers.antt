use Rattle.std.proofs.Common.{ℕ, refl, sym, subst}
use Rattle.drg_edges.specs.Faults.{IsGraphFault}
use Rattle.drg_edges.specs.declared.fault.GraphFault.{GraphFault}
use Rattle.drg_edges.specs.declared.fault.GraphFault.TheVariants.{Bad}
use Rattle.drg_program.specs.Graph.{IsFaultInEdges}
use Rattle.drg_program.proofs.GraphLemmas.{fault_in}
use Rattle.drg_program.proofs.graph.answer_edges.Goals as goal

pub returns-in-Err-Bad : goal.returns-in-Err-Bad
returns-in-Err-Bad c =
    let bytes = c.args.bytes.now in
    let number = c.in-Err-Bad.line in
    let fault : IsGraphFault bytes (Bad number) = subst (λ (f : GraphFault). IsGraphFault bytes f) c.in-Err-Bad.field-0-is c.in-Err-Bad.ensures.fault in
    let here : IsFaultInEdges bytes number = fault_in bytes number c.edge_text_law.ensures.no_fault fault in
    λ file. (refl, subst (λ (line : ℕ). IsFaultInEdges bytes line) (sym c.in-Err-Bad.line-is) here)
