use Rattle.std.proofs.Common.{ap, ◌∙◌, ◌++◌}
use Rattle.std.proofs.lemmas.List.Elements.{All-append}
use Rattle.std.proofs.lemmas.Result.{err_from_is_err_and}
use Rattle.drg_linear.specs.declared.triple.Vertex.TheVariants.{First, Second, Third}
use Rattle.drg_linear.specs.Systems.{SystemContent}
use Rattle.drg_triples.specs.Counting.{counted_at}
use Rattle.drg_triples.specs.Faults.{Fits}
use Rattle.drg_triples.proofs.Lists.{among_front, among_back, three_parts}
use Rattle.drg_triples.proofs.counting.counting_system.Goals as goal

pub add_equations_at-requires-clause-room : goal.add_equations_at-requires-clause-room
add_equations_at-requires-clause-room c = ap (λ (s : SystemContent). s.room) c.make-system.ensures ∙ c.in_ok-starting_room.ensures

pub returns-in_err-add_equations_at-clause-fault : goal.returns-in_err-add_equations_at-clause-fault
returns-in_err-add_equations_at-clause-fault c =
    let d = c.args.numbers.now.d in
    let p = err_from_is_err_and c.from_residual-in_err-add_equations_at.result c.from_residual-in_err-add_equations_at.ensures.1 in
    rw (p.1, p.2)
    (among_front c.args.numbers.now c.args.ty (counted_at d First) (counted_at d Second ++ counted_at d Third) _ c.in_err-add_equations_at.ensures.fault)

pub add_equations_at-requires-2-clause-room : goal.add_equations_at-requires-2-clause-room
add_equations_at-requires-2-clause-room c =
    ap (λ (s : SystemContent). s.room) c.in_ok-add_equations_at.ensures.system
    ∙ (ap (λ (s : SystemContent). s.room) c.make-system.ensures ∙ c.in_ok-starting_room.ensures)

pub returns-in_err-add_equations_at-2-clause-fault : goal.returns-in_err-add_equations_at-2-clause-fault
returns-in_err-add_equations_at-2-clause-fault c =
    let d = c.args.numbers.now.d in
    let p = err_from_is_err_and c.from_residual-in_err-add_equations_at-2.result c.from_residual-in_err-add_equations_at-2.ensures.1 in
    rw (p.1, p.2)
    (among_back c.args.numbers.now c.args.ty (counted_at d First) (counted_at d Second ++ counted_at d Third) _ c.in_ok-add_equations_at.ensures.fit
    (among_front c.args.numbers.now c.args.ty (counted_at d Second) (counted_at d Third) _ c.in_err-add_equations_at-2.ensures.fault))

pub add_equations_at-requires-3-clause-room : goal.add_equations_at-requires-3-clause-room
add_equations_at-requires-3-clause-room c =
    ap (λ (s : SystemContent). s.room) c.in_ok-add_equations_at-2.ensures.system
    ∙ (ap (λ (s : SystemContent). s.room) c.in_ok-add_equations_at.ensures.system
    ∙ (ap (λ (s : SystemContent). s.room) c.make-system.ensures ∙ c.in_ok-starting_room.ensures))

pub returns-in_err-add_equations_at-3-clause-fault : goal.returns-in_err-add_equations_at-3-clause-fault
returns-in_err-add_equations_at-3-clause-fault c =
    let d = c.args.numbers.now.d in
    let p = err_from_is_err_and c.from_residual-in_err-add_equations_at-3.result c.from_residual-in_err-add_equations_at-3.ensures.1 in
    rw (p.1, p.2)
    (among_back c.args.numbers.now c.args.ty (counted_at d First) (counted_at d Second ++ counted_at d Third) _ c.in_ok-add_equations_at.ensures.fit
    (among_back c.args.numbers.now c.args.ty (counted_at d Second) (counted_at d Third) _ c.in_ok-add_equations_at-2.ensures.fit c.in_err-add_equations_at-3.ensures.fault))

pub returns-clause-system : goal.returns-clause-system
returns-clause-system c =
    let d = c.args.numbers.now.d in
    three_parts c.args.numbers.now c.args.ty _ _ _ _ _ (counted_at d First) (counted_at d Second) (counted_at d Third) c.make-system.ensures c.in_ok-starting_room.ensures
    c.in_ok-add_equations_at.ensures.system c.in_ok-add_equations_at-2.ensures.system c.in_ok-add_equations_at-3.ensures.system

pub returns-clause-fit : goal.returns-clause-fit
returns-clause-fit c =
    let d = c.args.numbers.now.d in
    let f = Fits c.args.numbers.now c.args.ty in
    All-append f (counted_at d First) (counted_at d Second ++ counted_at d Third) c.in_ok-add_equations_at.ensures.fit
    (All-append f (counted_at d Second) (counted_at d Third) c.in_ok-add_equations_at-2.ensures.fit c.in_ok-add_equations_at-3.ensures.fit)
