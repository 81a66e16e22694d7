use Rattle.drg_array.specs.declared.claim.Claim.TheVariants.{Handshake, Induced, Triangles}
use Rattle.drg_counting.proofs.ParityLaws.{fails_of, fails_back, before_handshake, before_induced, before_triangles, none_fails}
use Rattle.drg_counting.proofs.divisibility.parity.Goals as goal

pub returns-in-Some-clause-fails : goal.returns-in-Some-clause-fails
returns-in-Some-clause-fails c = λ a array are. fails_of a c.args.numbers.now array are (Handshake c.in-Some.i) c.in-Some.ensures.fails

pub returns-in-Some-clause-first : goal.returns-in-Some-clause-first
returns-in-Some-clause-first c = λ a array are earlier selected before failed.
    before_handshake c.args.numbers.now c.args.tests.now c.in-Some.i c.in-Some.ensures.first
    earlier selected before (fails_back a c.args.numbers.now array are c.args.tests.now earlier selected failed)

pub returns-in-Some-selected_induced-clause-fails : goal.returns-in-Some-selected_induced-clause-fails
returns-in-Some-selected_induced-clause-fails c = λ a array are. fails_of a c.args.numbers.now array are (Induced c.in-Some-selected_induced.at.i c.in-Some-selected_induced.at.j) c.in-Some-selected_induced.ensures.fails

pub returns-in-Some-selected_induced-clause-first : goal.returns-in-Some-selected_induced-clause-first
returns-in-Some-selected_induced-clause-first c = λ a array are earlier selected before failed.
    before_induced c.args.numbers.now c.args.tests.now c.in_default.ensures.none
    c.in-Some-selected_induced.at.i c.in-Some-selected_induced.at.j c.in-Some-selected_induced.ensures.first c.in-Some-selected_induced.ensures.same
    earlier selected before (fails_back a c.args.numbers.now array are c.args.tests.now earlier selected failed)

pub returns-in-Some-selected_triangles-clause-fails : goal.returns-in-Some-selected_triangles-clause-fails
returns-in-Some-selected_triangles-clause-fails c = λ a array are. fails_of a c.args.numbers.now array are (Triangles c.in-Some-selected_triangles.i) c.in-Some-selected_triangles.ensures.fails

pub returns-in-Some-selected_triangles-clause-first : goal.returns-in-Some-selected_triangles-clause-first
returns-in-Some-selected_triangles-clause-first c = λ a array are earlier selected before failed.
    before_triangles c.args.numbers.now c.args.tests.now c.in_default.ensures.none c.in_default-selected_induced.ensures.none
    c.in-Some-selected_triangles.i c.in-Some-selected_triangles.ensures.first
    earlier selected before (fails_back a c.args.numbers.now array are c.args.tests.now earlier selected failed)

pub returns-in-None-clause-none : goal.returns-in-None-clause-none
returns-in-None-clause-none c = λ a array are claim selected failed.
    none_fails c.args.numbers.now c.args.tests.now c.in_default.ensures.none c.in_default-selected_induced.ensures.none c.in-None.ensures.none
    claim selected (fails_back a c.args.numbers.now array are c.args.tests.now claim selected failed)
