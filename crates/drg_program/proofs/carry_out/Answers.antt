use Rattle.std.proofs.Common.{ℕ, List, subst}
use Rattle.std.specs.Io.KnownBytes.{Appends}
use Rattle.drg_outside.specs.Whole.{AppendsPart}
use Rattle.drg_program.specs.declared.status.Status.TheVariants.{Usage, OpenFault, ReadFault, WriteFault}
use Rattle.drg_program.proofs.RunLemmas.{not_early, not_refused, whole}
use Rattle.drg_program.proofs.carry_out.Goals as goal

pub returns-in-Ok-write_all-clause-usage : goal.returns-in-Ok-write_all-clause-usage
returns-in-Ok-write_all-clause-usage g c =
    let found = c.in-Ok.output in
    let output = c.in-Ok.ensures.output in
    λ same. not_refused c.args.command.now output.0 found.status Usage found.text.items output.2.1 same tt

pub returns-in-Ok-write_all-clause-open : goal.returns-in-Ok-write_all-clause-open
returns-in-Ok-write_all-clause-open g c =
    let found = c.in-Ok.output in
    let output = c.in-Ok.ensures.output in
    λ same. absurd (not_refused c.args.command.now output.0 found.status OpenFault found.text.items output.2.1 same tt)

pub returns-in-Ok-write_all-clause-read : goal.returns-in-Ok-write_all-clause-read
returns-in-Ok-write_all-clause-read g c =
    let found = c.in-Ok.output in
    let output = c.in-Ok.ensures.output in
    λ same. absurd (not_refused c.args.command.now output.0 found.status ReadFault found.text.items output.2.1 same tt)

pub returns-in-Ok-write_all-clause-write : goal.returns-in-Ok-write_all-clause-write
returns-in-Ok-write_all-clause-write g c =
    let found = c.in-Ok.output in
    let output = c.in-Ok.ensures.output in
    λ same. absurd (not_refused c.args.command.now output.0 found.status WriteFault found.text.items output.2.1 same tt)

pub returns-in-Ok-write_all-clause-unwritten : goal.returns-in-Ok-write_all-clause-unwritten
returns-in-Ok-write_all-clause-unwritten g c =
    let found = c.in-Ok.output in
    let output = c.in-Ok.ensures.output in
    λ early. absurd (not_early c.args.command.now output.0 found.status found.text.items output.2.1 early)

pub returns-in-Ok-write_all-clause-answer : goal.returns-in-Ok-write_all-clause-answer
returns-in-Ok-write_all-clause-answer g c =
    let found = c.in-Ok.output in
    let output = c.in-Ok.ensures.output in
    let old = g.K.Sink.bytes c.args.sink.now in
    let new = g.K.Sink.bytes c.write_all.new.sink in
    let written = subst (λ (text : List ℕ). Appends old new text) c.deref.ensures.value c.in-Ok-write_all.ensures.whole in
    (output.0, output.1, whole c.args.command.now output.0 found.status found.text.items old new output.2.0 output.2.1 written)

pub returns-clause-answer : goal.returns-clause-answer
returns-clause-answer g c =
    let found = c.in-Ok.output in
    let output = c.in-Ok.ensures.output in
    let old = g.K.Sink.bytes c.args.sink.now in
    let new = g.K.Sink.bytes c.write_all.new.sink in
    let part = subst (λ (text : List ℕ). AppendsPart old new text) c.deref.ensures.value c.in-Err.ensures.part in
    (output.0, output.1, (output.2.0, (found.status, found.text.items, output.2.1, part)))
