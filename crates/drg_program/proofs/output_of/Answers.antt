use Rattle.std.proofs.Common.{ℕ, List, [], refl, sym, subst}
use Rattle.drg_program.specs.Input.{AreInputOf, HasCauses}
use Rattle.drg_program.specs.Run.{Ends}
use Rattle.drg_program.specs.Words.{HasWords, file_of}
use Rattle.drg_words.specs.declared.command.Command.{Command}
use Rattle.drg_words.specs.declared.command.Command.TheVariants.{Census, Sample}
use Rattle.drg_program.proofs.OutputLemmas.{ends_alone, no_file}
use Rattle.drg_program.proofs.WordLemmas.{census_limits}
use Rattle.drg_program.proofs.output_of.Goals as goal

pub returns-in-Check-clause-output : goal.returns-in-Check-clause-output
returns-in-Check-clause-output g c =
    let P : Command → Type 0 = λ command.
    (bytes : List ℕ) × AreInputOf (g.I.Inputs.files c.args.inputs.now) (file_of command) bytes × Ends command bytes c.check.result in
    let found = c.check.ensures.output in
    subst P (sym c.in-Check.is) (found.0, found.1, found.2 c.in-Check.budget)

pub returns-in-Replay-clause-output : goal.returns-in-Replay-clause-output
returns-in-Replay-clause-output g c =
    let P : Command → Type 0 = λ command.
    (bytes : List ℕ) × AreInputOf (g.I.Inputs.files c.args.inputs.now) (file_of command) bytes × Ends command bytes c.replay_file.result in
    subst P (sym c.in-Replay.is) c.replay_file.ensures.output

pub returns-in-Table-clause-output : goal.returns-in-Table-clause-output
returns-in-Table-clause-output g c =
    let P : Command → Type 0 = λ command.
    (bytes : List ℕ) × AreInputOf (g.I.Inputs.files c.args.inputs.now) (file_of command) bytes × Ends command bytes c.table.result in
    let found = c.table.ensures.output in
    subst P (sym c.in-Table.is) (found.0, found.1, found.2 c.in-Table.budget)

pub returns-in-Sample-clause-output : goal.returns-in-Sample-clause-output
returns-in-Sample-clause-output g c =
    let P : Command → Type 0 = λ command.
    (bytes : List ℕ) × AreInputOf (g.I.Inputs.files c.args.inputs.now) (file_of command) bytes × Ends command bytes c.sample.result in
    subst P (sym c.in-Sample.is) ([], refl, ends_alone (Sample c.in-Sample.seed c.in-Sample.count) c.sample.result c.sample.ensures)

pub returns-in-Sample-clause-causes : goal.returns-in-Sample-clause-causes
returns-in-Sample-clause-causes g c =
    let files = g.I.Inputs.files c.args.inputs.now in
    let opened = g.I.Inputs.open_faults c.args.inputs.now in
    let read = g.I.Inputs.read_faults c.args.inputs.now in
    let P : Command → Type 0 = λ command. HasCauses (file_of command) files opened opened read read c.sample.result in
    subst P (sym c.in-Sample.is) (no_file (Sample c.in-Sample.seed c.in-Sample.count) c.sample.result files opened read c.sample.ensures)

pub returns-in-Graph-clause-output : goal.returns-in-Graph-clause-output
returns-in-Graph-clause-output g c =
    let P : Command → Type 0 = λ command.
    (bytes : List ℕ) × AreInputOf (g.I.Inputs.files c.args.inputs.now) (file_of command) bytes × Ends command bytes c.graph_file.result in
    subst P (sym c.in-Graph.is) c.graph_file.ensures.output

pub returns-in-Census-clause-output : goal.returns-in-Census-clause-output
returns-in-Census-clause-output g c =
    let P : Command → Type 0 = λ command.
    (bytes : List ℕ) × AreInputOf (g.I.Inputs.files c.args.inputs.now) (file_of command) bytes × Ends command bytes c.arrays_of.result in
    subst P (sym c.in-Census.is)
    ([], refl, ends_alone (Census c.in-Census.d c.in-Census.k c.in-Census.n) c.arrays_of.result c.arrays_of.ensures)

pub returns-in-Census-clause-causes : goal.returns-in-Census-clause-causes
returns-in-Census-clause-causes g c =
    let files = g.I.Inputs.files c.args.inputs.now in
    let opened = g.I.Inputs.open_faults c.args.inputs.now in
    let read = g.I.Inputs.read_faults c.args.inputs.now in
    let P : Command → Type 0 = λ command. HasCauses (file_of command) files opened opened read read c.arrays_of.result in
    subst P (sym c.in-Census.is) (no_file (Census c.in-Census.d c.in-Census.k c.in-Census.n) c.arrays_of.result files opened read c.arrays_of.ensures)

pub returns-in-Classical-clause-output : goal.returns-in-Classical-clause-output
returns-in-Classical-clause-output g c =
    let P : Command → Type 0 = λ command.
    (bytes : List ℕ) × AreInputOf (g.I.Inputs.files c.args.inputs.now) (file_of command) bytes × Ends command bytes c.classical_file.result in
    subst P (sym c.in-Classical.is) c.classical_file.ensures.output

pub arrays_of-requires : goal.arrays_of-requires
arrays_of-requires g c = census_limits c.in-Census.d c.in-Census.k c.in-Census.n (subst HasWords c.in-Census.is c.requires)
