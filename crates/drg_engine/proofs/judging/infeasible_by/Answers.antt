use Rattle.std.proofs.Common.{◌∙◌, refl, sym, subst, ap}
use Rattle.std.proofs.lemmas.Bool.{false≢true}
use Rattle.drg_array.specs.Entries.{Entries}
use Rattle.drg_derivation.specs.Text.{HasText}
use Rattle.drg_engine.specs.Laws.{ShowsFailure}
use Rattle.drg_engine.proofs.Decisions.{infeasible, of_parts}
use Rattle.drg_engine.proofs.judging.infeasible_by.Goals as goal

pub unreachable-requires : goal.unreachable-requires
unreachable-requires c =
    let claim = c.args.claim in
    let lines = c.args.lines.items in
    let shows : ShowsFailure (of_parts c.args.array.now c.args.claim c.args.lines.items) = record { array = c.known_valid.ensures; built = c.requires.built; fails = c.requires.fails; lines = c.requires.lines; made = c.requires.made } in
    let text = c.text_law.ensures (of_parts c.args.array.now claim lines) shows in
    false≢true (c.in_default.ensures.some.1 (subst (λ e. HasText (of_parts e claim lines)) (sym c.copied.ensures) text))

pub returns : goal.returns
returns c = λ tests first.
    let a = c.args.array.now in
    let claim = c.args.claim in
    let lines = c.args.lines.items in
    let parts = c.in-Some.ensures.parts ∙ ap (λ (e : Entries). of_parts e claim lines) c.copied.ensures in
    let shows : ShowsFailure (of_parts c.args.array.now c.args.claim c.args.lines.items) = record { array = c.known_valid.ensures; built = c.requires.built; fails = c.requires.fails; lines = c.requires.lines; made = c.requires.made } in
    let answer = c.acceptance_law.ensures (of_parts a claim lines) shows in
    infeasible c.built_law.ensures.holds a tests c.counting_claims_law.ensures c.known_valid.ensures _ lines parts
    c.class.ensures c.requires.lines answer c.requires.none_pending refl c.requires.made c.requires.decidable first
