use Rattle.std.proofs.Common.{subst}
use Rattle.drg_derivation.specs.Content.{Content}
use Rattle.drg_program.specs.Replay.{Tells}
use Rattle.drg_program.proofs.ReplayLemmas.{concludes}
use Rattle.drg_program.proofs.replay.conclude.Goals as goal

pub returns : goal.returns
returns c =
    let answer = c.replay-answer.result in
    let found = c.in_ok-output.output in
    let told = subst (λ (δ : Content). Tells δ.claim answer found.status found.text.items) c.derivation.view_is c.in_ok-output.ensures in
    concludes c.args.derivation.now answer found.status found.text.items c.replay-answer.ensures.answer c.replay-answer.ensures.graph c.replay-answer.ensures.spectral told
