use Rattle.std.proofs.Common.{◌≡◌, ◌∙◌, ◌+◌, ◌++◌, ◌∷◌, [], ap, arith, refl, List, ℕ, suc}
use Rattle.drg_sample.specs.Draws.{next_state}
use Rattle.drg_sample.specs.Generated.{falling}
use Rattle.drg_sample.proofs.Draws.{one_more}
use Rattle.drg_sample.proofs.Drawn.{falls, listed}
use Rattle.drg_sample.proofs.generator.Generator.falling.Goals as goal

pub numbers-init : goal.numbers-init
numbers-init c = (0, omega arith, refl, refl, c.push.ensures.items ∙ ap (λ (l : List ℕ). l ++ c.args.first ∷ []) c.new-numbers.ensures)

pub numbers-preserved : goal.numbers-preserved
numbers-preserved c =
    let (j, place, state, last, items) = c.numbers.invariant in
    let next = c.fall-last.ensures.drawn ∙ falls c.args.self.now.state c.args.first j c.numbers.self.state c.numbers.last state last in (
      suc j,
      omega (arith, place),
      c.fall-last.ensures.state ∙ ap next_state state ∙ one_more j c.args.self.now.state,
      next,
      c.push-in-numbers.ensures.items ∙ listed (falling c.args.self.now.state c.args.first) j c.fall-last.result c.numbers.numbers.items items next,
    )
