use Rattle.std.proofs.Common.{◌≡◌, ◌∙◌, ◌+◌, ◌++◌, ◌∷◌, [], sym, ap, ap₂, arith, List, ℕ, suc}
use Rattle.drg_array.specs.Entries.{Entries}
use Rattle.drg_sample.specs.Generated.{drawn_array, generated, state_after_array}
use Rattle.drg_sample.proofs.Drawn.{generated_more, one_more_array, state_after_arrays}
use Rattle.drg_sample.proofs.generator.generate.Goals as goal

pub arrays-preserved : goal.arrays-preserved
arrays-preserved c =
    let n = c.arrays._number in
    let seed = c.args.seed in
    let (items, state) = c.arrays.invariant in
    let next : suc n ≡ n + 1 = omega arith in (
      c.in_ok-push.ensures.items ∙ ap₂ (λ (l : List Entries) (a : Entries). l ++ a ∷ []) items (c.array-array.ensures.drawn ∙ ap drawn_array state)
          ∙ sym (generated_more n seed) ∙ ap (λ k. generated seed k) next,
      c.array-array.ensures.state ∙ ap state_after_array state ∙ one_more_array n seed ∙ ap (λ k. state_after_arrays k seed) next,
    )
