use Rattle.std.proofs.Common.{◌≡◌, ◌+◌, ℕ, map}
use Rattle.std.specs.List.{range_with_len}
use Rattle.drg_sample.specs.Draws.{state_after}
use Rattle.drg_sample.specs.Generated.{falling}
use Rattle.drg_sample.proofs.generator.Generator.falling.Given as goal

abbrev pub invariant-numbers : goal.invariant-numbers
invariant-numbers l = (j : ℕ) × (l._place ≡ j + 1) × (l.self.state ≡ state_after j l.fn.self.state) × (l.last ≡ falling l.fn.self.state l.fn.first j)
    × (l.numbers.items ≡ map (falling l.fn.self.state l.fn.first) (range_with_len 0 (j + 1)))
