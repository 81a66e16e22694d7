use Rattle.std.proofs.Common.{◌≡◌, ◌+◌, ℕ, map}
use Rattle.std.specs.List.{range_with_len}
use Rattle.drg_sample.specs.Draws.{state_after}
use Rattle.drg_sample.specs.Generated.{rising}
use Rattle.drg_sample.proofs.generator.Generator.rising.Given as goal

abbrev pub invariant-numbers : goal.invariant-numbers
invariant-numbers l = (j : ℕ) × (l._place ≡ j + 1) × (l.self.state ≡ state_after j l.fn.self.state) × (l.last ≡ rising l.fn.self.state l.fn.most j)
    × (l.numbers.items ≡ map (rising l.fn.self.state l.fn.most) (range_with_len 0 (j + 1)))
