use Rattle.std.proofs.Common.{◌≡◌, ℕ, take, drop, length}
use Rattle.drg_derivation.specs.Lines.{at}
use Rattle.drg_derivation.proofs.evidence.take_leading.Given as goal

abbrev pub invariant-leading : goal.invariant-leading
invariant-leading l = record {
  five : length l.leading ≡ 5;
  leading : (i : ℕ) → at l.leading i ≡ at (take l.place l.fn.numbers) i;
  rest : l.numbers ≡ drop l.place l.fn.numbers;
}
