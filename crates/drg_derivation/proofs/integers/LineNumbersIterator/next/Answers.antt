use Rattle.std.proofs.Common.{◌≡◌, ◌∙◌, sym, ap, rules, arith, to_z, of_z, [], ◌∷◌, ℤ, suc, length}
use Rattle.std.specs.Int.{w128}
use Rattle.std.proofs.lemmas.Int.{to_z-of_z}
use Rattle.drg_derivation.specs.Reading.{integers_in}
use Rattle.drg_derivation.proofs.IntegerSteps.{first_read, all_read}
use Rattle.drg_derivation.proofs.integers.LineNumbersIterator.next.Goals as goal

pub returns-in_err-number-clause-steps : goal.returns-in_err-number-clause-steps
returns-in_err-number-clause-steps c =
    let none : c.args.self.now ≡ [] = sym c.self.view_is ∙ all_read c.self.inside.text.now (sym c.in_err-number.ensures) c.self.invariant in
    rw c.from_residual.ensures (none, none)

pub invariant_of-self : goal.invariant_of-self
invariant_of-self c = (first_read c.self.inside.text.now c.in_ok-number.rest.now c.in_ok-number.number (sym c.in_ok-number.ensures) c.self.invariant).left

pub returns-clause-steps : goal.returns-clause-steps
returns-clause-steps c =
    let v : to_z w128 (of_z w128 c.in_ok-number.number) ≡ c.in_ok-number.number = to_z-of_z w128 _ (search rules) in
    let all = first_read c.self.inside.text.now c.in_ok-number.rest.now c.in_ok-number.number (sym c.in_ok-number.ensures) c.self.invariant in
    sym c.self.view_is ∙ (all.first ∙ ap (λ (z : ℤ). z ∷ integers_in c.in_ok-number.rest.now) (sym v))

pub returns-clause-goes : goal.returns-clause-goes
returns-clause-goes c =
    let all = first_read c.self.inside.text.now c.in_ok-number.rest.now c.in_ok-number.number (sym c.in_ok-number.ensures) c.self.invariant in
    let less : length c.args.self.now ≡ suc (length (integers_in c.in_ok-number.rest.now)) = ap length (sym c.self.view_is ∙ all.first) in
    record { on = λ _. (tt, tt, omega arith); keeps = tt; rests = λ _. tt }
