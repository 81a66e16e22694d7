use Rattle.std.proofs.Common.{sym, ap, ◌∙◌, ◌+◌, arith, length, List, ℤ, Option}
use Rattle.std.specs.Option.{option_map}
use Rattle.drg_derivation.specs.Reading.{integers_of}
use Rattle.drg_derivation.proofs.IntegerLaws.{spaced_at-less}
use Rattle.drg_derivation.proofs.IntegerSteps.{integers_of-step, count-more, count-none, count-all}
use Rattle.drg_derivation.proofs.integers.count_integers.Goals as goal

pub returns-in_err-more : goal.returns-in_err-more
returns-in_err-more c =
    c.from_residual.ensures
    ∙ count-none c.numbers.count c.numbers.rest.now _ (sym c.numbers-test.ensures) (sym c.in_err-more.ensures) c.numbers.invariant.read

pub numbers-smaller : goal.numbers-smaller
numbers-smaller c = spaced_at-less _ _ (sym c.in_ok-more.ensures)

pub numbers-preserved : goal.numbers-preserved
numbers-preserved c =
    let less = spaced_at-less _ _ (sym c.in_ok-more.ensures) in
    record {
      small = omega arith;
      read =
          count-more c.numbers.count c.in_ok-more.field-0-0 (integers_of c.in_ok-more.more.now)
          ∙ (ap (λ (o : Option (List ℤ)). option_map (λ zs. c.numbers.count + length zs) o) (sym (integers_of-step _ _ _ (sym c.in_ok-more.ensures))) ∙ c.numbers.invariant.read);
    }

pub returns : goal.returns
returns c = count-all c.numbers.count c.numbers.rest.now _ (sym c.numbers-test.ensures) c.numbers.invariant.read
