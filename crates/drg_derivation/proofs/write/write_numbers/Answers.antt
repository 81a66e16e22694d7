use Rattle.std.proofs.Common.{rules}
use Rattle.drg_derivation.proofs.TextLaws.{integers-begin, integers-push}
use Rattle.drg_derivation.proofs.write.write_numbers.Goals as goal

pub numbers-preserved : goal.numbers-preserved
numbers-preserved c =
    integers-push _ _ _ c.args.numbers.now c.numbers.number-index _ c.in_ok-write_number.ensures.ok c.numbers.invariant c.numbers-test.true (search rules)

pub returns-in_err-write_number-clause-err : goal.returns-in_err-write_number-clause-err
returns-in_err-write_number-clause-err c =
    integers-begin _ _ _ _ c.args.numbers.now c.numbers.number-index _ c.in_err-write_number.ensures.err c.numbers.invariant c.numbers-test.true (search rules)
