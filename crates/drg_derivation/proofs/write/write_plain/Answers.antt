use Rattle.std.proofs.Common.{◌++◌, arith, append_assoc}
use Rattle.std.specs.Prelude.{codes}
use Rattle.std.proofs.lemmas.Grind.{common_steps}
use Rattle.drg_algebra.proofs.Beginnings.{begins}
use Rattle.drg_derivation.specs.Integers.{integers_text}
use Rattle.drg_derivation.proofs.write.write_plain.Goals as goal

pub returns-in_err-write_numbers-clause-err : goal.returns-in_err-write_numbers-clause-err
returns-in_err-write_numbers-clause-err c =
    begins _ _ c.args.word.now (integers_text c.args.tail.now ++ codes "\n") c.in_err-write_numbers.ensures.err (grind (arith, common_steps)) (simp append_assoc)

pub returns-in_err-write_numbers-2-clause-err : goal.returns-in_err-write_numbers-2-clause-err
returns-in_err-write_numbers-2-clause-err c =
    begins _ _ (c.args.word.now ++ integers_text c.args.leading.now) (codes "\n") c.in_err-write_numbers-2.ensures.err (grind (arith, common_steps)) (simp append_assoc)
