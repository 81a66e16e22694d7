use Rattle.std.proofs.Common.{◌≡◌, pos, unsigned_abs, subst, sym, arith}
use Rattle.std.specs.Prelude.{◌*ℤ◌}
use Rattle.drg_whole.specs.Whole.{value_of}
use Rattle.drg_whole.specs.Division.{IsLcm, least_multiple}
use Rattle.drg_whole.proofs.Answers.{if_given}
use Rattle.drg_whole.proofs.Quotients.{some}
use Rattle.drg_whole.proofs.Multiples.{lcm_is}
use Rattle.drg_whole.proofs.whole.Whole.common_multiple.Goals as goal

pub returns-clause-least : goal.returns-clause-least
returns-clause-least c =
    let a = c.args.self.value in
    let b = c.args.other.value in
    let apart : ¬ (b ≡ pos 0) = λ e. let yes = c.is_zero-else-is_zero.ensures.1 e in let no = c.if-is_zero-2.false in grind (arith, yes, no) in
    let is : c.over.result.value *ℤ c.magnitude-2.result.value ≡ least_multiple a b = rw (c.over.ensures.value, c.magnitude.ensures, c.common_divisor.ensures.value, c.magnitude-2.ensures) in
    if_given value_of c.times.result _ _ (λ m. IsLcm (unsigned_abs a) (unsigned_abs b) (unsigned_abs m)) c.times.ensures
    (subst (λ m. IsLcm (unsigned_abs a) (unsigned_abs b) (unsigned_abs m)) (sym is) (lcm_is (unsigned_abs a) (unsigned_abs b) (some b apart)))
