use Rattle.std.proofs.Common.{◌∙◌, arith}
use Rattle.drg_whole.proofs.Quotients.{no_remainder}
use Rattle.drg_whole.proofs.whole.Whole.whole_quotient.Goals as goal

pub returns-else-is_zero-clause-none : goal.returns-else-is_zero-clause-none
returns-else-is_zero-clause-none c = λ q e.
    let yes = c.is_zero.ensures.1 (c.remainder.ensures.value ∙ no_remainder c.args.divisor.value q c.args.self.value c.requires e) in
    let no = c.if-is_zero.false in
    grind (arith, yes, no)
