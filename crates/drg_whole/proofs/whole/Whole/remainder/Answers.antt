use Rattle.std.proofs.Common.{rules, sym, subst}
use Rattle.std.specs.Int.{w128}
use Rattle.std.proofs.lemmas.Int.{rem_is}
use Rattle.drg_whole.specs.Division.{IsRemainder}
use Rattle.drg_whole.proofs.Quotients.{remainder_is}
use Rattle.drg_whole.proofs.whole.Whole.remainder.Goals as goal

pub returns-clause-remainder : goal.returns-clause-remainder
returns-clause-remainder c =
    let v = rem_is w128 c.args.self.value c.args.divisor.value (search rules) (search rules) in
    subst (λ r. IsRemainder c.args.self.value c.args.divisor.value r) (sym v) (remainder_is c.args.self.value c.args.divisor.value c.requires)
