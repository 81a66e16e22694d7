use Rattle.std.proofs.Common.{◌≡◌, sym, subst}
use Rattle.drg_whole.specs.Division.{IsCeiling, ceiling_of}
use Rattle.drg_whole.proofs.Floors.{ceiling_is}
use Rattle.drg_whole.proofs.whole.Whole.ceiling_over.Goals as goal

pub returns-clause-ceiling : goal.returns-clause-ceiling
returns-clause-ceiling c =
    let v : c.negated-2.result.value ≡ ceiling_of c.args.self.value c.args.divisor.value = cc in
    subst (λ q. IsCeiling c.args.self.value c.args.divisor.value q) (sym v) (ceiling_is c.args.self.value c.args.divisor.value c.requires)
