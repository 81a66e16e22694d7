use Rattle.std.proofs.Common.{subst, sym}
use Rattle.std.specs.List.{AllByRecursion}
use Rattle.drg_derivation.specs.Integers.{IsShort}
use Rattle.drg_derivation.proofs.ListLaws.{all-parts}
use Rattle.drg_derivation.proofs.line.Parts.is_short.Goals as goal

pub returns-then-are_short : goal.returns-then-are_short
returns-then-are_short c =
    let front : AllByRecursion IsShort c.args.self.now.leading.items =
    subst (AllByRecursion IsShort) c.deref.ensures.0 (c.are_short.ensures.0 c.if-are_short.true) in
    let parts = all-parts IsShort c.args.self.now.leading.items c.args.self.now.tail.now in
    (λ h. parts.1 (front, c.are_short-then-are_short.ensures.0 h), λ h. c.are_short-then-are_short.ensures.1 (parts.0 h).1)

pub returns-else-are_short : goal.returns-else-are_short
returns-else-are_short c =
    let parts = all-parts IsShort c.args.self.now.leading.items c.args.self.now.tail.now in
    (λ h. absurd (let no = c.if-are_short.false in cc), λ h. c.are_short.ensures.1 (subst (AllByRecursion IsShort) (sym c.deref.ensures.0) (parts.0 h).0))
