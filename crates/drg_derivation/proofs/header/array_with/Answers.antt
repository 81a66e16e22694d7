use Rattle.std.proofs.Common.{drop, length, ◌-◌, arith, length-drop}
use Rattle.std.proofs.lemmas.List.{take_all}
use Rattle.drg_derivation.proofs.HeaderLaws.{array_made-by, array_from-made}
use Rattle.drg_derivation.proofs.header.array_with.Goals as goal

pub returns : goal.returns
returns c =
    array_from-made _ _ _ _ _ _ c.in_ok-d.ensures.cases.0 c.from-d.ensures c.if-entries-d.false
    (take_all (length c.in_ok-d.entries.now - c.from-d.result) (drop c.from-d.result c.in_ok-d.entries.now) (omega (arith, length-drop c.from-d.result c.in_ok-d.entries.now)))
    (array_made-by c.make.result _ _ c.make.ensures.some.1 c.make.ensures.some.0 c.make.ensures.entries)
