use Rattle.std.proofs.Common.{◌∙◌, sym, ap, pos, ◌-◌, ℕ, arith}
use Rattle.drg_array.specs.Entries.{c_at}
use Rattle.drg_derivation.proofs.ListLaws.{array-b, array-c, array-count}
use Rattle.drg_derivation.proofs.view.array_number.Goals as goal

pub c-requires : goal.c-requires
c-requires c = (let d = c.d-d.ensures in let count = array-count c.args.array.now d.array in let same = d.value in omega arith)

pub returns-else-i-d : goal.returns-else-i-d
returns-else-i-d c =
    let same = c.d-d.ensures.value in
    ap pos (c.c.ensures ∙ ap (λ (d : ℕ). c_at c.args.array.now (c.args.i - d)) same) ∙ sym (array-c c.args.array.now c.args.i (omega arith))

pub returns-then-i-d : goal.returns-then-i-d
returns-then-i-d c =
    let same = c.d-d.ensures.value in
    ap pos c.b.ensures ∙ sym (array-b c.args.array.now c.args.i (omega arith) (omega arith))
