use Rattle.std.proofs.Common.{◌≡◌, ◌+◌, ◌∙◌, ap, sym, subst, arith, rules, pos, to_z, of_z}
use Rattle.std.specs.Int.{w32}
use Rattle.std.specs.Prelude.{ℤ, ◌+ℤ◌, ◌-ℤ◌}
use Rattle.std.proofs.lemmas.Int.{ints, to_z-of_z}
use Rattle.drg_array.specs.Entries.{b_at}
use Rattle.drg_census.specs.Rows.{AreRowsBelow}
use Rattle.drg_census.proofs.bases.classical.Goals as goal

pub bases-preserved : goal.bases-preserved
bases-preserved c =
    let a = c.args.array.now in
    let k = b_at a 0 in
    let b : to_z w32 (of_z w32 c.base_at.result) ≡ pos c.bases.steps -ℤ pos k = to_z-of_z w32 c.base_at.result (search rules) ∙ c.base_at.ensures.value in
    let more : pos c.bases.steps -ℤ pos k +ℤ pos 1 ≡ pos (c.bases.steps + 1) -ℤ pos k = omega (arith, ints) in
    subst (λ (t : ℤ). AreRowsBelow a t c.push_row.new.rows.items) (ap (λ (t : ℤ). t +ℤ pos 1) b ∙ more) c.in_ok-push_row.ensures
