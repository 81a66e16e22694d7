use Rattle.std.proofs.Common.{◌≡◌, ◌++◌, ℤ, List, ℕ, subst, to_z, of_z, rules}
use Rattle.std.proofs.lemmas.Int.{to_z-of_z}
use Rattle.std.specs.Fmt.{signed_decimal}
use Rattle.std.specs.Int.{w32}
use Rattle.std.specs.Prelude.{codes}
use Rattle.drg_program.proofs.ClassicalLemmas.{appended}
use Rattle.drg_program.proofs.classical.write_pair.Goals as goal

pub returns : goal.returns
returns c =
    let same : to_z w32 (of_z w32 c.args.b) ≡ c.args.b = to_z-of_z w32 _ (search rules) in
    let old = c.args.out.now.items in
    let first = subst (λ (b : ℤ). c.write_base.new.out.items ≡ old ++ (codes "classical " ++ signed_decimal b)) same c.in_ok-write_base.ensures in
    appended _ _ _ _ _ _ _ _ _ first c.in_ok-write_parameter.ensures c.in_ok-write_parameter-2.ensures c.in_ok-extend_from_slice.ensures.items
