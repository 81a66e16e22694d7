use Rattle.std.proofs.Common.{◌≡◌, sym, subst, rules, to_z, of_z}
use Rattle.std.specs.Int.{w32}
use Rattle.std.specs.Option.{MatchOption}
use Rattle.std.specs.Prelude.{Option, ℤ}
use Rattle.std.proofs.lemmas.Int.{to_z-of_z}
use Rattle.drg_census.specs.ClassicalWork.{IsRefuted, IsWide, steps}
use Rattle.drg_census.specs.Rows.{IsPair, IsTheRow}
use Rattle.drg_census.specs.declared.bases.ClassicalRow.TheVariants.{Holds, Wide}
use Rattle.drg_census.specs.declared.parameters.Parameters.{Parameters}
use Rattle.drg_census.proofs.RowLists.{pair_row, refuted_has_none, wide_row}
use Rattle.drg_census.proofs.bases.tried_row.Goals as goal

pub returns-in-Ok-Some : goal.returns-in-Ok-Some
returns-in-Ok-Some c =
    let a = c.args.array.now in
    let found = c.in-Ok-Some.found in
    let b : to_z w32 (of_z w32 c.args.b) ≡ c.args.b = to_z-of_z w32 c.args.b (search rules) in
    let Told : Option Parameters → Type 0 = λ o. MatchOption o (IsRefuted (steps a (to_z w32 (of_z w32 c.args.b)))) (IsPair a (to_z w32 (of_z w32 c.args.b))) in
    let told : IsPair a (to_z w32 (of_z w32 c.args.b)) found = subst Told c.in-Ok-Some.field-0-is c.in-Ok-Some.ensures.ok in
    subst (λ (t : ℤ). IsTheRow a c.args.b (Holds t found.alpha found.beta)) (sym b)
    (pair_row a c.args.b c.known_valid.ensures c.requires.some c.requires.tried found (subst (λ (t : ℤ). IsPair a t found) b told))

pub returns-in-Ok-None : goal.returns-in-Ok-None
returns-in-Ok-None c =
    let a = c.args.array.now in
    let b : to_z w32 (of_z w32 c.args.b) ≡ c.args.b = to_z-of_z w32 c.args.b (search rules) in
    let Told : Option Parameters → Type 0 = λ o. MatchOption o (IsRefuted (steps a (to_z w32 (of_z w32 c.args.b)))) (IsPair a (to_z w32 (of_z w32 c.args.b))) in
    let told : IsRefuted (steps a (to_z w32 (of_z w32 c.args.b))) = subst Told c.in-Ok-None.field-0-is c.in-Ok-None.ensures.ok in
    refuted_has_none a c.args.b c.known_valid.ensures c.requires.some c.requires.tried (subst (λ (t : ℤ). IsRefuted (steps a t)) b told)

pub returns-in-Err : goal.returns-in-Err
returns-in-Err c =
    let a = c.args.array.now in
    let b : to_z w32 (of_z w32 c.args.b) ≡ c.args.b = to_z-of_z w32 c.args.b (search rules) in
    subst (λ (t : ℤ). IsTheRow a c.args.b (Wide t)) (sym b)
    (wide_row a c.args.b c.known_valid.ensures c.requires.some c.requires.tried (subst (λ (t : ℤ). IsWide (steps a t)) b c.in-Err.ensures.err))
