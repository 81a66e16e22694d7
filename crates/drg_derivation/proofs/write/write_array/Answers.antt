use Rattle.std.proofs.Common.{◌≡◌, ◌∙◌, ◌++◌, List, ℕ, sym, subst}
use Rattle.std.specs.Prelude.{OnOk, OnErr}
use Rattle.drg_algebra.specs.Beginnings.{BeginsWith}
use Rattle.drg_derivation.proofs.TextLaws.{plain-array}
use Rattle.drg_derivation.proofs.write.write_array.Goals as goal

pub returns-clause-ok : goal.returns-clause-ok
returns-clause-ok c =
    let text = plain-array c.args.array.now _ (c.deref.ensures.0 ∙ c.array_numbers.ensures) in
    subst (λ (t : List ℕ). OnOk c.write_plain.result (c.write_plain.new.out.items ≡ c.args.out.now.items ++ t)) (sym text) c.write_plain.ensures.ok

pub returns-clause-err : goal.returns-clause-err
returns-clause-err c =
    let text = plain-array c.args.array.now _ (c.deref.ensures.0 ∙ c.array_numbers.ensures) in
    subst (λ (t : List ℕ). OnErr c.write_plain.result (BeginsWith t c.args.out.now.items c.write_plain.new.out.items)) (sym text) c.write_plain.ensures.err
