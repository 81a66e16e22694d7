use Rattle.std.proofs.Common.{◌≡◌, ◌∙◌, ◌++◌, List, ℕ, ap, sym, subst}
use Rattle.std.specs.Prelude.{OnOk, OnErr}
use Rattle.drg_algebra.specs.Beginnings.{BeginsWith}
use Rattle.drg_derivation.specs.Writing.{parts_text}
use Rattle.drg_derivation.specs.declared.line.Line.{Line}
use Rattle.drg_derivation.proofs.TextLaws.{content-parts}
use Rattle.drg_derivation.proofs.derivation.Derivation.write_text.Goals as goal

pub returns-clause-ok : goal.returns-clause-ok
returns-clause-ok c =
    let text = content-parts _ _ _ c.args.self.now c.self.view_is ∙ ap (λ (l : List Line). parts_text c.self.inside.array c.self.inside.claim l) (sym c.deref.ensures.value) in
    subst (λ (t : List ℕ). OnOk c.write_parts.result (c.write_parts.new.out.items ≡ c.args.out.now.items ++ t)) (sym text) c.write_parts.ensures.ok

pub returns-clause-err : goal.returns-clause-err
returns-clause-err c =
    let text = content-parts _ _ _ c.args.self.now c.self.view_is ∙ ap (λ (l : List Line). parts_text c.self.inside.array c.self.inside.claim l) (sym c.deref.ensures.value) in
    subst (λ (t : List ℕ). OnErr c.write_parts.result (BeginsWith t c.args.out.now.items c.write_parts.new.out.items)) (sym text) c.write_parts.ensures.err
