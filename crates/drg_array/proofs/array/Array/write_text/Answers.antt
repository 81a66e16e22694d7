use Rattle.std.proofs.Common.{◌≡◌, ap, ◌∙◌, refl, subst}
use Rattle.drg_algebra.specs.Beginnings.{BeginsWith}
use Rattle.drg_array.specs.Entries.{Entries}
use Rattle.drg_array.specs.Text.{numbers_text}
use Rattle.drg_array.proofs.Appends.{second-begins}
use Rattle.drg_array.proofs.array.Array.write_text.Goals as goal

pub returns-in_err-write_numbers-2-clause-err : goal.returns-in_err-write_numbers-2-clause-err
returns-in_err-write_numbers-2-clause-err c =
    let a = c.args.self.now in
    let b : c.deref.result.now ≡ a.b = c.deref.ensures.0 ∙ ap (λ (e : Entries). e.b) c.self.view_is in
    let d : c.deref-2.result.now ≡ a.c = c.deref-2.ensures.0 ∙ ap (λ (e : Entries). e.c) c.self.view_is in
    let before = c.in_ok-push.ensures.items in
    let numbers = c.in_ok-write_numbers.ensures.ok in
    let between = c.in_ok-push-2.ensures.items in
    let err = subst (λ ns. BeginsWith (numbers_text ns) c.push-2.new.self.items c.write_numbers-2.new.out.items) d c.in_err-write_numbers-2.ensures.err in
    second-begins _ c.args.out.now.items _ _ (numbers_text a.b) (numbers_text a.c) err (rw (between, numbers, before, b) refl)
