use Rattle.std.proofs.Common.{◌≡◌, ◌++◌, pos, ap, sym, ◌∙◌, subst, append_assoc, arith}
use Rattle.std.proofs.lemmas.Int.{ints}
use Rattle.std.proofs.lemmas.Result.{on_ok_weaker}
use Rattle.drg_algebra.specs.Reduced.{numerator}
use Rattle.drg_algebra.proofs.Beginnings.{begins_last}
use Rattle.drg_fraction.proofs.Texts.{not_equal}
use Rattle.drg_quadratic.specs.Quadratic.{value_of, root_of}
use Rattle.drg_quadratic.specs.Text.{value_text, first_text, second_text}
use Rattle.drg_quadratic.proofs.Texts.{text_in_two}
use Rattle.drg_quadratic.proofs.quadratic.Quadratic.write_text.Goals as goal

pub returns-clause-ok : goal.returns-clause-ok
returns-clause-ok c =
    let z = value_of c.args.self.now in
    let root = root_of c.args.self.now in
    let old = c.args.out.now.items in
    let some : ¬ (numerator z.b ≡ pos 0) = λ e. let n : c.num.result ≡ pos 0 = c.num.ensures.value ∙ ap numerator c.b.ensures ∙ e in grind (arith, ints) in
    let text = text_in_two root z (not_equal (numerator z.b) (pos 0) some) in
    let whole : c.write_second.new.out.items ≡ c.write_first.new.out.items ++ second_text root z → c.write_second.new.out.items ≡ old ++ value_text root z =
    λ e. e ∙ ap (λ x. x ++ second_text root z) c.in_ok-write_first.ensures.ok ∙ append_assoc old (first_text z.a) (second_text root z) ∙ ap (λ x. old ++ x) (sym text) in
    on_ok_weaker c.write_second.result whole c.write_second.ensures.ok

pub returns-clause-err : goal.returns-clause-err
returns-clause-err c =
    let z = value_of c.args.self.now in
    let root = root_of c.args.self.now in
    let some : ¬ (numerator z.b ≡ pos 0) = λ e. let n : c.num.result ≡ pos 0 = c.num.ensures.value ∙ ap numerator c.b.ensures ∙ e in grind (arith, ints) in
    let text = text_in_two root z (not_equal (numerator z.b) (pos 0) some) in
    begins_last _ _ (first_text z.a) _ _ c.write_second.ensures.err c.in_ok-write_first.ensures.ok text
