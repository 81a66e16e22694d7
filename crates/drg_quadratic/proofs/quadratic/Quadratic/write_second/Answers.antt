use Rattle.std.proofs.Common.{◌≡◌, ◌++◌, ap, ap₂, refl, ◌∙◌, subst, append_assoc}
use Rattle.drg_algebra.specs.Beginnings.{BeginsWith}
use Rattle.drg_algebra.proofs.Beginnings.{begins, begins_last}
use Rattle.drg_fraction.specs.Fraction.{rational_of}
use Rattle.drg_fraction.specs.Text.{rational_text}
use Rattle.drg_quadratic.specs.Quadratic.{value_of, root_of}
use Rattle.drg_quadratic.specs.Text.{sign_text, magnitude_of, root_text}
use Rattle.drg_quadratic.proofs.quadratic.Quadratic.write_second.Goals as goal

pub returns-in_err-write_text-clause-err : goal.returns-in_err-write_text-clause-err
returns-in_err-write_text-clause-err c =
    let z = value_of c.args.self.now in
    let size : rational_of c.magnitude.result ≡ magnitude_of z.b = c.magnitude.ensures ∙ ap magnitude_of c.b.ensures in
    let part = subst (λ q. BeginsWith (rational_text q) c.write_sign.new.out.items c.write_text.new.out.items) size c.in_err-write_text.ensures.err in
    begins _ _ (sign_text z) (root_text (root_of c.args.self.now)) part c.in_ok-write_sign.ensures.ok
    (append_assoc (sign_text z) (rational_text (magnitude_of z.b)) (root_text (root_of c.args.self.now)))

pub returns-clause-err : goal.returns-clause-err
returns-clause-err c =
    let z = value_of c.args.self.now in
    let old = c.args.out.now.items in
    let size : rational_of c.magnitude.result ≡ magnitude_of z.b = c.magnitude.ensures ∙ ap magnitude_of c.b.ensures in
    let pieces : c.write_text.new.out.items ≡ old ++ (sign_text z ++ rational_text (magnitude_of z.b)) =
    c.in_ok-write_text.ensures.ok ∙ ap₂ (λ x q. x ++ rational_text q) c.in_ok-write_sign.ensures.ok size
    ∙ append_assoc old (sign_text z) (rational_text (magnitude_of z.b)) in
    begins_last _ _ (sign_text z ++ rational_text (magnitude_of z.b)) _ _ c.write_root.ensures.err pieces refl
