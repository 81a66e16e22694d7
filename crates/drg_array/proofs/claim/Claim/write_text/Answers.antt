use Rattle.std.proofs.Common.{◌++◌, ◌∙◌, sym, ap, arith}
use Rattle.drg_algebra.proofs.Beginnings.{begins_last}
use Rattle.drg_array.specs.Claims.{name_text, name_of, spaced}
use Rattle.drg_array.proofs.claim.Claim.write_text.Goals as goal

pub returns-clause-err : goal.returns-clause-err
returns-clause-err c =
    let old = c.args.out.now.items in
    begins_last _ old (name_text (name_of c.args.self.now)) _ _ c.write_spaced.ensures.err
    (grind (arith, c.in_ok-extend_from_slice.ensures.items, c.as_bytes.ensures.value, c.text.ensures, c.name.ensures))
    (ap (λ ns. name_text (name_of c.args.self.now) ++ spaced ns) (sym (c.deref.ensures.0 ∙ c.indices.ensures.indices)))
