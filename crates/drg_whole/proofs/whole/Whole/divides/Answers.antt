use Rattle.std.proofs.Common.{◌≡◌, sym, ◌∙◌, arith}
use Rattle.std.specs.Prelude.{pos, int_div}
use Rattle.drg_whole.proofs.Quotients.{no_remainder, divided}
use Rattle.drg_whole.proofs.whole.Whole.divides.Goals as goal

pub returns : goal.returns
returns c =
    let d = c.args.self.value in
    let n = c.args.other.value in
    let apart : ¬ (d ≡ pos 0) = λ e. let yes = c.is_zero.ensures.1 e in let no = c.if-is_zero.false in grind (arith, yes, no) in (
      λ t. (int_div n d, divided d n (sym c.remainder.ensures.value ∙ c.is_zero-2.ensures.0 t)),
      λ h. c.is_zero-2.ensures.1 (c.remainder.ensures.value ∙ no_remainder d h.0 n apart h.1),
    )
