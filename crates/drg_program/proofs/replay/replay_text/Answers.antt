use Rattle.std.proofs.Common.{ℕ, refl, sym, subst}
use Rattle.drg_derivation.specs.Faults.{IsCause}
use Rattle.drg_derivation.specs.Places.{IsRefusedAt}
use Rattle.drg_derivation.specs.declared.fault.DerivationFault.{DerivationFault}
use Rattle.drg_program.specs.Replay.{IsFaultInLine}
use Rattle.drg_program.proofs.replay.replay_text.Goals as goal

pub returns-in-Err-BadText : goal.returns-in-Err-BadText
returns-in-Err-BadText c =
    let bytes = c.args.bytes.now in
    let number = c.in-Err-BadText.line in
    let refused : IsRefusedAt bytes number = subst (λ (fault : DerivationFault). IsCause bytes fault) c.in-Err-BadText.field-0-is c.in-Err-BadText.ensures.refused in
    let here : IsFaultInLine bytes number = ((λ n δ begins. c.refusal_law.ensures.not_both bytes n number δ begins refused), refused) in
    λ file. (refl, subst (λ (line : ℕ). IsFaultInLine bytes line) (sym c.in-Err-BadText.line-is) here)

pub returns : goal.returns
returns c = λ file. record {
  n = c.in-Ok.found.1;
  derivation = c.in-Ok.found.0;
  begins = c.in-Ok.ensures.ok;
  concludes = c.in_ok-output.ensures;
}
