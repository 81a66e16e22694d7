-- What an answer that is exact or refused says of its value.
use Rattle.std.proofs.Common.{Bool, sym, subst}
use Rattle.std.specs.Prelude.{Result, Ok, Err, IfOk}
use Rattle.drg_whole.specs.Range.{Gives}

pub if_given : {A E V : Type 0} (value : A → V) (r : Result A E) (fits : Bool) (v : V) (P : V → Type 0) → Gives value r fits v → P v → IfOk r (λ x. P (value x))
if_given value (Ok x) fits v P g p = subst P (sym g.1) p
if_given value (Err e) fits v P g p = tt
