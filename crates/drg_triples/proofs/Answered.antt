-- What an exact or refused answer says of the test in it.
use Rattle.std.proofs.Common.{◌≡◌, Bool, true, false, Ok, Err}
use Rattle.std.specs.Prelude.{is_ok, Result}
use Rattle.drg_whole.specs.Range.{Gives}

pub refused : {A E V : Type 0} (value : A → V) (r : Result A E) (b : Bool) (v : V) → Gives value r b v → is_ok r ≡ false → b ≡ false
refused value (Ok a) b v g h = cc
refused value (Err e) b v g h = g

pub given : {A E V : Type 0} (value : A → V) (r : Result A E) (b : Bool) (v : V) → Gives value r b v → is_ok r ≡ true → b ≡ true
given value (Ok a) b v g h = g.0
given value (Err e) b v g h = cc
