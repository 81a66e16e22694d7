-- What an answer that is exact or refused says of its result.
use Rattle.std.proofs.Common.{◌≡◌, Bool, true, false, ◌∙◌}
use Rattle.std.specs.Prelude.{Result, Ok, Err, IfOk, OnOk, OnErr}
use Rattle.drg_whole.specs.Range.{Gives}

module _ {A E V : Type 0} (value : A → V) where
  pub ok_value : (r : Result A E) (fits : Bool) (v w : V) → Gives value r fits v → v ≡ w → IfOk r (λ x. value x ≡ w)
  ok_value (Ok x) fits v w h e = h.1 ∙ e
  ok_value (Err x) fits v w h e = tt

  pub on_ok : (r : Result A E) (fits : Bool) (v : V) (P : Type 0) → Gives value r fits v → (fits ≡ true → P) → OnOk r P
  on_ok (Ok x) fits v P h f = f h.0
  on_ok (Err x) fits v P h f = tt

  pub on_err : (r : Result A E) (fits : Bool) (v : V) (P : Type 0) → Gives value r fits v → (fits ≡ false → P) → OnErr r P
  on_err (Ok x) fits v P h f = tt
  on_err (Err x) fits v P h f = f h

-- a fact that holds of each refusal
pub of_each_err : {A E : Type 0} (r : Result A E) (P : Type 0) → P → OnErr r P
of_each_err (Ok x) P p = tt
of_each_err (Err x) P p = p

-- what follows from a fact on the value of an answer
pub if_ok_map : {A E : Type 0} (r : Result A E) (P Q : A → Type 0) → ((x : A) → P x → Q x) → IfOk r P → IfOk r Q
if_ok_map (Ok x) P Q f h = f x h
if_ok_map (Err x) P Q f h = tt
