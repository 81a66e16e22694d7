-- What each refusal of a derivation's text says of the bytes.
use Rattle.std.specs.Prelude.{ℕ, List}
use Rattle.drg_derivation.specs.Places.{IsRefusedAt, Reading, StopsAfter}
use Rattle.drg_derivation.specs.declared.fault.DerivationFault.{DerivationFault}
use Rattle.drg_derivation.specs.declared.fault.DerivationFault.TheVariants.{BadText, Memory}

-- the line that the fault names is the first that isn't one of its place
abbrev pub IsCause : List ℕ → DerivationFault → Type 0
IsCause bytes (BadText line) = IsRefusedAt bytes line
IsCause bytes Memory = Unit {0}

-- the line that the fault names is the first of those that come that isn't one of its place
abbrev pub IsStop : Reading → DerivationFault → Type 0
IsStop old (BadText line) = StopsAfter old line
IsStop old Memory = Unit {0}
