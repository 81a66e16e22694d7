-- From what a command makes of the bytes that were read to how it ends.
use Rattle.std.proofs.Common.{ℕ, ◌⊎◌, inl, inr, List, [], Option, None, Result, Ok, Err, arith}
use Rattle.std.specs.Prelude.{Vec, IsErrOf}
use Rattle.std.specs.declared.alloc.Global.{Global}
use Rattle.drg_outside.specs.Files.{File}
use Rattle.drg_program.specs.Input.{HasCauses, IsWithinLimit}
use Rattle.drg_program.specs.Run.{Ends, Finds}
use Rattle.drg_words.specs.declared.command.Command.{Command}
use Rattle.drg_program.specs.declared.output.Output.{Output}
use Rattle.drg_program.specs.declared.output.EarlyRefusal.{EarlyRefusal}
use Rattle.drg_program.specs.declared.output.EarlyRefusal.TheVariants.{BadInput, TooLong, OpenFault, ReadFault, Memory}

pub ends : (command : Command) (bytes : List ℕ) (result : Result Output EarlyRefusal) → IsWithinLimit bytes → Finds command bytes result → Ends command bytes result
ends command bytes (Ok output) short found = (short, found)
ends command bytes (Err (BadInput line at)) short found = (short, found)
ends command bytes (Err TooLong) short found = absurd found
ends command bytes (Err OpenFault) short found = absurd found
ends command bytes (Err ReadFault) short found = absurd found
ends command bytes (Err Memory) short found = tt

no_open_fault : (command : Command) (bytes : List ℕ) (result : Result Output EarlyRefusal) → Finds command bytes result → IsErrOf result OpenFault → ⊥
no_open_fault command bytes (Ok output) found e = cc
no_open_fault command bytes (Err (BadInput line at)) found e = cc
no_open_fault command bytes (Err TooLong) found e = found
no_open_fault command bytes (Err OpenFault) found e = found
no_open_fault command bytes (Err ReadFault) found e = found
no_open_fault command bytes (Err Memory) found e = cc

no_read_fault : (command : Command) (bytes : List ℕ) (result : Result Output EarlyRefusal) → Finds command bytes result → IsErrOf result ReadFault → ⊥
no_read_fault command bytes (Ok output) found e = cc
no_read_fault command bytes (Err (BadInput line at)) found e = cc
no_read_fault command bytes (Err TooLong) found e = found
no_read_fault command bytes (Err OpenFault) found e = found
no_read_fault command bytes (Err ReadFault) found e = found
no_read_fault command bytes (Err Memory) found e = cc

not_refused : (input : Vec ℕ Global) → IsErrOf {T = Vec ℕ Global} {E = EarlyRefusal} (Ok input) OpenFault ⊎ IsErrOf {T = Vec ℕ Global} {E = EarlyRefusal} (Ok input) Memory → ⊥
not_refused input (inl e) = cc
not_refused input (inr e) = cc

-- the causes of what was read are those of what was made of it
pub causes : (command : Command) (bytes : List ℕ) (result : Result Output EarlyRefusal) (file : Option (List ℕ)) (files : Option (List File))
    (open_before open_now read_before read_now : ℕ) (input : Vec ℕ Global) → Finds command bytes result
    → HasCauses file files open_before open_now read_before read_now (Ok input) → HasCauses file files open_before open_now read_before read_now result
causes command bytes result file files open_before open_now read_before read_now input found h = record {
  open_fault = λ e. absurd (no_open_fault command bytes result found e);
  missing = λ gone. absurd (not_refused input (h.missing gone));
  read_fault = λ e. absurd (no_read_fault command bytes result found e);
  later_open = h.later_open;
  later_read = h.later_read;
}

-- the causes of what was made without a file
pub no_file : (command : Command) (result : Result Output EarlyRefusal) (files : Option (List File)) (opened read : ℕ) → Finds command [] result
    → HasCauses None files opened opened read read result
no_file command result files opened read found = record {
  open_fault = λ e. absurd (no_open_fault command [] result found e);
  missing = λ gone. absurd gone;
  read_fault = λ e. absurd (no_read_fault command [] result found e);
  later_open = omega arith;
  later_read = omega arith;
}

pub ends_alone : (command : Command) (result : Result Output EarlyRefusal) → Finds command [] result → Ends command [] result
ends_alone command result found = ends command [] result (omega arith) found
