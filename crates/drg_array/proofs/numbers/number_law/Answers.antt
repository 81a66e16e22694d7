use Rattle.drg_array.proofs.NumberLaws.{sizes_meet, numbers_exist, one_number}
use Rattle.drg_array.proofs.numbers.number_law.Goals as goal

pub returns : goal.returns
returns c = record { sizes = sizes_meet; exist = numbers_exist; unique = one_number }
