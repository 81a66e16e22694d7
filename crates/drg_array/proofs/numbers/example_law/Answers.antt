use Rattle.drg_array.proofs.ExampleProofs.{petersen_sizes, petersen_numbers, size_of_five_four, number_of_four_one}
use Rattle.drg_array.proofs.numbers.example_law.Goals as goal

pub returns : goal.returns
returns c = record { sizes = petersen_sizes; numbers = petersen_numbers; size = size_of_five_four; number = number_of_four_one }
