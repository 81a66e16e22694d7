use Rattle.drg_eigen.proofs.ExampleProofs.{petersen_factors, pentagon_factors}
use Rattle.drg_eigen.proofs.FullExampleProofs.{all_petersen_factors, all_pentagon_factors, heptagon_quotient}
use Rattle.drg_eigen.proofs.laws.example_law.Goals as goal

pub returns : goal.returns
returns c = record {
  petersen = petersen_factors;
  pentagon = pentagon_factors;
  all_petersen = all_petersen_factors;
  all_pentagon = all_pentagon_factors;
  heptagon = heptagon_quotient;
}
