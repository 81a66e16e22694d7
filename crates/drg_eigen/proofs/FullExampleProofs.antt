-- All factors of two characteristic polynomials.
use Rattle.std.proofs.Common.{refl, arith}
use Rattle.std.proofs.lemmas.Int.{ints}
use Rattle.drg_eigen.specs.FullExamples.{AllPetersenFactors, AllPentagonFactors, HeptagonQuotient, petersen_list, pentagon_list}
use Rattle.drg_eigen.proofs.ExampleProofs.{petersen_factors, pentagon_factors, not_five}
use Rattle.drg_eigen.proofs.FullProducts.{factors_of_full_product}

pub all_petersen_factors : AllPetersenFactors
all_petersen_factors = record {
  factors = record {
    ordered = (omega (arith, ints), (omega (arith, ints), tt));
    candidates = ((tt, omega arith), ((tt, omega arith), ((tt, omega arith), tt)));
    divide = (petersen_factors.valency, (petersen_factors.second, (petersen_factors.least, tt)));
    all = λ c candidate divides. factors_of_full_product c petersen_list candidate.0 (tt, (tt, (tt, tt))) divides;
  };
  whole = refl;
}

pub all_pentagon_factors : AllPentagonFactors
all_pentagon_factors = record {
  factors = record {
    ordered = (tt, tt);
    candidates = ((tt, omega arith), (pentagon_factors.candidate, tt));
    divide = (pentagon_factors.valency, (pentagon_factors.golden, tt));
    all = λ c candidate divides. factors_of_full_product c pentagon_list candidate.0 (tt, (not_five, tt)) divides;
  };
  whole = refl;
}

pub heptagon_quotient : HeptagonQuotient
heptagon_quotient = refl
