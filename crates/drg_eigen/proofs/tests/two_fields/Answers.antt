use Rattle.drg_eigen.proofs.MadePolynomials.{two_fields_polynomial}
use Rattle.drg_eigen.proofs.tests.two_fields.Goals as goal

pub split_made-requires : goal.split_made-requires
split_made-requires g c = two_fields_polynomial
