use Rattle.drg_eigen.proofs.MadePolynomials.{one_field_polynomial}
use Rattle.drg_eigen.proofs.tests.one_field.Goals as goal

pub split_made-requires : goal.split_made-requires
split_made-requires g c = one_field_polynomial
