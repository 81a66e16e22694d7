use Rattle.drg_quadratic.proofs.EigenvalueValues.{order_of_eigenvalues, one_by_value, twice_eigenvalue}
use Rattle.drg_quadratic.proofs.laws.eigenvalues_are_ordered.Goals as goal

pub returns-clause-order : goal.returns-clause-order
returns-clause-order c = order_of_eigenvalues

pub returns-clause-one : goal.returns-clause-one
returns-clause-one c = one_by_value

pub returns-clause-twice : goal.returns-clause-twice
returns-clause-twice c = twice_eigenvalue
