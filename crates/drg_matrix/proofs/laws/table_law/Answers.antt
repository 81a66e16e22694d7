use Rattle.drg_matrix.proofs.Cells.{cells_are_over}
use Rattle.drg_matrix.proofs.Products.{product_is_sum}
use Rattle.drg_matrix.proofs.laws.table_law.Goals as goal

pub returns-clause-over : goal.returns-clause-over
returns-clause-over g c = cells_are_over g.F.Field.value g.F.Field.operations g.F.Field.root_of g.met.F.Field.over

pub returns-clause-product : goal.returns-clause-product
returns-clause-product g c = λ root h. product_is_sum g.F.Field.value g.F.Field.operations root (g.met.F.Field.laws root h).ring
