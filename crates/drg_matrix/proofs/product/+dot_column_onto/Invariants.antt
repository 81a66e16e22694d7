use Rattle.std.proofs.Common.{length}
use Rattle.drg_matrix.proofs.product.+dot_column_onto.Given as goal

abbrev pub decreases-dot_column_onto : goal.decreases-dot_column_onto
decreases-dot_column_onto g l = length l.row.now
