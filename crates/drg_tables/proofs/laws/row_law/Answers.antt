use Rattle.drg_tables.proofs.RowLaws.{not_both, one_first_fault, one_table, rows_or_fault}
use Rattle.drg_tables.proofs.laws.row_law.Goals as goal

pub returns-clause-one_table : goal.returns-clause-one_table
returns-clause-one_table c = one_table c.text_law.ensures.one_array

pub returns-clause-one_fault : goal.returns-clause-one_fault
returns-clause-one_fault c = one_first_fault c.text_law.ensures.not_both c.text_law.ensures.one_fault

pub returns-clause-either : goal.returns-clause-either
returns-clause-either c = rows_or_fault c.text_law.ensures.either

pub returns-clause-not_both : goal.returns-clause-not_both
returns-clause-not_both c = not_both c.text_law.ensures.not_both
