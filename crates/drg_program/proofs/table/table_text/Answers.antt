use Rattle.std.proofs.Common.{subst}
use Rattle.drg_tables.specs.Rows.{IsFirstFault, IsTableFault}
use Rattle.drg_tables.specs.declared.fault.TableReadFault.{TableReadFault}
use Rattle.drg_program.proofs.TableLemmas.{fault_in}
use Rattle.drg_program.proofs.table.table_text.Goals as goal

pub returns-in-Err-Bad : goal.returns-in-Err-Bad
returns-in-Err-Bad c =
    let bytes = c.args.bytes.now in
    let number = c.in-Err-Bad.row in
    let place = c.in-Err-Bad.at in
    let fault : IsFirstFault bytes number place = subst (λ (f : TableReadFault). IsTableFault bytes f) c.in-Err-Bad.field-0-is c.in-Err-Bad.ensures.fault in
    λ budget file. fault_in bytes number place _ _ c.in-Err-Bad.row-is c.in-Err-Bad.at-is c.row_law.ensures.not_both fault
