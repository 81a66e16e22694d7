use Rattle.csv.specs.Records.{fields_of}
use Rattle.drg_tables.proofs.Taking.{took}
use Rattle.drg_tables.proofs.reading.take_record.Goals as goal

pub returns-in-Ok-clause-taken : goal.returns-in-Ok-clause-taken
returns-in-Ok-clause-taken c = λ bytes records h.
    took bytes records c.args.reader.now c.read_byte_record.new.self c.in-Ok.found (fields_of c.read_byte_record.new.row) h
    (c.in-Ok.ensures.ready h.plain) (c.in-Ok.ensures.reads h.plain h.ready)
