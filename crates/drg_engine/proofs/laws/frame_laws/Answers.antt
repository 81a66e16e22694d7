use Rattle.drg_engine.proofs.laws.frame_laws.Goals as goal

pub returns : goal.returns
returns c = record {
  polynomial = c.fault_law.ensures.one;
  no_polynomial = c.fault_law.ensures.none;
  split = c.split_law.ensures.one;
  division = c.split_law.ensures.one_fault;
  no_division = c.split_law.ensures.no_fault;
  fraction = c.fault_law-2.ensures.one 0;
  no_fraction = c.fault_law-2.ensures.none 0;
  number = c.fault_law-3.ensures.one;
  no_number = c.fault_law-3.ensures.none;
}
