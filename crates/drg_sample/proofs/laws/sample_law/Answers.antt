use Rattle.drg_sample.proofs.Counts.{counts_add_up, one_kind}
use Rattle.drg_sample.proofs.Drawn.{as_many, drawn_is_array}
use Rattle.drg_sample.proofs.laws.sample_law.Goals as goal

pub returns-clause-drawn : goal.returns-clause-drawn
returns-clause-drawn c = drawn_is_array

pub returns-clause-as_many : goal.returns-clause-as_many
returns-clause-as_many c = as_many

pub returns-clause-one_kind : goal.returns-clause-one_kind
returns-clause-one_kind c = one_kind

pub returns-clause-add_up : goal.returns-clause-add_up
returns-clause-add_up c = counts_add_up
