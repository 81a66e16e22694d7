use Rattle.drg_tables.proofs.Listings.{one_listing}
use Rattle.drg_tables.proofs.laws.distinct_law.Goals as goal

pub returns : goal.returns
returns c = one_listing
