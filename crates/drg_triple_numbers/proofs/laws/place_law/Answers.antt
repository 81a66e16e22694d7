use Rattle.drg_triple_numbers.proofs.Places.{unknowns_have_places, places_have_unknowns}
use Rattle.drg_triple_numbers.proofs.laws.place_law.Goals as goal

pub returns : goal.returns
returns c = record { unknowns = unknowns_have_places; places = places_have_unknowns }
