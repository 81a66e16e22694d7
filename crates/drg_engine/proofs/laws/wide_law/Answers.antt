use Rattle.drg_engine.proofs.WideNumbers.{stays_open}
use Rattle.drg_engine.proofs.laws.wide_law.Goals as goal

pub returns : goal.returns
returns c = λ a tests verdict node array basic wide right. stays_open c.fault_law.ensures.one c.fault_law.ensures.none a node wide tests verdict basic right
