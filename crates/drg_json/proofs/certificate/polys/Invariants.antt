use Rattle.std.proofs.Common.{◌≡◌, map, take}
use Rattle.serde_json.specs.View.{view}
use Rattle.drg_json.specs.Certificates.{poly_data}
use Rattle.drg_json.proofs.certificate.polys.Given as goal

abbrev pub invariant-polys : goal.invariant-polys
invariant-polys l = map view l.list.items ≡ map poly_data (take l.poly-index l.polys)
