use Rattle.drg_fraction.proofs.Fields.{members_are_ordered_field}
use Rattle.drg_fraction.proofs.field.values_are_a_field.Goals as goal

pub returns : goal.returns
returns g c = λ root h. members_are_ordered_field (g.met.F.Field.laws root h)
