use Rattle.std.proofs.Common.{rules, ◌≡◌, ◌++◌, ◌∷◌, [], List, ℕ, ap, sym, ◌∙◌}
use Rattle.drg_array.specs.Entries.{Entries}
use Rattle.drg_tables.specs.Distinct.{AreDistinct}
use Rattle.drg_tables.proofs.Places.{noted}
use Rattle.drg_tables.proofs.listing.DistinctArrays.note.Goals as goal

pub returns : goal.returns
returns c = λ list d.
    let stored = c.in_ok-place.ensures.stored in
    rw (c.in_ok-push.ensures.items, ← c.copied.ensures)
    (noted list (record { arrays = c.self.inside.arrays.keys; places = c.self.inside.places.items }) c.insert_full.new.self.keys c.copied.result stored.0 c.in_ok-place.place
    (rw c.self.view_is d) c.in_ok-place.ensures.keys stored.1 stored.2)
