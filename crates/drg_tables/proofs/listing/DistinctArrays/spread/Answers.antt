use Rattle.std.proofs.Common.{◌≡◌, ◌∙◌, ◌∷◌, ◌++◌, [], ap, sym, refl, arith, List, ℕ, length, slice_index_or}
use Rattle.std.proofs.lemmas.Option.{slice_get_read}
use Rattle.drg_tables.specs.Distinct.{Listing}
use Rattle.drg_tables.proofs.Spread.{found_at, one_more_found, place_at, spread_of}
use Rattle.drg_tables.proofs.listing.DistinctArrays.spread.Goals as goal

pub offset_bounds-values-place : goal.offset_bounds-values-place
offset_bounds-values-place g c =
    let same = c.deref-place-items.ensures.value ∙ ap (λ (l : Listing). l.places) c.self.view_is in
    let place = place_at c.requires.some_list.0 c.args.self.now c.requires.some_list.1 c.deref-place-items.result.now same c.places.place-index c.places-test.true in
    omega (arith, place.1, c.requires.one_each)

pub bounds-values-place : goal.bounds-values-place
bounds-values-place g c =
    let same = c.deref-place-items.ensures.value ∙ ap (λ (l : Listing). l.places) c.self.view_is in
    let place = place_at c.requires.some_list.0 c.args.self.now c.requires.some_list.1 c.deref-place-items.result.now same c.places.place-index c.places-test.true in
    omega (arith, place.1, c.requires.one_each)

pub places-preserved : goal.places-preserved
places-preserved g c =
    let same = c.deref-place-items.ensures.value ∙ ap (λ (l : Listing). l.places) c.self.view_is in
    let place = place_at c.requires.some_list.0 c.args.self.now c.requires.some_list.1 c.deref-place-items.result.now same c.places.place-index c.places-test.true in
    let value = slice_get_read c.args.values.now (length c.args.values.now) (slice_index_or c.deref-place-items.result.now c.places.place-index 0) c.index-values-place.result refl
    (omega (arith, place.1, c.requires.one_each)) c.index-values-place.is in
    rw c.in_ok-push.ensures.items
    (one_more_found c.args.self.now.places c.args.values.now c.places.place-index (slice_index_or c.deref-place-items.result.now c.places.place-index 0) c.places.each.items c.index-values-place.result
    c.places.invariant place.0 value)

pub returns : goal.returns
returns g c = λ list d.
    let same = c.deref-place-items.ensures.value ∙ ap (λ (l : Listing). l.places) c.self.view_is in
    let long = ap (λ (l : List ℕ). length l) same in
    let each = d.one_each in
    let end : c.places.place-index ≡ length list = omega (arith, long, each, c.places.auto.place-index-end, c.places-test.false) in
    spread_of list c.args.self.now c.args.values.now c.places.each.items d
    (found_at c.args.self.now.places c.args.values.now c.places.place-index (length list) c.places.each.items end c.places.invariant)
