use Rattle.std.proofs.Common.{◌≡◌, ◌∙◌, ◌∷◌, ◌++◌, [], ap, sym, subst, arith, rules, List, ℕ, map, take, length, slice_index_or, Vec, Global}
use Rattle.std.proofs.lemmas.List.{length-map, take_all}
use Rattle.drg_array.specs.Entries.{Entries}
use Rattle.drg_tables.specs.Output.{records_text}
use Rattle.drg_tables.specs.Writing.{HasWritten}
use Rattle.drg_tables.specs.declared.row.Row.{Row}
use Rattle.drg_tables.proofs.Spread.{found_at, none_found, one_more_found, place_at, spread_of}
use Rattle.drg_tables.proofs.Written.{records_next}
use Rattle.drg_tables.proofs.writing.render_rows.Goals as goal

abbrev arrays_of : List Row → List Entries
arrays_of rows = map (λ (row : Row). row.array) rows

abbrev texts_of : List (Vec ℕ Global) → List (List ℕ)
texts_of words = map (λ (w : Vec ℕ Global). w.items) words

pub rows-init : goal.rows-init
rows-init c = ([], none_found c.args.found.now.places (texts_of c.args.words.now), c.writer_of-writer.ensures)

pub words_at-given-requires : goal.words_at-given-requires
words_at-given-requires c =
    let all = ap (λ (l : List ℕ). length l) c.places-places.ensures ∙ c.requires.distinct.one_each ∙ length-map c.args.rows.now (λ (row : Row). row.array) in
    let place = place_at (arrays_of c.args.rows.now) c.args.found.now c.requires.distinct c.places-places.result.now c.places-places.ensures c.rows.i (omega (arith, all, c.rows-test.true)) in
    omega (arith, place.1, c.requires.words)

pub rows-preserved : goal.rows-preserved
rows-preserved c =
    let (each, found, written) = c.rows.invariant in
    let all = ap (λ (l : List ℕ). length l) c.places-places.ensures ∙ c.requires.distinct.one_each ∙ length-map c.args.rows.now (λ (row : Row). row.array) in
    let place = place_at (arrays_of c.args.rows.now) c.args.found.now c.requires.distinct c.places-places.result.now c.places-places.ensures c.rows.i (omega (arith, all, c.rows-test.true)) in
    let more = c.in_ok-write_row.ensures (records_text (take c.rows.i c.args.rows.now) each) written in (
      each ++ c.words_at-given.result.now ∷ [],
      one_more_found c.args.found.now.places (texts_of c.args.words.now) c.rows.i (slice_index_or c.places-places.result.now c.rows.i 0) each c.words_at-given.result.now found place.0 c.words_at-given.ensures,
      subst (λ (text : List ℕ). HasWritten text c.write_row.new.writer)
          (sym (records_next c.args.rows.now c.rows.i each c.index-rows-i.result c.words_at-given.result.now c.rows-test.true found.count c.index-rows-i.is)) more,
    )

pub returns : goal.returns
returns c =
    let (each, found, written) = c.rows.invariant in
    let end : c.rows.i ≡ length c.args.rows.now = omega (arith, c.rows.auto.i-end, c.rows-test.false) in
    let whole = take_all c.rows.i c.args.rows.now (omega (arith, end)) in (
      each,
      spread_of (arrays_of c.args.rows.now) c.args.found.now (texts_of c.args.words.now) each c.requires.distinct
          (found_at c.args.found.now.places (texts_of c.args.words.now) c.rows.i (length (arrays_of c.args.rows.now)) each (end ∙ sym (length-map c.args.rows.now (λ (row : Row). row.array))) found),
      c.in_ok-text.ensures (records_text c.args.rows.now each) (subst (λ (l : List Row). HasWritten (records_text l each) c.rows.writer) whole written),
    )
