use Rattle.std.proofs.Common.{◌∙◌, sym, ap, subst, ℕ, List, length, map, Vec, Global}
use Rattle.std.proofs.lemmas.List.{length-map}
use Rattle.std.proofs.lemmas.Slice.Zip.{AllZip-long}
use Rattle.std.specs.List.{AllZip}
use Rattle.drg_array.specs.Entries.{Entries}
use Rattle.drg_tables.proofs.Spread.{spread_zip}
use Rattle.drg_program.specs.Table.{AreWordsOn, arrays_of}
use Rattle.drg_program.proofs.table.rows_text.Goals as goal

abbrev texts_of : List (Vec ℕ Global) → List (List ℕ)
texts_of words = map (λ (one : Vec ℕ Global). one.items) words

pub render_rows-requires-clause-words : goal.render_rows-requires-clause-words
render_rows-requires-clause-words c =
    let words = c.in_ok-words.words.items in
    let judged = subst (λ (l : List Entries). AllZip (AreWordsOn c.args.tests.now) l (texts_of words)) c.arrays.ensures c.in_ok-words.ensures in
    ap (λ (l : List (Vec ℕ Global)). length l) c.deref.ensures.value ∙ sym (length-map words (λ (one : Vec ℕ Global). one.items))
    ∙ AllZip-long (AreWordsOn c.args.tests.now) c.in_ok-found.found.arrays (texts_of words) judged

pub returns : goal.returns
returns c =
    let (each, spread, written) = c.in_ok-text.ensures in
    let arrays = c.in_ok-found.found.arrays in
    let words = c.in_ok-words.words.items in
    let judged = subst (λ (l : List Entries). AllZip (AreWordsOn c.args.tests.now) l (texts_of words)) c.arrays.ensures c.in_ok-words.ensures in
    let given = subst (λ (l : List (Vec ℕ Global)). AllZip (AreWordsOn c.args.tests.now) arrays (texts_of l)) (sym c.deref.ensures.value) judged in
    record {
      words = each;
      judged = spread_zip (AreWordsOn c.args.tests.now) (arrays_of c.args.rows.now) arrays (texts_of c.deref.result.now) each spread given;
      equal = spread.equal;
      written = written;
    }
