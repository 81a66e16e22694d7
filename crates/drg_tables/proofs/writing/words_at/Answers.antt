use Rattle.std.proofs.Common.{◌≡◌, ◌∙◌, ap, sym, refl, List, ℕ, Some, Option, option_map, Vec, Global, length}
use Rattle.std.proofs.lemmas.Option.{slice_get-map, slice_get_read}
use Rattle.drg_tables.proofs.writing.words_at.Goals as goal

pub returns : goal.returns
returns c =
    let here = slice_get_read c.args.words.now (length c.args.words.now) c.args.place c.index-words-place.result refl c.requires c.index-words-place.is in
    slice_get-map (λ (w : Vec ℕ Global). w.items) c.args.words.now c.args.place
    ∙ ap (λ (o : Option (Vec ℕ Global)). option_map (λ (w : Vec ℕ Global). w.items) o) here
    ∙ ap (λ (l : List ℕ). Some l) (sym c.deref.ensures.value)
