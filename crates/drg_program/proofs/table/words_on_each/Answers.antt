use Rattle.std.proofs.Common.{◌∙◌, ◌+◌, ◌∷◌, [], sym, ap, subst, ℕ, List, map, take, Vec, Global}
use Rattle.std.proofs.lemmas.List.{map-append}
use Rattle.std.specs.List.{AllZip}
use Rattle.drg_program.specs.Table.{AreWordsOn}
use Rattle.drg_program.proofs.TableLemmas.{zip_next}
use Rattle.drg_program.proofs.table.words_on_each.Goals as goal

abbrev texts_of : List (Vec ℕ Global) → List (List ℕ)
texts_of words = map (λ (one : Vec ℕ Global). one.items) words

pub arrays-preserved : goal.arrays-preserved
arrays-preserved c =
    let i = c.arrays.array-index in
    let old = c.arrays.words.items in
    let more = zip_next (AreWordsOn c.args.tests.now) c.args.arrays.now i (texts_of old) c.array-item.result c.in_ok-one.one.items c.arrays-test.true
    c.array-item.is c.arrays.invariant c.in_ok-one.ensures in
    subst (λ (l : List (List ℕ)). AllZip (AreWordsOn c.args.tests.now) (take (i + 1) c.args.arrays.now) l)
    (sym (ap texts_of c.in_ok-push.ensures.items ∙ map-append (λ (one : Vec ℕ Global). one.items) old (c.in_ok-one.one ∷ []))) more
