-- The steps of the loops and of the objects.
use Rattle.std.proofs.Common.{◌≡◌, Vec, Global, ℕ, suc, ◌+◌, ◌<◌, List, [], ◌∷◌, ◌++◌, map, length, take, get_or, sym, ap, ap₂, ◌∙◌, arith}
use Rattle.std.proofs.lemmas.List.{map_push}
use Rattle.std.proofs.Math.Seq.{take-suc}
use Rattle.serde_json.proofs.Views.{view-Array}
use Rattle.serde_json.specs.Data.{Data, Members, put}
use Rattle.serde_json.specs.View.{view}
use Rattle.serde_json.specs.declared.value.Value.{Value}
use Rattle.serde_json.specs.declared.value.Value.TheVariants.{Array}
use Rattle.drg_json.specs.Pieces.{first_items, list}

-- one more item is pushed
pub pushed : (items : List Value) {new : List Value} (front : List Data) (v : Value) (d : Data) → map view items ≡ front → new ≡ items ++ v ∷ [] → view v ≡ d
    → map view new ≡ front ++ d ∷ []
pushed items front v d was now is =
    ap (map view) now ∙ map_push view items v ∙ ap₂ (λ (l : List Data) (x : Data). l ++ x ∷ []) was is

-- the items of a list up to the next place
pub one_more : {A : Type 0} (f : A → Data) (xs : List A) (i : ℕ) (y : A) → i < length xs → map f (take i xs) ++ f (get_or xs i y) ∷ [] ≡ map f (take (i + 1) xs)
one_more f xs i y inside =
    let next : suc i ≡ i + 1 = omega arith in
    sym (map_push f (take i xs) (get_or xs i y)) ∙ ap (map f) (sym (take-suc xs i y inside)) ∙ ap (λ (n : ℕ). map f (take n xs)) next

-- the next of the first items
pub next_item : (f : ℕ → Data) (i : ℕ) → first_items f i ++ f i ∷ [] ≡ first_items f (i + 1)
next_item f i = (let next : suc i ≡ i + 1 = omega arith in ap (λ (n : ℕ). first_items f n) next)

-- one more member is put in
pub puts : (k : List ℕ) {d e : Data} {ms old now : Members} → now ≡ put k d old → d ≡ e → old ≡ ms → now ≡ put k e ms
puts k step is was = step ∙ ap₂ (λ (x : Data) (xs : Members). put k x xs) is was

-- a list of the pushed items
pub listed : (v : Vec Value Global) (front : List Data) → map view v.items ≡ front → view (Array v) ≡ list front
listed v front e = view-Array v ∙ ap list e
