-- Lists of values while they are made.
use Rattle.std.proofs.Common.{◌≡◌, ℕ, ◌<◌, ◌+◌, List, [], ◌∷◌, ◌++◌, map, length, get_or, take, ap, ap₂, sym, ◌∙◌}
use Rattle.std.proofs.lemmas.List.{map_push, take_more}

-- one item more
pub map_next : {A B V : Type 0} (f : A → V) (g : B → V) (xs ys : List A) (zs : List B) (i : ℕ) (x : A) (z : B)
    → ys ≡ xs ++ x ∷ [] → map f xs ≡ map g (take i zs) → i < length zs → z ≡ get_or zs i z → f x ≡ g z → map f ys ≡ map g (take (i + 1) zs)
map_next f g xs ys zs i x z e h inside read same =
    ap (map f) e ∙ map_push f xs x ∙ ap₂ (λ us u. us ++ u ∷ []) h same ∙ sym (map_push g (take i zs) z)
    ∙ ap (map g) (ap (λ w. take i zs ++ w ∷ []) read ∙ sym (take_more zs i z inside))
