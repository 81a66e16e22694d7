-- Values beside the arrays to which they belong, one more at a time, and that a table with a fault has no rows.
use Rattle.std.proofs.Common.{◌≡◌, ◌∙◌, ◌<◌, ◌+◌, ◌++◌, ◌∷◌, [], sym, ap, subst, ℕ, List, length, get_or, take}
use Rattle.std.proofs.lemmas.List.{take_more}
use Rattle.std.specs.List.{AllZip}
use Rattle.drg_tables.specs.Laws.{NotBoth}
use Rattle.drg_tables.specs.Rows.{IsFirstFault}
use Rattle.drg_program.specs.Table.{IsFaultInRows}

zip_more : {A B : Type 0} (R : A → B → Type 0) (xs : List A) (ys : List B) (x : A) (y : B) → AllZip R xs ys → R x y
    → AllZip R (xs ++ x ∷ []) (ys ++ y ∷ [])
zip_more R [] [] x y z r = (r, tt)
zip_more R [] (w ∷ ys) x y z r = absurd z
zip_more R (v ∷ xs) [] x y z r = absurd z
zip_more R (v ∷ xs) (w ∷ ys) x y z r = (z.0, zip_more R xs ys x y z.1 r)

pub zip_next : {A B : Type 0} (R : A → B → Type 0) (xs : List A) (i : ℕ) (ys : List B) (x : A) (y : B) → i < length xs → x ≡ get_or xs i x
    → AllZip R (take i xs) ys → R x y → AllZip R (take (i + 1) xs) (ys ++ y ∷ [])
zip_next {A} R xs i ys x y low is z r =
    subst (λ (l : List A). AllZip R l (ys ++ y ∷ [])) (sym (take_more xs i x low ∙ ap (λ (v : A). take i xs ++ v ∷ []) (sym is)))
    (zip_more R (take i xs) ys x y z r)

-- a table with a fault
pub fault_in : (bytes : List ℕ) (number place n at : ℕ) → n ≡ number → at ≡ place → NotBoth → IsFirstFault bytes number place → IsFaultInRows bytes n at
fault_in bytes number place n at e f law fault = rw (e, f) ((λ (rows, read). law bytes rows number place read fault), fault)
