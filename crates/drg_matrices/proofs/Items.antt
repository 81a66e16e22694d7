-- Items of a list, and their values.
use Rattle.std.proofs.Common.{◌≡◌, ℕ, zero, suc, ◌<◌, List, [], ◌∷◌, map, length, get_or, refl, ap, sym, ◌∙◌, subst, arith}
use Rattle.std.specs.Prelude.{All, slice_index_or}
use Rattle.drg_fraction.specs.Operations.{Operations}
use Rattle.drg_matrices.specs.Values.{item_at}

module _ {A V : Type 0} (value : A → V) (o : Operations V) where
  item_of : (xs : List A) (i : ℕ) (x : A) → i < length xs → item_at o value xs i ≡ value (get_or xs i x)
  item_of [] i x h = absurd (omega arith)
  item_of (y ∷ ys) zero x h = refl
  item_of (y ∷ ys) (suc i) x h = item_of ys i x (omega arith)

  -- the value of an item that was read
  pub read_item : (xs : List A) (i : ℕ) (x : A) → i < length xs → x ≡ get_or xs i x → value x ≡ item_at o value xs i
  read_item xs i x h e = ap value e ∙ sym (item_of xs i x h)

-- what holds of all items holds of one that was read
pub read_holds : {A : Type 0} (P : A → Type 0) (xs : List A) (i : ℕ) (x : A) → All P xs → i < length xs → x ≡ get_or xs i x → P x
read_holds P xs i x all h e = subst P (sym e) (all i x h)

-- lists with the same values have the same items
pub same_items : {A B V : Type 0} (value : A → V) (other : B → V) (o : Operations V) (xs : List A) (ys : List B) → map value xs ≡ map other ys → item_at o value xs ≡ item_at o other ys
same_items value other o xs ys e = ap (λ us (i : ℕ). slice_index_or us i o.nil) e
