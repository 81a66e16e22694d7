-- Places in a list of indices that begins with r_0 = 0.
use Rattle.std.proofs.Common.{◌≡◌, ℕ, zero, suc, ◌≤◌, ◌⊎◌, inl, inr, List, [], ◌∷◌, ◌++◌, length, refl, subst, arith, length-append}
use Rattle.std.proofs.Math.ListN.{get_or-append}
use Rattle.std.proofs.Math.Seq.{get_or-append_seam}
use Rattle.drg_orderings.specs.Orderings.{index_at}
use Rattle.drg_orderings.proofs.Pigeons.{same_or_not}

-- One more index is one more place.
pub length-more : (order : List ℕ) (x : ℕ) → length (order ++ x ∷ []) ≡ suc (length order)
length-more order x = simp length-append (omega arith)

-- The places before stay as they are.
pub index_at-before : (order : List ℕ) (x h : ℕ) → h ≤ length order → index_at (order ++ x ∷ []) h ≡ index_at order h
index_at-before order x zero l = refl
index_at-before order x (suc h) l = get_or-append order (x ∷ []) 0 h (omega arith)

-- The last place has the new index.
pub index_at-last : (order : List ℕ) (x : ℕ) → index_at (order ++ x ∷ []) (suc (length order)) ≡ x
index_at-last order x = get_or-append_seam order x [] 0

-- A place up to n + 1 is one up to n, or n + 1.
pub before_or_last : (h n : ℕ) → h ≤ suc n → (h ≤ n) ⊎ (h ≡ suc n)
before_or_last h n l = go (same_or_not h (suc n))
  where
    go : (h ≡ suc n) ⊎ (¬ (h ≡ suc n)) → (h ≤ n) ⊎ (h ≡ suc n)
    go (inl e) = inr e
    go (inr f) = inl (omega arith)

-- A table says of equal indices the same.
pub at_same : (Z : ℕ → ℕ → ℕ → Type 0) (a b c x y z : ℕ) → a ≡ x → b ≡ y → c ≡ z → Z a b c → Z x y z
at_same Z a b c x y z e f g t =
    let F : ℕ → Type 0 = λ v. Z v b c in
    let G : ℕ → Type 0 = λ v. Z x v c in
    let H : ℕ → Type 0 = λ v. Z x y v in
    subst H g (subst G f (subst F e t))
