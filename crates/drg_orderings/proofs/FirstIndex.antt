-- Two orderings with one first index are the same.
use Rattle.std.proofs.Common.{◌≡◌, ℕ, zero, suc, ◌≤◌, ◌⊎◌, inl, inr, List, refl, sym, ◌∙◌, ap, arith}
use Rattle.std.proofs.lemmas.Grind.{same_number_lists}
use Rattle.drg_orderings.specs.Laws.{FirstForcesRest}
use Rattle.drg_orderings.specs.Orderings.{index_at, IsOrdering}
use Rattle.drg_orderings.specs.PPolynomial.{IsZeroNumber}
use Rattle.drg_orderings.proofs.Places.{before_or_last, at_same}
use Rattle.drg_orderings.proofs.Beginnings.{next_place}

module _ (d : ℕ) (Z : ℕ → ℕ → ℕ → Type 0) (order other : List ℕ) (o : IsOrdering d Z order) (p : IsOrdering d Z other)
    (e : index_at order 1 ≡ index_at other 1) where
  -- They agree up to each place.
  agree : (n h : ℕ) → n ≤ d → h ≤ n → index_at order h ≡ index_at other h
  agree n zero k l = refl
  agree zero (suc h) k l = absurd (omega arith)
  agree (suc zero) (suc h) k l = ap (λ x. index_at order x) one ∙ e ∙ ap (λ x. index_at other x) (sym one)
    where
      one : suc h ≡ 1
      one = omega arith
  agree (suc (suc n)) (suc h) k l = go (λ j m. agree (suc n) j (omega arith) m) (before_or_last (suc h) (suc n) l)
    where
      go : ((j : ℕ) → j ≤ suc n → index_at order j ≡ index_at other j) → (suc h ≤ suc n) ⊎ (suc h ≡ suc (suc n))
          → index_at order (suc h) ≡ index_at other (suc h)
      go before (inl m) = before (suc h) m
      go before (inr m) =
          ap (index_at order) m
          ∙ next_place d Z order o (suc n) (index_at other (suc (suc n))) (omega arith)
          (p.within (suc (suc n)) k)
          (λ j b q. (let same = p.once j (suc (suc n)) (omega arith) k (sym (before j b) ∙ q) in omega arith))
          (λ z. (p.entries (suc (suc n)) (suc n) k (omega arith)).next (inl refl)
          (at_same Z (index_at other (suc (suc n))) (index_at order 1) (index_at order (suc n))
          (index_at other (suc (suc n))) (index_at other 1) (index_at other (suc n)) refl e (before (suc n) (omega arith)) z))
          ∙ ap (index_at other) (sym m)

  pub same_order : order ≡ other
  same_order =
      let k = o.count in
      let l = p.count in
      same_number_lists order other (k ∙ sym l) (λ i m. agree d (suc i) (omega arith) (omega arith))

pub first_forces_rest : FirstForcesRest
first_forces_rest numbers order other o p e = same_order numbers.d (IsZeroNumber numbers) order other o p e
