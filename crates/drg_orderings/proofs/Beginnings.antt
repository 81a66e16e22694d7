-- The first index of an ordering forces the rest.
use Rattle.std.proofs.Common.{◌≡◌, ℕ, zero, suc, ◌<◌, ◌≤◌, ◌⊎◌, inl, inr, List, [], ◌∷◌, ◌++◌, length, refl, sym, ◌∙◌, ap, subst, arith}
use Rattle.std.proofs.lemmas.Grind.{same_number_lists}
use Rattle.drg_orderings.specs.Orderings.{index_at, EntryFits, IsOrdering}
use Rattle.drg_orderings.specs.Search.{CanFollow, IsBeginning, IsWhole, IsTheOrdering, IsForced, NoneBegins, AllFit, IsTaken}
use Rattle.drg_orderings.proofs.Pigeons.{every_one}
use Rattle.drg_orderings.proofs.Places.{length-more, index_at-before, index_at-last, before_or_last, at_same}

-- A place is before n + 1, there, or after it.
three : (h n : ℕ) → (h ≤ n) ⊎ ((h ≡ suc n) ⊎ (suc n < h))
three zero n = inl (omega arith)
three (suc zero) zero = inr (inl refl)
three (suc (suc h)) zero = inr (inr (omega arith))
three (suc h) (suc n) = go (three h n)
  where
    go : (h ≤ n) ⊎ ((h ≡ suc n) ⊎ (suc n < h)) → (suc h ≤ suc n) ⊎ ((suc h ≡ suc (suc n)) ⊎ (suc (suc n) < suc h))
    go (inl k) = inl (omega arith)
    go (inr (inl k)) = inr (inl (omega arith))
    go (inr (inr k)) = inr (inr (omega arith))

-- In an ordering an index that stands at no place up to n, and whose entry at n isn't zero, stands at n + 1.
pub next_place : (d : ℕ) (Z : ℕ → ℕ → ℕ → Type 0) (order : List ℕ) → IsOrdering d Z order → (n x : ℕ) → n < d → x ≤ d
    → ((h : ℕ) → h ≤ n → ¬ (index_at order h ≡ x)) → ¬ Z x (index_at order 1) (index_at order n) → index_at order (suc n) ≡ x
next_place d Z order o n x short within new nonzero = go p.0 p.1 p.2 (three p.0 n)
  where
    p : (h : ℕ) × (h ≤ d) × (index_at order h ≡ x)
    p = o.every x within

    go : (h : ℕ) → h ≤ d → index_at order h ≡ x → (h ≤ n) ⊎ ((h ≡ suc n) ⊎ (suc n < h)) → index_at order (suc n) ≡ x
    go h l q (inl k) = absurd (new h k q)
    go h l q (inr (inl k)) = ap (index_at order) (sym k) ∙ q
    go h l q (inr (inr k)) = absurd (nonzero (at_same Z (index_at order h) (index_at order 1) (index_at order n)
        x (index_at order 1) (index_at order n) q refl refl ((o.entries h n l (omega arith)).apart (inl k))))

module _ (d : ℕ) (Z : ℕ → ℕ → ℕ → Type 0) (first : ℕ) where
  -- One index is a beginning.
  pub one_begins : 1 ≤ first → first ≤ d → IsBeginning d Z first (first ∷ [])
  one_begins low high = record { begins = refl; different = record { some = omega arith; within = within; once = once }; forced = forced }
    where
      within : (h : ℕ) → h ≤ 1 → index_at (first ∷ []) h ≤ d
      within zero l = omega arith
      within (suc zero) l = high
      within (suc (suc h)) l = absurd (omega arith)

      once : (h j : ℕ) → h ≤ 1 → j ≤ 1 → index_at (first ∷ []) h ≡ index_at (first ∷ []) j → h ≡ j
      once zero zero l m e = refl
      once zero (suc zero) l m e = absurd (omega arith)
      once (suc zero) zero l m e = absurd (omega arith)
      once (suc zero) (suc zero) l m e = refl
      once (suc (suc h)) j l m e = absurd (omega arith)
      once h (suc (suc j)) l m e = absurd (omega arith)

      forced : IsForced d Z first (first ∷ [])
      forced other o e zero l = refl
      forced other o e (suc zero) l = e
      forced other o e (suc (suc h)) l = absurd (omega arith)

  module _ (order : List ℕ) (b : IsBeginning d Z first order) (short : length order < d) where
    -- An index that can follow is the next one of each ordering that begins so.
    next_is : (other : List ℕ) → IsOrdering d Z other → index_at other 1 ≡ first
        → (x : ℕ) → CanFollow d Z order x → index_at other (suc (length order)) ≡ x
    next_is other o e x f = next_place d Z other o (length order) x short f.within
        (λ h k q. f.new (h, k, sym (b.forced other o e h k) ∙ q))
        (λ z. f.nonzero (at_same Z x (index_at other 1) (index_at other (length order)) x (index_at order 1) (index_at order (length order))
        refl (b.forced other o e 1 b.different.some) (b.forced other o e (length order) (omega arith)) z))

    -- The next index of an ordering that begins so can follow.
    next_can : (other : List ℕ) → IsOrdering d Z other → index_at other 1 ≡ first
        → CanFollow d Z order (index_at other (suc (length order)))
    next_can other o e = record {
      within = o.within (suc (length order)) (omega arith);
      new = new;
      nonzero = nonzero;
    }
      where
        new : ¬ IsTaken order (index_at other (suc (length order)))
        new (h, l, q) =
            let k = o.once h (suc (length order)) (omega arith) (omega arith) (b.forced other o e h l ∙ q) in
            omega arith

        nonzero : ¬ Z (index_at other (suc (length order))) (index_at order 1) (index_at order (length order))
        nonzero t = (o.entries (suc (length order)) (length order) (omega arith) (omega arith)).next (inl refl)
            (at_same Z (index_at other (suc (length order))) (index_at order 1) (index_at order (length order))
            (index_at other (suc (length order))) (index_at other 1) (index_at other (length order))
            refl (sym (b.forced other o e 1 b.different.some)) (sym (b.forced other o e (length order) (omega arith))) t)

    -- With an index that can follow it is a beginning again.
    pub more_begins : (x : ℕ) → CanFollow d Z order x → IsBeginning d Z first (order ++ x ∷ [])
    more_begins x f = record {
      begins = index_at-before order x 1 b.different.some ∙ b.begins;
      different = record { some = some; within = within; once = once };
      forced = forced;
    }
      where
        longer : List ℕ
        longer = order ++ x ∷ []

        some : 1 ≤ length (order ++ x ∷ [])
        some = let k = length-more order x in omega arith

        split : (h : ℕ) → h ≤ length (order ++ x ∷ []) → (h ≤ length order) ⊎ (h ≡ suc (length order))
        split h l = let k = length-more order x in before_or_last h (length order) (omega arith)

        last : (h : ℕ) → h ≡ suc (length order) → index_at (order ++ x ∷ []) h ≡ x
        last h k = ap (index_at (order ++ x ∷ [])) k ∙ index_at-last order x

        within : (h : ℕ) → h ≤ length (order ++ x ∷ []) → index_at (order ++ x ∷ []) h ≤ d
        within h l = go (split h l)
          where
            go : (h ≤ length order) ⊎ (h ≡ suc (length order)) → index_at (order ++ x ∷ []) h ≤ d
            go (inl k) = let e = index_at-before order x h k in let w = b.different.within h k in omega arith
            go (inr k) = let e = last h k in let w = f.within in omega arith

        once : (h j : ℕ) → h ≤ length (order ++ x ∷ []) → j ≤ length (order ++ x ∷ [])
            → index_at (order ++ x ∷ []) h ≡ index_at (order ++ x ∷ []) j → h ≡ j
        once h j l m e = go (split h l) (split j m)
          where
            go : (h ≤ length order) ⊎ (h ≡ suc (length order)) → (j ≤ length order) ⊎ (j ≡ suc (length order)) → h ≡ j
            go (inl k) (inl n) = b.different.once h j k n (sym (index_at-before order x h k) ∙ e ∙ index_at-before order x j n)
            go (inl k) (inr n) = absurd (f.new (h, k, sym (index_at-before order x h k) ∙ e ∙ last j n))
            go (inr k) (inl n) = absurd (f.new (j, n, sym (index_at-before order x j n) ∙ sym e ∙ last h k))
            go (inr k) (inr n) = k ∙ sym n

        forced : IsForced d Z first (order ++ x ∷ [])
        forced other o e h l = go (split h l)
          where
            go : (h ≤ length order) ⊎ (h ≡ suc (length order)) → index_at other h ≡ index_at (order ++ x ∷ []) h
            go (inl k) = b.forced other o e h k ∙ sym (index_at-before order x h k)
            go (inr k) = ap (index_at other) k ∙ next_is other o e x f ∙ sym (last h k)

    -- Where no index can follow, no ordering begins so.
    pub none_follows : ((x : ℕ) → ¬ CanFollow d Z order x) → NoneBegins d Z first
    none_follows none other o e = none (index_at other (suc (length order))) (next_can other o e)

  module _ (order : List ℕ) (w : IsWhole d Z first order) where
    same_as : (other : List ℕ) → IsOrdering d Z other → index_at other 1 ≡ first → other ≡ order
    same_as other o e =
        let k = o.count in
        let l = w.count in
        same_number_lists other order (k ∙ sym l) (λ i m. w.beginning.forced other o e (suc i) (omega arith))

    -- A whole beginning whose entries fit is the ordering with this first index.
    pub whole_fits : AllFit (length order) Z order → IsTheOrdering d Z first order
    whole_fits fits = record { is = is; begins = w.beginning.begins; alone = same_as }
      where
        within : (h : ℕ) → h ≤ d → index_at order h ≤ d
        within h l = let k = w.count in w.beginning.different.within h (omega arith)

        once : (h j : ℕ) → h ≤ d → j ≤ d → index_at order h ≡ index_at order j → h ≡ j
        once h j l m e = let k = w.count in w.beginning.different.once h j (omega arith) (omega arith) e

        is : IsOrdering d Z order
        is = record {
          some = (let k = w.count in let s = w.beginning.different.some in omega arith);
          count = w.count;
          within = within;
          once = once;
          every = every_one d (index_at order) within once;
          entries = λ h j l m. (let k = w.count in fits h j (omega arith) (omega arith));
        }

    -- Where its entries don't fit, no ordering has this first index.
    pub whole_fails : ¬ AllFit (length order) Z order → NoneBegins d Z first
    whole_fails not other o e = not (λ h j l m.
        let P : List ℕ → Type 0 = λ v. EntryFits Z v h j in
        let k = w.count in
        subst P (same_as other o e) (o.entries h j (omega arith) (omega arith)))
