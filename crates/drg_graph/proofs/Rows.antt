-- Rows of whole numbers that meet the recurrence are the counts.
use Rattle.std.proofs.Common.{◌≡◌, ℕ, zero, suc, ◌+◌, ◌-◌, ◌*◌, ◌≤◌, true, refl, sym, subst, ap, ◌∙◌, arith, inl, inr}
use Rattle.std.specs.Prelude.{ℤ, pos, negsuc, ◌+ℤ◌, ◌-ℤ◌, ◌*ℤ◌, ◌==◌}
use Rattle.std.proofs.lemmas.Int.{ints}
use Rattle.drg_algebra.specs.Steps.{back}
use Rattle.drg_algebra.proofs.Tests.{decided, same-number, differ}
use Rattle.drg_array.specs.Entries.{Entries, IsArray, diameter, b_at, c_at, a_at}
use Rattle.drg_graph.specs.Graph.{Graph, is_vertex, is_at_distance, pairs_at, IsDistanceRegular}
use Rattle.drg_graph.specs.Numbers.{before, numerator, AreRows}
use Rattle.drg_array.proofs.EntryLemmas.{c-positive, c-end}
use Rattle.drg_graph.proofs.Distances.{distance-left, distance-right}
use Rattle.drg_graph.proofs.Regular.{degree}
use Rattle.drg_algebra.proofs.Whole.{cancel-left}
use Rattle.drg_graph.proofs.Balance.{stay_at, balance, pairs-start}

-- the balance in whole numbers with a sign
balance-signed : (u v w s t n : ℕ) → u + (v + w) ≡ s + (t + n) → pos u +ℤ pos v +ℤ pos w -ℤ pos s -ℤ pos t ≡ pos n
balance-signed u v w s t n e = omega (arith, ints)

stay-signed : (b0 b c : ℕ) → b + c ≤ b0 → pos b0 -ℤ pos b -ℤ pos c ≡ pos (b0 - b - c)
stay-signed b0 b c h = omega (arith, ints)

before-pos : (f : ℕ → ℕ) (j : ℕ) → before (λ l. pos (f l)) j ≡ pos (back f j)
before-pos f zero = refl
before-pos f (suc j) = refl

zero-times : (z : ℤ) → pos 0 *ℤ z ≡ pos 0
zero-times (pos n) = ap pos (omega arith)
zero-times (negsuc n) = omega (arith, ints)

module _ (g : Graph) (a : Entries) (r : IsDistanceRegular g a) (array : IsArray a) where
  count : ℕ → ℕ → ℕ → ℕ → ℕ
  count x y i j = pairs_at g i j x y

  stay-is : (i : ℕ) → i ≤ diameter a → a_at a i ≡ pos (stay_at a i)
  stay-is i h = stay-signed (b_at a 0) (b_at a i) (c_at a i) (degree g a r array i h)

  -- the counts meet the recurrence
  pub counts-next : (x y i j : ℕ) → is_vertex g x ≡ true → is_vertex g y ≡ true → i ≤ diameter a → j ≤ diameter a
      → numerator a (λ m l. pos (pairs_at g m l x y)) i j ≡ pos (c_at a (suc i) * pairs_at g (suc i) j x y)
  counts-next x y i j vx vy hi hj =
      let equation = balance g a r array x y i j vx vy hi hj in
      rw (stay-is i hi, stay-is j hj, before-pos (λ l. b_at a l * pairs_at g i l x y) j, before-pos (λ l. b_at a l * pairs_at g l j x y) i)
      (balance-signed _ _ _ _ _ _ equation)

  -- the last term is absent at d
  last-term : (p : ℕ → ℤ) (f : ℕ → ℕ) (j : ℕ) → j ≤ diameter a → ((l : ℕ) → l ≤ diameter a → p l ≡ pos (f l))
      → pos (c_at a (suc j)) *ℤ p (suc j) ≡ pos (c_at a (suc j)) *ℤ pos (f (suc j))
  last-term p f j h same =
      elim (decided (j == diameter a)) [
        | inl end ↦ (let at = same-number j (diameter a) end in
            let none : c_at a (suc j) ≡ 0 = c-end a j array (omega (arith, at)) in
            rw none (zero-times (p (suc j)) ∙ sym (zero-times (pos (f (suc j))))))
        | inr inside ↦ (let apart = differ j (diameter a) inside in
            ap (λ z. pos (c_at a (suc j)) *ℤ z) (same (suc j) (omega (arith, h, apart))))
      ]

  numerator-same : (p : ℕ → ℕ → ℤ) (f : ℕ → ℕ → ℕ) (i j : ℕ) → j ≤ diameter a
      → ((m l : ℕ) → m ≤ i → l ≤ diameter a → p m l ≡ pos (f m l)) → numerator a p i j ≡ numerator a (λ m l. pos (f m l)) i j
  numerator-same p f zero zero h same =
      let last = last-term (p 0) (f 0) 0 h (λ l m. same 0 l (omega arith) m) in
      let here = same 0 0 (omega arith) h in rw (last, here) refl
  numerator-same p f zero (suc j) h same =
      let last = last-term (p 0) (f 0) (suc j) h (λ l m. same 0 l (omega arith) m) in
      let here = same 0 (suc j) (omega arith) h in
      let left = same 0 j (omega arith) (omega (arith, h)) in rw (last, here, left) refl
  numerator-same p f (suc i) zero h same =
      let last = last-term (p (suc i)) (f (suc i)) 0 h (λ l m. same (suc i) l (omega arith) m) in
      let here = same (suc i) 0 (omega arith) h in
      let up = same i 0 (omega arith) h in rw (last, here, up) refl
  numerator-same p f (suc i) (suc j) h same =
      let last = last-term (p (suc i)) (f (suc i)) (suc j) h (λ l m. same (suc i) l (omega arith) m) in
      let here = same (suc i) (suc j) (omega arith) h in
      let left = same (suc i) j (omega arith) (omega (arith, h)) in
      let up = same i (suc j) (omega arith) h in rw (last, here, left, up) refl

  -- row by row, all columns at once
  pub rows-forced : (h m : ℕ) (p : ℕ → ℕ → ℤ) → m ≤ diameter a → AreRows a h m p → (x y : ℕ) → is_at_distance g h x y ≡ true
      → (i : ℕ) → i ≤ m → (t j : ℕ) → t ≤ i → j ≤ diameter a → p t j ≡ pos (pairs_at g t j x y)
  rows-forced h m p small are x y e zero hi t j ht hj =
      let none : 0 ≡ t = omega (arith, ht) in
      let P : ℕ → Type 0 = λ u. p u j ≡ pos (pairs_at g u j x y) in
      subst P none (are.start j hj ∙ ap pos (sym (pairs-start g a r h j x y e)))
  rows-forced h m p small are x y e (suc i) hi t j ht hj =
      let earlier = rows-forced h m p small are x y e i (omega (arith, hi)) in
      elim (decided (t == suc i)) [
        | inl now ↦ (let same : suc i ≡ t = sym (same-number t (suc i) now) in
            let P : ℕ → Type 0 = λ u. p u j ≡ pos (pairs_at g u j x y) in
            let inside : i ≤ diameter a = omega (arith, hi, small) in
            let next = are.next i j hi hj in
            let counts = counts-next x y i j (distance-left g h x y e) (distance-right g h x y e) inside hj in
            let equal = numerator-same p (λ u l. pairs_at g u l x y) i j hj (λ u l hu hl. earlier u l hu hl) in
            subst P same (cancel-left (c_at a (suc i)) (p (suc i) j) (pairs_at g (suc i) j x y) (c-positive a i array (omega (arith, hi, small))) (next ∙ (equal ∙ counts))))
        | inr other ↦ (let apart = differ t (suc i) other in earlier t j (omega (arith, ht, apart)) hj)
      ]

  -- the next number is a count, so it is whole and not negative
  pub next-count : (h m : ℕ) (p : ℕ → ℕ → ℤ) → suc m ≤ diameter a → AreRows a h m p → (x y : ℕ) → is_at_distance g h x y ≡ true
      → (j : ℕ) → j ≤ diameter a → numerator a p m j ≡ pos (c_at a (suc m) * pairs_at g (suc m) j x y)
  next-count h m p small are x y e j hj =
      let rows = rows-forced h m p (omega (arith, small)) are x y e m (omega arith) in
      numerator-same p (λ u l. pairs_at g u l x y) m j hj rows
      ∙ counts-next x y m j (distance-left g h x y e) (distance-right g h x y e) (omega (arith, small)) hj

  pub counts-are : (h x y : ℕ) → is_at_distance g h x y ≡ true → AreRows a h (diameter a) (λ i j. pos (pairs_at g i j x y))
  counts-are h x y e =
      record {
        start = λ j hj. ap pos (pairs-start g a r h j x y e);
        next = λ i j hi hj. sym (counts-next x y i j (distance-left g h x y e) (distance-right g h x y e) (omega (arith, hi)) hj);
      }

  -- the counts are the same for each two vertices at distance h
  pub same-pairs : (h i j x y u v : ℕ) → i ≤ diameter a → j ≤ diameter a → is_at_distance g h x y ≡ true → is_at_distance g h u v ≡ true
      → pairs_at g i j x y ≡ pairs_at g i j u v
  same-pairs h i j x y u v hi hj e f =
      let same = rows-forced h (diameter a) (λ l t. pos (pairs_at g l t x y)) (omega arith) (counts-are h x y e) u v f i hi i j (omega arith) hj in
      omega (arith, ints, same)
