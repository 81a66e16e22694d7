-- The dot of two lists of values of a place is the sum of the products over the places.
use Rattle.std.proofs.Common.{◌≡◌, ℕ, zero, suc, ◌+◌, List, [], ◌∷◌, map, refl, ap, ap₂, ◌∙◌, arith}
use Rattle.std.specs.List.{range_with_len}
use Rattle.drg_algebra.specs.Ring.{IsRing, CommutativeRing}
use Rattle.drg_algebra.specs.Tables.{total, list_sum}
use Rattle.drg_algebra.proofs.Totals.{same_sum, list_sum_laws_hold}
use Rattle.drg_fraction.specs.Operations.{Operations}
use Rattle.drg_fraction.specs.Field.{products, sum_of, dot_of}

products_of_places : {V : Type 0} (o : Operations V) (f g : ℕ → V) (a n : ℕ)
    → products o (map f (range_with_len a n)) (map g (range_with_len a n)) ≡ map (λ l. o.times (f l) (g l)) (range_with_len a n)
products_of_places o f g a zero = refl
products_of_places o f g a (suc n) = ap (λ xs. o.times (f a) (g a) ∷ xs) (products_of_places o f g (a + 1) n)

module _ {V : Type 0} (o : Operations V) (r : IsRing o.nil o.unit o.plus o.times o.minus) where
  abbrev pub ring : CommutativeRing
  ring = record { Of = V; nil = o.nil; unit = o.unit; plus = o.plus; times = o.times; minus = o.minus; laws = r }

  pub sum_of_list : (xs : List V) → sum_of o xs ≡ list_sum ring xs
  sum_of_list [] = refl
  sum_of_list (x ∷ xs) = (list_sum_laws_hold ring).left x xs

  sum_of_places : (f : ℕ → V) (a n : ℕ) → list_sum ring (map f (range_with_len a n)) ≡ total o.nil o.plus n (λ l. f (a + l))
  sum_of_places f a zero = refl
  sum_of_places f a (suc n) =
      ap₂ o.plus (ap f (omega arith)) (sum_of_places f (a + 1) n ∙ same_sum r n (λ l. f (a + 1 + l)) (λ l. f (a + suc l)) (λ i h. ap f (omega arith)))

  pub dot_is_sum : (f g : ℕ → V) (n : ℕ) → dot_of o (map f (range_with_len 0 n)) (map g (range_with_len 0 n)) ≡ total o.nil o.plus n (λ l. o.times (f l) (g l))
  dot_is_sum f g n =
      ap (sum_of o) (products_of_places o f g 0 n)
      ∙ sum_of_list (map (λ l. o.times (f l) (g l)) (range_with_len 0 n))
      ∙ sum_of_places (λ l. o.times (f l) (g l)) 0 n
      ∙ same_sum r n (λ l. o.times (f (0 + l)) (g (0 + l))) (λ l. o.times (f l) (g l)) (λ l h. ap (λ (m : ℕ). o.times (f m) (g m)) (omega arith))
