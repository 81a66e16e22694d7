-- Rows with the same values: as lists, in recurrences, and their sums of products.
use Rattle.std.proofs.Common.{◌≡◌, ℕ, zero, suc, ◌+◌, ◌<◌, ◌≤◌, Bool, true, false, List, [], ◌∷◌, map, refl, ap, ap₂, ◌∙◌, arith, inl, inr}
use Rattle.std.specs.Prelude.{nat_lt, ◌&&◌}
use Rattle.std.specs.List.{range_with_len}
use Rattle.std.proofs.lemmas.Bool.{cases_lt}
use Rattle.std.proofs.lemmas.Bool.Decides.{nat_tests}
use Rattle.drg_algebra.specs.Ring.{IsRing, CommutativeRing}
use Rattle.drg_algebra.specs.Tables.{total, list_sum}
use Rattle.drg_algebra.proofs.Totals.{same_sum, list_sum_laws_hold}
use Rattle.drg_array.specs.Entries.{Entries, diameter}
use Rattle.drg_fraction.specs.Operations.{Operations}
use Rattle.drg_fraction.specs.Field.{products, sum_of, dot_of}
use Rattle.drg_matrices.specs.Values.{b_value, c_value, a_value}
use Rattle.drg_matrices.specs.Formulas.{first_terms}
use Rattle.drg_matrices.specs.Fits.{first_terms_fit, last_term_fits, recurrence_fits}

-- ---- lists
same_places : {V : Type 0} (f g : ℕ → V) (b n : ℕ) → ((l : ℕ) → b ≤ l → l < b + n → f l ≡ g l) → map f (range_with_len b n) ≡ map g (range_with_len b n)
same_places f g b zero h = refl
same_places f g b (suc n) h = ap₂ (λ x xs. x ∷ xs) (h b (omega arith) (omega arith)) (same_places f g (b + 1) n (λ l low high. h l (omega arith) (omega arith)))

-- two rows with the same values at the places 0 to n-1
pub same_row : {V : Type 0} (f g : ℕ → V) (m n : ℕ) → m ≡ n → ((l : ℕ) → l < n → f l ≡ g l) → map f (range_with_len 0 m) ≡ map g (range_with_len 0 n)
same_row f g m n e h = ap (λ (k : ℕ). map f (range_with_len 0 k)) e ∙ same_places f g 0 n (λ l low high. h l (omega arith))

-- ---- recurrences
module _ {V : Type 0} (o : Operations V) (a : Entries) (p q : ℕ → V) (same : (l : ℕ) → l < suc (diameter a) → p l ≡ q l) where
  same_first_terms : (j : ℕ) → j < suc (diameter a) → first_terms o a p j ≡ first_terms o a q j
  same_first_terms zero h = ap (o.times (a_value o a 0)) (same 0 h)
  same_first_terms (suc j) h = ap₂ (λ (x y : V). o.plus (o.times (b_value o a j) x) (o.times (a_value o a (suc j)) y)) (same j (omega arith)) (same (suc j) h)

  same_first_fit : (j : ℕ) → j < suc (diameter a) → first_terms_fit o a p j ≡ first_terms_fit o a q j
  same_first_fit zero h = ap (o.product_fits (a_value o a 0)) (same 0 h)
  same_first_fit (suc j) h =
      ap₂ (λ (x y : V). o.product_fits (b_value o a j) x && o.product_fits (a_value o a (suc j)) y && o.sum_fits (o.times (b_value o a j) x) (o.times (a_value o a (suc j)) y)) (same j (omega arith)) (same (suc j) h)

  same_last_fit : (j : ℕ) → j < suc (diameter a) → last_term_fits o a p j ≡ last_term_fits o a q j
  same_last_fit j h =
      elim (cases_lt j (diameter a)) [
        | inl less ↦ (let test : nat_lt j (diameter a) ≡ true = grind (arith, nat_tests) in
            rw test (ap₂ (λ (x y : V). o.product_fits (c_value o a (suc j)) x && o.sum_fits y (o.times (c_value o a (suc j)) x)) (same (suc j) (omega arith)) (same_first_terms j h)))
        | inr more ↦ (let test : nat_lt j (diameter a) ≡ false = grind (arith, nat_tests) in rw test refl)
      ]

  pub same_recurrence : (x : V) (j : ℕ) → j < suc (diameter a) → recurrence_fits o a x p j ≡ recurrence_fits o a x q j
  same_recurrence x j h =
      ap (λ z. o.product_fits x z && first_terms_fit o a p j && last_term_fits o a p j) (same j h)
      ∙ ap₂ (λ (s t : Bool). o.product_fits x (q j) && s && t) (same_first_fit j h) (same_last_fit j h)

-- ---- sums of products
products_of_places : {V : Type 0} (o : Operations V) (f g : ℕ → V) (a n : ℕ)
    → products o (map f (range_with_len a n)) (map g (range_with_len a n)) ≡ map (λ l. o.times (f l) (g l)) (range_with_len a n)
products_of_places o f g a zero = refl
products_of_places o f g a (suc n) = ap (λ xs. o.times (f a) (g a) ∷ xs) (products_of_places o f g (a + 1) n)

module _ {V : Type 0} (o : Operations V) (r : IsRing o.nil o.unit o.plus o.times o.minus) where
  abbrev ring : CommutativeRing
  ring = record { Of = V; nil = o.nil; unit = o.unit; plus = o.plus; times = o.times; minus = o.minus; laws = r }

  sum_of_list : (xs : List V) → sum_of o xs ≡ list_sum ring xs
  sum_of_list [] = refl
  sum_of_list (x ∷ xs) = (list_sum_laws_hold ring).left x xs

  sum_of_places : (f : ℕ → V) (a n : ℕ) → list_sum ring (map f (range_with_len a n)) ≡ total o.nil o.plus n (λ l. f (a + l))
  sum_of_places f a zero = refl
  sum_of_places f a (suc n) =
      ap₂ o.plus (ap f (omega arith)) (sum_of_places f (a + 1) n ∙ same_sum r n (λ l. f (a + 1 + l)) (λ l. f (a + suc l)) (λ i h. ap f (omega arith)))

  -- the dot of two lists of values of a place is the sum of the products over the places
  pub dot_is_sum : (f g : ℕ → V) (n : ℕ) → dot_of o (map f (range_with_len 0 n)) (map g (range_with_len 0 n)) ≡ total o.nil o.plus n (λ l. o.times (f l) (g l))
  dot_is_sum f g n =
      ap (sum_of o) (products_of_places o f g 0 n)
      ∙ sum_of_list (map (λ l. o.times (f l) (g l)) (range_with_len 0 n))
      ∙ sum_of_places (λ l. o.times (f l) (g l)) 0 n
      ∙ same_sum r n (λ l. o.times (f (0 + l)) (g (0 + l))) (λ l. o.times (f l) (g l)) (λ l h. ap (λ (m : ℕ). o.times (f m) (g m)) (omega arith))
