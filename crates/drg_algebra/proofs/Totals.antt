-- Sums over the places 0 .. n - 1 and over lists, in a commutative ring.
use Rattle.std.proofs.Common.{◌≡◌, ℕ, zero, suc, ◌<◌, List, [], ◌∷◌, ◌++◌, length, get_or, fold, refl, ap, ap₂, sym, ◌∙◌, arith}
use Rattle.drg_algebra.specs.Ring.{IsRing, CommutativeRing, none, ◌⊕◌, ◌⊗◌, neg, ring2, ring4, ring6}
use Rattle.drg_algebra.specs.Tables.{total, delta, list_sum, list_dot}
use Rattle.drg_algebra.specs.TableLaws.{SumLaws, ListSumLaws}

-- a table with v on the diagonal
module _ {R : Type 0} (nil v : R) where
  pub delta_same : (i : ℕ) → delta nil v i i ≡ v
  delta_same zero = refl
  delta_same (suc i) = delta_same i

  pub delta_other : (i j : ℕ) → (i ≡ j → ⊥) → delta nil v i j ≡ nil
  delta_other zero zero f = absurd (f refl)
  delta_other zero (suc j) f = refl
  delta_other (suc i) zero f = refl
  delta_other (suc i) (suc j) f = delta_other i j (λ e. f (ap suc e))

module _ {R : Type 0} {nil unit : R} {plus times : R → R → R} {minus : R → R} (r : IsRing nil unit plus times minus) where
  pub same_sum : (n : ℕ) (a b : ℕ → R) → ((i : ℕ) → i < n → a i ≡ b i) → total nil plus n a ≡ total nil plus n b
  same_sum zero a b h = refl
  same_sum (suc n) a b h = ap₂ plus (h 0 (omega arith)) (same_sum n (λ i. a (suc i)) (λ i. b (suc i)) (λ i k. h (suc i) (omega arith)))

  pub nil_sum : (n : ℕ) (a : ℕ → R) → ((i : ℕ) → i < n → a i ≡ nil) → total nil plus n a ≡ nil
  nil_sum zero a h = refl
  nil_sum (suc n) a h = ap₂ plus (h 0 (omega arith)) (nil_sum n (λ i. a (suc i)) (λ i k. h (suc i) (omega arith))) ∙ r.plus_nil nil

  -- Σ d (a - t b) = Σ d a - (Σ d t) b
  pub split_sum : (n : ℕ) (d a t : ℕ → R) (b : R) → total nil plus n (λ i. times (d i) (plus (a i) (minus (times (t i) b))))
      ≡ plus (times (minus (total nil plus n (λ i. times (d i) (t i)))) b) (total nil plus n (λ i. times (d i) (a i)))
  split_sum zero d a t b = ring2 r (λ b z. none) (λ b z. neg none ⊗ b ⊕ none) refl b b
  split_sum (suc n) d a t b =
      ap (plus (times (d 0) (plus (a 0) (minus (times (t 0) b))))) (split_sum n (λ i. d (suc i)) (λ i. a (suc i)) (λ i. t (suc i)) b)
      ∙ ring6 r (λ d a t b x y. d ⊗ (a ⊕ neg (t ⊗ b)) ⊕ (neg x ⊗ b ⊕ y)) (λ d a t b x y. neg (d ⊗ t ⊕ x) ⊗ b ⊕ (d ⊗ a ⊕ y)) refl (d 0) (a 0) (t 0) b
      (total nil plus n (λ i. times (d (suc i)) (t (suc i)))) (total nil plus n (λ i. times (d (suc i)) (a (suc i))))

  pub scale_sum : (n : ℕ) (x : R) (a : ℕ → R) → times x (total nil plus n a) ≡ total nil plus n (λ i. times x (a i))
  scale_sum zero x a = ring2 r (λ x y. x ⊗ none) (λ x y. none) refl x x
  scale_sum (suc n) x a = r.times_plus x (a 0) _ ∙ ap (plus (times x (a 0))) (scale_sum n x (λ i. a (suc i)))

  pub add_sum : (n : ℕ) (a b : ℕ → R) → total nil plus n (λ i. plus (a i) (b i)) ≡ plus (total nil plus n a) (total nil plus n b)
  add_sum zero a b = sym (r.plus_nil nil)
  add_sum (suc n) a b =
      ap (plus (plus (a 0) (b 0))) (add_sum n (λ i. a (suc i)) (λ i. b (suc i)))
      ∙ ring4 r
      (λ a b x y. a ⊕ b ⊕ (x ⊕ y))
      (λ a b x y. a ⊕ x ⊕ (b ⊕ y))
      refl (a 0) (b 0) (total nil plus n (λ i. a (suc i))) (total nil plus n (λ i. b (suc i)))

  pub swap_sums : (n m : ℕ) (a : ℕ → ℕ → R) → total nil plus n (λ i. total nil plus m (λ j. a i j))
      ≡ total nil plus m (λ j. total nil plus n (λ i. a i j))
  swap_sums zero m a = sym (nil_sum m (λ j. nil) (λ j h. refl))
  swap_sums (suc n) m a = ap (plus (total nil plus m (a 0))) (swap_sums n m (λ i j. a (suc i) j)) ∙ sym (add_sum m (a 0) (λ j. total nil plus n (λ i. a (suc i) j)))

  pub delta_sum : (n l : ℕ) (c : ℕ → R) → l < n → total nil plus n (λ i. times (c i) (delta nil unit l i)) ≡ c l
  delta_sum zero l c h = absurd (omega arith)
  delta_sum (suc n) zero c h =
      ap₂ plus (r.times_unit (c 0)) (nil_sum n (λ i. times (c (suc i)) nil) (λ i k. ring2 r (λ x y. x ⊗ none) (λ x y. none) refl (c (suc i)) nil))
      ∙ r.plus_nil (c 0)
  delta_sum (suc n) (suc l) c h =
      ap₂ plus (ring2 r (λ x y. x ⊗ none) (λ x y. none) refl (c 0) nil) (delta_sum n l (λ i. c (suc i)) (omega arith))
      ∙ ring2 r (λ x y. none ⊕ x) (λ x y. x) refl (c (suc l)) nil

  no_product : (x : R) → times x nil ≡ nil
  no_product x = ring2 r (λ x y. x ⊗ none) (λ x y. none) refl x x

  -- x times the unit table has x on the diagonal
  pub scaled_unit : (x : R) (i j : ℕ) → times x (delta nil unit i j) ≡ delta nil x i j
  scaled_unit x zero zero = r.times_unit x
  scaled_unit x zero (suc j) = no_product x
  scaled_unit x (suc i) zero = no_product x
  scaled_unit x (suc i) (suc j) = scaled_unit x i j

  -- the last term of a sum
  pub last_sum : (n : ℕ) (a : ℕ → R) → total nil plus (suc n) a ≡ plus (total nil plus n a) (a n)
  last_sum zero a = r.plus_comm (a 0) nil
  last_sum (suc n) a = ap (plus (a 0)) (last_sum n (λ i. a (suc i))) ∙ sym (r.plus_assoc (a 0) (total nil plus n (λ i. a (suc i))) (a (suc n)))

pub sum_laws_hold : (r : CommutativeRing) → SumLaws r
sum_laws_hold r = record {
  same = same_sum r.laws;
  nil = nil_sum r.laws;
  plus = add_sum r.laws;
  times = scale_sum r.laws;
  exchange = swap_sums r.laws;
  last = last_sum r.laws;
  one_place = delta_sum r.laws;
}

-- ---- lists
module _ (r : CommutativeRing) where
  append : (xs ys : List r.Of) → list_sum r (xs ++ ys) ≡ r.plus (list_sum r xs) (list_sum r ys)
  append [] ys = sym (r.laws.plus_nil (list_sum r ys)) ∙ r.laws.plus_comm (list_sum r ys) r.nil
  append (x ∷ xs) ys = ap (r.plus x) (append xs ys) ∙ sym (r.laws.plus_assoc x (list_sum r xs) (list_sum r ys))

  left : (x : r.Of) (xs : List r.Of) → fold r.plus x xs ≡ r.plus x (list_sum r xs)
  left x [] = sym (r.laws.plus_nil x)
  left x (y ∷ xs) = left (r.plus x y) xs ∙ r.laws.plus_assoc x y (list_sum r xs)

  places : (xs : List r.Of) → list_sum r xs ≡ total r.nil r.plus (length xs) (λ i. get_or xs i r.nil)
  places [] = refl
  places (x ∷ xs) = ap (r.plus x) (places xs)

  dot_places : (xs ys : List r.Of) → length xs ≡ length ys → list_dot r xs ys
      ≡ total r.nil r.plus (length xs) (λ i. r.times (get_or xs i r.nil) (get_or ys i r.nil))
  dot_places [] ys e = refl
  dot_places (x ∷ xs) [] e = absurd (omega arith)
  dot_places (x ∷ xs) (y ∷ ys) e = ap (r.plus (r.times x y)) (dot_places xs ys (omega (arith, e)))

pub list_sum_laws_hold : (r : CommutativeRing) → ListSumLaws r
list_sum_laws_hold r = record { append = append r; left = left r; places = places r; dot = dot_places r }
