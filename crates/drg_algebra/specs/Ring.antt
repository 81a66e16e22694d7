-- Commutative rings and fields, and equations of polynomials over a ring by computation.
use Rattle.std.proofs.Common.{◌≡◌, ℕ, zero, suc, refl, ap, ap₂, sym, ◌∙◌, Bool, true, false, cond, List, [], ◌∷◌, ◌++◌, ltb, ◌⊎◌}

-- nil, unit, sum, product and negative obey the laws of a commutative ring
pub record IsRing {R : Type 0} (nil unit : R) (plus times : R → R → R) (minus : R → R) : Type 0 where
  pub plus_assoc : (a b c : R) → plus (plus a b) c ≡ plus a (plus b c)
  pub plus_comm : (a b : R) → plus a b ≡ plus b a
  pub plus_nil : (a : R) → plus a nil ≡ a
  pub plus_minus : (a : R) → plus a (minus a) ≡ nil
  pub times_assoc : (a b c : R) → times (times a b) c ≡ times a (times b c)
  pub times_comm : (a b : R) → times a b ≡ times b a
  pub times_unit : (a : R) → times a unit ≡ a
  pub times_plus : (a b c : R) → times a (plus b c) ≡ plus (times a b) (times a c)

-- a commutative ring
pub record CommutativeRing : Type 1 where
  pub Of : Type 0
  pub nil : Of
  pub unit : Of
  pub plus : Of → Of → Of
  pub times : Of → Of → Of
  pub minus : Of → Of
  pub laws : IsRing nil unit plus times minus

-- the difference x - y
abbrev pub sub : (r : CommutativeRing) → r.Of → r.Of → r.Of
sub r x y = r.plus x (r.minus y)

-- a ring in which unit and nil differ, equality with nil can be told, and each member but nil has an inverse
pub record IsField {R : Type 0} (nil unit : R) (plus times : R → R → R) (minus : R → R) : Type 0 where
  pub ring : IsRing nil unit plus times minus
  pub apart : ¬ (unit ≡ nil)
  pub test : (x : R) → (x ≡ nil) ⊎ (¬ (x ≡ nil))
  pub inverse : (x : R) → ¬ (x ≡ nil) → (y : R) × (times x y ≡ unit)

-- a ring, and a field, by its own operations
abbrev pub IsRingOf : CommutativeRing → Type 0
IsRingOf r = IsRing r.nil r.unit r.plus r.times r.minus

abbrev pub IsFieldOf : CommutativeRing → Type 0
IsFieldOf r = IsField r.nil r.unit r.plus r.times r.minus

-- a field
pub record Field : Type 1 where
  pub ring : CommutativeRing
  pub laws : IsField ring.nil ring.unit ring.plus ring.times ring.minus

-- ---- polynomials with whole coefficients, and their normal forms
-- a polynomial as it is written
pub data Poly : Type 0 where
  var : ℕ → Poly
  none : Poly
  one : Poly
  ◌⊕◌ : Poly → Poly → Poly
  ◌⊗◌ : Poly → Poly → Poly
  neg : Poly → Poly

infixl 6 ◌⊕◌
infixl 7 ◌⊗◌
-- A monomial is the list of its variables in order, so the empty list is 1, and a sum is a list of monomials in order.
-- the order of monomials
abbrev pub mono_le : List ℕ → List ℕ → Bool
mono_le [] ys = true
mono_le (x ∷ xs) [] = false
mono_le (x ∷ xs) (y ∷ ys) = cond (ltb x y) true (cond (ltb y x) false (mono_le xs ys))

-- a monomial times a variable, and the product of two monomials
abbrev pub put_var : ℕ → List ℕ → List ℕ
put_var x [] = x ∷ []
put_var x (y ∷ ys) = cond (ltb y x) (y ∷ put_var x ys) (x ∷ y ∷ ys)

abbrev pub join : List ℕ → List ℕ → List ℕ
join [] ys = ys
join (x ∷ xs) ys = put_var x (join xs ys)

-- a sum with one more monomial at its place, and a list of monomials put in order
abbrev pub put_mono : List ℕ → List (List ℕ) → List (List ℕ)
put_mono m [] = m ∷ []
put_mono m (x ∷ xs) = cond (mono_le m x) (m ∷ x ∷ xs) (x ∷ put_mono m xs)

abbrev pub sorted : List (List ℕ) → List (List ℕ)
sorted [] = []
sorted (x ∷ xs) = put_mono x (sorted xs)

-- a monomial times a sum, and the product of two sums
abbrev pub each_by : List ℕ → List (List ℕ) → List (List ℕ)
each_by m [] = []
each_by m (x ∷ xs) = join m x ∷ each_by m xs

abbrev pub product : List (List ℕ) → List (List ℕ) → List (List ℕ)
product [] ys = []
product (x ∷ xs) ys = each_by x ys ++ product xs ys

-- the monomials with a plus, and those with a minus
pub record Normal : Type 0 where
  pub ups : List (List ℕ)
  pub downs : List (List ℕ)

-- a polynomial, multiplied out
abbrev pub normal : Poly → Normal
normal (var i) = record { ups = (i ∷ []) ∷ []; downs = [] }
normal none = record { ups = []; downs = [] }
normal one = record { ups = [] ∷ []; downs = [] }
normal (a ⊕ b) = record { ups = (normal a).ups ++ (normal b).ups; downs = (normal a).downs ++ (normal b).downs }
normal (a ⊗ b) = record {
  ups = product (normal a).ups (normal b).ups ++ product (normal a).downs (normal b).downs;
  downs = product (normal a).ups (normal b).downs ++ product (normal a).downs (normal b).ups;
}
normal (neg a) = record { ups = (normal a).downs; downs = (normal a).ups }

-- e = f by computation: the monomials of e with a plus and of f with a minus are those of f with a plus and of e with a minus
abbrev pub Same : Poly → Poly → Type 0
Same e f = sorted ((normal e).ups ++ (normal f).downs) ≡ sorted ((normal f).ups ++ (normal e).downs)

module _ {R : Type 0} (nil unit : R) (plus times : R → R → R) (minus : R → R) (env : ℕ → R) where
  -- the value of a polynomial where the i-th variable is env i
  abbrev pub value : Poly → R
  value (var i) = env i
  value none = nil
  value one = unit
  value (a ⊕ b) = plus (value a) (value b)
  value (a ⊗ b) = times (value a) (value b)
  value (neg a) = minus (value a)

module _ {R : Type 0} {nil unit : R} {plus times : R → R → R} {minus : R → R} (r : IsRing nil unit plus times minus) where
  -- ---- what follows from the laws of a ring
  nil_plus : (a : R) → plus nil a ≡ a
  nil_plus a = r.plus_comm nil a ∙ r.plus_nil a

  unit_times : (a : R) → times unit a ≡ a
  unit_times a = r.times_comm unit a ∙ r.times_unit a

  plus_swap : (a b c : R) → plus a (plus b c) ≡ plus b (plus a c)
  plus_swap a b c = sym (r.plus_assoc a b c) ∙ ap (λ x. plus x c) (r.plus_comm a b) ∙ r.plus_assoc b a c

  times_swap : (a b c : R) → times a (times b c) ≡ times b (times a c)
  times_swap a b c = sym (r.times_assoc a b c) ∙ ap (λ x. times x c) (r.times_comm a b) ∙ r.times_assoc b a c

  plus_four : (a b c d : R) → plus (plus a b) (plus c d) ≡ plus (plus a c) (plus b d)
  plus_four a b c d = r.plus_assoc a b (plus c d) ∙ ap (plus a) (plus_swap b c d) ∙ sym (r.plus_assoc a c (plus b d))

  plus_times : (a b c : R) → times (plus a b) c ≡ plus (times a c) (times b c)
  plus_times a b c = r.times_comm (plus a b) c ∙ r.times_plus c a b ∙ ap₂ plus (r.times_comm c a) (r.times_comm c b)

  cancel : (a b c : R) → plus a c ≡ plus b c → a ≡ b
  cancel a b c e = sym (back a) ∙ ap (λ x. plus x (minus c)) e ∙ back b
    where
      back : (x : R) → plus (plus x c) (minus c) ≡ x
      back x = r.plus_assoc x c (minus c) ∙ ap (plus x) (r.plus_minus c) ∙ r.plus_nil x

  times_nil : (a : R) → times a nil ≡ nil
  times_nil a = cancel (times a nil) nil (times a nil) (sym (r.times_plus a nil nil) ∙ ap (times a) (r.plus_nil nil) ∙ sym (nil_plus (times a nil)))

  -- An equation l = rhs that follows from x = y: k times x = y is added to it, and the sum holds by computation. The same
  -- for two equations.
  pub from_one : (l rhs k x y : R) → x ≡ y → plus l (times k y) ≡ plus rhs (times k x) → l ≡ rhs
  from_one l rhs k x y e h = cancel l rhs (times k y) (h ∙ ap (λ z. plus rhs (times k z)) e)

  pub from_two : (l rhs k x y k' x' y' : R) → x ≡ y → x' ≡ y'
      → plus (plus l (times k y)) (times k' y') ≡ plus (plus rhs (times k x)) (times k' x') → l ≡ rhs
  from_two l rhs k x y k' x' y' e e' h =
      from_one l rhs k x y e
      (cancel (plus l (times k y)) (plus rhs (times k x)) (times k' y') (h ∙ ap (λ z. plus (plus rhs (times k x)) (times k' z)) e'))

  module _ (env : ℕ → R) where
    -- the values of monomials and of their sums
    abbrev mono : List ℕ → R
    mono [] = unit
    mono (x ∷ xs) = times (env x) (mono xs)

    abbrev total : List (List ℕ) → R
    total [] = nil
    total (x ∷ xs) = plus (mono x) (total xs)

    mono-put_var : (x : ℕ) (ys : List ℕ) → mono (put_var x ys) ≡ times (env x) (mono ys)
    mono-put_var x [] = refl
    mono-put_var x (y ∷ ys) =
        elim (ltb y x) as (λ b. mono (cond b (y ∷ put_var x ys) (x ∷ y ∷ ys)) ≡ times (env x) (times (env y) (mono ys))) [ true ↦ ap (times (env y)) (mono-put_var x ys) ∙ times_swap (env y) (env x) (mono ys) | false ↦ refl ]

    mono-join : (xs ys : List ℕ) → mono (join xs ys) ≡ times (mono xs) (mono ys)
    mono-join [] ys = sym (unit_times (mono ys))
    mono-join (x ∷ xs) ys = mono-put_var x (join xs ys) ∙ ap (times (env x)) (mono-join xs ys) ∙ sym (r.times_assoc (env x) (mono xs) (mono ys))

    total-put_mono : (m : List ℕ) (xs : List (List ℕ)) → total (put_mono m xs) ≡ plus (mono m) (total xs)
    total-put_mono m [] = refl
    total-put_mono m (x ∷ xs) =
        elim (mono_le m x) as (λ b. total (cond b (m ∷ x ∷ xs) (x ∷ put_mono m xs)) ≡ plus (mono m) (plus (mono x) (total xs))) [ true ↦ refl | false ↦ ap (plus (mono x)) (total-put_mono m xs) ∙ plus_swap (mono x) (mono m) (total xs) ]

    total-sorted : (xs : List (List ℕ)) → total (sorted xs) ≡ total xs
    total-sorted [] = refl
    total-sorted (x ∷ xs) = total-put_mono x (sorted xs) ∙ ap (plus (mono x)) (total-sorted xs)

    total-append : (xs ys : List (List ℕ)) → total (xs ++ ys) ≡ plus (total xs) (total ys)
    total-append [] ys = sym (nil_plus (total ys))
    total-append (x ∷ xs) ys = ap (plus (mono x)) (total-append xs ys) ∙ sym (r.plus_assoc (mono x) (total xs) (total ys))

    total-each_by : (m : List ℕ) (ys : List (List ℕ)) → total (each_by m ys) ≡ times (mono m) (total ys)
    total-each_by m [] = sym (times_nil (mono m))
    total-each_by m (y ∷ ys) = ap₂ plus (mono-join m y) (total-each_by m ys) ∙ sym (r.times_plus (mono m) (mono y) (total ys))

    total-product : (xs ys : List (List ℕ)) → total (product xs ys) ≡ times (total xs) (total ys)
    total-product [] ys = sym (r.times_comm nil (total ys) ∙ times_nil (total ys))
    total-product (x ∷ xs) ys = total-append (each_by x ys) (product xs ys) ∙ ap₂ plus (total-each_by x ys) (total-product xs ys) ∙ sym (plus_times (mono x) (total xs) (total ys))

    -- (x + n = p), (y + m = q): x y + (p m + n q) = p q + n m
    cross : (x n p y m q : R) → plus x n ≡ p → plus y m ≡ q → plus (times x y) (plus (times p m) (times n q)) ≡ plus (times p q) (times n m)
    cross x n p y m q e f =
        let pm : times p m ≡ plus (times x m) (times n m) = ap (λ z. times z m) (sym e) ∙ plus_times x n m in
        let pq : times p q ≡ plus (times x q) (times n q) = ap (λ z. times z q) (sym e) ∙ plus_times x n q in
        let xq : times x q ≡ plus (times x y) (times x m) = ap (times x) (sym f) ∙ r.times_plus x y m in
        ap (λ z. plus (times x y) (plus z (times n q))) pm
        ∙ ap (plus (times x y)) (r.plus_assoc (times x m) (times n m) (times n q) ∙ ap (plus (times x m)) (r.plus_comm (times n m) (times n q)))
        ∙ sym (r.plus_assoc (times x y) (times x m) (plus (times n q) (times n m)))
        ∙ ap (λ z. plus z (plus (times n q) (times n m))) (sym xq)
        ∙ sym (r.plus_assoc (times x q) (times n q) (times n m))
        ∙ ap (λ z. plus z (times n m)) (sym pq)

    normal_is : (e : Poly) → plus (value nil unit plus times minus env e) (total (normal e).downs) ≡ total (normal e).ups
    normal_is (var i) = ap (λ x. plus x nil) (sym (r.times_unit (env i)))
    normal_is none = r.plus_nil nil
    normal_is one = refl
    normal_is (a ⊕ b) =
        let va = value nil unit plus times minus env a in
        let vb = value nil unit plus times minus env b in
        ap (plus (plus va vb)) (total-append (normal a).downs (normal b).downs)
        ∙ plus_four va vb (total (normal a).downs) (total (normal b).downs)
        ∙ ap₂ plus (normal_is a) (normal_is b)
        ∙ sym (total-append (normal a).ups (normal b).ups)
    normal_is (a ⊗ b) =
        let va = value nil unit plus times minus env a in
        let vb = value nil unit plus times minus env b in
        ap (plus (times va vb)) (total-append (product (normal a).ups (normal b).downs) (product (normal a).downs (normal b).ups) ∙ ap₂ plus (total-product (normal a).ups (normal b).downs) (total-product (normal a).downs (normal b).ups))
        ∙ cross va (total (normal a).downs) (total (normal a).ups) vb (total (normal b).downs) (total (normal b).ups) (normal_is a) (normal_is b)
        ∙ sym (total-append (product (normal a).ups (normal b).ups) (product (normal a).downs (normal b).downs) ∙ ap₂ plus (total-product (normal a).ups (normal b).ups) (total-product (normal a).downs (normal b).downs))
    normal_is (neg a) =
        let va = value nil unit plus times minus env a in
        let d = total (normal a).downs in
        ap (plus (minus va)) (sym (normal_is a))
        ∙ sym (r.plus_assoc (minus va) va d)
        ∙ ap (λ x. plus x d) (r.plus_comm (minus va) va ∙ r.plus_minus va)
        ∙ nil_plus d

    -- two polynomials with one normal form have one value
    pub equal : (e f : Poly) → Same e f → value nil unit plus times minus env e ≡ value nil unit plus times minus env f
    equal e f s =
        let ve = value nil unit plus times minus env e in
        let vf = value nil unit plus times minus env f in
        let dn = total (normal e).downs in
        let dm = total (normal f).downs in
        let both : plus (total (normal e).ups) dm ≡ plus (total (normal f).ups) dn =
        sym (total-append (normal e).ups (normal f).downs) ∙ sym (total-sorted ((normal e).ups ++ (normal f).downs)) ∙ ap total s
        ∙ total-sorted ((normal f).ups ++ (normal e).downs) ∙ total-append (normal f).ups (normal e).downs in
        cancel ve vf (plus dn dm)
        (sym (r.plus_assoc ve dn dm) ∙ ap (λ x. plus x dm) (normal_is e) ∙ both ∙ ap (λ x. plus x dn) (sym (normal_is f)) ∙ r.plus_assoc vf dm dn ∙ ap (plus vf) (r.plus_comm dm dn))

-- ---- the same for two to twelve variables
-- the values of the first variables; the others are nil
abbrev pub values_of : {R : Type 0} → R → List R → ℕ → R
values_of nil [] i = nil
values_of nil (x ∷ xs) zero = x
values_of nil (x ∷ xs) (suc i) = values_of nil xs i

-- a polynomial of the first variables
abbrev of2 : (Poly → Poly → Poly) → Poly
of2 p = p (var 0) (var 1)

abbrev of3 : (Poly → Poly → Poly → Poly) → Poly
of3 p = p (var 0) (var 1) (var 2)

abbrev of4 : (Poly → Poly → Poly → Poly → Poly) → Poly
of4 p = p (var 0) (var 1) (var 2) (var 3)

abbrev of5 : (Poly → Poly → Poly → Poly → Poly → Poly) → Poly
of5 p = p (var 0) (var 1) (var 2) (var 3) (var 4)

abbrev of6 : (Poly → Poly → Poly → Poly → Poly → Poly → Poly) → Poly
of6 p = p (var 0) (var 1) (var 2) (var 3) (var 4) (var 5)

abbrev of7 : (Poly → Poly → Poly → Poly → Poly → Poly → Poly → Poly) → Poly
of7 p = p (var 0) (var 1) (var 2) (var 3) (var 4) (var 5) (var 6)

abbrev of8 : (Poly → Poly → Poly → Poly → Poly → Poly → Poly → Poly → Poly) → Poly
of8 p = p (var 0) (var 1) (var 2) (var 3) (var 4) (var 5) (var 6) (var 7)

abbrev of10 : (Poly → Poly → Poly → Poly → Poly → Poly → Poly → Poly → Poly → Poly → Poly) → Poly
of10 p = p (var 0) (var 1) (var 2) (var 3) (var 4) (var 5) (var 6) (var 7) (var 8) (var 9)

abbrev of12 : (Poly → Poly → Poly → Poly → Poly → Poly → Poly → Poly → Poly → Poly → Poly → Poly → Poly) → Poly
of12 p = p (var 0) (var 1) (var 2) (var 3) (var 4) (var 5) (var 6) (var 7) (var 8) (var 9) (var 10) (var 11)

module _ {R : Type 0} {nil unit : R} {plus times : R → R → R} {minus : R → R} (r : IsRing nil unit plus times minus) where
  -- two polynomials have one value
  abbrev Agree : List R → Poly → Poly → Type 0
  Agree xs e f = value nil unit plus times minus (values_of nil xs) e ≡ value nil unit plus times minus (values_of nil xs) f

  pub ring2 : (p q : Poly → Poly → Poly) → Same (of2 p) (of2 q)
      → (a b : R) → Agree (a ∷ b ∷ []) (of2 p) (of2 q)
  ring2 p q same a b = equal r (values_of nil (a ∷ b ∷ [])) (of2 p) (of2 q) same

  pub ring3 : (p q : Poly → Poly → Poly → Poly) → Same (of3 p) (of3 q)
      → (a b c : R) → Agree (a ∷ b ∷ c ∷ []) (of3 p) (of3 q)
  ring3 p q same a b c = equal r (values_of nil (a ∷ b ∷ c ∷ [])) (of3 p) (of3 q) same

  pub ring4 : (p q : Poly → Poly → Poly → Poly → Poly) → Same (of4 p) (of4 q)
      → (a b c d : R) → Agree (a ∷ b ∷ c ∷ d ∷ []) (of4 p) (of4 q)
  ring4 p q same a b c d = equal r (values_of nil (a ∷ b ∷ c ∷ d ∷ [])) (of4 p) (of4 q) same

  pub ring5 : (p q : Poly → Poly → Poly → Poly → Poly → Poly) → Same (of5 p) (of5 q)
      → (a b c d e : R) → Agree (a ∷ b ∷ c ∷ d ∷ e ∷ []) (of5 p) (of5 q)
  ring5 p q same a b c d e = equal r (values_of nil (a ∷ b ∷ c ∷ d ∷ e ∷ [])) (of5 p) (of5 q) same

  pub ring6 : (p q : Poly → Poly → Poly → Poly → Poly → Poly → Poly) → Same (of6 p) (of6 q)
      → (a b c d e f : R) → Agree (a ∷ b ∷ c ∷ d ∷ e ∷ f ∷ []) (of6 p) (of6 q)
  ring6 p q same a b c d e f = equal r (values_of nil (a ∷ b ∷ c ∷ d ∷ e ∷ f ∷ [])) (of6 p) (of6 q) same

  pub ring7 : (p q : Poly → Poly → Poly → Poly → Poly → Poly → Poly → Poly) → Same (of7 p) (of7 q)
      → (a b c d e f g : R) → Agree (a ∷ b ∷ c ∷ d ∷ e ∷ f ∷ g ∷ []) (of7 p) (of7 q)
  ring7 p q same a b c d e f g = equal r (values_of nil (a ∷ b ∷ c ∷ d ∷ e ∷ f ∷ g ∷ [])) (of7 p) (of7 q) same

  pub ring8 : (p q : Poly → Poly → Poly → Poly → Poly → Poly → Poly → Poly → Poly) → Same (of8 p) (of8 q)
      → (a b c d e f g h : R) → Agree (a ∷ b ∷ c ∷ d ∷ e ∷ f ∷ g ∷ h ∷ []) (of8 p) (of8 q)
  ring8 p q same a b c d e f g h = equal r (values_of nil (a ∷ b ∷ c ∷ d ∷ e ∷ f ∷ g ∷ h ∷ [])) (of8 p) (of8 q) same

  pub ring10 : (p q : Poly → Poly → Poly → Poly → Poly → Poly → Poly → Poly → Poly → Poly → Poly) → Same (of10 p) (of10 q)
      → (a b c d e f g h i j : R) → Agree (a ∷ b ∷ c ∷ d ∷ e ∷ f ∷ g ∷ h ∷ i ∷ j ∷ []) (of10 p) (of10 q)
  ring10 p q same a b c d e f g h i j = equal r (values_of nil (a ∷ b ∷ c ∷ d ∷ e ∷ f ∷ g ∷ h ∷ i ∷ j ∷ [])) (of10 p) (of10 q) same

  pub ring12 : (p q : Poly → Poly → Poly → Poly → Poly → Poly → Poly → Poly → Poly → Poly → Poly → Poly → Poly) → Same (of12 p) (of12 q)
      → (a b c d e f g h i j k l : R) → Agree (a ∷ b ∷ c ∷ d ∷ e ∷ f ∷ g ∷ h ∷ i ∷ j ∷ k ∷ l ∷ []) (of12 p) (of12 q)
  ring12 p q same a b c d e f g h i j k l = equal r (values_of nil (a ∷ b ∷ c ∷ d ∷ e ∷ f ∷ g ∷ h ∷ i ∷ j ∷ k ∷ l ∷ [])) (of12 p) (of12 q) same
