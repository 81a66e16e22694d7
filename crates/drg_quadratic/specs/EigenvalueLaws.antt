-- The order of eigenvalues is a total order, which goes by root and by twice the value.
use Rattle.std.specs.Prelude.{◌≡◌, ℕ, ℤ, pos, negsuc, ◌*◌, ◌<◌, ◌≤◌, ◌*ℤ◌, ◌-ℤ◌, neg_ℤ, ◌<ℤ◌, unsigned_abs, Bool, true, ◌==◌, ◌&&◌}
use Rattle.std.proofs.Common.{refl, ap, ap₂, sym, ◌∙◌, subst, subst₂, ◌⊎◌, inl, inr, arith}
use Rattle.std.proofs.lemmas.Int.{ints}
use Rattle.std.specs.Bool.{Decides, one_answer}
use Rattle.std.specs.Cmp.{IsTotalOrder, IsPartialOrder, Equal-is, strict, one_rank, means, po, ranked, int_ranked, signed_Decides, unsigned_Decides, first_so, second_so}
use Rattle.std.specs.Ordering.{MatchOrdering, nat_cmp, int_cmp, int_eq, is_eq, ordering_then, as_partial_cmp}
use Rattle.std.specs.declared.cmp.Ordering.{Ordering}
use Rattle.std.specs.declared.cmp.Ordering.TheVariants.{Less, Equal, Greater}
use mathlib.Core.HLevel.{is_prop→PathP}
use native.Mathlib.Bridge.{le_prop}
use Rattle.drg_algebra.specs.Ring.{◌⊕◌, neg, ring2, ring3}
use Rattle.drg_algebra.specs.Rational.{ℚ, whole, rationals}
use Rattle.drg_algebra.specs.Rational as Rational
use Rattle.drg_algebra.specs.Pairs.{root_values}
use Rattle.drg_algebra.specs.Order.{IsAbove, IsPositive}
use Rattle.drg_algebra.proofs.Maps.{whole_map}
use Rattle.drg_algebra.proofs.NumberOrder.{sign_of_whole}
use Rattle.drg_algebra.proofs.WholeParts.{same_whole}
use Rattle.drg_quadratic.specs.Values.{IsRoot, root_prop, none_prop, IsOver, Value, plus, minus, norm}
use Rattle.drg_quadratic.specs.Laws.{minus_nil, flat_plus, value_laws}
use Rattle.drg_quadratic.specs.Signs.{RationalSign, ValueSign, sign_by_parts, sign_by_norm, sign_by_reverse}
use Rattle.drg_quadratic.specs.declared.eigenvalue.Eigenvalue.{Eigenvalue}
use Rattle.drg_quadratic.specs.Eigenvalue.{squares_cmp, sign_by_squares, value_cmp, eigenvalue_cmp}

-- s + f √root
abbrev pub twice : Eigenvalue → Value
twice x = record { a = whole x.s; b = whole x.f }

abbrev pub twice_difference : Eigenvalue → Eigenvalue → Value
twice_difference x y = plus (twice x) (minus (twice y))

-- by root, and over one root by twice the value
abbrev pub IsLess : Eigenvalue → Eigenvalue → Type 0
IsLess x y = (x.root < y.root) ⊎ ((x.root ≡ y.root) × IsPositive y.root (twice_difference y x))

-- ---- whole numbers among the rationals
minus_wholes : (m n : ℤ) → Rational.plus (whole m) (Rational.minus (whole n)) ≡ whole (m -ℤ n)
minus_wholes m n = ap (Rational.plus (whole m)) (sym (whole_map.minus n)) ∙ sym (whole_map.plus m (neg_ℤ n))

same_wholes : (m n : ℤ) → Rational.plus (whole m) (Rational.minus (whole n)) ≡ whole (pos 0) → m ≡ n
same_wholes m n e =
    let q : (m -ℤ n) ≡ pos 0 = same_whole (m -ℤ n) (pos 0) (sym (minus_wholes m n) ∙ e) in
    omega (arith, ints)

-- a difference has the sign that the comparison says
difference_sign : (m n : ℤ) (o : Ordering) → MatchOrdering o (m <ℤ n) (m ≡ n) (n <ℤ m)
    → RationalSign (Rational.plus (whole m) (Rational.minus (whole n))) o
difference_sign m n Less h =
    let less : m <ℤ n = h in
    subst IsAbove
    (sym (minus_wholes n m) ∙ ring2 rationals (λ m n. n ⊕ neg m) (λ m n. neg (m ⊕ neg n)) refl (whole m) (whole n))
    ((sign_of_whole (n -ℤ m)).1 (omega (arith, ints)))
difference_sign m n Equal e = ap (λ k. Rational.plus (whole k) (Rational.minus (whole n))) e ∙ rationals.plus_minus (whole n)
difference_sign m n Greater h =
    let less : n <ℤ m = h in
    subst IsAbove (sym (minus_wholes m n)) ((sign_of_whole (m -ℤ n)).1 (omega (arith, ints)))

-- ---- squares
square_is : (n : ℤ) → n *ℤ n ≡ pos (unsigned_abs n * unsigned_abs n)
square_is (pos n) = refl
square_is (negsuc n) = refl

among_wholes : (m n : ℕ) (o : Ordering) → MatchOrdering o (m < n) (m ≡ n) (n < m) → MatchOrdering o (pos m <ℤ pos n) (pos m ≡ pos n) (pos n <ℤ pos m)
among_wholes m n Less h = let less : m < n = h in omega (arith, ints)
among_wholes m n Equal e = ap pos e
among_wholes m n Greater h = let less : n < m = h in omega (arith, ints)

natural_sign : (m n : ℕ) → RationalSign (Rational.plus (whole (pos m)) (Rational.minus (whole (pos n)))) (nat_cmp m n)
natural_sign m n = difference_sign (pos m) (pos n) (nat_cmp m n) (among_wholes m n (nat_cmp m n) (ranked m n (nat_cmp m n) refl))

-- A² - root B² has the sign that the comparison of the two says
norm_sign : (root : ℕ) (z : Value) (m n : ℤ) → z.a ≡ whole m → z.b ≡ whole n
    → RationalSign (norm root z) (nat_cmp (unsigned_abs m * unsigned_abs m) (root * (unsigned_abs n * unsigned_abs n)))
norm_sign root z m n p q =
    let first : Rational.times z.a z.a ≡ whole (pos (unsigned_abs m * unsigned_abs m)) =
    ap (λ x. Rational.times x x) p ∙ sym (whole_map.times m m) ∙ ap whole (square_is m) in
    let own : Rational.times z.b z.b ≡ whole (pos (unsigned_abs n * unsigned_abs n)) =
    ap (λ x. Rational.times x x) q ∙ sym (whole_map.times n n) ∙ ap whole (square_is n) in
    let second : Rational.times (whole (pos root)) (Rational.times z.b z.b) ≡ whole (pos (root * (unsigned_abs n * unsigned_abs n))) =
    ap (Rational.times (whole (pos root))) own ∙ sym (whole_map.times (pos root) (pos (unsigned_abs n * unsigned_abs n))) in
    let left = unsigned_abs m * unsigned_abs m in
    let right = root * (unsigned_abs n * unsigned_abs n) in
    subst (λ x. RationalSign x (nat_cmp left right)) (sym (ap₂ (λ x y. Rational.plus x (Rational.minus y)) first second)) (natural_sign left right)

-- ---- the sign of A + B √root
by_squares : (root : ℕ) → IsRoot root → (z : Value) → IsOver root z → (s t squares : Ordering)
    → RationalSign z.a s → RationalSign z.b t → RationalSign (norm root z) squares → ValueSign root z (sign_by_squares s t squares)
by_squares root h z o Greater Less q p n k = sign_by_norm root h z o p n q k
by_squares root h z o Less Greater q n p k = sign_by_reverse root h z o n p q k
by_squares root h z o Less Less q m n k = sign_by_parts root z Less Less refl m n
by_squares root h z o Less Equal q m n k = sign_by_parts root z Less Equal refl m n
by_squares root h z o Equal Less q m n k = sign_by_parts root z Equal Less refl m n
by_squares root h z o Equal Equal q m n k = sign_by_parts root z Equal Equal refl m n
by_squares root h z o Equal Greater q m n k = sign_by_parts root z Equal Greater refl m n
by_squares root h z o Greater Equal q m n k = sign_by_parts root z Greater Equal refl m n
by_squares root h z o Greater Greater q m n k = sign_by_parts root z Greater Greater refl m n

difference_over : (x y : Eigenvalue) → x.root ≡ y.root → IsOver x.root (twice_difference x y)
difference_over x y e = λ r. flat_plus (twice x) (minus (twice y)) (ap whole (x.flat r)) (minus_nil (whole y.f) (ap whole (y.flat (sym e ∙ r))))

value_sign : (x y : Eigenvalue) → x.root ≡ y.root → ValueSign x.root (twice_difference x y) (value_cmp x y)
value_sign x y e =
    by_squares x.root x.has_root (twice_difference x y) (difference_over x y e) (int_cmp x.s y.s) (int_cmp x.f y.f) (squares_cmp x y)
    (difference_sign x.s y.s (int_cmp x.s y.s) (int_ranked x.s y.s (int_cmp x.s y.s) refl))
    (difference_sign x.f y.f (int_cmp x.f y.f) (int_ranked x.f y.f (int_cmp x.f y.f) refl))
    (norm_sign x.root (twice_difference x y) (x.s -ℤ y.s) (x.f -ℤ y.f) (minus_wholes x.s y.s) (minus_wholes x.f y.f))

-- ---- one eigenvalue
small_prop : (n : ℤ) → IsProp (unsigned_abs n ≤ 65536)
small_prop n = hlevel le_prop

eigenvalue_path : (x y : Eigenvalue) → x.s ≡ y.s → x.f ≡ y.f → x.root ≡ y.root → x ≡ y
eigenvalue_path x y p q r i = record {
  s = p i;
  f = q i;
  root = r i;
  small_s = is_prop→PathP (λ j. unsigned_abs (p j) ≤ 65536) (λ j. small_prop (p j)) x.small_s y.small_s i;
  small_f = is_prop→PathP (λ j. unsigned_abs (q j) ≤ 65536) (λ j. small_prop (q j)) x.small_f y.small_f i;
  has_root = is_prop→PathP (λ j. IsRoot (r j)) (λ j. root_prop (r j)) x.has_root y.has_root i;
  flat = is_prop→PathP (λ j. r j ≡ 0 → q j ≡ pos 0) (λ j. none_prop (r j) (q j)) x.flat y.flat i;
}

pub one_eigenvalue : (x y : Eigenvalue) → x.root ≡ y.root → twice x ≡ twice y → x ≡ y
one_eigenvalue x y r e =
    eigenvalue_path x y (same_whole x.s y.s (ap (λ (z : Value). z.a) e)) (same_whole x.f y.f (ap (λ (z : Value). z.b) e)) r

-- ---- the order
turned : (x y : Eigenvalue) → minus (twice_difference x y) ≡ twice_difference y x
turned x y = ring2 (root_values 0).laws (λ x y. neg (x ⊕ neg y)) (λ x y. y ⊕ neg x) refl (twice x) (twice y)

ranked_by_value : (x y : Eigenvalue) → x.root ≡ y.root → (o : Ordering) → ValueSign x.root (twice_difference x y) o
    → MatchOrdering o (IsLess x y) (x ≡ y) (IsLess y x)
ranked_by_value x y e Less h = inr (e, subst₂ IsPositive e (turned x y) h)
ranked_by_value x y e Equal h =
    eigenvalue_path x y (same_wholes x.s y.s (ap (λ (z : Value). z.a) h)) (same_wholes x.f y.f (ap (λ (z : Value). z.b) h)) e
ranked_by_value x y e Greater h = inr (sym e, h)

pub eigenvalues_ranked : (x y : Eigenvalue) → MatchOrdering (eigenvalue_cmp x y) (IsLess x y) (x ≡ y) (IsLess y x)
eigenvalues_ranked x y = go (nat_cmp x.root y.root) (ranked x.root y.root (nat_cmp x.root y.root) refl)
  where
    go : (o : Ordering) → MatchOrdering o (x.root < y.root) (x.root ≡ y.root) (y.root < x.root)
        → MatchOrdering (ordering_then o (value_cmp x y)) (IsLess x y) (x ≡ y) (IsLess y x)
    go Less h = inl h
    go Equal e = ranked_by_value x y e (value_cmp x y) (value_sign x y e)
    go Greater h = inl h

irreflexive : (x : Eigenvalue) → ¬ (IsLess x x)
irreflexive x (inl h) = let less : x.root < x.root = h in omega arith
irreflexive x (inr h) =
    let laws = value_laws x.root x.has_root in
    laws.nil_is_not_positive (subst (IsPositive x.root) ((root_values 0).laws.plus_minus (twice x)) h.1)

transitive : (x y z : Eigenvalue) → IsLess x y → IsLess y z → IsLess x z
transitive x y z (inl h) (inl k) = inl (let first : x.root < y.root = h in let second : y.root < z.root = k in omega arith)
transitive x y z (inl h) (inr k) = inl (subst (λ r. x.root < r) k.0 h)
transitive x y z (inr h) (inl k) = inl (subst (λ r. r < z.root) (sym h.0) k)
transitive x y z (inr h) (inr k) =
    let laws = value_laws z.root z.has_root in
    let first : IsPositive z.root (twice_difference y x) = subst (λ r. IsPositive r (twice_difference y x)) k.0 h.1 in
    let over : IsOver z.root (twice_difference y x) = λ r. difference_over y x (sym h.0) (k.0 ∙ r) in
    inr (
      h.0 ∙ k.0,
      subst (IsPositive z.root)
          (ring3 (root_values 0).laws (λ x y z. (y ⊕ neg x) ⊕ (z ⊕ neg y)) (λ x y z. z ⊕ neg x) refl (twice x) (twice y) (twice z))
          (laws.positive_plus (twice_difference y x) (twice_difference z y) over (difference_over z y (sym k.0)) first k.1),
    )

pub eigenvalues_total : IsTotalOrder eigenvalue_cmp
eigenvalues_total = strict IsLess irreflexive transitive eigenvalue_cmp eigenvalues_ranked

-- ---- equality
abbrev pub same_eigenvalue : Eigenvalue → Eigenvalue → Bool
same_eigenvalue x y = int_eq x.s y.s && (int_eq x.f y.f && (x.root == y.root))

same_decides : (x y : Eigenvalue) → Decides (same_eigenvalue x y) (x ≡ y)
same_decides x y = (there, λ e. subst (λ z. same_eigenvalue x z ≡ true) e own)
  where
    there : same_eigenvalue x y ≡ true → x ≡ y
    there h =
        let rest : (int_eq x.f y.f && (x.root == y.root)) ≡ true = second_so (int_eq x.s y.s) (int_eq x.f y.f && (x.root == y.root)) h in
        eigenvalue_path x y
        ((signed_Decides x.s y.s).0 (first_so (int_eq x.s y.s) (int_eq x.f y.f && (x.root == y.root)) h))
        ((signed_Decides x.f y.f).0 (first_so (int_eq x.f y.f) (x.root == y.root) rest))
        ((unsigned_Decides x.root y.root).0 (second_so (int_eq x.f y.f) (x.root == y.root) rest))

    own : same_eigenvalue x x ≡ true
    own =
        ap₂ (λ a b. a && b) ((signed_Decides x.s x.s).1 refl)
        (ap₂ (λ a b. a && b) ((signed_Decides x.f x.f).1 refl) ((unsigned_Decides x.root x.root).1 refl))

order_decides : (x y : Eigenvalue) → Decides (is_eq (eigenvalue_cmp x y)) (x ≡ y)
order_decides x y = (
  λ h. means IsLess irreflexive transitive eigenvalue_cmp eigenvalues_ranked x y Equal ((Equal-is (eigenvalue_cmp x y)).0 h),
  λ e. (Equal-is (eigenvalue_cmp x y)).1 (one_rank IsLess irreflexive transitive x y (eigenvalue_cmp x y) Equal (eigenvalues_ranked x y) e),
)

pub eigenvalue_ties : (x y : Eigenvalue) → same_eigenvalue x y ≡ is_eq (eigenvalue_cmp x y)
eigenvalue_ties x y = one_answer (same_eigenvalue x y) (is_eq (eigenvalue_cmp x y)) (same_decides x y) (order_decides x y)

pub eigenvalues_partial : IsPartialOrder same_eigenvalue (as_partial_cmp eigenvalue_cmp)
eigenvalues_partial = po eigenvalues_total eigenvalue_ties
