-- The table of the greatest of the least values.
use Rattle.std.proofs.Common.{◌≡◌, ℕ, zero, suc, ◌<◌, ◌+◌, ℤ, ◌≤ℤ◌, Bool, true, false, List, [], ◌∷◌, length, drop, refl, ap, sym, ◌∙◌, subst, arith, inl, inr}
use Rattle.std.specs.Prelude.{◌⊎◌, if◌then◌else◌, slice_index_or, slice_set, replicate, Contains, All, Option, Some, None}
use Rattle.std.specs.Int.Signed.{lt_z}
use Rattle.std.proofs.lemmas.Int.{ints}
use Rattle.drg_linear.specs.Unknowns.{place}
use Rattle.drg_linear.specs.Equations.{Term, EquationContent, is_equation}
use Rattle.drg_linear.specs.Rooms.{RoomBounds, RoomContent}
use Rattle.drg_linear.specs.Systems.{FitsOver}
use Rattle.drg_linear.specs.Values.{least_value}
use Rattle.drg_rooms.specs.Combinations.{no_equation}
use Rattle.drg_solver.specs.declared.closing.Bound.{Bound}
use Rattle.drg_solver.specs.Tables.{Table, greater, with_value, least_of, with_terms, with_equations, IsLeft, AreLeft}
use Rattle.drg_solver.proofs.Terms.{term_unknown, term_has_coefficient}

-- ---- one place of a table
value_set : (table : Table) (y k : ℕ) (b : Option Bound) → (slice_index_or (slice_set table y b) k None ≡ slice_index_or table k None) ⊎ ((k ≡ y) × (slice_index_or (slice_set table y b) k None ≡ b))
value_set [] y k b = inl refl
value_set (c ∷ table) zero zero b = inr (refl, refl)
value_set (c ∷ table) zero (suc k) b = inl refl
value_set (c ∷ table) (suc y) zero b = inl refl
value_set (c ∷ table) (suc y) (suc k) b = elim (value_set table y k b) [ inl e ↦ inl e | inr p ↦ inr (ap suc p.0, p.1) ]

value_set_here : (table : Table) (y : ℕ) (b : Option Bound) → y < length table → slice_index_or (slice_set table y b) y None ≡ b
value_set_here [] y b h = absurd (omega (arith, h))
value_set_here (c ∷ table) zero b h = refl
value_set_here (c ∷ table) (suc y) b h = value_set_here table y b (omega (arith, h))

set_length : (table : Table) (y : ℕ) (b : Option Bound) → length (slice_set table y b) ≡ length table
set_length [] y b = refl
set_length (c ∷ table) zero b = refl
set_length (c ∷ table) (suc y) b = ap suc (set_length table y b)

abbrev no_bound : Option Bound
no_bound = None

none_at : (n k : ℕ) → slice_index_or (replicate n no_bound) k None ≡ None
none_at zero k = refl
none_at (suc n) zero = refl
none_at (suc n) (suc k) = none_at n k

none_length : (n : ℕ) → length (replicate n no_bound) ≡ n
none_length zero = refl
none_length (suc n) = ap suc (none_length n)

some_one : (v w : Bound) → Some v ≡ Some w → v ≡ w
some_one v w e = cc

-- ---- each value of a table is left by an equation
one_of : (P : Bound → Type 0) (old : Option Bound) (v w : Bound) → P v → ((u : Bound) → old ≡ Some u → P u) → greater old v ≡ Some w → P w
one_of P None v w h more e = subst P (some_one v w e) h
one_of P (Some u) v w h more e = pick (lt_z u.number v.number) e
  where
    pick : (b : Bool) → (if b then Some v else Some u) ≡ Some w → P w
    pick true e = subst P (some_one v w e) h
    pick false e = subst P (some_one u w e) (more u refl)

left_with_value : (d : ℕ) (room : RoomBounds) (equations : List EquationContent) (table : Table) (k : ℕ) (v : Bound) → IsLeft d room equations k v → AreLeft d room equations table → AreLeft d room equations (with_value table k v)
left_with_value d room equations table k v h all j w e =
    elim (value_set table k j (greater (slice_index_or table k None) v)) [
      | inl same ↦ all j w (sym same ∙ e)
      | inr p ↦ (let P : Bound → Type 0 = λ u. IsLeft d room equations j u in
          let here : IsLeft d room equations j v = rw p.0 h in
          one_of P (slice_index_or table k None) v w here (λ u f. all j u (ap (λ (n : ℕ). slice_index_or table n None) p.0 ∙ f)) (sym p.1 ∙ e))
    ]

-- what holds of each member
abbrev pub Members : (Term → Type 0) → List Term → Type 0
Members P ts = (t : Term) → Contains ts t → P t

pub later_members : (P : Term → Type 0) (t : Term) (ts : List Term) → Members P (t ∷ ts) → Members P ts
later_members P t ts h u c = h u (suc c.0, (let l = c.1 in omega (arith, l)), c.2)

pub first_member : (P : Term → Type 0) (t : Term) (ts : List Term) → Members P (t ∷ ts) → P t
first_member P t ts h = h t (0, omega arith, refl)

left_with_terms : (d : ℕ) (room : RoomBounds) (equations : List EquationContent) (e : EquationContent) (n : ℕ) (table : Table) (ts : List Term)
    → Members (λ t. IsLeft d room equations (place d t.0) (least_of d room e n t)) ts → AreLeft d room equations table → AreLeft d room equations (with_terms d room e n table ts)
left_with_terms d room equations e n table [] h all = all
left_with_terms d room equations e n table (t ∷ ts) h all =
    let P : Term → Type 0 = λ t. IsLeft d room equations (place d t.0) (least_of d room e n t) in
    left_with_terms d room equations e n (with_value table (place d t.0) (least_of d room e n t)) ts (later_members P t ts h)
    (left_with_value d room equations table (place d t.0) (least_of d room e n t) (first_member P t ts h) all)

-- these are the equations from number n on
abbrev AreFrom : List EquationContent → ℕ → List EquationContent → Type 0
AreFrom equations n es =
    (i j : ℕ) → i < length es → j ≡ n + i → (j < length equations) × (slice_index_or es i no_equation ≡ slice_index_or equations j no_equation)

later_from : (equations : List EquationContent) (n : ℕ) (e : EquationContent) (es : List EquationContent) → AreFrom equations n (e ∷ es) → AreFrom equations (suc n) es
later_from equations n e es h i j l is = h (suc i) j (omega (arith, l)) (omega (arith, is))

left_with_equations : (d : ℕ) (room : RoomBounds) (equations : List EquationContent) (n : ℕ) (table : Table) (es : List EquationContent) → AreFrom equations n es
    → ((j : ℕ) → j < length equations → Members (λ t. IsLeft d room equations (place d t.0) (least_of d room (slice_index_or equations j no_equation) j t)) (slice_index_or equations j no_equation).terms)
    → AreLeft d room equations table → AreLeft d room equations (with_equations d room n table es)
left_with_equations d room equations n table [] f h all = all
left_with_equations d room equations n table (e ∷ es) f h all =
    let first = f 0 n (omega arith) (omega arith) in
    let Q : EquationContent → Type 0 = λ e. Members (λ t. IsLeft d room equations (place d t.0) (least_of d room e n t)) e.terms in
    let here : Q e = subst Q (sym first.1) (h n first.0) in
    left_with_equations d room equations (suc n) (with_terms d room e n table e.terms) es (later_from equations n e es f) h (left_with_terms d room equations e n table e.terms here all)

pub each_left : (room : RoomContent) (equations : List EquationContent) → All (FitsOver room) equations → All (λ e. is_equation e ≡ true) equations
    → (j : ℕ) → j < length equations → Members (λ t. IsLeft room.d room.bounds equations (place room.d t.0) (least_of room.d room.bounds (slice_index_or equations j no_equation) j t)) (slice_index_or equations j no_equation).terms
each_left room equations fit are j h t c =
    let e = slice_index_or equations j no_equation in
    record {
      within = h;
      unknown = term_unknown room.d e t (fit j no_equation h).unknowns c;
      place = refl;
      term = term_has_coefficient e t (are j no_equation h) c;
      number = refl;
    }

pub table_is_left : (room : RoomContent) (equations : List EquationContent) (n : ℕ) → All (FitsOver room) equations → All (λ e. is_equation e ≡ true) equations
    → AreLeft room.d room.bounds equations (with_equations room.d room.bounds 0 (replicate n None) equations)
table_is_left room equations n fit are =
    left_with_equations room.d room.bounds equations 0 (replicate n None) equations
    (λ i j h e. (omega (arith, h, e), ap (λ (k : ℕ). slice_index_or equations k no_equation) (omega (arith, e))))
    (each_left room equations fit are)
    (λ k v e. absurd (never_some v (sym (none_at n k) ∙ e)))
  where
    never_some : (v : Bound) → None ≡ Some v → ⊥
    never_some v e = cc

-- ---- no value is left out of the table
pub record AtLeast (table : Table) (k : ℕ) (z : ℤ) : Type 0 where
  pub value : Bound
  pub there : slice_index_or table k None ≡ Some value
  pub reaches : z ≤ℤ value.number

record IsGreater (old : Option Bound) (v : Bound) : Type 0 where
  value : Bound
  is : greater old v ≡ Some value
  new : v.number ≤ℤ value.number
  kept : (w : Bound) → old ≡ Some w → w.number ≤ℤ value.number

is_greater : (old : Option Bound) (v : Bound) → IsGreater old v
is_greater None v = record { value = v; is = refl; new = omega (arith, ints); kept = λ w e. cc }
is_greater (Some u) v = pick (lt_z u.number v.number) refl
  where
    pick : (b : Bool) → lt_z u.number v.number ≡ b → IsGreater (Some u) v
    pick true e = record {
      value = v;
      is = rw e refl;
      new = omega (arith, ints);
      kept = λ w f. (let same : u ≡ w = some_one u w f in rw (← same) (omega (arith, ints)));
    }
    pick false e = record {
      value = u;
      is = rw e refl;
      new = omega (arith, ints);
      kept = λ w f. (let same : u ≡ w = some_one u w f in rw (← same) (omega (arith, ints)));
    }

least_with_value : (table : Table) (j k : ℕ) (z : ℤ) (w : Bound) → AtLeast table k z → AtLeast (with_value table j w) k z
least_with_value table j k z w h =
    let g = is_greater (slice_index_or table j None) w in
    elim (value_set table j k (greater (slice_index_or table j None) w)) [
      | inl same ↦ record { value = h.value; there = same ∙ h.there; reaches = h.reaches }
      | inr p ↦ (let old : slice_index_or table j None ≡ Some h.value = ap (λ (n : ℕ). slice_index_or table n None) (sym p.0) ∙ h.there in
          record { value = g.value; there = p.1 ∙ g.is; reaches = through z h.value.number g.value.number h.reaches (g.kept h.value old) })
    ]
  where
    through : (a b c : ℤ) → a ≤ℤ b → b ≤ℤ c → a ≤ℤ c
    through a b c h k = omega (arith, ints)

least_here : (table : Table) (k : ℕ) (w : Bound) → k < length table → AtLeast (with_value table k w) k w.number
least_here table k w h =
    let g = is_greater (slice_index_or table k None) w in
    record { value = g.value; there = value_set_here table k (greater (slice_index_or table k None) w) h ∙ g.is; reaches = g.new }

least_with_terms : (d : ℕ) (room : RoomBounds) (e : EquationContent) (n : ℕ) (table : Table) (ts : List Term) (k : ℕ) (z : ℤ) → AtLeast table k z → AtLeast (with_terms d room e n table ts) k z
least_with_terms d room e n table [] k z h = h
least_with_terms d room e n table (t ∷ ts) k z h =
    least_with_terms d room e n (with_value table (place d t.0) (least_of d room e n t)) ts k z (least_with_value table (place d t.0) k z (least_of d room e n t) h)

terms_length : (d : ℕ) (room : RoomBounds) (e : EquationContent) (n : ℕ) (table : Table) (ts : List Term) → length (with_terms d room e n table ts) ≡ length table
terms_length d room e n table [] = refl
terms_length d room e n table (t ∷ ts) =
    terms_length d room e n (with_value table (place d t.0) (least_of d room e n t)) ts ∙ set_length table (place d t.0) (greater (slice_index_or table (place d t.0) None) (least_of d room e n t))

least_of_term : (d : ℕ) (room : RoomBounds) (e : EquationContent) (n : ℕ) (table : Table) (ts : List Term) (k : ℕ) (t : Term) → k < length ts → slice_index_or ts k t ≡ t → place d t.0 < length table
    → AtLeast (with_terms d room e n table ts) (place d t.0) (least_value d room t.0 e)
least_of_term d room e n table [] k t h is l = absurd (omega (arith, h))
least_of_term d room e n table (u ∷ us) zero t h is l =
    let l' : place d u.0 < length table = rw is l in
    rw (← is) (least_with_terms d room e n (with_value table (place d u.0) (least_of d room e n u)) us (place d u.0) (least_value d room u.0 e) (least_here table (place d u.0) (least_of d room e n u) l'))
least_of_term d room e n table (u ∷ us) (suc k) t h is l =
    let same = set_length table (place d u.0) (greater (slice_index_or table (place d u.0) None) (least_of d room e n u)) in
    least_of_term d room e n (with_value table (place d u.0) (least_of d room e n u)) us k t (omega (arith, h)) is (rw same l)

least_with_equations : (d : ℕ) (room : RoomBounds) (n : ℕ) (table : Table) (es : List EquationContent) (k : ℕ) (z : ℤ) → AtLeast table k z → AtLeast (with_equations d room n table es) k z
least_with_equations d room n table [] k z h = h
least_with_equations d room n table (e ∷ es) k z h = least_with_equations d room (suc n) (with_terms d room e n table e.terms) es k z (least_with_terms d room e n table e.terms k z h)

least_of_equation : (d : ℕ) (room : RoomBounds) (n : ℕ) (table : Table) (es : List EquationContent) (i : ℕ) (e : EquationContent) (t : Term) → i < length es → slice_index_or es i e ≡ e → Contains e.terms t → place d t.0 < length table
    → AtLeast (with_equations d room n table es) (place d t.0) (least_value d room t.0 e)
least_of_equation d room n table [] i e t h is c l = absurd (omega (arith, h))
least_of_equation d room n table (f ∷ es) zero e t h is c l =
    let Q : EquationContent → Type 0 = λ e. Contains e.terms t in
    let c' : Contains f.terms t = subst Q (sym is) c in
    rw (← is) (least_with_equations d room (suc n) (with_terms d room f n table f.terms) es (place d t.0) (least_value d room t.0 f) (least_of_term d room f n table f.terms c'.0 t c'.1 c'.2 l))
least_of_equation d room n table (f ∷ es) (suc i) e t h is c l =
    least_of_equation d room (suc n) (with_terms d room f n table f.terms) es i e t (omega (arith, h)) is c (rw (terms_length d room f n table f.terms) l)

pub table_reaches : (d : ℕ) (room : RoomBounds) (n : ℕ) (equations : List EquationContent) (e : EquationContent) (t : Term) → Contains equations e → Contains e.terms t → place d t.0 < n
    → AtLeast (with_equations d room 0 (replicate n None) equations) (place d t.0) (least_value d room t.0 e)
table_reaches d room n equations e t c m l =
    least_of_equation d room 0 (replicate n None) equations c.0 e t c.1 c.2 m (rw (none_length n) l)

-- ---- loops
pub record TermsRemain (d : ℕ) (room : RoomBounds) (e : EquationContent) (n : ℕ) (start table : Table) (ts : List Term) (i : ℕ) : Type 0 where
  pub value : with_terms d room e n start ts ≡ with_terms d room e n table (drop i ts)

pub record EquationsRemain (d : ℕ) (room : RoomBounds) (start table : Table) (es : List EquationContent) (i : ℕ) : Type 0 where
  pub value : with_equations d room 0 start es ≡ with_equations d room i table (drop i es)
