-- The low bounds of a room solve equations that don't miss and have no free term.
use Rattle.std.proofs.Common.{◌≡◌, ℕ, zero, suc, ◌<◌, ◌≤◌, ℤ, pos, ◌*ℤ◌, ◌+ℤ◌, ◌≤ℤ◌, ◌<ℤ◌, Bool, true, false, List, [], ◌∷◌, ◌++◌, length, take, take-suc, refl, ap, sym, ◌∙◌, subst, arith, inl, inr}
use Rattle.std.specs.Prelude.{◌⊎◌, if◌then◌else◌, map, slice_index_or, Contains, All}
use Rattle.std.specs.Int.Signed.{lt_z}
use Rattle.std.proofs.lemmas.Int.{ints}
use Rattle.std.proofs.lemmas.List.{length-map}
use Rattle.drg_whole.specs.Sums.{sum_from}
use Rattle.drg_linear.specs.declared.bounds.End.{End}
use Rattle.drg_linear.specs.declared.bounds.End.TheVariants.{Least, Greatest}
use Rattle.drg_linear.specs.declared.unknown.Unknown.{Unknown}
use Rattle.drg_linear.specs.Unknowns.{is_unknown, place}
use Rattle.drg_linear.specs.Splits.{Divides}
use Rattle.drg_linear.specs.Equations.{Term, EquationContent, value_from, Meets, MeetsAll}
use Rattle.drg_linear.specs.Rooms.{RoomBounds, RoomContent, Bounds, IsRoom, InRoom, IsSolution, bounds_at, are_ordered, end_of, end_product, end_products, end_sum}
use Rattle.drg_linear.specs.Moduli.{is_free}
use Rattle.drg_linear.specs.Closing.{Misses, ClosesInOneStep, ByMiss}
use Rattle.drg_linear.specs.Assignments.{AssignmentContent, IsAssignment, number_at}
use Rattle.drg_linear.specs.Systems.{SystemContent}
use Rattle.drg_solver.specs.Parts.{IsPart}
use Rattle.drg_solver.specs.Findings.{NoneFree, IsFree, IsDivided}
use Rattle.drg_solver.specs.Answers.{Solves}
use Rattle.drg_solver.proofs.Fits.{order_at}
use Rattle.drg_solver.proofs.LeastValues.{Members, later_members, first_member}

abbrev pub low_of : Bounds → ℤ
low_of b = b.0

pub number_is_low : (room : RoomBounds) (k : ℕ) → number_at (map low_of room) k ≡ (bounds_at room k).0
number_is_low [] k = refl
number_is_low (b ∷ bs) zero = refl
number_is_low (b ∷ bs) (suc k) = number_is_low bs k

-- ---- sums without a free term
one_value : (low high : ℤ) → low ≤ℤ high → lt_z low high ≡ false → high ≡ low
one_value low high o h = grind (arith, ints)

end_is_low : (side : End) (b : Bounds) (a : ℤ) → b.0 ≤ℤ b.1 → lt_z b.0 b.1 ≡ false → end_of side b a ≡ b.0
end_is_low Least b a o h = pick (lt_z (pos 0) a) b.0 b.1 (one_value b.0 b.1 o h)
  where
    pick : (c : Bool) (x y : ℤ) → y ≡ x → (if c then x else y) ≡ x
    pick true x y e = refl
    pick false x y e = e
end_is_low Greatest b a o h = pick (lt_z (pos 0) a) b.0 b.1 (one_value b.0 b.1 o h)
  where
    pick : (c : Bool) (x y : ℤ) → y ≡ x → (if c then y else x) ≡ x
    pick true x y e = e
    pick false x y e = refl

end_is_value : (d : ℕ) (side : End) (room : RoomBounds) (ts : List Term) (s : ℤ) → are_ordered room ≡ true → Members (λ t. is_free d room t ≡ false) ts
    → sum_from s (end_products d side room ts) ≡ value_from d (number_at (map low_of room)) s ts
end_is_value d side room [] s o h = refl
end_is_value d side room (t ∷ ts) s o h =
    let P : Term → Type 0 = λ t. is_free d room t ≡ false in
    let y = place d t.0 in
    let one : end_product d side room t ≡ t.1 *ℤ number_at (map low_of room) y =
    ap (λ (z : ℤ). t.1 *ℤ z) (end_is_low side (bounds_at room y) t.1 (order_at room y o) (first_member P t ts h) ∙ sym (number_is_low room y)) in
    ap (λ (z : ℤ). sum_from (s +ℤ z) (end_products d side room ts)) one ∙ end_is_value d side room ts (s +ℤ (t.1 *ℤ number_at (map low_of room) y)) o (later_members P t ts h)

neither : (right least greatest value : ℤ) → least ≡ value → greatest ≡ value → ((right <ℤ least) ⊎ (greatest <ℤ right) → ⊥) → value ≡ right
neither right least greatest value e f h =
    let low : right <ℤ least → ⊥ = λ l. h (inl l) in
    let high : greatest <ℤ right → ⊥ = λ g. h (inr g) in
    between value right (λ l. low (moved_right right least value e l)) (λ g. high (moved_left right greatest value f g))
  where
    moved_right : (right least value : ℤ) → least ≡ value → right <ℤ value → right <ℤ least
    moved_right right least value e l = omega (arith, ints)

    moved_left : (right greatest value : ℤ) → greatest ≡ value → value <ℤ right → greatest <ℤ right
    moved_left right greatest value e l = omega (arith, ints)

    between : (a b : ℤ) → (b <ℤ a → ⊥) → (a <ℤ b → ⊥) → a ≡ b
    between a b h k = grind (arith, ints)

meets_at_low : (d : ℕ) (room : RoomBounds) (e : EquationContent) → are_ordered room ≡ true → Members (λ t. is_free d room t ≡ false) e.terms → (Misses d room e → ⊥) → Meets d (number_at (map low_of room)) e
meets_at_low d room e o h m =
    neither e.right (end_sum d Least room e.terms) (end_sum d Greatest room e.terms) (value_from d (number_at (map low_of room)) (pos 0) e.terms)
    (end_is_value d Least room e.terms (pos 0) o h) (end_is_value d Greatest room e.terms (pos 0) o h) m

meets_all : (d : ℕ) (x : ℕ → ℤ) (es : List EquationContent) → ((e : EquationContent) → Contains es e → Meets d x e) → MeetsAll d x es
meets_all d x [] h = tt
meets_all d x (e ∷ es) h = (h e (0, omega arith, refl), meets_all d x es (λ f c. h f (suc c.0, (let l = c.1 in omega (arith, l)), c.2)))

members : (d : ℕ) (room : RoomContent) (equations : List EquationContent) (e : EquationContent) → All (λ e. NoneFree room e.terms) equations → Contains equations e → Members (λ t. is_free room.d room.bounds t ≡ false) e.terms
members d room equations e all c t m =
    let P : EquationContent → Type 0 = λ e. NoneFree room e.terms in
    let Q : Term → Type 0 = λ t. is_free room.d room.bounds t ≡ false in
    subst Q m.2 (subst P c.2 (all c.0 e c.1) m.0 t m.1)

through : (a b c : ℤ) → a ≤ℤ b → b ≤ℤ c → a ≤ℤ c
through a b c h k = omega (arith, ints)

pub low_solves : (s : SystemContent) (room : RoomContent) (values : AssignmentContent) → IsPart s.room room → (ClosesInOneStep room.d room.bounds s.equations → ⊥) → All (λ e. NoneFree room e.terms) s.equations
    → values.d ≡ room.d → values.values ≡ map low_of room.bounds → Solves s values
low_solves s room values p unclosed none d is =
    let r = p.is_room in
    let x = number_at (map low_of room.bounds) in
    let meets : (e : EquationContent) → Contains s.equations e → Meets s.room.d x e = λ e c.
    rw (← p.d) (meets_at_low room.d room.bounds e r.ordered (members room.d room s.equations e none c) (λ m. unclosed (ByMiss e c m))) in
    let inside : InRoom x s.room.bounds = record {
      low = λ k. rw (number_is_low room.bounds k) (p.low k);
      high = λ k. rw (number_is_low room.bounds k) (through (bounds_at room.bounds k).0 (bounds_at room.bounds k).1 (bounds_at s.room.bounds k).1 (order_at room.bounds k r.ordered) (p.high k));
    } in
    let P : List ℤ → Type 0 = λ vs. IsSolution s.room.d s.room.bounds s.equations (number_at vs) in
    record {
      d = d ∙ p.d;
      solution = subst P (sym is) (inside, meets_all s.room.d x s.equations meets);
    }

-- ---- the low bounds, made one after another
take_all : (xs : List ℤ) (i : ℕ) → length xs ≤ i → take i xs ≡ xs
take_all [] zero h = refl
take_all [] (suc i) h = refl
take_all (x ∷ xs) zero h = absurd (omega (arith, h))
take_all (x ∷ xs) (suc i) h = ap (λ ys. x ∷ ys) (take_all xs i (omega (arith, h)))

pub lows_made : (room : RoomBounds) (values : List ℤ) (i : ℕ) → values ≡ take i (map low_of room) → length room ≤ i → values ≡ map low_of room
lows_made room values i e h = e ∙ take_all (map low_of room) i (let l = length-map room low_of in omega (arith, l, h))

pub lows_are : (room : RoomContent) (values : List ℤ) → IsRoom room → values ≡ map low_of room.bounds → IsAssignment (record { d = room.d; values = values })
lows_are room values r e = record {
  d = r.d;
  each = ap length e ∙ (length-map room.bounds low_of ∙ r.each);
}

low_at_place : (room : RoomBounds) (i : ℕ) (b : Bounds) → slice_index_or (map low_of room) i (low_of b) ≡ low_of (slice_index_or room i b)
low_at_place [] i b = refl
low_at_place (c ∷ room) zero b = refl
low_at_place (c ∷ room) (suc i) b = low_at_place room i b

pub lows_on : (room : RoomBounds) (values : List ℤ) (i : ℕ) (b : Bounds) → values ≡ take i (map low_of room) → i < length room → values ++ (slice_index_or room i b).0 ∷ [] ≡ take (suc i) (map low_of room)
lows_on room values i b e h =
    let within : i < length (map low_of room) = (let l = length-map room low_of in omega (arith, l, h)) in
    rw (take-suc (map low_of room) i (low_of b) within, low_at_place room i b, e) refl

-- ---- an unknown with more than one value divides the room
equal : (a b : ℤ) → a ≡ b → a ≤ℤ b
equal a b e = omega (arith, ints)

above : (a b c : ℤ) → a ≡ b → b <ℤ c → a <ℤ c
above a b c e h = omega (arith, ints)

pub free_divides : (s : SystemContent) (room : RoomContent) (u : Unknown) (z : ℤ) → IsPart s.room room → (ClosesInOneStep room.d room.bounds s.equations → ⊥) → IsFree room u
    → z ≡ (bounds_at room.bounds (place room.d u)).0 → IsDivided s room u z
free_divides s room u z p unclosed f e =
    let b = bounds_at room.bounds (place room.d u) in
    let sides : Divides room.bounds (place room.d u) z = record { low = equal b.0 z (sym e); high = above z b.0 b.1 e f.bounds } in
    record {
      unclosed = subst (λ (d : ℕ). ClosesInOneStep d room.bounds s.equations → ⊥) p.d unclosed;
      unknown = subst (λ (d : ℕ). is_unknown d u ≡ true) p.d f.unknown;
      sides = subst (λ (d : ℕ). Divides room.bounds (place d u) z) p.d sides;
    }
