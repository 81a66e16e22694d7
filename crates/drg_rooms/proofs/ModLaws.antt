-- The line `mod` closes a branch without solutions.
use Rattle.std.proofs.Common.{◌≡◌, ℕ, ◌<◌, ℤ, pos, negsuc, ◌*ℤ◌, ◌+ℤ◌, ◌-ℤ◌, ◌≤ℤ◌, Bool, true, false, inl, inr, List, [], ◌∷◌, arith, refl, ap, sym, ◌∙◌}
use Rattle.std.specs.Prelude.{if◌then◌else◌, not, ◌&&◌, ◌||◌, unsigned_abs}
use Rattle.std.specs.Ordering.{int_eq}
use Rattle.std.specs.Int.Signed.{lt_z, le_z}
use Rattle.std.proofs.lemmas.Int.{ints}
use Rattle.drg_algebra.specs.Ring.{◌⊕◌, ◌⊗◌, neg}
use Rattle.drg_algebra.specs.Integer.{integers, ring5}
use Rattle.drg_algebra.proofs.Tests.{same-number}
use Rattle.drg_linear.specs.Unknowns.{place}
use Rattle.drg_whole.specs.Residues.{residue, divides}
use Rattle.drg_linear.specs.Equations.{Term, EquationContent, value_from, Meets}
use Rattle.drg_linear.specs.Rooms.{RoomBounds, InRoom, bounds_at}
use Rattle.drg_whole.proofs.Residues.{of_residue, residue_multiple}
use Rattle.drg_rooms.specs.Steps.{EachHolds}
use Rattle.drg_rooms.specs.Moduli.{mod_steps}
use Rattle.drg_linear.specs.Moduli.{is_free, is_fixed, divides_free, fixed_products, less_from}
use Rattle.drg_rooms.specs.Lines.{in_hand, kept_of}
use Rattle.drg_rooms.specs.Laws.{InSome}

-- a number that g divides is a multiple of it
multiple_of : (g : ℕ) (z : ℤ) → 0 < g → divides g z ≡ true → (q : ℤ) × (z ≡ pos g *ℤ q)
multiple_of g z h e =
    let d = of_residue g z h in
    let zero_rest : residue g z ≡ 0 = same-number (residue g z) 0 e in
    let q = d.times in
    let is : z ≡ pos (residue g z) +ℤ pos g *ℤ d.times = d.is in
    (d.times, is ∙ (ap (λ (r : ℕ). pos r +ℤ pos g *ℤ d.times) zero_rest ∙ from_zero (pos g *ℤ d.times)))
  where
    from_zero : (z : ℤ) → pos 0 +ℤ z ≡ z
    from_zero z = omega (arith, ints)

-- what is left of the right side differs by a multiple of g
abbrev Differ : ℕ → ℤ → ℤ → Type 0
Differ g a b = (q : ℤ) × (a ≡ b +ℤ pos g *ℤ q)

fixed_value : (low high z : ℤ) → int_eq low high ≡ true → low ≤ℤ z → z ≤ℤ high → z ≡ low
fixed_value low high z e l h = let same : low ≡ high = grind (arith, ints) in omega (arith, ints)

free_or_empty : (low high z : ℤ) → int_eq low high ≡ false → low ≤ℤ z → z ≤ℤ high → lt_z low high ≡ true
free_or_empty low high z e l h = grind (arith, ints)

free_divides : (free div rest : Bool) → ((not free || div) && rest) ≡ true → free ≡ true → div ≡ true
free_divides true true rest h e = refl
free_divides true false rest h e = cc
free_divides false div rest h e = cc

rest_divides : (free div rest : Bool) → ((not free || div) && rest) ≡ true → rest ≡ true
rest_divides free div true h = refl
rest_divides free div false h = grind arith

-- a fixed term is taken from both
fixed_step : (g right s r k a low z : ℤ) → r ≡ (right -ℤ s) +ℤ (g *ℤ k) → z ≡ low → r -ℤ (a *ℤ low) ≡ (right -ℤ (s +ℤ (a *ℤ z))) +ℤ (g *ℤ k)
fixed_step g right s r k a low z e f =
    let p = g *ℤ k in
    rw f (omega (arith, ints))

-- a free term is a multiple of g
free_step : (g right s r k a q z : ℤ) → r ≡ (right -ℤ s) +ℤ (g *ℤ k) → a ≡ g *ℤ q → r ≡ (right -ℤ (s +ℤ (a *ℤ z))) +ℤ (g *ℤ (k +ℤ (q *ℤ z)))
free_step g right s r k a q z e f = e ∙ (spread (right -ℤ s) g k q z ∙ (ap (λ (b : ℤ). ((right -ℤ s) -ℤ (b *ℤ z)) +ℤ (g *ℤ (k +ℤ (q *ℤ z)))) (sym f) ∙ ap (λ (w : ℤ). w +ℤ (g *ℤ (k +ℤ (q *ℤ z)))) (apart right s (a *ℤ z))))
  where
    apart : (right s p : ℤ) → (right -ℤ s) -ℤ p ≡ right -ℤ (s +ℤ p)
    apart right s p = omega (arith, ints)

    spread : (w g k q z : ℤ) → w +ℤ (g *ℤ k) ≡ (w -ℤ ((g *ℤ q) *ℤ z)) +ℤ (g *ℤ (k +ℤ (q *ℤ z)))
    spread w g k q z = ring5 integers (λ w g k q z. w ⊕ g ⊗ k) (λ w g k q z. (w ⊕ neg ((g ⊗ q) ⊗ z)) ⊕ g ⊗ (k ⊕ q ⊗ z)) refl w g k q z

turned_back : (g right s r k : ℤ) → r ≡ (right -ℤ s) +ℤ (g *ℤ k) → right -ℤ s ≡ r -ℤ (g *ℤ k)
turned_back g right s r k e = let p = g *ℤ k in omega (arith, ints)

by_term : (d : ℕ) (x : ℕ → ℤ) (room : RoomBounds) (g : ℕ) (right s r k : ℤ) (t : Term) (ts : List Term) (b : Bool) → is_fixed d room t ≡ b → 0 < g → InRoom x room → divides_free d room g (t ∷ ts) ≡ true → r ≡ (right -ℤ s) +ℤ (pos g *ℤ k)
    → ((s r k : ℤ) → r ≡ (right -ℤ s) +ℤ (pos g *ℤ k) → (q : ℤ) × (less_from r (fixed_products d room ts) ≡ (right -ℤ value_from d x s ts) +ℤ (pos g *ℤ q)))
    → (q : ℤ) × (less_from r (if b then ((t.1 *ℤ (bounds_at room (place d t.0)).0) ∷ fixed_products d room ts) else fixed_products d room ts) ≡ (right -ℤ value_from d x (s +ℤ (t.1 *ℤ x (place d t.0))) ts) +ℤ (pos g *ℤ q))
by_term d x room g right s r k t ts true b h i f e more =
    let z = fixed_value (bounds_at room (place d t.0)).0 (bounds_at room (place d t.0)).1 (x (place d t.0)) b (i.low (place d t.0)) (i.high (place d t.0)) in
    more (s +ℤ (t.1 *ℤ x (place d t.0))) (r -ℤ (t.1 *ℤ (bounds_at room (place d t.0)).0)) k (fixed_step (pos g) right s r k t.1 (bounds_at room (place d t.0)).0 (x (place d t.0)) e z)
by_term d x room g right s r k t ts false b h i f e more =
    let free = free_or_empty (bounds_at room (place d t.0)).0 (bounds_at room (place d t.0)).1 (x (place d t.0)) b (i.low (place d t.0)) (i.high (place d t.0)) in
    let m = multiple_of g t.1 h (free_divides (is_free d room t) (divides g t.1) (divides_free d room g ts) f free) in
    more (s +ℤ (t.1 *ℤ x (place d t.0))) r (k +ℤ (m.0 *ℤ x (place d t.0))) (free_step (pos g) right s r k t.1 m.0 (x (place d t.0)) e m.1)

-- what the fixed terms leave of a number differs by a multiple of g from what all terms leave of it
left_over : (d : ℕ) (x : ℕ → ℤ) (room : RoomBounds) (g : ℕ) (right s r k : ℤ) (ts : List Term) → 0 < g → InRoom x room → divides_free d room g ts ≡ true → r ≡ (right -ℤ s) +ℤ (pos g *ℤ k)
    → (q : ℤ) × (less_from r (fixed_products d room ts) ≡ (right -ℤ value_from d x s ts) +ℤ (pos g *ℤ q))
left_over d x room g right s r k [] h i f e = (k, e)
left_over d x room g right s r k (t ∷ ts) h i f e =
    by_term d x room g right s r k t ts (is_fixed d room t) refl h i f e
    (λ s r k e. left_over d x room g right s r k ts h i (rest_divides (is_free d room t) (divides g t.1) (divides_free d room g ts) f) e)

at_start : (right g : ℤ) → right ≡ (right -ℤ pos 0) +ℤ (g *ℤ pos 0)
at_start right g = omega (arith, ints)

nothing_left : (left right value g q : ℤ) → left ≡ (right -ℤ value) +ℤ (g *ℤ q) → value ≡ right → left ≡ g *ℤ q
nothing_left left right value g q e m = let p = g *ℤ q in omega (arith, ints)

positive : (g : ℤ) → le_z (pos 2) g ≡ true → 0 < unsigned_abs g
positive (pos n) h = omega (arith, ints)
positive (negsuc n) h = omega arith

turn : (b : Bool) → not b ≡ true → b ≡ true → ⊥
turn true h e = cc
turn false h e = cc

-- g divides what the fixed terms leave of an equation that holds, where it divides the free terms
pub left_is_divided : (d : ℕ) (x : ℕ → ℤ) (room : RoomBounds) (g : ℕ) (e : EquationContent) → 0 < g → divides_free d room g e.terms ≡ true → Meets d x e → InRoom x room → divides g (less_from e.right (fixed_products d room e.terms)) ≡ true
left_is_divided d x room g e some free m r =
    let l = left_over d x room g e.right (pos 0) e.right (pos 0) e.terms some r free (at_start e.right (pos g)) in
    let left = less_from e.right (fixed_products d room e.terms) in
    is_divided g left some l.0 (nothing_left left e.right (value_from d x (pos 0) e.terms) (pos g) l.0 l.1 m)
  where
    is_divided : (g : ℕ) (z : ℤ) → 0 < g → (q : ℤ) → z ≡ pos g *ℤ q → divides g z ≡ true
    is_divided g z h q e = let none : residue g z ≡ 0 = residue_multiple g z h (q, e) in rw none refl

mod_empties : (d : ℕ) (x : ℕ → ℤ) (room : RoomBounds) (g : ℤ) (e : EquationContent) → EachHolds (mod_steps d room g e) → Meets d x e → InRoom x room → ⊥
mod_empties d x room g e h m r =
    turn (divides (unsigned_abs g) (less_from e.right (fixed_products d room e.terms))) h.1.1.1.0 (left_is_divided d x room (unsigned_abs g) e (positive g h.0) h.1.0 m r)

pub mod_covers : (d : ℕ) (x : ℕ → ℤ) (branches : List RoomBounds) (g : ℤ) (e : EquationContent) → EachHolds (mod_steps d (in_hand branches) g e) → Meets d x e → InSome x branches → InSome x (kept_of branches)
mod_covers d x [] g e h m s = s
mod_covers d x (room ∷ kept) g e h m (inl r) = absurd (mod_empties d x room g e h m r)
mod_covers d x (room ∷ kept) g e h m (inr s) = s
