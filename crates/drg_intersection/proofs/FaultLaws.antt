-- The first number that fails is one number, and the numbers of an array are one.
use Rattle.std.proofs.Common.{◌≡◌, ℕ, zero, suc, ◌<◌, refl, sym, ap, ◌∙◌, subst, arith, inl, inr}
use Rattle.std.specs.Prelude.{◌⊎◌, ◌≤◌, pos}
use Rattle.std.proofs.lemmas.Int.{ints}
use Rattle.drg_algebra.specs.Rational.{whole}
use Rattle.drg_array.specs.Entries.{Entries, diameter}
use Rattle.drg_array.proofs.NumberLaws.{one_number}
use Rattle.drg_array.specs.declared.node.Node.{Node}
use Rattle.drg_array.specs.declared.node.Node.TheVariants.{K, N, P}
use Rattle.drg_array.specs.declared.claim.Claim.TheVariants.{Size, Intersect}
use Rattle.drg_intersection.specs.Faults.{IsNode, IsBefore, Passes, IsReached, IsNumbersFault}
use Rattle.drg_intersection.specs.Fits.{Fits}
use Rattle.drg_intersection.specs.Laws.{OneFault, NoFaultWhereAllPass, OneTable}
use Rattle.drg_intersection.proofs.Ranges.{one_whole}
use Rattle.drg_intersection.specs.declared.fault.NumbersFault.TheVariants.{Fall, Wide, Memory}

compare : (m n : ℕ) → (m < n) ⊎ ((m ≡ n) ⊎ (n < m))
compare zero zero = inr (inl refl)
compare zero (suc n) = inl (omega arith)
compare (suc m) zero = inr (inr (omega arith))
compare (suc m) (suc n) = elim (compare m n) [ inl e ↦ inl (omega (arith, e)) | inr (inl e) ↦ inr (inl (ap suc e)) | inr (inr e) ↦ inr (inr (omega (arith, e))) ]

columns : (h i j l : ℕ) → IsBefore (P h i j) (P h i l) ⊎ ((P h i j ≡ P h i l) ⊎ IsBefore (P h i l) (P h i j))
columns h i j l = elim (compare j l) [
  | inl e ↦ inl (inr (refl, inr (refl, e)))
  | inr (inl e) ↦ inr (inl (ap (P h i) e))
  | inr (inr e) ↦ inr (inr (inr (refl, inr (refl, e))))
]

rows : (h i j n l : ℕ) → IsBefore (P h i j) (P h n l) ⊎ ((P h i j ≡ P h n l) ⊎ IsBefore (P h n l) (P h i j))
rows h i j n l = elim (compare i n) [
  | inl e ↦ inl (inr (refl, inl e))
  | inr (inl e) ↦ (let Q : ℕ → Type 0 = λ t. IsBefore (P h i j) (P h t l) ⊎ ((P h i j ≡ P h t l) ⊎ IsBefore (P h t l) (P h i j)) in subst Q e (columns h i j l))
  | inr (inr e) ↦ inr (inr (inr (refl, inl e)))
]

tables : (h i j m n l : ℕ) → IsBefore (P h i j) (P m n l) ⊎ ((P h i j ≡ P m n l) ⊎ IsBefore (P m n l) (P h i j))
tables h i j m n l = elim (compare h m) [
  | inl e ↦ inl (inl e)
  | inr (inl e) ↦ (let Q : ℕ → Type 0 = λ t. IsBefore (P h i j) (P t n l) ⊎ ((P h i j ≡ P t n l) ⊎ IsBefore (P t n l) (P h i j)) in subst Q e (rows h i j n l))
  | inr (inr e) ↦ inr (inr (inl e))
]

order : (a : Entries) (x y : Node) → IsNode a x → IsNode a y → IsBefore x y ⊎ ((x ≡ y) ⊎ IsBefore y x)
order a (K i) (K j) hx hy = elim (compare i j) [ inl e ↦ inl e | inr (inl e) ↦ inr (inl (ap K e)) | inr (inr e) ↦ inr (inr e) ]
order a (K i) N hx hy = inl tt
order a (K i) (P h l j) hx hy = inl tt
order a (K i) other hx hy = absurd hy
order a N (K i) hx hy = inr (inr tt)
order a N N hx hy = inr (inl refl)
order a N (P h i j) hx hy = inl tt
order a N other hx hy = absurd hy
order a (P h i j) (K l) hx hy = inr (inr tt)
order a (P h i j) N hx hy = inr (inr tt)
order a (P h i j) (P m n l) hx hy = tables h i j m n l
order a (P h i j) other hx hy = absurd hy
order a other y hx hy = absurd hx

-- the first number that fails
record IsFirst (a : Entries) (node : Node) : Type 0 where
  pub is_node : IsNode a node
  pub reached : IsReached a node
  pub failing : ¬ Passes a node

one_first : (a : Entries) (x y : Node) → IsFirst a x → IsFirst a y → x ≡ y
one_first a x y first second =
    elim (order a x y first.is_node second.is_node) [
      | inl before ↦ absurd (first.failing (second.reached x first.is_node before))
      | inr (inl same) ↦ same
      | inr (inr after) ↦ absurd (second.failing (first.reached y second.is_node after))
    ]

first_wide : (a : Entries) (node : Node) → IsNumbersFault a (Wide node) → IsFirst a node
first_wide a node f = record { is_node = f.is_node; reached = f.reached; failing = λ p. f.wide p.fits }

first_size : (a : Entries) (i : ℕ) → IsNumbersFault a (Fall (Size i)) → IsFirst a (K i)
first_size a i f = record { is_node = f.is_node; reached = f.reached; failing = λ p. f.failed.1 p.right }

first_entry : (a : Entries) (h i j : ℕ) → IsNumbersFault a (Fall (Intersect h i j)) → IsFirst a (P h i j)
first_entry a h i j f = (let (hh, hi, hj, x, is, failed) = f.failed in record { is_node = f.is_node; reached = f.reached; failing = λ p. failed (p.right x is) })

apart : (a : Entries) (x y : Node) → x ≡ y → ¬ Fits a x → Fits a y → ⊥
apart a x y e wide fits = wide (subst (Fits a) (sym e) fits)

pub one_fault : OneFault
one_fault a Memory g nf ng f h = absurd (nf refl)
one_fault a f Memory nf ng h k = absurd (ng refl)
one_fault a (Wide x) (Wide y) nf ng f g = ap Wide (one_first a x y (first_wide a x f) (first_wide a y g))
one_fault a (Wide x) (Fall (Size i)) nf ng f g = absurd (apart a x (K i) (one_first a x (K i) (first_wide a x f) (first_size a i g)) f.wide g.fits)
one_fault a (Wide x) (Fall (Intersect h i j)) nf ng f g = absurd (apart a x (P h i j) (one_first a x (P h i j) (first_wide a x f) (first_entry a h i j g)) f.wide g.fits)
one_fault a (Wide x) (Fall claim) nf ng f g = absurd g
one_fault a (Fall (Size i)) (Wide y) nf ng f g = absurd (apart a y (K i) (one_first a y (K i) (first_wide a y g) (first_size a i f)) g.wide f.fits)
one_fault a (Fall (Size i)) (Fall (Size j)) nf ng f g = (let e = one_first a (K i) (K j) (first_size a i f) (first_size a j g) in cc)
one_fault a (Fall (Size l)) (Fall (Intersect h i j)) nf ng f g = (let e = one_first a (K l) (P h i j) (first_size a l f) (first_entry a h i j g) in cc)
one_fault a (Fall (Size i)) (Fall claim) nf ng f g = absurd g
one_fault a (Fall (Intersect h i j)) (Wide y) nf ng f g = absurd (apart a y (P h i j) (one_first a y (P h i j) (first_wide a y g) (first_entry a h i j f)) g.wide f.fits)
one_fault a (Fall (Intersect h i j)) (Fall (Size l)) nf ng f g = (let e = one_first a (P h i j) (K l) (first_entry a h i j f) (first_size a l g) in cc)
one_fault a (Fall (Intersect h i j)) (Fall (Intersect m n l)) nf ng f g = (let e = one_first a (P h i j) (P m n l) (first_entry a h i j f) (first_entry a m n l g) in cc)
one_fault a (Fall (Intersect h i j)) (Fall claim) nf ng f g = absurd g
one_fault a (Fall claim) g nf ng f h = absurd f

pub no_fault : NoFaultWhereAllPass
no_fault a Memory nf pass f = absurd (nf refl)
no_fault a (Wide x) nf pass f = f.wide (pass x f.is_node).fits
no_fault a (Fall (Size i)) nf pass f = f.failed.1 (pass (K i) f.is_node).right
no_fault a (Fall (Intersect h i j)) nf pass f = (let (hh, hi, hj, x, is, failed) = f.failed in failed ((pass (P h i j) f.is_node).right x is))
no_fault a (Fall claim) nf pass f = absurd f

-- ---- the numbers are one
same_natural : (m n : ℕ) → whole (pos m) ≡ whole (pos n) → m ≡ n
same_natural m n e = (let f = one_whole (pos m) (pos n) e in omega (arith, ints, f))

pub one_table : OneTable
one_table a x y array first second = record {
  d = first.same_d ∙ sym second.same_d;
  sizes = λ i hi. (let h = first.same_d in
      same_natural _ _ (sym (first.sizes i (omega (arith, hi, h))) ∙ second.sizes i (omega (arith, hi, h))));
  vertices = same_natural _ _ (sym first.vertices ∙ second.vertices);
  intersections = λ h i j hh hi hj. (let e = first.same_d in
      let row : i ≤ diameter a = omega (arith, hi, e) in
      let column : j ≤ diameter a = omega (arith, hj, e) in
      same_natural _ _ (one_number a h i j _ _ array row column (first.intersections h i j (omega (arith, hh, e)) row column) (second.intersections h i j (omega (arith, hh, e)) row column)));
}
