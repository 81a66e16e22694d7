-- A graph has one answer.
use Rattle.std.proofs.Common.{◌≡◌, ℕ, zero, suc, ◌≤◌, ◌<◌, Bool, true, false, List, [], ◌∷◌, length, refl, sym, ap, ap₂, subst, ◌∙◌, arith, inl, inr}
use Rattle.std.specs.Prelude.{◌⊎◌, ◌≢◌}
use Rattle.std.proofs.lemmas.List.{ext_get_or}
use Rattle.drg_algebra.specs.Sums.{is_among}
use Rattle.drg_algebra.proofs.Tests.{either, same-number}
use Rattle.drg_array.specs.Entries.{Entries, IsArray, diameter, b_at, c_at}
use Rattle.drg_array.specs.declared.limits.TheConstants.{MAX_DIAMETER}
use Rattle.drg_graph.specs.Graph.{Graph, is_at_distance, HasDistance, IsDistanceRegular}
use Rattle.drg_graph.proofs.Distances.{distance-unique, distance-left, distance-right, zero-self}
use Rattle.drg_graph.proofs.Witness.{one_array_law}
use Rattle.drg_edges.specs.Answers.{IsAnswer, IsApart, IsDifference, IsFar, AreTold}
use Rattle.drg_edges.specs.Laws.{ArrayLaw, OneAnswer}
use Rattle.drg_edges.specs.Pairs.{down_count, up_count, IsReference, Differs}
use Rattle.drg_edges.specs.declared.answer.GraphAnswer.TheVariants.{Array, Single, Apart, Differ, Far}
use Rattle.drg_edges.proofs.Order.{order}

-- two different members
pub two_members : (x y : ℕ) (xs : List ℕ) → is_among x xs ≡ true → is_among y xs ≡ true → x ≢ y → 1 < length xs
two_members x y [] a b apart = (let e = a in cc)
two_members x y (z ∷ []) a b apart =
    let one = only x z a in
    let two = only y z b in
    absurd (apart (sym one ∙ two))
  where
    only : (v w : ℕ) → is_among v (w ∷ []) ≡ true → w ≡ v
    only v w e = elim (either _ false e) [ inl here ↦ same-number w v here | inr none ↦ absurd (let f = none in cc) ]
two_members x y (z ∷ w ∷ zs) a b apart = omega arith

-- ---- an array
same_entries : (a b : Entries) → IsArray a → IsArray b → (diameter a ≡ diameter b) × ((i : ℕ) → i ≤ diameter a → (b_at a i ≡ b_at b i) × (c_at a i ≡ c_at b i)) → a ≡ b
same_entries a b ia ib (same, entries) =
    let long_a = ia.same_length in
    let long_b = ib.same_length in
    let bs : a.b ≡ b.b = ext_get_or 0 a.b b.b same (λ i less. (entries i (omega (arith, less))).0) in
    let cs : a.c ≡ b.c = ext_get_or 0 a.c b.c (omega (arith, long_a, long_b, same)) (λ i less. (entries (suc i) (omega (arith, less, long_a))).1) in
    ap₂ (λ x y. record { b = x; c = y }) bs cs

module _ (g : Graph) (a : Entries) (array : IsArray a) (r : IsDistanceRegular g a) where
  array_several : 1 < length g.vertices
  array_several =
      let f = r.far in
      let some = array.some in
      let left = distance-left g (diameter a) f.0 f.1 f.2 in
      let apart : f.0 ≢ f.1 =
      λ same. (let P : ℕ → Type 0 = λ y. is_at_distance g 0 f.0 y ≡ true in
      let none = distance-unique g (diameter a) 0 f.0 f.1 f.2 (subst P same (zero-self g f.0 left)) in omega (arith, some, none)) in
      two_members f.0 f.1 g.vertices left (distance-right g (diameter a) f.0 f.1 f.2) apart

  -- two pairs at one distance have the same counts
  array_down : (i x y u v : ℕ) → HasDistance g i x y → HasDistance g i u v → down_count g i x y ≡ down_count g i u v
  array_down zero x y u v e f = refl
  array_down (suc i) x y u v e f = r.nearer i x y e ∙ sym (r.nearer i u v f)

  array_up : (i x y u v : ℕ) → HasDistance g i x y → HasDistance g i u v → up_count g i x y ≡ up_count g i u v
  array_up i x y u v e f = r.further i x y e ∙ sym (r.further i u v f)

  array_told : (i x y x2 y2 : ℕ) (up : Bool) (first second : ℕ) → HasDistance g i x y → HasDistance g i x2 y2 → AreTold g i x y x2 y2 up first second → ⊥
  array_told i x y x2 y2 false first second e f told = told.2 (told.0 ∙ (array_down i x y x2 y2 e f ∙ sym told.1))
  array_told i x y x2 y2 true first second e f told = told.3 (told.1 ∙ (array_up i x y x2 y2 e f ∙ sym told.2))

  array_near : (t x y : ℕ) → HasDistance g t x y → t ≤ MAX_DIAMETER
  array_near t x y e =
      let near = r.near x y (distance-left g t x y e) (distance-right g t x y e) in
      let same = distance-unique g t near.0 x y e near.2 in
      let small = near.1 in
      let short = array.short in
      omega (arith, same, small, short)

-- ---- two answers of one kind
module _ (g : Graph) where
  pub one_reference : (i x y u v : ℕ) → IsReference g i x y → IsReference g i u v → (x ≡ u) × (y ≡ v)
  one_reference i x y u v one two = elim (order x y u v) [
    | inl before ↦ absurd (two.first x y one.at before)
    | inr (inl same) ↦ same
    | inr (inr after) ↦ absurd (one.first u v two.at after)
  ]

  unlike_of : (i x y x2 y2 : ℕ) (up : Bool) (first second : ℕ) → AreTold g i x y x2 y2 up first second
      → (down_count g i x y ≢ down_count g i x2 y2) ⊎ (up_count g i x y ≢ up_count g i x2 y2)
  unlike_of i x y x2 y2 false first second told = inl (λ e. told.2 (told.0 ∙ (e ∙ sym told.1)))
  unlike_of i x y x2 y2 true first second told = inr (λ e. told.3 (told.1 ∙ (e ∙ sym told.2)))

  differs_of : (x y x2 y2 i : ℕ) (up : Bool) (first second : ℕ) → IsDifference g x y x2 y2 i up first second → Differs g i x2 y2
  differs_of x y x2 y2 i up first second d = record {
    at = d.at;
    x_reference = x;
    y_reference = y;
    reference = d.reference;
    unlike = unlike_of i x y x2 y2 up first second d.told;
  }

  same_told : (i x y x2 y2 : ℕ) (p q : Bool) (s t m n : ℕ) → AreTold g i x y x2 y2 p s t → AreTold g i x y x2 y2 q m n → (p ≡ q) × (s ≡ m) × (t ≡ n)
  same_told i x y x2 y2 false false s t m n a b = (refl, a.0 ∙ sym b.0, a.1 ∙ sym b.1)
  same_told i x y x2 y2 true true s t m n a b = (refl, a.1 ∙ sym b.1, a.2 ∙ sym b.2)
  same_told i x y x2 y2 false true s t m n a b = absurd (a.2 (a.0 ∙ (b.0 ∙ sym a.1)))
  same_told i x y x2 y2 true false s t m n a b = absurd (b.2 (b.0 ∙ (a.0 ∙ sym b.1)))

  one_apart : (x y u v : ℕ) → IsApart g x y → IsApart g u v → Apart x y ≡ Apart u v
  one_apart x y u v one two = elim (order x y u v) [
    | inl before ↦ (let d = two.first x y one.left one.right before in absurd (one.none d.0 d.1))
    | inr (inl same) ↦ ap₂ Apart same.0 same.1
    | inr (inr after) ↦ (let d = one.first u v two.left two.right after in absurd (two.none d.0 d.1))
  ]

  one_far : (x y u v : ℕ) → IsFar g x y → IsFar g u v → Far x y ≡ Far u v
  one_far x y u v one two = (let same = one_reference (suc MAX_DIAMETER) x y u v one.reference two.reference in ap₂ Far same.0 same.1)

  -- the pair that differs is one
  one_place : (x y x2 y2 i : ℕ) (p : Bool) (s t u v u2 v2 j : ℕ) (q : Bool) (m n : ℕ) → IsDifference g x y x2 y2 i p s t → IsDifference g u v u2 v2 j q m n → (x2 ≡ u2) × (y2 ≡ v2)
  one_place x y x2 y2 i p s t u v u2 v2 j q m n one two = elim (order x2 y2 u2 v2) [
    | inl before ↦ absurd (two.earlier i x2 y2 before (differs_of x y x2 y2 i p s t one))
    | inr (inl same) ↦ same
    | inr (inr after) ↦ absurd (one.earlier j u2 v2 after (differs_of u v u2 v2 j q m n two))
  ]

  one_difference : (x y x2 y2 i : ℕ) (p : Bool) (s t u v u2 v2 j : ℕ) (q : Bool) (m n : ℕ) → IsDifference g x y x2 y2 i p s t → IsDifference g u v u2 v2 j q m n
      → Differ x y x2 y2 i p s t ≡ Differ u v u2 v2 j q m n
  one_difference x y x2 y2 i p s t u v u2 v2 j q m n one two =
      let place = one_place x y x2 y2 i p s t u v u2 v2 j q m n one two in
      let At : ℕ → ℕ → Type 0 = λ a b. HasDistance g j a b in
      let at : HasDistance g j x2 y2 = subst (λ a. At a y2) (sym place.0) (subst (At u2) (sym place.1) two.at) in
      let far : i ≡ j = distance-unique g i j x2 y2 one.at at in
      let reference = one_reference i x y u v one.reference (subst (λ k. IsReference g k u v) (sym far) two.reference) in
      let Told : ℕ → ℕ → ℕ → ℕ → ℕ → Type 0 = λ k a b a2 b2. AreTold g k a b a2 b2 q m n in
      let told : AreTold g i x y x2 y2 q m n =
      subst (λ k. Told k x y x2 y2) (sym far) (subst (λ a. Told j a y x2 y2) (sym reference.0) (subst (λ b. Told j u b x2 y2) (sym reference.1)
      (subst (λ a. Told j u v a y2) (sym place.0) (subst (λ b. Told j u v u2 b) (sym place.1) two.told)))) in
      let same = same_told i x y x2 y2 p q s t m n one.told told in
      let e1 = reference.0 in
      let e2 = reference.1 in
      let e3 = place.0 in
      let e4 = place.1 in
      let e5 = same.0 in
      let e6 = same.1 in
      let e7 = same.2 in
      cc

pub one_answer : OneAnswer
one_answer g (Array a) (Array b) (ia, ra) (ib, rb) = ap Array (same_entries a b ia ib (one_array_law g a b ia ra rb))
one_answer g (Array a) Single (ia, ra) h = (let more = array_several g a ia ra in absurd (omega (arith, more, h)))
one_answer g (Array a) (Apart x y) (ia, ra) h = (let d = ra.near x y h.left h.right in absurd (h.none d.0 d.2))
one_answer g (Array a) (Differ x y x2 y2 i up s t) (ia, ra) h = absurd (array_told g a ia ra i x y x2 y2 up s t h.reference.at h.at h.told)
one_answer g (Array a) (Far x y) (ia, ra) h = (let small = array_near g a ia ra (suc MAX_DIAMETER) x y h.reference.at in absurd (omega (arith, small)))
one_answer g Single (Array a) h (ia, ra) = (let more = array_several g a ia ra in absurd (omega (arith, more, h)))
one_answer g Single Single h k = refl
one_answer g Single (Apart x y) h k = (let more = k.several in absurd (omega (arith, more, h)))
one_answer g Single (Differ x y x2 y2 i up s t) h k = (let more = k.connected.several in absurd (omega (arith, more, h)))
one_answer g Single (Far x y) h k = (let more = k.connected.several in absurd (omega (arith, more, h)))
one_answer g (Apart x y) (Array a) h (ia, ra) = (let d = ra.near x y h.left h.right in absurd (h.none d.0 d.2))
one_answer g (Apart x y) Single h k = (let more = h.several in absurd (omega (arith, more, k)))
one_answer g (Apart x y) (Apart u v) h k = one_apart g x y u v h k
one_answer g (Apart x y) (Differ u v u2 v2 i up s t) h k = (let d = k.connected.near x y h.left h.right in absurd (h.none d.0 d.1))
one_answer g (Apart x y) (Far u v) h k = (let d = k.connected.near x y h.left h.right in absurd (h.none d.0 d.1))
one_answer g (Differ x y x2 y2 i up s t) (Array a) h (ia, ra) = absurd (array_told g a ia ra i x y x2 y2 up s t h.reference.at h.at h.told)
one_answer g (Differ x y x2 y2 i up s t) Single h k = (let more = h.connected.several in absurd (omega (arith, more, k)))
one_answer g (Differ x y x2 y2 i up s t) (Apart u v) h k = (let d = h.connected.near u v k.left k.right in absurd (k.none d.0 d.1))
one_answer g (Differ x y x2 y2 i p s t) (Differ u v u2 v2 j q m n) h k = one_difference g x y x2 y2 i p s t u v u2 v2 j q m n h k
one_answer g (Differ x y x2 y2 i up s t) (Far u v) h k = absurd (k.alike i x2 y2 (differs_of g x y x2 y2 i up s t h))
one_answer g (Far x y) (Array a) h (ia, ra) = (let small = array_near g a ia ra (suc MAX_DIAMETER) x y h.reference.at in absurd (omega (arith, small)))
one_answer g (Far x y) Single h k = (let more = h.connected.several in absurd (omega (arith, more, k)))
one_answer g (Far x y) (Apart u v) h k = (let d = h.connected.near u v k.left k.right in absurd (k.none d.0 d.1))
one_answer g (Far x y) (Differ u v u2 v2 i up s t) h k = absurd (h.alike i u2 v2 (differs_of g u v u2 v2 i up s t k))
one_answer g (Far x y) (Far u v) h k = one_far g x y u v h k

pub array_law : ArrayLaw
array_law g answer a h = (λ e. subst (IsAnswer g) e h, λ regular. one_answer g answer (Array a) h regular)
