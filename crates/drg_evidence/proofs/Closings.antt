-- Where the array fails a claim, the claim is closed by the numbers that its lines state.
use Rattle.std.proofs.Common.{◌≡◌, ℕ, zero, suc, ◌<◌, ◌≤◌, true, List, [], ◌∷◌, length, refl, sym, ap, ap₂, ◌∙◌, subst, arith, inl, inr, Some}
use Rattle.std.specs.Prelude.{ℤ, pos, negsuc, ◌-◌, ◌+ℤ◌, ◌*ℤ◌, ◌≤ℤ◌, ◌||◌, not, int_lt, slice_index_or}
use Rattle.std.proofs.lemmas.Int.{ints}
use Rattle.drg_algebra.specs.Rational.{ℚ, whole, plus, times, rationals}
use Rattle.drg_algebra.specs.Sums.{IsMultiple}
use Rattle.drg_algebra.specs.Tables.{total}
use Rattle.drg_algebra.proofs.Maps.{whole_map}
use Rattle.drg_algebra.proofs.Tests.{decided, not-in}
use Rattle.drg_array.specs.Entries.{Entries, IsArray, diameter, c_at}
use Rattle.drg_array.specs.Numbers.{size, vertex_count, AreIntersectionNumbers, IsWhole, IsWholeMultiple, IsNatural}
use Rattle.drg_array.specs.declared.node.Node.TheVariants.{K, P}
use Rattle.drg_array.proofs.EntryLemmas.{c-positive}
use Rattle.drg_array.proofs.NumberLaws.{cancel-whole}
use Rattle.drg_intersection.specs.Fits.{Fits}
use Rattle.drg_intersection.proofs.Ranges.{is_whole}
use Rattle.drg_intersection.proofs.SizeLaws.{dividend, size_is}
use Rattle.drg_replay.specs.Steps.{EachHolds}
use Rattle.drg_whole.specs.Sums.{sum_from}
use Rattle.drg_whole.specs.Residues.{residue, divides}
use Rattle.drg_replay.specs.Sizes as sizes
use Rattle.drg_replay.specs.Claims.{size_closing, intersect_closing, handshake_closing, induced_closing, triangles_closing}
use Rattle.drg_whole.proofs.Residues.{of_residue}
use Rattle.drg_replay.proofs.StepLaws.{is_same, are_same}
use Rattle.drg_evidence.proofs.StepTests.{at_most, one, in_the_range}
use Rattle.drg_evidence.proofs.RowLines.{AreStated, meet, sum_passes}

-- ---- divisibility
multiple : (m : ℕ) (z : ℤ) → 0 < m → residue m z ≡ 0 → IsMultiple m z
multiple m z positive none =
    let d = of_residue m z positive in
    (d.times, d.is ∙ rw none (omega (arith, ints)))

not_divided : (m : ℕ) (z : ℤ) → 0 < m → ¬ IsMultiple m z → not (divides m z) ≡ true
not_divided m z positive never =
    elim (decided (divides m z)) [
      | inl divided ↦ absurd (never (multiple m z positive (is_same _ _ divided)))
      | inr apart ↦ not-in _ apart
    ]

broken : (m : ℕ) (z : ℤ) (x : ℚ) → 0 < m → x ≡ whole z → ¬ IsWholeMultiple m x → not (divides m z) ≡ true
broken m z x positive is never = not_divided m z positive (λ (t, e). never (t, is ∙ ap whole e))

-- ---- numbers and products of the stated numbers
product_is : (x y : ℚ) (s t : ℤ) → x ≡ whole s → y ≡ whole t → times x y ≡ whole (s *ℤ t)
product_is x y s t e f = ap₂ times e f ∙ sym (whole_map.times s t)

sum_is : (f : ℕ → ℚ) (values : List ℤ) (front : ℤ) → ((i : ℕ) → i < length values → f i ≡ whole (slice_index_or values i (pos 0)))
    → plus (whole front) (total (whole (pos 0)) plus (length values) f) ≡ whole (sum_from front values)
sum_is f [] front are = rationals.plus_nil (whole front)
sum_is f (v ∷ vs) front are =
    sym (rationals.plus_assoc (whole front) (f 0) _)
    ∙ (ap (λ x. plus x (total (whole (pos 0)) plus (length vs) (λ i. f (suc i)))) (ap (plus (whole front)) (are 0 (omega arith)) ∙ sym (whole_map.plus front v))
    ∙ sum_is (λ i. f (suc i)) vs (front +ℤ v) (λ i less. are (suc i) (omega (arith, less))))

module _ (a : Entries) (array : IsArray a) (values : List ℤ) (are : (i : ℕ) → i < length values → size a i ≡ whole (slice_index_or values i (pos 0))) where
  pub size_closes : (m : ℕ) → suc m ≤ diameter a → length values ≡ suc m → Fits a (K (suc m)) → ¬ IsWhole (size a (suc m)) → EachHolds (size_closing a (Some values) (suc m))
  size_closes m inside count fits broken =
      let back : suc m - 1 ≡ m = omega arith in
      let is = are m (omega (arith, count)) in
      rw back (
        at_most _ _ (omega (arith, count)),
        (
          in_the_range _ _ (dividend a m _ array inside is) fits,
          (not_divided _ _ (c-positive a m array inside) (λ (t, e). broken (subst IsWhole (sym (size_is a m _ array inside is t (sym e))) (is_whole t))), tt),
        ),
      )

  module _ (count : length values ≡ suc (diameter a)) where
    pub full : sizes.is_full a (Some values) ≡ true
    full = are_same _ _ (omega (arith, count))

    pub vertices : vertex_count a ≡ whole (sizes.vertex_count (Some values))
    vertices =
        let P : ℕ → Type 0 = λ n. total (whole (pos 0)) plus n (size a) ≡ whole (sum_from (pos 0) values) in
        subst P count (sym (rationals.plus_nil _) ∙ (rationals.plus_comm _ (whole (pos 0)) ∙ sum_is (size a) values (pos 0) are))

    at : (i : ℕ) → i ≤ diameter a → size a i ≡ whole (sizes.size_at (Some values) i)
    at i hi = are i (omega (arith, hi, count))

    pub handshake_closes : (i : ℕ) → i ≤ diameter a → ¬ IsWholeMultiple 2 (times (vertex_count a) (size a i)) → EachHolds (handshake_closing a (Some values) i)
    handshake_closes i hi never = (full, (broken 2 _ _ (omega arith) (product_is _ _ _ _ vertices (at i hi)) never, tt))

    module _ (i : ℕ) (hi : i ≤ diameter a) (q : ℕ → ℕ → ℚ) (rows : List (List ℤ)) (stands : length rows ≡ i) (stated : AreStated a i q rows) where
      pub induced_closes : (j : ℕ) → j ≤ diameter a → ¬ IsWholeMultiple 2 (times (size a i) (q i j)) → EachHolds (induced_closing a (Some values) rows i j)
      induced_closes j hj never =
          (full, (at_most _ _ (omega (arith, stands)), (broken 2 _ _ (omega arith) (product_is _ _ _ _ (at i hi) (stated.are i j (omega (arith, stands)) hj)) never, tt)))

      pub triangles_closes : ¬ IsWholeMultiple 6 (times (vertex_count a) (times (size a i) (q i i))) → EachHolds (triangles_closing a (Some values) rows i)
      triangles_closes never =
          let sides = product_is _ _ _ _ vertices (at i hi) in
          let all = product_is _ _ _ _ sides (stated.are i i (omega (arith, stands)) hi) in
          (full, (at_most _ _ (omega (arith, stands)), (broken 6 _ _ (omega arith) (sym (rationals.times_assoc _ _ _) ∙ all) never, tt)))

-- ---- a balance that no natural number meets
not_negative : (c : ℕ) (t : ℤ) → 1 ≤ c → pos 0 ≤ℤ (pos c *ℤ t) → IsNatural (whole t)
not_negative c (pos n) positive h = (n, refl)
not_negative zero (negsuc n) positive h = absurd (omega arith)
not_negative (suc c) (negsuc n) positive h = absurd (omega (arith, ints, h))

no_quotient : (c : ℕ) (x : ℚ) (z : ℤ) → 1 ≤ c → times (whole (pos c)) x ≡ whole z → ¬ IsNatural x → (int_lt z (pos 0) || not (divides c z)) ≡ true
no_quotient c x z positive is never =
    elim (decided (int_lt z (pos 0))) [
      | inl below ↦ one _ _ (inl below)
      | inr above ↦ one _ _ (inr (not_divided c z positive (λ (t, e). (let natural : pos 0 ≤ℤ z = omega (arith, ints, above) in
          let same : x ≡ whole t = cancel-whole c x (whole t) positive (is ∙ (ap whole e ∙ whole_map.times (pos c) t)) in
          never (subst IsNatural (sym same) (not_negative c t positive (subst (λ y. pos 0 ≤ℤ y) e natural)))))))
    ]

pub intersect_closes : (a : Entries) (h : ℕ) (q : ℕ → ℕ → ℚ) (qs : AreIntersectionNumbers a h q) (array : IsArray a) (rows : List (List ℤ)) (m j : ℕ) → suc m ≤ diameter a → j ≤ diameter a → length rows ≡ m
    → AreStated a h q rows → Fits a (P h (suc m) j) → ¬ IsNatural (q (suc m) j) → EachHolds (intersect_closing a h rows (suc m) j)
intersect_closes a h q qs array rows m j inside hj count stated fits never =
    let back : suc m - 1 ≡ m = omega arith in
    let stands : m ≤ length rows = omega (arith, count) in
    rw back (
      at_most 1 (suc m) (omega arith),
      (
        at_most _ _ stands,
        (
          sum_passes a h q qs array rows stated m j stands hj fits,
          (no_quotient (c_at a (suc m)) (q (suc m) j) _ (c-positive a m array inside) (meet a h q qs array rows stated m j stands hj inside) never, tt),
        ),
      ),
    )
