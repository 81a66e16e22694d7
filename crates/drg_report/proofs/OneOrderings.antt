-- The orderings of tables with the same zeros have one list.
use Rattle.std.proofs.Common.{◌≡◌, ℕ, zero, suc, ◌<◌, ◌≤◌, ◌⊎◌, inl, inr, List, [], ◌∷◌, length, map, refl, sym, ◌∙◌, ap₂, subst, arith}
use Rattle.std.specs.Prelude.{Contains, ◌↔◌}
use Rattle.std.specs.List.{AllPairs}
use Rattle.std.proofs.lemmas.List.{get_or-map, length-map}
use Rattle.std.proofs.lemmas.List.Kept.{AllPairs-from_increasing}
use Rattle.drg_orderings.specs.Orderings.{AreOrderings, IsOrdering, index_at}

-- ---- lists that ascend by a number of their items
module _ {A : Type 0} (f : A → ℕ) where
  abbrev Ascends : List A → Type 0
  Ascends xs = AllPairs (λ x y. f x < f y) xs

  above_head : (x : A) (xs : List A) → Ascends (x ∷ xs) → (y : A) → Contains xs y → f x < f y
  above_head x xs up y (k, inside, e) = subst (λ (z : A). f x < f z) e (up 0 (suc k) y (omega arith) (omega (arith, inside)))

  of_tail : (x : A) (xs : List A) → Ascends (x ∷ xs) → Ascends xs
  of_tail x xs up i j d less inside = up (suc i) (suc j) d (omega (arith, less)) (omega (arith, inside))

  either : (y x : A) (xs : List A) → Contains (x ∷ xs) y → (x ≡ y) ⊎ Contains xs y
  either y x xs (zero, inside, e) = inl e
  either y x xs (suc k, inside, e) = inr (k, omega (arith, inside), e)

  later : (y x : A) (xs : List A) → Contains xs y → Contains (x ∷ xs) y
  later y x xs (k, inside, e) = (suc k, omega (arith, inside), e)

  head : (x : A) (xs : List A) → Contains (x ∷ xs) x
  head x xs = (0, omega arith, refl)

  same_head : (x y : A) (xs ys : List A) → Ascends (x ∷ xs) → Ascends (y ∷ ys) → Contains (y ∷ ys) x → Contains (x ∷ xs) y → x ≡ y
  same_head x y xs ys up also here there =
      elim (either x y ys here) [
        | inl e ↦ sym e
        | inr more ↦ elim (either y x xs there) [
          | inl e ↦ e
          | inr last ↦ (let less = above_head y ys also x more in let above = above_head x xs up y last in absurd (omega (arith, less, above)))
        ]
      ]

  into_tail : (x z : A) (xs ys : List A) → Ascends (x ∷ xs) → ((w : A) → Contains (x ∷ xs) w → Contains (x ∷ ys) w) → Contains xs z → Contains ys z
  into_tail x z xs ys up into h =
      elim (either z x ys (into z (later z x xs h))) [
        | inl e ↦ (let less = subst (λ (w : A). f x < f w) (sym e) (above_head x xs up z h) in absurd (omega (arith, less)))
        | inr more ↦ more
      ]

  pub one_ascending : (xs ys : List A) → Ascends xs → Ascends ys → ((x : A) → Contains xs x ↔ Contains ys x) → xs ≡ ys
  one_ascending [] [] up also same = refl
  one_ascending [] (y ∷ ys) up also same = (let none = (same y).1 (head y ys) in absurd (omega (arith, none.1)))
  one_ascending (x ∷ xs) [] up also same = (let none = (same x).0 (head x xs) in absurd (omega (arith, none.1)))
  one_ascending (x ∷ xs) (y ∷ ys) up also same =
      let e = same_head x y xs ys up also ((same x).0 (head x xs)) ((same y).1 (head y ys)) in
      let into : (w : A) → Contains (x ∷ xs) w → Contains (x ∷ ys) w = λ w h. subst (λ v. Contains (v ∷ ys) w) (sym e) ((same w).0 h) in
      let back : (w : A) → Contains (x ∷ ys) w → Contains (x ∷ xs) w = λ w h. (same w).1 (subst (λ v. Contains (v ∷ ys) w) e h) in
      let up_ys : Ascends (x ∷ ys) = subst (λ v. Ascends (v ∷ ys)) (sym e) also in
      ap₂ (λ v vs. v ∷ vs) e (one_ascending xs ys (of_tail x xs up) (of_tail y ys also) (λ z. (into_tail x z xs ys up into, into_tail x z ys xs up_ys back)))

module _ (d : ℕ) (Y Z : ℕ → ℕ → ℕ → Type 0) (same : (h i j : ℕ) → h ≤ d → i ≤ d → j ≤ d → Y h i j ↔ Z h i j) where
  moved : (order : List ℕ) → IsOrdering d Y order → IsOrdering d Z order
  moved order o = record {
    some = o.some;
    count = o.count;
    within = o.within;
    once = o.once;
    every = o.every;
    entries = λ h j first second.
        let at = same (index_at order h) (index_at order 1) (index_at order j) (o.within h first) (o.within 1 o.some) (o.within j second) in
        record {
          apart = λ far. at.0 ((o.entries h j first second).apart far);
          next = λ near zero. (o.entries h j first second).next near (at.1 zero);
        };
  }

module _ (d : ℕ) (Y Z : ℕ → ℕ → ℕ → Type 0) (same : (h i j : ℕ) → h ≤ d → i ≤ d → j ≤ d → Y h i j ↔ Z h i j) where
  ascends : (W : ℕ → ℕ → ℕ → Type 0) (orders : List (List ℕ)) → AreOrderings (IsOrdering d W) orders → Ascends (λ (order : List ℕ). index_at order 1) orders
  ascends W orders are i j order less inside =
      let f : List ℕ → ℕ = λ (order : List ℕ). index_at order 1 in
      let count = length-map orders f in
      let up = AllPairs-from_increasing (map f orders) are.ascending i j 0 less (omega (arith, inside, count)) in
      let low = get_or-map f orders i order 0 (omega (arith, less, inside)) in
      let high = get_or-map f orders j order 0 inside in
      omega (arith, up, low, high)

  pub one_orderings : (orders others : List (List ℕ)) → AreOrderings (IsOrdering d Y) orders → AreOrderings (IsOrdering d Z) others → orders ≡ others
  one_orderings orders others are also =
      one_ascending (λ (order : List ℕ). index_at order 1) orders others (ascends Y orders are) (ascends Z others also)
      (λ order. (
        λ h. (also.members order).1 (moved d Y Z same order ((are.members order).0 h)),
        λ h. (are.members order).1 (moved d Z Y (λ h i j a b c. ((same h i j a b c).1, (same h i j a b c).0)) order ((also.members order).0 h)),
      ))
