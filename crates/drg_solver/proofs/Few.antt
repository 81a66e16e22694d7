-- Different places among those of leaves that wait are no more than these.
use Rattle.std.proofs.Common.{◌≡◌, ℕ, ◌+◌, ◌≤◌, false, List, [], ◌∷◌, length, sym, ◌∙◌, arith, inl, inr, eqb, eq-eqb}
use Rattle.std.specs.List.{All, IsDistinct, AllByRecursion}
use Rattle.std.proofs.lemmas.List.Elements.{All-nil, All-cons, All-head, All-tail}
use Rattle.std.proofs.lemmas.Bool.{false≢true}
use Rattle.drg_solver.specs.declared.leaf.Leaf.{Leaf}
use Rattle.drg_solver.specs.Leaves.{IsHeld}

-- a leaf that waits is taken out
without : (k : ℕ) (waiting : List Leaf) → IsHeld k waiting → List Leaf
without k [] h = []
without k (w ∷ waiting) (inl e) = waiting
without k (w ∷ waiting) (inr h) = w ∷ without k waiting h

length_without : (k : ℕ) (waiting : List Leaf) (h : IsHeld k waiting) → length (without k waiting h) + 1 ≡ length waiting
unfolding without
length_without k [] h = absurd h
length_without k (w ∷ waiting) (inl e) = omega arith
length_without k (w ∷ waiting) (inr h) = (let rest = length_without k waiting h in omega (arith, rest))

-- the others stay
held_without : (k j : ℕ) (waiting : List Leaf) (h : IsHeld k waiting) → (k ≡ j → ⊥) → IsHeld j waiting → IsHeld j (without k waiting h)
unfolding without
held_without k j [] h apart i = absurd h
held_without k j (w ∷ waiting) (inl e) apart (inl d) = absurd (apart (sym e ∙ d))
held_without k j (w ∷ waiting) (inl e) apart (inr i) = i
held_without k j (w ∷ waiting) (inr h) apart (inl d) = inl d
held_without k j (w ∷ waiting) (inr h) apart (inr i) = inr (held_without k j waiting h apart i)

all_held : (k : ℕ) (places : List ℕ) (waiting : List Leaf) (h : IsHeld k waiting) → AllByRecursion (λ y. eqb k y ≡ false) places
    → All (λ j. IsHeld j waiting) places → All (λ j. IsHeld j (without k waiting h)) places
all_held k [] waiting h apart all = All-nil (λ j. IsHeld j (without k waiting h))
all_held k (j ∷ places) waiting h apart all =
    let here = All-head (λ i. IsHeld i waiting) j places all in
    let rest = All-tail (λ i. IsHeld i waiting) j places all in
    let differ = λ (e : k ≡ j). false≢true (sym apart.0 ∙ eq-eqb k j e) in
    All-cons (λ i. IsHeld i (without k waiting h)) j places (held_without k j waiting h differ here) (all_held k places waiting h apart.1 rest)

pub distinct_few : (places : List ℕ) (waiting : List Leaf) → IsDistinct eqb places → All (λ k. IsHeld k waiting) places → length places ≤ length waiting
unfolding IsDistinct
distinct_few [] waiting d all = omega arith
distinct_few (k ∷ places) waiting d all =
    let here = All-head (λ j. IsHeld j waiting) k places all in
    let rest = All-tail (λ j. IsHeld j waiting) k places all in
    let less = length_without k waiting here in
    let few = distinct_few places (without k waiting here) d.1 (all_held k places waiting here d.0 rest) in
    omega (arith, less, few)
