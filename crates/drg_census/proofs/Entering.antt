-- The entries of an array of a census that begins with given ones.
use Rattle.std.proofs.Common.{◌≡◌, ℕ, zero, suc, ◌+◌, ◌-◌, ◌≤◌, ◌<◌, List, [], ◌∷◌, ◌++◌, length, take, drop, refl, sym, ap, ap₂, subst, ◌∙◌, arith, ◌⊎◌, inl, inr}
use Rattle.std.specs.Prelude.{slice_index}
use Rattle.std.specs.List.{AllByRecursion}
use Rattle.std.proofs.Math.Seq.{take-append_seam, drop-append_seam}
use Rattle.std.proofs.lemmas.Bool.{cases_lt}
use Rattle.std.proofs.lemmas.List.{get_or_append_left, get_or-append-add, length-append, append-nil, append_assoc}
use Rattle.drg_array.specs.Entries.{Entries, IsArray, IsEntry, diameter, b_at, c_at}
use Rattle.drg_array.proofs.EntryLemmas.{c-end}
use Rattle.drg_census.specs.Begins.{BeginsWith}
use Rattle.drg_census.specs.Census.{InCensus, IsWithinLimits, in_order}
use Rattle.drg_census.proofs.Fitting.{b_small, c_small}

-- ---- by places
pub b_entry : (a : Entries) (i : ℕ) → i < diameter a → slice_index (in_order a) i ≡ b_at a i
b_entry a i h = get_or_append_left a.b a.c 0 i h

pub c_entry : (a : Entries) (i : ℕ) → slice_index (in_order a) (diameter a + i) ≡ c_at a (suc i)
c_entry a i = get_or-append-add a.b a.c i 0

pub begun : (xs : List ℕ) (a : Entries) → BeginsWith xs a → (i : ℕ) → i < length xs → slice_index xs i ≡ slice_index (in_order a) i
begun xs a (rest, e) i h = sym (ap (λ v. slice_index v i) e ∙ get_or_append_left xs rest 0 i h)

-- ---- how many there are
pub entry_count : (a : Entries) → IsArray a → length (in_order a) ≡ diameter a + diameter a
entry_count a array =
    let l = length-append a.b a.c in
    let s = array.same_length in
    omega arith

no_rest : (rest : List ℕ) → length rest ≡ 0 → rest ≡ []
no_rest [] e = refl
no_rest (x ∷ rest) e = absurd (omega arith)

pub all_entries : (xs : List ℕ) (a : Entries) → IsArray a → length xs ≡ diameter a + diameter a → BeginsWith xs a → in_order a ≡ xs
all_entries xs a array l (rest, e) =
    let long : length (in_order a) ≡ length xs + length rest = ap length e ∙ length-append xs rest in
    let count = entry_count a array in
    let none : rest ≡ [] = no_rest rest (omega arith) in
    e ∙ ap (λ r. xs ++ r) none ∙ append-nil xs

-- an array is known by its entries
pub first_half : (a : Entries) (xs : List ℕ) (d : ℕ) → in_order a ≡ xs → diameter a ≡ d → take d xs ≡ a.b
first_half a xs d e l = ap₂ (λ (i : ℕ) (v : List ℕ). take i v) (sym l) (sym e) ∙ take-append_seam a.b a.c

pub second_half : (a : Entries) (xs : List ℕ) (d : ℕ) → in_order a ≡ xs → diameter a ≡ d → drop d xs ≡ a.c
second_half a xs d e l = ap₂ (λ (i : ℕ) (v : List ℕ). drop i v) (sym l) (sym e) ∙ drop-append_seam a.b a.c

pub same_entries : (a b : Entries) → in_order a ≡ in_order b → diameter a ≡ diameter b → a ≡ b
same_entries a b e l =
    let one = sym (first_half a (in_order b) (diameter b) e l) ∙ first_half b (in_order b) (diameter b) refl refl in
    let two = sym (second_half a (in_order b) (diameter b) e l) ∙ second_half b (in_order b) (diameter b) refl refl in
    λ i. record { b = one i; c = two i }

-- ---- one entry more
pub shorter : (xs : List ℕ) (v : ℕ) (a : Entries) → BeginsWith (xs ++ v ∷ []) a → BeginsWith xs a
shorter xs v a (rest, e) = (v ∷ rest, e ∙ append_assoc xs (v ∷ []) rest)

pub longer : (xs : List ℕ) (a : Entries) → BeginsWith xs a → length xs < length (in_order a) → (v : ℕ) × BeginsWith (xs ++ v ∷ []) a
longer xs a (rest, e) h = go rest e
  where
    go : (r : List ℕ) → in_order a ≡ xs ++ r → (v : ℕ) × BeginsWith (xs ++ v ∷ []) a
    go [] f =
        let same : length (in_order a) ≡ length xs = ap length (f ∙ append-nil xs) in
        absurd (omega arith)
    go (v ∷ r) f = (v, (r, f ∙ sym (append_assoc xs (v ∷ []) r)))

pub next_entry : (xs : List ℕ) (v : ℕ) (a : Entries) → BeginsWith (xs ++ v ∷ []) a → v ≡ slice_index (in_order a) (length xs)
next_entry xs v a (rest, e) =
    let f : in_order a ≡ xs ++ v ∷ rest = e ∙ append_assoc xs (v ∷ []) rest in
    sym (ap (λ w. slice_index w (length xs)) f ∙ (let s = get_or-append-add xs (v ∷ rest) 0 0 in let z : length xs + 0 ≡ length xs = omega arith in subst (λ i. slice_index (xs ++ v ∷ rest) i ≡ v) z s))

-- ---- each entry is from 1 to the valency
all_append : (xs ys : List ℕ) → AllByRecursion IsEntry xs → AllByRecursion IsEntry ys → AllByRecursion IsEntry (xs ++ ys)
all_append [] ys h k = k
all_append (x ∷ xs) ys h k = (h.0, all_append xs ys h.1 k)

one_of_all : (xs r : List ℕ) (v : ℕ) → AllByRecursion IsEntry (xs ++ v ∷ r) → IsEntry v
one_of_all [] r v h = h.0
one_of_all (x ∷ xs) r v h = one_of_all xs r v h.1

pub entry_some : (xs : List ℕ) (v : ℕ) (a : Entries) → IsArray a → BeginsWith (xs ++ v ∷ []) a → 1 ≤ v
entry_some xs v a array (rest, e) =
    let f : in_order a ≡ xs ++ v ∷ rest = e ∙ append_assoc xs (v ∷ []) rest in
    (one_of_all xs rest v (subst (AllByRecursion IsEntry) f (all_append a.b a.c array.entries_b array.entries_c))).0

module _ (d k n : ℕ) (a : Entries) (limits : IsWithinLimits d k n) (is : InCensus d k n a) where
  entry_at_most : (i : ℕ) → slice_index (in_order a) i ≤ k
  entry_at_most i = elim (cases_lt i (diameter a)) [
    | inl less ↦ (let e = b_entry a i less in let s = b_small d k n a limits is i (omega arith) in omega arith)
    | inr more ↦ second (i - diameter a) (omega arith)
  ]
    where
      second : (j : ℕ) → i ≡ diameter a + j → slice_index (in_order a) i ≤ k
      second j e = subst (λ t. slice_index (in_order a) t ≤ k) (sym e) (elim (cases_lt j (diameter a)) [
        | inl less ↦ (let f = c_entry a j in let s = c_small d k n a limits is (suc j) (omega arith) in omega arith)
        | inr more ↦ (let f = c_entry a j in let z = c-end a j is.array more in omega arith)
      ])

  pub entry_below : (xs : List ℕ) (v : ℕ) → BeginsWith (xs ++ v ∷ []) a → v < k + 1
  entry_below xs v b = let e = next_entry xs v a b in let l = entry_at_most (length xs) in omega arith
