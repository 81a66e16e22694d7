-- Rows that were met one after the other are rows of intersection numbers.
use Rattle.std.proofs.Common.{◌≡◌, ℕ, zero, suc, ◌+◌, ◌<◌, ◌≤◌, Bool, true, false, List, [], ◌∷◌, ◌++◌, length, refl, sym, subst, ap, ◌∙◌, arith, inl, inr}
use Rattle.std.specs.Prelude.{ℤ, pos, neg_ℤ, ◌+ℤ◌, ◌-ℤ◌, ◌*ℤ◌, ◌⊎◌, ◌==◌, slice_index_or, slice_set, replicate, if◌then◌else◌}
use Rattle.std.proofs.lemmas.Int.{ints}
use Rattle.drg_algebra.specs.Sums.{bit}
use Rattle.drg_algebra.specs.Ring.{◌⊗◌, neg}
use Rattle.drg_algebra.specs.Integer.{integers, ring2}
use Rattle.drg_array.specs.Entries.{Entries, diameter, b_at, c_at, a_at}
use Rattle.drg_graph.specs.Numbers.{numerator, AreRows}
use Rattle.drg_replay.specs.Steps.{EachHolds}
use Rattle.drg_replay.specs.Rows.{rows_at, entry, balance, balance_sum, balances_from, row_steps}
use Rattle.drg_replay.proofs.StepLaws.{at_most, not_at_most, is_same, is_whole_same}

-- a numerator reads the rows i and i - 1 alone
numerator_same : (a : Entries) (p q : ℕ → ℕ → ℤ) (i j : ℕ) → ((t l : ℕ) → t ≤ i → p t l ≡ q t l) → numerator a p i j ≡ numerator a q i j
numerator_same a p q zero zero same = rw (same 0 0 (omega arith), same 0 1 (omega arith)) refl
numerator_same a p q zero (suc j) same =
    rw (same 0 j (omega arith), same 0 (suc j) (omega arith), same 0 (suc (suc j)) (omega arith)) refl
numerator_same a p q (suc i) zero same =
    rw (same (suc i) 0 (omega arith), same (suc i) 1 (omega arith), same i 0 (omega arith)) refl
numerator_same a p q (suc i) (suc j) same =
    rw (same (suc i) j (omega arith), same (suc i) (suc j) (omega arith), same (suc i) (suc (suc j)) (omega arith), same i (suc j) (omega arith)) refl

rows_same : (a : Entries) (h m : ℕ) (p q : ℕ → ℕ → ℤ) → ((t l : ℕ) → t ≤ m → p t l ≡ q t l) → AreRows a h m p → AreRows a h m q
rows_same a h m p q same rows =
    record {
      start = λ j hj. sym (same 0 j (omega arith)) ∙ rows.start j hj;
      next = λ i j hi hj. ap (λ z. pos (c_at a (suc i)) *ℤ z) (sym (same (suc i) j hi))
          ∙ (rows.next i j hi hj ∙ numerator_same a p q i j (λ t l ht. same t l (omega (arith, ht, hi))));
    }

pub fewer_rows : (a : Entries) (h m n : ℕ) (p : ℕ → ℕ → ℤ) → m ≤ n → AreRows a h n p → AreRows a h m p
fewer_rows a h m n p less rows = record { start = rows.start; next = λ i j hi hj. rows.next i j (omega arith) hj }

pub two_cases : (i m : ℕ) → i < suc m → (i ≡ m) ⊎ (i < m)
two_cases zero zero h = inl refl
two_cases zero (suc m) h = inr (omega arith)
two_cases (suc i) zero h = absurd (omega arith)
two_cases (suc i) (suc m) h = elim (two_cases i m (omega arith)) [ inl e ↦ inl (ap suc e) | inr less ↦ inr (omega arith) ]

-- one row more
rows_more : (a : Entries) (h m : ℕ) (p : ℕ → ℕ → ℤ) → AreRows a h m p
    → ((j : ℕ) → j ≤ diameter a → pos (c_at a (suc m)) *ℤ p (suc m) j ≡ numerator a p m j) → AreRows a h (suc m) p
rows_more a h m p rows last =
    record {
      start = rows.start;
      next = λ i j hi hj. elim (two_cases i m hi) [
        | inl same ↦ (let P : ℕ → Type 0 = λ t. pos (c_at a (suc t)) *ℤ p (suc t) j ≡ numerator a p t j in subst P (sym same) (last j hj))
        | inr less ↦ rows.next i j less hj
      ];
    }

-- the last two terms are subtracted
less_product : (x y : ℤ) → neg_ℤ x *ℤ y ≡ neg_ℤ (x *ℤ y)
less_product x y = ring2 integers (λ x y. neg x ⊗ y) (λ x y. neg (x ⊗ y)) refl x y

six_terms : (t u v x s y z : ℤ) → pos 0 +ℤ t +ℤ u +ℤ v +ℤ (neg_ℤ x *ℤ s) +ℤ (neg_ℤ y *ℤ z) ≡ t +ℤ u +ℤ v -ℤ (x *ℤ s) -ℤ (y *ℤ z)
six_terms t u v x s y z = let e = less_product x s in let f = less_product y z in omega (arith, ints)

-- the sum of the terms is the numerator
pub balance_is : (a : Entries) (h : ℕ) (rows : List (List ℤ)) (i j : ℕ) → balance_sum a h rows i j ≡ numerator a (entry h rows) i j
unfolding balance
balance_is a h rows zero zero = six_terms (pos 0) (a_at a zero *ℤ entry h rows zero zero) (pos (c_at a (suc zero)) *ℤ entry h rows zero (suc zero)) (pos 0) (pos 0) (a_at a zero) (entry h rows zero zero)
balance_is a h rows zero (suc j) = six_terms (pos (b_at a j) *ℤ entry h rows zero j) (a_at a (suc j) *ℤ entry h rows zero (suc j)) (pos (c_at a (suc (suc j))) *ℤ entry h rows zero (suc (suc j))) (pos 0) (pos 0) (a_at a zero) (entry h rows zero (suc j))
balance_is a h rows (suc i) zero = six_terms (pos 0) (a_at a zero *ℤ entry h rows (suc i) zero) (pos (c_at a (suc zero)) *ℤ entry h rows (suc i) (suc zero)) (pos (b_at a i)) (entry h rows i zero) (a_at a (suc i)) (entry h rows (suc i) zero)
balance_is a h rows (suc i) (suc j) = six_terms (pos (b_at a j) *ℤ entry h rows (suc i) j) (a_at a (suc j) *ℤ entry h rows (suc i) (suc j)) (pos (c_at a (suc (suc j))) *ℤ entry h rows (suc i) (suc (suc j))) (pos (b_at a i)) (entry h rows i (suc j)) (a_at a (suc i)) (entry h rows (suc i) (suc j))

pub start_entry : (h j : ℕ) (b : Bool) → (if b then pos 1 else pos 0) ≡ pos (bit b)
start_entry h j true = refl
start_entry h j false = refl

-- the rows of h are rows of intersection numbers
pub record Rowed (a : Entries) (h : ℕ) (rows : List (List ℤ)) : Type 0 where
  pub short : length rows ≤ diameter a
  pub are : AreRows a h (length rows) (entry h rows)

pub no_rows : (a : Entries) (h : ℕ) → Rowed a h []
no_rows a h = record {
  short = omega arith;
  are = record { start = λ j hj. start_entry h j (j == h); next = λ i j hi hj. absurd (omega arith) };
}

-- a row before the last is as it was
pub front : (rows : List (List ℤ)) (last : List ℤ) (i : ℕ) → i < length rows → slice_index_or (rows ++ last ∷ []) i [] ≡ slice_index_or rows i []
front [] last i h = absurd (omega arith)
front (row ∷ rows) last zero h = refl
front (row ∷ rows) last (suc i) h = front rows last i (omega arith)

pub end : (rows : List (List ℤ)) (last : List ℤ) → slice_index_or (rows ++ last ∷ []) (length rows) [] ≡ last
end [] last = refl
end (row ∷ rows) last = end rows last

pub entry_front : (h : ℕ) (rows : List (List ℤ)) (last : List ℤ) (t l : ℕ) → t ≤ length rows → entry h rows t l ≡ entry h (rows ++ last ∷ []) t l
entry_front h rows last zero l less = refl
entry_front h rows last (suc t) l less = ap (λ row. slice_index_or row l (pos 0)) (sym (front rows last t (omega arith)))

pub entry_end : (h : ℕ) (rows : List (List ℤ)) (last : List ℤ) (l : ℕ) → entry h (rows ++ last ∷ []) (suc (length rows)) l ≡ slice_index_or last l (pos 0)
entry_end h rows last l = ap (λ row. slice_index_or row l (pos 0)) (end rows last)

balance_at : (a : Entries) (h : ℕ) (rows : List (List ℤ)) (i j : ℕ) (values : List ℤ) (k l : ℕ) → EachHolds (balances_from a h rows i j values) → l ≡ j + k → k < length values
    → pos (c_at a (suc i)) *ℤ slice_index_or values k (pos 0) ≡ balance_sum a h rows i l
balance_at a h rows i j [] k l holds e less = absurd (omega arith)
balance_at a h rows i j (v ∷ vs) zero l holds e less = let same : l ≡ j = omega arith in rw same (is_whole_same _ _ holds.1.1.0)
balance_at a h rows i j (v ∷ vs) (suc k) l holds e less = balance_at a h rows i (suc j) vs k l holds.1.1.1 (omega arith) (omega arith)

pub length_more : (rows : List (List ℤ)) (last : List ℤ) → length (rows ++ last ∷ []) ≡ suc (length rows)
length_more [] last = refl
length_more (row ∷ rows) last = ap suc (length_more rows last)

-- a met row is the next one
row_next : (a : Entries) (h : ℕ) (rows : List (List ℤ)) (i : ℕ) (values : List ℤ) → i ≡ length rows → suc i ≤ diameter a → length values ≡ diameter a + 1 → EachHolds (balances_from a h rows i 0 values)
    → Rowed a h rows → Rowed a h (rows ++ values ∷ [])
row_next a h rows i values at inside size balances rowed =
    let more = length_more rows values in
    let P : ℕ → Type 0 = λ n. EachHolds (balances_from a h rows n 0 values) in
    let here : EachHolds (balances_from a h rows (length rows) 0 values) = subst P at balances in
    let whole : AreRows a h (suc (length rows)) (entry h (rows ++ values ∷ [])) =
    rows_more a h (length rows) (entry h (rows ++ values ∷ []))
    (rows_same a h (length rows) (entry h rows) (entry h (rows ++ values ∷ [])) (entry_front h rows values) rowed.are)
    (λ j hj. ap (λ z. pos (c_at a (suc (length rows))) *ℤ z) (entry_end h rows values j)
    ∙ (balance_at a h rows (length rows) 0 values j j here (omega arith) (omega arith)
    ∙ (balance_is a h rows (length rows) j
    ∙ numerator_same a (entry h rows) (entry h (rows ++ values ∷ [])) (length rows) j (entry_front h rows values)))) in
    let Q : ℕ → Type 0 = λ n. AreRows a h n (entry h (rows ++ values ∷ [])) in
    record { short = omega arith; are = subst Q (sym more) whole }

pub row_met : (a : Entries) (h : ℕ) (rows : List (List ℤ)) (i : ℕ) (values : List ℤ) → suc i ≤ diameter a → EachHolds (row_steps a h rows i values)
    → Rowed a h rows → Rowed a h (rows ++ values ∷ [])
row_met a h rows i values inside steps rowed =
    let past = not_at_most (suc i) (length rows) steps.0 in
    let stands = at_most i (length rows) steps.1.0 in
    row_next a h rows i values (omega arith) inside (is_same _ _ steps.1.1.0) steps.1.1.1 rowed

-- a change of the rows of one upper index
pub set_at : (rows : List (List (List ℤ))) (y k : ℕ) (new : List (List ℤ)) → (rows_at (slice_set rows y new) k ≡ rows_at rows k) ⊎ ((k ≡ y) × (rows_at (slice_set rows y new) k ≡ new))
set_at [] y k new = inl refl
set_at (r ∷ rows) zero zero new = inr (refl, refl)
set_at (r ∷ rows) zero (suc k) new = inl refl
set_at (r ∷ rows) (suc y) zero new = inl refl
set_at (r ∷ rows) (suc y) (suc k) new = elim (set_at rows y k new) [ inl e ↦ inl e | inr p ↦ inr (ap suc p.0, p.1) ]

pub set_rowed : (a : Entries) (rows : List (List (List ℤ))) (y : ℕ) (new : List (List ℤ)) → ((h : ℕ) → Rowed a h (rows_at rows h)) → Rowed a y new
    → (h : ℕ) → Rowed a h (rows_at (slice_set rows y new) h)
set_rowed a rows y new old is h = elim (set_at rows y h new) [
  | inl e ↦ (let P : List (List ℤ) → Type 0 = λ r. Rowed a h r in subst P (sym e) (old h))
  | inr p ↦ (let P : List (List ℤ) → Type 0 = λ r. Rowed a h r in
      let Q : ℕ → Type 0 = λ n. Rowed a n new in subst P (sym p.1) (subst Q (sym p.0) is))
]

pub no_rows_at : (n h : ℕ) → rows_at (replicate n []) h ≡ []
no_rows_at zero h = refl
no_rows_at (suc n) zero = refl
no_rows_at (suc n) (suc h) = no_rows_at n h

pub first_rowed : (a : Entries) (n h : ℕ) → Rowed a h (rows_at (replicate n []) h)
first_rowed a n h = let P : List (List ℤ) → Type 0 = λ r. Rowed a h r in subst P (sym (no_rows_at n h)) (no_rows a h)
