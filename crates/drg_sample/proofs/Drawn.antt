-- What is drawn is an array, and arrays are generated one after another.
use Rattle.std.proofs.Common.{◌≡◌, ◌∙◌, ◌+◌, ◌-◌, ◌*◌, ◌%◌, ◌≤◌, ◌<◌, ◌++◌, ◌∷◌, [], refl, sym, ap, ap₂, arith, ℕ, zero, suc, List, length, map, min, max}
use Rattle.std.specs.List.{AllByRecursion, range_with_len}
use Rattle.std.proofs.lemmas.List.FromFn.{length-map-range_with_len, map-range_with_len_more}
use Rattle.drg_array.specs.Entries.{Entries, IsArray, IsEntry}
use Rattle.drg_sample.specs.Draws.{draw, next_state, state_after}
use Rattle.drg_sample.specs.Generated.{drawn_array, drawn_diameter, drawn_valency, falling, generated, rising, state_after_array}
use Rattle.drg_sample.specs.Laws.{AsManyGenerated, DrawnIsArray}
use Rattle.drg_sample.proofs.Draws.{later_draw, one_more, state_after_more}

pub falling_within : (state first i : ℕ) → 1 ≤ first → (1 ≤ falling state first i) × (falling state first i ≤ first)
falling_within state first zero h = (h, omega arith)
falling_within state first (suc i) h = let more = falling_within state first i h in (omega arith, omega (arith, h, more.1))

pub rising_within : (state most i : ℕ) → 1 ≤ most → (1 ≤ rising state most i) × (rising state most i ≤ most)
rising_within state most zero h = (omega arith, h)
rising_within state most (suc i) h = let more = rising_within state most i h in (omega (arith, h, more.0), omega arith)

all_of : (P : ℕ → Type 0) (f : ℕ → ℕ) → ((i : ℕ) → P (f i)) → (a n : ℕ) → AllByRecursion P (map f (range_with_len a n))
all_of P f h a zero = tt
all_of P f h a (suc n) = (h a, all_of P f h (a + 1) n)

low_rest : (x n : ℕ) → 1 ≤ n → x % n ≤ n - 1
low_rest x n h = omega arith

entry : (n : ℕ) → 1 ≤ n → n ≤ 32 → IsEntry n
entry n low high = (low, omega (arith, high))

pub drawn_is_array : DrawnIsArray
drawn_is_array state =
    let d = drawn_diameter state in
    let k = drawn_valency state in
    let long = low_rest (draw state 0) 2 (omega arith) in
    let large = low_rest (draw state 1) 30 (omega arith) in
    let b = falling (state_after 2 state) k in
    let c = rising (state_after (1 + d) state) k in
    let of_b = length-map-range_with_len b 0 d in
    let of_c = length-map-range_with_len c 0 d in
    record {
      same_length = of_b ∙ sym of_c;
      some = omega (arith, of_b);
      short = omega (arith, of_b, long);
      entries_b = all_of IsEntry b (λ i. let h = falling_within (state_after 2 state) k i (omega arith) in entry (b i) h.0 (omega (arith, h.1, large))) 0 d;
      entries_c = all_of IsEntry c (λ i. let h = rising_within (state_after (1 + d) state) k i (omega arith) in entry (c i) h.0 (omega (arith, h.1, large))) 0 d;
    }

pub as_many : AsManyGenerated
as_many seed zero = refl
as_many seed (suc count) = ap suc (as_many (state_after_array seed) count)

-- the state after some arrays
abbrev pub state_after_arrays : ℕ → ℕ → ℕ
state_after_arrays zero seed = seed
state_after_arrays (suc n) seed = state_after_arrays n (state_after_array seed)

pub one_more_array : (n seed : ℕ) → state_after_array (state_after_arrays n seed) ≡ state_after_arrays (suc n) seed
one_more_array zero seed = refl
one_more_array (suc n) seed = one_more_array n (state_after_array seed)

pub generated_more : (n seed : ℕ) → generated seed (suc n) ≡ generated seed n ++ drawn_array (state_after_arrays n seed) ∷ []
generated_more zero seed = refl
generated_more (suc n) seed = ap (λ l. drawn_array seed ∷ l) (generated_more n (state_after_array seed))

-- the first draw from a state that was reached
next_drawn : (seed j state : ℕ) → state ≡ state_after j seed → draw state 0 ≡ draw seed j
next_drawn seed j state e = ap (λ k. draw k 0) e ∙ later_draw j seed

pub falls : (seed first j state last : ℕ) → state ≡ state_after j seed → last ≡ falling seed first j
    → max 1 (last - 1 - draw state 0 % 3) ≡ falling seed first (suc j)
falls seed first j state last e h = ap₂ (λ x y. max 1 (x - 1 - y % 3)) h (next_drawn seed j state e)

pub rises : (seed most j state last : ℕ) → state ≡ state_after j seed → last ≡ rising seed most j
    → min most (last + draw state 0 % 3) ≡ rising seed most (suc j)
rises seed most j state last e h = ap₂ (λ x y. min most (x + y % 3)) h (next_drawn seed j state e)

-- one more number of a list of values
pub listed : (f : ℕ → ℕ) (j x : ℕ) (items : List ℕ) → items ≡ map f (range_with_len 0 (j + 1)) → x ≡ f (suc j)
    → items ++ x ∷ [] ≡ map f (range_with_len 0 (suc j + 1))
listed f j x items e h =
    let next : j + 1 + 1 ≡ suc j + 1 = omega arith in
    ap₂ (λ l y. l ++ y ∷ []) e h ∙ sym (map-range_with_len_more f 0 (j + 1) (suc j) (omega arith)) ∙ ap (λ n. map f (range_with_len 0 n)) next

-- what is drawn in turn: a diameter, a valency, numbers that fall and numbers that rise
pub drawn_is : (s d k s1 s2 s3 s4 : ℕ) (b c : List ℕ) → d ≡ drawn_diameter s → s1 ≡ next_state s → k ≡ 3 + draw s1 0 % 30 → s2 ≡ next_state s1
    → b ≡ map (falling s2 k) (range_with_len 0 d) → s3 ≡ state_after (d - 1) s2 → c ≡ map (rising s3 k) (range_with_len 0 d) → s4 ≡ state_after (d - 1) s3
    → (Path Entries (record { b = b; c = c }) (drawn_array s)) × (s4 ≡ state_after_array s)
drawn_is s d k s1 s2 s3 s4 b c hd h1 hk h2 hb h3 hc h4 =
    let valency : k ≡ drawn_valency s = hk ∙ ap (λ x. 3 + x % 30) (next_drawn s 1 s1 h1) in
    let two : s2 ≡ state_after 2 s = h2 ∙ ap next_state h1 in
    let three : s3 ≡ state_after (1 + drawn_diameter s) s =
    h3 ∙ ap₂ (λ n x. state_after (n - 1) x) hd two ∙ state_after_more 2 (drawn_diameter s - 1) (1 + drawn_diameter s) s (omega arith) in
    let four : s4 ≡ state_after_array s =
    h4 ∙ ap₂ (λ n x. state_after (n - 1) x) hd three ∙ state_after_more (1 + drawn_diameter s) (drawn_diameter s - 1) (2 * drawn_diameter s) s (omega arith) in
    let all_b = hb ∙ (λ i. map (falling (two i) (valency i)) (range_with_len 0 (hd i))) in
    let all_c = hc ∙ (λ i. map (rising (three i) (valency i)) (range_with_len 0 (hd i))) in
    (ap₂ (λ x y. record { b = x; c = y }) all_b all_c, four)
