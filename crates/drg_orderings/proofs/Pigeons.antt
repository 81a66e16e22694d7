-- As many different numbers from 0 to d as there are: each of them is one.
use Rattle.std.proofs.Common.{◌≡◌, ℕ, zero, suc, ◌<◌, ◌≤◌, ◌⊎◌, inl, inr, refl, sym, ◌∙◌, ap, subst, arith}

-- Two numbers are the same or not.
pub same_or_not : (a b : ℕ) → (a ≡ b) ⊎ (¬ (a ≡ b))
same_or_not zero zero = inl refl
same_or_not zero (suc b) = inr (λ e. absurd (omega arith))
same_or_not (suc a) zero = inr (λ e. absurd (omega arith))
same_or_not (suc a) (suc b) = go (same_or_not a b)
  where
    go : (a ≡ b) ⊎ (¬ (a ≡ b)) → (suc a ≡ suc b) ⊎ (¬ (suc a ≡ suc b))
    go (inl e) = inl (ap suc e)
    go (inr n) = inr (λ e. n (omega arith))

-- The first number in the first case, and else the second one.
pick : {A B : Type 0} → A ⊎ B → ℕ → ℕ → ℕ
pick (inl p) x y = x
pick (inr p) x y = y

pick_is : {A B : Type 0} (s : A ⊎ B) (x y : ℕ) → (A × (pick s x y ≡ x)) ⊎ (B × (pick s x y ≡ y))
unfolding pick
pick_is (inl p) x y = inl (p, refl)
pick_is (inr p) x y = inr (p, refl)

-- The numbers with one value in place of another.
replaced : (ℕ → ℕ) → ℕ → ℕ → ℕ → ℕ
replaced r from to h = pick (same_or_not (r h) from) to (r h)

abbrev Case : (ℕ → ℕ) → ℕ → ℕ → ℕ → ℕ → Type 0
Case r from to h x = ((r h ≡ from) × (x ≡ to)) ⊎ ((¬ (r h ≡ from)) × (x ≡ r h))

replaced_is : (r : ℕ → ℕ) (from to h : ℕ) → Case r from to h (replaced r from to h)
unfolding replaced
replaced_is r from to h = pick_is (same_or_not (r h) from) to (r h)

abbrev AreOnce : ℕ → (ℕ → ℕ) → Type 0
AreOnce n r = (h j : ℕ) → h ≤ n → j ≤ n → r h ≡ r j → h ≡ j

lower : (n : ℕ) (r : ℕ → ℕ) → ((h : ℕ) → h ≤ suc n → r h < suc n) → AreOnce (suc n) r
    → (h x : ℕ) → h ≤ n → Case r n (r (suc n)) h x → x < n
lower n r below once h x l (inl (e, q)) =
    let b = below (suc n) (omega arith) in
    let apart : ¬ (r (suc n) ≡ n) = λ f. (let k = once (suc n) h (omega arith) (omega arith) (f ∙ sym e) in omega arith) in
    omega arith
lower n r below once h x l (inr (f, q)) =
    let b = below h (omega arith) in
    omega arith

still_once : (n : ℕ) (r : ℕ → ℕ) → AreOnce (suc n) r → (h j x : ℕ) → h ≤ n → j ≤ n
    → Case r n (r (suc n)) h x → Case r n (r (suc n)) j x → h ≡ j
still_once n r once h j x l m (inl (e, p)) (inl (f, q)) = once h j (omega arith) (omega arith) (e ∙ sym f)
still_once n r once h j x l m (inl (e, p)) (inr (f, q)) =
    let k = once (suc n) j (omega arith) (omega arith) (sym p ∙ q) in absurd (omega arith)
still_once n r once h j x l m (inr (e, p)) (inl (f, q)) =
    let k = once (suc n) h (omega arith) (omega arith) (sym q ∙ p) in absurd (omega arith)
still_once n r once h j x l m (inr (e, p)) (inr (f, q)) = once h j (omega arith) (omega arith) (sym p ∙ q)

-- More than n different numbers aren't all below n.
too_many : (n : ℕ) (r : ℕ → ℕ) → ((h : ℕ) → h ≤ n → r h < n) → AreOnce n r → ⊥
too_many zero r below once = let h = below 0 (omega arith) in omega arith
too_many (suc n) r below once =
    let s : ℕ → ℕ = replaced r n (r (suc n)) in
    let is : (h : ℕ) → Case r n (r (suc n)) h (s h) = replaced_is r n (r (suc n)) in
    let C : ℕ → ℕ → Type 0 = λ h x. Case r n (r (suc n)) h x in
    too_many n s (λ h l. lower n r below once h (s h) l (is h))
    (λ h j l m e. still_once n r once h j (s h) l m (is h) (subst (C j) (sym e) (is j)))

-- A number is a value up to n, or none.
found : (n x : ℕ) (r : ℕ → ℕ) → ((h : ℕ) × (h ≤ n) × (r h ≡ x)) ⊎ ((h : ℕ) → h ≤ n → ¬ (r h ≡ x))
found zero x r = go (same_or_not (r 0) x)
  where
    go : (r 0 ≡ x) ⊎ (¬ (r 0 ≡ x)) → ((h : ℕ) × (h ≤ 0) × (r h ≡ x)) ⊎ ((h : ℕ) → h ≤ 0 → ¬ (r h ≡ x))
    go (inl e) = inl (0, omega arith, e)
    go (inr f) = inr none
      where
        none : (h : ℕ) → h ≤ 0 → ¬ (r h ≡ x)
        none zero l e = f e
        none (suc h) l e = absurd (omega arith)
found (suc n) x r = go (found n x r) (same_or_not (r (suc n)) x)
  where
    go : ((h : ℕ) × (h ≤ n) × (r h ≡ x)) ⊎ ((h : ℕ) → h ≤ n → ¬ (r h ≡ x)) → (r (suc n) ≡ x) ⊎ (¬ (r (suc n) ≡ x))
        → ((h : ℕ) × (h ≤ suc n) × (r h ≡ x)) ⊎ ((h : ℕ) → h ≤ suc n → ¬ (r h ≡ x))
    go (inl (h, l, e)) t = inl (h, omega arith, e)
    go (inr none) (inl e) = inl (suc n, omega arith, e)
    go (inr none) (inr f) = inr (λ h l e. last h l e (same_or_not h (suc n)))
      where
        last : (h : ℕ) → h ≤ suc n → r h ≡ x → (h ≡ suc n) ⊎ (¬ (h ≡ suc n)) → ⊥
        last h l e (inl q) = f (sym (ap r q) ∙ e)
        last h l e (inr q) = none h (omega arith) e

-- The numbers up to d, and one more.
extended : ℕ → ℕ → (ℕ → ℕ) → ℕ → ℕ
extended d x r h = pick (same_or_not h (suc d)) x (r h)

abbrev At : ℕ → ℕ → (ℕ → ℕ) → ℕ → ℕ → Type 0
At d x r h y = ((h ≡ suc d) × (y ≡ x)) ⊎ ((¬ (h ≡ suc d)) × (y ≡ r h))

extended_is : (d x : ℕ) (r : ℕ → ℕ) (h : ℕ) → At d x r h (extended d x r h)
unfolding extended
extended_is d x r h = pick_is (same_or_not h (suc d)) x (r h)

extended_below : (d x : ℕ) (r : ℕ → ℕ) → ((h : ℕ) → h ≤ d → r h ≤ d) → x ≤ d → (h y : ℕ) → h ≤ suc d → At d x r h y → y < suc d
extended_below d x r within l h y k (inl (e, q)) = omega arith
extended_below d x r within l h y k (inr (e, q)) = let w = within h (omega arith) in omega arith

extended_once : (d x : ℕ) (r : ℕ → ℕ) → AreOnce d r → ((h : ℕ) → h ≤ d → ¬ (r h ≡ x))
    → (h j y : ℕ) → h ≤ suc d → j ≤ suc d → At d x r h y → At d x r j y → h ≡ j
extended_once d x r once none h j y k m (inl (e, p)) (inl (f, q)) = e ∙ sym f
extended_once d x r once none h j y k m (inl (e, p)) (inr (f, q)) = absurd (none j (omega arith) (sym q ∙ p))
extended_once d x r once none h j y k m (inr (e, p)) (inl (f, q)) = absurd (none h (omega arith) (sym p ∙ q))
extended_once d x r once none h j y k m (inr (e, p)) (inr (f, q)) = once h j (omega arith) (omega arith) (sym p ∙ q)

-- Different numbers from 0 to d are all of them.
pub every_one : (d : ℕ) (r : ℕ → ℕ) → ((h : ℕ) → h ≤ d → r h ≤ d) → AreOnce d r
    → (x : ℕ) → x ≤ d → (h : ℕ) × (h ≤ d) × (r h ≡ x)
every_one d r within once x l = go (found d x r)
  where
    go : ((h : ℕ) × (h ≤ d) × (r h ≡ x)) ⊎ ((h : ℕ) → h ≤ d → ¬ (r h ≡ x)) → (h : ℕ) × (h ≤ d) × (r h ≡ x)
    go (inl it) = it
    go (inr none) =
        let s : ℕ → ℕ = extended d x r in
        let is : (h : ℕ) → At d x r h (s h) = extended_is d x r in
        let A : ℕ → ℕ → Type 0 = λ h y. At d x r h y in
        absurd (too_many (suc d) s (λ h k. extended_below d x r within l h (s h) k (is h))
        (λ h j k m e. extended_once d x r once none h j (s h) k m (is h) (subst (A j) (sym e) (is j))))
