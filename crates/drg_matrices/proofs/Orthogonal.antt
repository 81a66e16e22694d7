-- Orthogonality of cosines, and the rows of P, in any commutative ring.
use Rattle.std.proofs.Common.{◌≡◌, ℕ, zero, suc, ◌<◌, ◌≤◌, refl, ap, ap₂, sym, ◌∙◌, arith}
use Rattle.drg_algebra.specs.Ring.{CommutativeRing, sub, none, one, ◌⊕◌, ◌⊗◌, neg, from_two, ring2, ring3, ring5, ring6, ring7, ring12}
use Rattle.drg_algebra.specs.Tables.{total}

-- The numbers of an array of diameter d, as members of a ring, with b_d = 0 and the sizes k.
pub record Numbers (r : CommutativeRing) : Type 0 where
  pub d : ℕ
  pub a : ℕ → r.Of
  pub b : ℕ → r.Of
  pub c : ℕ → r.Of
  pub k : ℕ → r.Of
  pub last_b : b d ≡ r.nil
  pub first_size : k 0 ≡ r.unit
  pub sizes : (j : ℕ) → j < d → r.times (k (suc j)) (c (suc j)) ≡ r.times (k j) (b j)

-- u_0 = 1, b_0 u_1 = x, c_j u_(j-1) + a_j u_j + b_j u_(j+1) = x u_j
pub record IsCosines (r : CommutativeRing) (v : Numbers r) (x : r.Of) (u : ℕ → r.Of) : Type 0 where
  pub first : u 0 ≡ r.unit
  pub second : r.times (v.b 0) (u 1) ≡ x
  pub rest : (j : ℕ) → j < v.d → r.plus (r.plus (r.times (v.c (suc j)) (u j)) (r.times (v.a (suc j)) (u (suc j)))) (r.times (v.b (suc j)) (u (suc (suc j)))) ≡ r.times x (u (suc j))

-- k_0 u_0 t_0 + .. + k_(n-1) u_(n-1) t_(n-1)
abbrev pub inner : (r : CommutativeRing) → Numbers r → ℕ → (ℕ → r.Of) → (ℕ → r.Of) → r.Of
inner r v n u t = total r.nil r.plus n (λ j. r.times (v.k j) (r.times (u j) (t j)))

-- the last term of a sum
pub total_last : (r : CommutativeRing) (n : ℕ) (g : ℕ → r.Of) → total r.nil r.plus (suc n) g ≡ r.plus (total r.nil r.plus n g) (g n)
total_last r zero g = ring2 r.laws (λ x y. x ⊕ none) (λ x y. none ⊕ x) refl (g 0) (g 0)
total_last r (suc n) g = ap (r.plus (g 0)) (total_last r n (λ i. g (suc i))) ∙ sym (r.laws.plus_assoc (g 0) (total r.nil r.plus n (λ i. g (suc i))) (g (suc n)))

-- (x - y) times the sum up to m is k_m b_m (u_(m+1) t_m - u_m t_(m+1))
pub telescopes : (r : CommutativeRing) (v : Numbers r) (x y : r.Of) (u t : ℕ → r.Of) → IsCosines r v x u → IsCosines r v y t
    → (m : ℕ) → m ≤ v.d → r.times (sub r x y) (inner r v (suc m) u t) ≡ r.times (r.times (v.k m) (v.b m)) (sub r (r.times (u (suc m)) (t m)) (r.times (u m) (t (suc m))))
telescopes r v x y u t h g zero l =
    from_two r.laws _ _ (r.times (v.k 0) (t 0)) _ _ (r.minus (r.times (v.k 0) (u 0))) _ _ (sym h.second) (sym g.second)
    (ap₂ (λ (p q : r.Of). r.plus (r.plus (r.times (sub r x y) (r.plus (r.times (v.k 0) (r.times p q)) r.nil)) (r.times (r.times (v.k 0) q) (r.times (v.b 0) (u 1)))) (r.times (r.minus (r.times (v.k 0) p)) (r.times (v.b 0) (t 1)))) h.first g.first
    ∙ ring6 r.laws
    (λ x y k b u t. ((x ⊕ neg y) ⊗ (k ⊗ (one ⊗ one) ⊕ none) ⊕ k ⊗ one ⊗ (b ⊗ u)) ⊕ neg (k ⊗ one) ⊗ (b ⊗ t))
    (λ x y k b u t. (k ⊗ b ⊗ (u ⊗ one ⊕ neg (one ⊗ t)) ⊕ k ⊗ one ⊗ x) ⊕ neg (k ⊗ one) ⊗ y)
    refl x y (v.k 0) (v.b 0) (u 1) (t 1)
    ∙ sym (ap₂ (λ (p q : r.Of). r.plus (r.plus (r.times (r.times (v.k 0) (v.b 0)) (sub r (r.times (u 1) q) (r.times p (t 1)))) (r.times (r.times (v.k 0) q) x)) (r.times (r.minus (r.times (v.k 0) p)) y)) h.first g.first))
telescopes r v x y u t h g (suc m) l =
    let small : m < v.d = omega arith in
    let k = v.k (suc m) in
    let low = sub r (r.times (u (suc m)) (t m)) (r.times (u m) (t (suc m))) in
    let before : r.times (sub r x y) (inner r v (suc m) u t) ≡ r.times (r.times k (v.c (suc m))) low =
    telescopes r v x y u t h g m (omega arith) ∙ ap (λ z. r.times z low) (sym (v.sizes m small)) in
    ap (r.times (sub r x y)) (total_last r (suc m) (λ j. r.times (v.k j) (r.times (u j) (t j))))
    ∙ ring5 r.laws (λ x y s k w. (x ⊕ neg y) ⊗ (s ⊕ k ⊗ w)) (λ x y s k w. (x ⊕ neg y) ⊗ s ⊕ k ⊗ (x ⊗ w ⊕ neg (y ⊗ w))) refl x y (inner r v (suc m) u t) k (r.times (u (suc m)) (t (suc m)))
    ∙ ap (λ z. r.plus z (r.times k (sub r (r.times x (r.times (u (suc m)) (t (suc m)))) (r.times y (r.times (u (suc m)) (t (suc m))))))) before
    ∙ from_two r.laws _ _ (r.times k (t (suc m))) _ _ (r.minus (r.times k (u (suc m)))) _ _ (sym (h.rest m small)) (sym (g.rest m small))
    (ring12 r.laws
    (λ x y k a b c u0 u1 u2 t0 t1 t2. ((k ⊗ c ⊗ (u1 ⊗ t0 ⊕ neg (u0 ⊗ t1)) ⊕ k ⊗ (x ⊗ (u1 ⊗ t1) ⊕ neg (y ⊗ (u1 ⊗ t1)))) ⊕ k ⊗ t1 ⊗ (c ⊗ u0 ⊕ a ⊗ u1 ⊕ b ⊗ u2)) ⊕ neg (k ⊗ u1) ⊗ (c ⊗ t0 ⊕ a ⊗ t1 ⊕ b ⊗ t2))
    (λ x y k a b c u0 u1 u2 t0 t1 t2. (k ⊗ b ⊗ (u2 ⊗ t1 ⊕ neg (u1 ⊗ t2)) ⊕ k ⊗ t1 ⊗ (x ⊗ u1)) ⊕ neg (k ⊗ u1) ⊗ (y ⊗ t1))
    refl x y k (v.a (suc m)) (v.b (suc m)) (v.c (suc m)) (u m) (u (suc m)) (u (suc (suc m))) (t m) (t (suc m)) (t (suc (suc m))))

-- (x - y) times the sum over all places is nil
pub inner_by_difference : (r : CommutativeRing) (v : Numbers r) (x y : r.Of) (u t : ℕ → r.Of) → IsCosines r v x u → IsCosines r v y t
    → r.times (sub r x y) (inner r v (suc v.d) u t) ≡ r.nil
inner_by_difference r v x y u t h g =
    telescopes r v x y u t h g v.d (omega arith)
    ∙ ap (λ z. r.times (r.times (v.k v.d) z) (sub r (r.times (u (suc v.d)) (t v.d)) (r.times (u v.d) (t (suc v.d))))) v.last_b
    ∙ ring2 r.laws (λ k w. k ⊗ none ⊗ w) (λ k w. none) refl (v.k v.d) (sub r (r.times (u (suc v.d)) (t v.d)) (r.times (u v.d) (t (suc v.d))))

-- k_1 u_1 = x where c_1 = 1
pub second_entry : (r : CommutativeRing) (v : Numbers r) → v.c 1 ≡ r.unit → 0 < v.d → (x : r.Of) (u : ℕ → r.Of) → IsCosines r v x u → r.times (v.k 1) (u 1) ≡ x
second_entry r v one_c some x u h =
    sym (r.laws.times_unit (r.times (v.k 1) (u 1))) ∙ ap (r.times (r.times (v.k 1) (u 1))) (sym one_c)
    ∙ ring3 r.laws (λ k u c. k ⊗ u ⊗ c) (λ k u c. k ⊗ c ⊗ u) refl (v.k 1) (u 1) (v.c 1)
    ∙ ap (λ z. r.times z (u 1)) (v.sizes 0 some ∙ ap (λ z. r.times z (v.b 0)) v.first_size)
    ∙ ring2 r.laws (λ b u. one ⊗ b ⊗ u) (λ b u. b ⊗ u) refl (v.b 0) (u 1)
    ∙ h.second

-- x k_0 u_0 = a_0 k_0 u_0 + c_1 k_1 u_1, where a_0 = 0
pub first_row : (r : CommutativeRing) (v : Numbers r) → v.a 0 ≡ r.nil → 0 < v.d → (x : r.Of) (u : ℕ → r.Of) → IsCosines r v x u
    → r.times x (r.times (v.k 0) (u 0)) ≡ r.plus (r.times (v.a 0) (r.times (v.k 0) (u 0))) (r.times (v.c 1) (r.times (v.k 1) (u 1)))
first_row r v zero_a some x u h =
    ap (λ z. r.times z (r.times (v.k 0) (u 0))) (sym h.second)
    ∙ ap₂ (λ (p q : r.Of). r.times (r.times (v.b 0) (u 1)) (r.times p q)) v.first_size h.first
    ∙ ring2 r.laws (λ b u. (b ⊗ u) ⊗ (one ⊗ one)) (λ b u. (one ⊗ b) ⊗ u) refl (v.b 0) (u 1)
    ∙ ap (λ z. r.times z (u 1)) (ap (λ z. r.times z (v.b 0)) (sym v.first_size) ∙ sym (v.sizes 0 some))
    ∙ ring5 r.laws (λ k c u l w. (k ⊗ c) ⊗ u) (λ k c u l w. none ⊗ (l ⊗ w) ⊕ c ⊗ (k ⊗ u)) refl (v.k 1) (v.c 1) (u 1) (v.k 0) (u 0)
    ∙ ap (λ z. r.plus (r.times z (r.times (v.k 0) (u 0))) (r.times (v.c 1) (r.times (v.k 1) (u 1)))) (sym zero_a)

-- x k_j u_j = b_(j-1) k_(j-1) u_(j-1) + a_j k_j u_j + w, where w = k_j b_j u_(j+1)
later_row : (r : CommutativeRing) (v : Numbers r) (x : r.Of) (u : ℕ → r.Of) → IsCosines r v x u → (j : ℕ) → j < v.d
    → r.times x (r.times (v.k (suc j)) (u (suc j)))
    ≡ r.plus (r.plus (r.times (v.b j) (r.times (v.k j) (u j))) (r.times (v.a (suc j)) (r.times (v.k (suc j)) (u (suc j))))) (r.times (r.times (v.k (suc j)) (v.b (suc j))) (u (suc (suc j))))
later_row r v x u h j l =
    let k = v.k (suc j) in
    ring3 r.laws (λ x k u. x ⊗ (k ⊗ u)) (λ x k u. k ⊗ (x ⊗ u)) refl x k (u (suc j))
    ∙ ap (r.times k) (sym (h.rest j l))
    ∙ ring7 r.laws (λ k a b c x y w. k ⊗ (c ⊗ x ⊕ a ⊗ y ⊕ b ⊗ w)) (λ k a b c x y w. k ⊗ c ⊗ x ⊕ a ⊗ (k ⊗ y) ⊕ k ⊗ b ⊗ w) refl k (v.a (suc j)) (v.b (suc j)) (v.c (suc j)) (u j) (u (suc j)) (u (suc (suc j)))
    ∙ ap (λ z. r.plus (r.plus (r.times z (u j)) (r.times (v.a (suc j)) (r.times k (u (suc j))))) (r.times (r.times k (v.b (suc j))) (u (suc (suc j))))) (v.sizes j l)
    ∙ ap (λ z. r.plus (r.plus z (r.times (v.a (suc j)) (r.times k (u (suc j))))) (r.times (r.times k (v.b (suc j))) (u (suc (suc j)))))
    (ring3 r.laws (λ k b x. k ⊗ b ⊗ x) (λ k b x. b ⊗ (k ⊗ x)) refl (v.k j) (v.b j) (u j))

-- the same between the first place and the last, where w = c_(j+1) k_(j+1) u_(j+1)
pub middle_row : (r : CommutativeRing) (v : Numbers r) (x : r.Of) (u : ℕ → r.Of) → IsCosines r v x u → (j : ℕ) → suc j < v.d
    → r.times x (r.times (v.k (suc j)) (u (suc j)))
    ≡ r.plus (r.plus (r.times (v.b j) (r.times (v.k j) (u j))) (r.times (v.a (suc j)) (r.times (v.k (suc j)) (u (suc j))))) (r.times (v.c (suc (suc j))) (r.times (v.k (suc (suc j))) (u (suc (suc j)))))
middle_row r v x u h j l =
    later_row r v x u h j (omega arith)
    ∙ ap (λ z. r.plus (r.plus (r.times (v.b j) (r.times (v.k j) (u j))) (r.times (v.a (suc j)) (r.times (v.k (suc j)) (u (suc j))))) z)
    (ap (λ z. r.times z (u (suc (suc j)))) (sym (v.sizes (suc j) l))
    ∙ ring3 r.laws (λ k c u. k ⊗ c ⊗ u) (λ k c u. c ⊗ (k ⊗ u)) refl (v.k (suc (suc j))) (v.c (suc (suc j))) (u (suc (suc j))))

-- and at the last place, where w is absent
pub last_row : (r : CommutativeRing) (v : Numbers r) (x : r.Of) (u : ℕ → r.Of) → IsCosines r v x u → (j : ℕ) → suc j ≡ v.d
    → r.times x (r.times (v.k (suc j)) (u (suc j)))
    ≡ r.plus (r.plus (r.times (v.b j) (r.times (v.k j) (u j))) (r.times (v.a (suc j)) (r.times (v.k (suc j)) (u (suc j))))) r.nil
last_row r v x u h j e =
    later_row r v x u h j (omega arith)
    ∙ ap (λ z. r.plus (r.plus (r.times (v.b j) (r.times (v.k j) (u j))) (r.times (v.a (suc j)) (r.times (v.k (suc j)) (u (suc j))))) (r.times (r.times (v.k (suc j)) z) (u (suc (suc j))))) (ap v.b e ∙ v.last_b)
    ∙ ap (r.plus (r.plus (r.times (v.b j) (r.times (v.k j) (u j))) (r.times (v.a (suc j)) (r.times (v.k (suc j)) (u (suc j))))))
    (ring2 r.laws (λ k u. k ⊗ none ⊗ u) (λ k u. none) refl (v.k (suc j)) (u (suc (suc j))))
