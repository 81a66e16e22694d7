-- The order of factors, and lists of factors in order.
use Rattle.std.proofs.Common.{◌≡◌, arith, List, [], ◌∷◌, ◌++◌, inl, inr}
use Rattle.std.specs.Prelude.{◌<ℤ◌}
use Rattle.std.specs.List.{AllByRecursion}
use Rattle.std.proofs.lemmas.Int.{ints}
use Rattle.drg_eigen.specs.Factor.{Factor, linear, quadratic}
use Rattle.drg_eigen.specs.Order.{ComesBefore, AreInOrder}

pub one_way : (c e : Factor) → ComesBefore c e → ¬ ComesBefore e c
one_way (linear r) (linear v) h k = let p : v <ℤ r = h in let q : r <ℤ v = k in omega (arith, ints)
one_way (linear r) (quadratic s t) h k = k
one_way (quadratic s t) (linear r) h k = h
one_way (quadratic s t) (quadratic u v) (inl h) (inl k) = let p : u <ℤ s = h in let q : s <ℤ u = k in omega (arith, ints)
one_way (quadratic s t) (quadratic u v) (inl h) (inr k) = let p : u <ℤ s = h in let q : u ≡ s = k.0 in omega (arith, ints)
one_way (quadratic s t) (quadratic u v) (inr h) (inl k) = let p : s ≡ u = h.0 in let q : s <ℤ u = k in omega (arith, ints)
one_way (quadratic s t) (quadratic u v) (inr h) (inr k) = let p : v <ℤ t = h.1 in let q : t <ℤ v = k.1 in omega (arith, ints)

pub irreflexive : (c : Factor) → ¬ ComesBefore c c
irreflexive c h = one_way c c h h

-- ---- lists
pub all_append : (P : Factor → Type 0) (es ds : List Factor) → AllByRecursion P es → AllByRecursion P ds → AllByRecursion P (es ++ ds)
all_append P [] ds h k = k
all_append P (e ∷ es) ds h k = (h.0, all_append P es ds h.1 k)

pub all_weaker : (P Q : Factor → Type 0) → ((c : Factor) → P c → Q c) → (es : List Factor) → AllByRecursion P es → AllByRecursion Q es
all_weaker P Q f [] h = tt
all_weaker P Q f (e ∷ es) h = (f e h.0, all_weaker P Q f es h.1)

module _ (P Q : Factor → Type 0) (apart : (c e : Factor) → P c → Q e → ComesBefore c e) where
  pub ordered_append : (es ds : List Factor) → AllByRecursion P es → AllByRecursion Q ds → AreInOrder es → AreInOrder ds → AreInOrder (es ++ ds)
  ordered_append [] ds h k o p = p
  ordered_append (e ∷ []) [] h k o p = tt
  ordered_append (e ∷ []) (d ∷ ds) h k o p = (apart e d h.0 k.0, p)
  ordered_append (e ∷ b ∷ es) ds h k o p = (o.0, ordered_append (b ∷ es) ds h.1 k o.1 p)
