-- Searches for factors: of one factor, of two sets one after the other, and of a set with factors that don't divide.
use Rattle.std.proofs.Common.{◌≡◌, refl, ap, sym, ◌∙◌, subst, ℤ, List, [], ◌∷◌, ◌++◌, ◌⊎◌, inl, inr}
use Rattle.drg_eigen.specs.Factor.{Factor, quadratic, times_factor, Divides, product}
use Rattle.drg_eigen.specs.Division.{DivisionFits}
use Rattle.drg_eigen.specs.Order.{ComesBefore}
use Rattle.drg_eigen.specs.Simple.{IsSimple}
use Rattle.drg_eigen.specs.Search.{IsSearch, IsBefore, IsLeftAt, FitsAt, EachFits, IsFirstWideDivision}
use Rattle.drg_eigen.specs.Found.{IsOne}
use Rattle.drg_eigen.proofs.FactorProducts.{factors_commute, factors_divide}
use Rattle.drg_eigen.proofs.FactorOrder.{one_way, irreflexive, all_append, all_weaker, ordered_append}

-- ---- products
pub product_append : (es ds : List Factor) (g : List ℤ) → product (es ++ ds) g ≡ product es (product ds g)
product_append [] ds g = refl
product_append (e ∷ es) ds g = ap (times_factor e) (product_append es ds g)

pub moved : (es : List Factor) (c : Factor) (q : List ℤ) → product es (times_factor c q) ≡ times_factor c (product es q)
moved [] c q = refl
moved (e ∷ es) c q = ap (times_factor e) (moved es c q) ∙ factors_commute e c (product es q)

-- what divides a quotient divides the whole
pub divides_whole : (c : Factor) (es : List Factor) (g f : List ℤ) → product es g ≡ f → Divides c g → Divides c f
divides_whole c es g f e d = subst (Divides c) e (factors_divide c es g (inr d))

-- a quotient of a simple polynomial is simple
pub simple_quotient : (es : List Factor) (g f : List ℤ) → product es g ≡ f → IsSimple f → IsSimple g
simple_quotient es g f e h = record {
  once = λ c d. h.once c (product es d.0, sym (moved es c (times_factor c d.0) ∙ ap (times_factor c) (moved es c d.0)) ∙ ap (product es) d.1 ∙ e);
  real = λ s t i d. h.real s t i (divides_whole (quadratic s t) es g f e d);
}

pub once_taken : (c : Factor) (q g : List ℤ) → IsSimple g → times_factor c q ≡ g → ¬ Divides c q
once_taken c q g h e d = h.once c (d.0, ap (times_factor c) d.1 ∙ e)

-- ---- one factor
module _ (c : Factor) (g : List ℤ) where
  pub one_passed : (¬ Divides c g) → IsSearch (IsOne c) g [] g
  one_passed n = record { ordered = tt; tried = tt; quotient = refl; none_left = λ e same d. n (subst (λ (x : Factor). Divides x g) same d) }

  pub one_taken : (q : List ℤ) → times_factor c q ≡ g → (¬ Divides c q) → IsSearch (IsOne c) g (c ∷ []) q
  one_taken q e n = record { ordered = tt; tried = (refl, tt); quotient = e; none_left = λ e same d. n (subst (λ (x : Factor). Divides x q) same d) }

  none_before : (e : Factor) → IsBefore (IsOne c) c e → ⊥
  none_before e h = irreflexive c (subst (λ (x : Factor). ComesBefore x c) h.0 h.1)

  one_left : IsLeftAt (IsOne c) g c g
  one_left = ([], record { ordered = tt; tried = tt; quotient = refl; none_left = λ e h d. none_before e h })

  pub one_fits : (IsAsked : Factor → Type 0) → DivisionFits c g → EachFits (IsOne c) IsAsked g
  one_fits IsAsked h e same a = subst (λ (x : Factor). FitsAt (IsOne c) g x) (sym same) (g, one_left, h)

  pub one_wide : (IsAsked : Factor → Type 0) → IsAsked c → (¬ DivisionFits c g) → IsFirstWideDivision (IsOne c) IsAsked g c
  one_wide IsAsked a h = record { tried = refl; asked = a; wide = (g, one_left, h); before = λ e same b k. absurd (none_before e (same, k)) }

-- ---- a set with factors that don't divide
module _ (P Q : Factor → Type 0) (inside : (c : Factor) → P c → Q c) (f : List ℤ) where
  pub wider : (es : List Factor) (g : List ℤ) → ((c : Factor) → Q c → P c ⊎ (¬ Divides c f)) → IsSearch P f es g → IsSearch Q f es g
  wider es g back h = record {
    ordered = h.ordered;
    tried = all_weaker P Q inside es h.tried;
    quotient = h.quotient;
    none_left = λ c q. still c (back c q);
  }
    where
      still : (c : Factor) → P c ⊎ (¬ Divides c f) → ¬ Divides c g
      still c (inl p) d = h.none_left c p d
      still c (inr n) d = n (divides_whole c es g f h.quotient d)

module _ (P Q : Factor → Type 0) (inside : (c : Factor) → P c → Q c) (f : List ℤ) (A B : Factor → Type 0)
    (back : (c : Factor) → Q c → P c ⊎ ((¬ Divides c f) × (¬ B c))) (less : (c : Factor) → P c → B c → A c) where
  wider_left : (c : Factor) (g : List ℤ) → IsLeftAt P f c g → IsLeftAt Q f c g
  wider_left c g h = (h.0, wider (IsBefore P c) (IsBefore Q c) (λ e b. (inside e b.0, b.1)) f h.0 g (λ e b. go e b.1 (back e b.0)) h.1)
    where
      go : (e : Factor) → ComesBefore e c → P e ⊎ ((¬ Divides e f) × (¬ B e)) → IsBefore P c e ⊎ (¬ Divides e f)
      go e b (inl p) = inl (p, b)
      go e b (inr n) = inr n.0

  fits_in : (c : Factor) → FitsAt P f c → FitsAt Q f c
  fits_in c h = (h.0, wider_left c h.0 h.1, h.2)

  pub wider_fits : EachFits P A f → EachFits Q B f
  wider_fits h c q b = go (back c q)
    where
      go : P c ⊎ ((¬ Divides c f) × (¬ B c)) → FitsAt Q f c
      go (inl p) = fits_in c (h c p (less c p b))
      go (inr n) = absurd (n.1 b)

  pub wider_wide : (c : Factor) → ((e : Factor) → P e → A e → B e) → IsFirstWideDivision P A f c → IsFirstWideDivision Q B f c
  wider_wide c more h = record {
    tried = inside c h.tried;
    asked = more c h.tried h.asked;
    wide = (h.wide.0, wider_left c h.wide.0 h.wide.1, h.wide.2);
    before = λ e q b k. go e b k (back e q);
  }
    where
      go : (e : Factor) → B e → ComesBefore e c → P e ⊎ ((¬ Divides e f) × (¬ B e)) → FitsAt Q f e
      go e b k (inl p) = fits_in e (h.before e p (less e p b) k)
      go e b k (inr n) = absurd (n.1 b)

-- ---- two sets, one after the other
abbrev pub IsEither : (Factor → Type 0) → (Factor → Type 0) → Factor → Type 0
IsEither P Q c = P c ⊎ Q c

module _ (P Q : Factor → Type 0) (apart : (c e : Factor) → P c → Q e → ComesBefore c e) (f : List ℤ) (es : List Factor) (g : List ℤ) (first : IsSearch P f es g) where
  pub joined : (ds : List Factor) (h : List ℤ) → IsSearch Q g ds h → IsSearch (IsEither P Q) f (es ++ ds) h
  joined ds h second = record {
    ordered = ordered_append P Q apart es ds first.tried second.tried first.ordered second.ordered;
    tried = all_append (IsEither P Q) es ds (all_weaker P (IsEither P Q) (λ c p. inl p) es first.tried) (all_weaker Q (IsEither P Q) (λ c q. inr q) ds second.tried);
    quotient = product_append es ds h ∙ ap (product es) second.quotient ∙ first.quotient;
    none_left = still;
  }
    where
      still : (c : Factor) → P c ⊎ Q c → ¬ Divides c h
      still c (inl p) d = first.none_left c p (divides_whole c ds h g second.quotient d)
      still c (inr q) d = second.none_left c q d

module _ (P Q : Factor → Type 0) (apart : (c e : Factor) → P c → Q e → ComesBefore c e) (A : Factor → Type 0) (f : List ℤ) where
  in_first : (c : Factor) → P c → (g : List ℤ) → IsLeftAt P f c g → IsLeftAt (IsEither P Q) f c g
  in_first c p g h = (h.0, wider (IsBefore P c) (IsBefore (IsEither P Q) c) (λ e b. (inl b.0, b.1)) f h.0 g (λ e b. go e b.0 b.1) h.1)
    where
      go : (e : Factor) → P e ⊎ Q e → ComesBefore e c → IsBefore P c e ⊎ (¬ Divides e f)
      go e (inl t) b = inl (t, b)
      go e (inr t) b = absurd (one_way c e (apart c e p t) b)

  fits_first : (c : Factor) → P c → FitsAt P f c → FitsAt (IsEither P Q) f c
  fits_first c p h = (h.0, in_first c p h.0 h.1, h.2)

  pub wide_first : (c : Factor) → IsFirstWideDivision P A f c → IsFirstWideDivision (IsEither P Q) A f c
  wide_first c h = record {
    tried = inl h.tried;
    asked = h.asked;
    wide = (h.wide.0, in_first c h.tried h.wide.0 h.wide.1, h.wide.2);
    before = before;
  }
    where
      before : (e : Factor) → P e ⊎ Q e → A e → ComesBefore e c → FitsAt (IsEither P Q) f e
      before e (inl p) a b = fits_first e p (h.before e p a b)
      before e (inr q) a b = absurd (one_way c e (apart c e h.tried q) b)

  module _ (es : List Factor) (g : List ℤ) (first : IsSearch P f es g) where
    in_second : (c : Factor) → Q c → (h : List ℤ) → IsLeftAt Q g c h → IsLeftAt (IsEither P Q) f c h
    in_second c q h l = (
      es ++ l.0,
      wider (IsEither P (IsBefore Q c)) (IsBefore (IsEither P Q) c) inside f (es ++ l.0) h back
          (joined P (IsBefore Q c) (λ e d p b. apart e d p b.0) f es g first l.0 h l.1),
    )
      where
        inside : (e : Factor) → P e ⊎ IsBefore Q c e → IsBefore (IsEither P Q) c e
        inside e (inl p) = (inl p, apart e c p q)
        inside e (inr b) = (inr b.0, b.1)

        part : (e : Factor) → P e ⊎ Q e → ComesBefore e c → P e ⊎ IsBefore Q c e
        part e (inl p) b = inl p
        part e (inr t) b = inr (t, b)

        back : (e : Factor) → IsBefore (IsEither P Q) c e → (P e ⊎ IsBefore Q c e) ⊎ (¬ Divides e f)
        back e b = inl (part e b.0 b.1)

    fits_second : (c : Factor) → Q c → FitsAt Q g c → FitsAt (IsEither P Q) f c
    fits_second c q h = (h.0, in_second c q h.0 h.1, h.2)

    pub joined_fits : EachFits P A f → EachFits Q A g → EachFits (IsEither P Q) A f
    joined_fits h k c (inl p) a = fits_first c p (h c p a)
    joined_fits h k c (inr q) a = fits_second c q (k c q a)

    pub wide_second : EachFits P A f → (c : Factor) → IsFirstWideDivision Q A g c → IsFirstWideDivision (IsEither P Q) A f c
    wide_second h c k = record {
      tried = inr k.tried;
      asked = k.asked;
      wide = (k.wide.0, in_second c k.tried k.wide.0 k.wide.1, k.wide.2);
      before = before;
    }
      where
        before : (e : Factor) → P e ⊎ Q e → A e → ComesBefore e c → FitsAt (IsEither P Q) f e
        before e (inl p) a b = fits_first e p (h e p a)
        before e (inr q) a b = fits_second e q (k.before e q a b)
