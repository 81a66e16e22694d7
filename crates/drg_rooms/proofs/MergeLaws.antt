-- Terms that are added in their order to a sum: those before them are passed once.
use Rattle.std.proofs.Common.{◌≡◌, ℕ, ◌<◌, ◌≤◌, ◌+◌, ℤ, pos, ◌*ℤ◌, ◌+ℤ◌, Bool, true, false, List, [], ◌∷◌, ◌++◌, length, take, drop, arith, refl, ap, sym, ◌∙◌, add-one, append_assoc}
use Rattle.std.specs.Prelude.{if◌then◌else◌, ◌&&◌, not, slice_index_or}
use Rattle.std.proofs.Math.Seq.{drop-cons, take-suc}
use Rattle.std.proofs.lemmas.List.{drop_all, take-append-drop}
use Rattle.std.specs.Ordering.{int_eq}
use Rattle.std.proofs.lemmas.Bool.Decides.{nat_tests}
use Rattle.drg_algebra.proofs.Tests.{both, and-in}
use Rattle.drg_linear.specs.declared.unknown.Unknown.{Unknown}
use Rattle.drg_whole.specs.Range.{in_range}
use Rattle.drg_linear.specs.Unknowns.{is_same, precedes}
use Rattle.drg_linear.specs.Equations.{Term, follows, is_ordered}
use Rattle.drg_rooms.specs.Combinations.{with_term, with_more, more_fits, plus_terms, plus_terms_fit, all_before, none_before, StandBefore, AreDivided, HasOwn, HasNone, Passes}
use Rattle.drg_rooms.proofs.OrderLaws.{total, transitive}

not_same : (u v : Unknown) → precedes v u ≡ true → is_same v u ≡ false
not_same u v h = grind (arith, nat_tests)

not_after : (u v : Unknown) → precedes v u ≡ true → precedes u v ≡ false
not_after u v h = grind (arith, nat_tests)

-- ---- Terms before an unknown are passed
more_past : (u : Unknown) (a : ℤ) (ps ts : List Term) → all_before u ps ≡ true → with_more u a (ps ++ ts) ≡ ps ++ with_more u a ts
more_past u a [] ts h = refl
more_past u a (p ∷ ps) ts h =
    let s = both (precedes p.0 u) (all_before u ps) h in
    rw (not_same u p.0 s.0, not_after u p.0 s.0) (ap (λ (r : List Term). p ∷ r) (more_past u a ps ts s.1))

more_fits_past : (u : Unknown) (a : ℤ) (ps ts : List Term) → all_before u ps ≡ true → more_fits u a (ps ++ ts) ≡ more_fits u a ts
more_fits_past u a [] ts h = refl
more_fits_past u a (p ∷ ps) ts h =
    let s = both (precedes p.0 u) (all_before u ps) h in
    rw (not_same u p.0 s.0, not_after u p.0 s.0) (more_fits_past u a ps ts s.1)

before_later : (u v : Unknown) (ps : List Term) → precedes u v ≡ true → all_before u ps ≡ true → all_before v ps ≡ true
before_later u v [] h k = refl
before_later u v (p ∷ ps) h k =
    let s = both (precedes p.0 u) (all_before u ps) k in
    and-in (precedes p.0 v) (all_before v ps) (transitive p.0 u v s.0 h) (before_later u v ps h s.1)

-- the terms stand before the first of others
abbrev first_after : List Term → List Term → Bool
first_after ps [] = true
first_after ps (b ∷ bs) = all_before b.0 ps

still_after : (ps : List Term) (b : Term) (bs : List Term) → all_before b.0 ps ≡ true → follows b bs ≡ true → first_after ps bs ≡ true
still_after ps b [] h k = refl
still_after ps b (c ∷ bs) h k = before_later b.0 c.0 ps k h

plus_past : (f : ℤ) (ps ts bs : List Term) → first_after ps bs ≡ true → is_ordered bs ≡ true → plus_terms f (ps ++ ts) bs ≡ ps ++ plus_terms f ts bs
plus_past f ps ts [] h o = refl
plus_past f ps ts (b ∷ bs) h o =
    let s = both (follows b bs) (is_ordered bs) o in
    ap (λ (r : List Term). plus_terms f r bs) (more_past b.0 (f *ℤ b.1) ps ts h) ∙ plus_past f ps (with_more b.0 (f *ℤ b.1) ts) bs (still_after ps b bs h s.0) s.1

plus_fits_past : (f : ℤ) (ps ts bs : List Term) → first_after ps bs ≡ true → is_ordered bs ≡ true → plus_terms_fit f (ps ++ ts) bs ≡ plus_terms_fit f ts bs
plus_fits_past f ps ts [] h o = refl
plus_fits_past f ps ts (b ∷ bs) h o =
    let s = both (follows b bs) (is_ordered bs) o in
    ap (λ (m : Bool). in_range (f *ℤ b.1) && m && plus_terms_fit f (with_more b.0 (f *ℤ b.1) (ps ++ ts)) bs) (more_fits_past b.0 (f *ℤ b.1) ps ts h)
    ∙ ap (λ (m : Bool). in_range (f *ℤ b.1) && more_fits b.0 (f *ℤ b.1) ts && m)
    (ap (λ (r : List Term). plus_terms_fit f r bs) (more_past b.0 (f *ℤ b.1) ps ts h) ∙ plus_fits_past f ps (with_more b.0 (f *ℤ b.1) ts) bs (still_after ps b bs h s.0) s.1)

-- ---- One more term, behind those before it
with_in_front : (u : Unknown) (v : ℤ) (ts : List Term) → with_term u v ts ≡ with_term u v [] ++ ts
with_in_front u v ts = at (int_eq v (pos 0))
  where
    at : (b : Bool) → (if b then ts else ((u, v) ∷ ts)) ≡ (if b then [] else ((u, v) ∷ [])) ++ ts
    at true = refl
    at false = refl

before_both : (u : Unknown) (ps qs : List Term) → all_before u ps ≡ true → all_before u qs ≡ true → all_before u (ps ++ qs) ≡ true
before_both u [] qs h k = k
before_both u (p ∷ ps) qs h k =
    let s = both (precedes p.0 u) (all_before u ps) h in
    and-in (precedes p.0 u) (all_before u (ps ++ qs)) s.0 (before_both u ps qs s.1 k)

with_before : (u w : Unknown) (v : ℤ) (b : Bool) → precedes u w ≡ true → all_before w (if b then [] else ((u, v) ∷ [])) ≡ true
with_before u w v true h = refl
with_before u w v false h = and-in (precedes u w) true h refl

after_with : (u : Unknown) (v a : ℤ) (ps bs : List Term) → all_before u ps ≡ true → follows (u, a) bs ≡ true → first_after (ps ++ with_term u v []) bs ≡ true
after_with u v a ps [] h k = refl
after_with u v a ps (b ∷ bs) h k = before_both b.0 ps (with_term u v []) (before_later u b.0 ps k h) (with_before u b.0 v (int_eq v (pos 0)) k)

-- the terms before the unknown, its own term and the terms that are left
pub passes : (u : Unknown) (a v : ℤ) (ps ts left old : List Term) → all_before u ps ≡ true → with_more u a ts ≡ with_term u v left → Passes u a (ps ++ ts) old ((old ++ ps) ++ with_term u v []) left
passes u a v ps ts left old h e =
    let put = with_term u v [] in
    let whole : with_more u a (ps ++ ts) ≡ (ps ++ put) ++ left =
    more_past u a ps ts h ∙ (ap (λ (r : List Term). ps ++ r) (e ∙ with_in_front u v left) ∙ sym (append_assoc ps put left)) in
    record {
      value = λ f bs k o.
          ap (λ (r : List Term). old ++ plus_terms f r bs) whole
          ∙ (ap (λ (r : List Term). old ++ r) (plus_past f (ps ++ put) left bs (after_with u v a ps bs h k) o)
          ∙ (sym (append_assoc old (ps ++ put) (plus_terms f left bs))
          ∙ ap (λ (r : List Term). r ++ plus_terms f left bs) (sym (append_assoc old ps put))));
      fits = λ f bs k o.
          ap (λ (r : List Term). plus_terms_fit f r bs) whole
          ∙ plus_fits_past f (ps ++ put) left bs (after_with u v a ps bs h k) o;
    }

same_more : (u : Unknown) (a : ℤ) (t : Term) (ts : List Term) → is_same t.0 u ≡ true → with_more u a (t ∷ ts) ≡ with_term u (t.1 +ℤ a) ts
same_more u a t ts h = rw h refl

other_more : (u : Unknown) (a : ℤ) (t : Term) (ts : List Term) → is_same t.0 u ≡ false → precedes t.0 u ≡ false → with_more u a (t ∷ ts) ≡ with_term u a (t ∷ ts)
other_more u a t ts h k = rw (h, total t.0 u (symmetric h) k) refl
  where
    symmetric : is_same t.0 u ≡ false → is_same u t.0 ≡ false
    symmetric h = grind (arith, nat_tests)

-- ---- The terms before the unknown
-- those up to place i stand before it
pub record Before (u : Unknown) (ts : List Term) (i : ℕ) : Type 0 where
  pub within : i ≤ length ts
  pub before : all_before u (take i ts) ≡ true

pub before_none : (u : Unknown) (ts : List Term) → Before u ts 0
before_none u ts = record { within = omega arith; before = refl }

abbrev pub nowhere : Term
nowhere = (record { r = 0; s = 0; t = 0 }, pos 0)

pub before_more : (u : Unknown) (ts : List Term) (i : ℕ) → i < length ts → Before u ts i → precedes (slice_index_or ts i nowhere).0 u ≡ true → Before u ts (i + 1)
before_more u ts i h b e = record {
  within = omega arith;
  before = rw (add-one i, take-suc ts i nowhere h) (before_both u (take i ts) (slice_index_or ts i nowhere ∷ []) b.before (and-in (precedes (slice_index_or ts i nowhere).0 u) true e refl));
}

pub stops : (u : Unknown) (ts : List Term) (i : ℕ) → i < length ts → Before u ts i → precedes (slice_index_or ts i nowhere).0 u ≡ false → StandBefore u ts i
stops u ts i h b e = record {
  within = b.within;
  before = b.before;
  others = rw (drop-cons ts i nowhere h, e) refl;
}

pub stops_nowhere : (u : Unknown) (ts : List Term) → Before u ts (length ts) → StandBefore u ts (length ts)
stops_nowhere u ts b = record {
  within = b.within;
  before = b.before;
  others = rw (drop_all (length ts) ts (omega arith)) refl;
}

pub divided : (u : Unknown) (ts before others : List Term) (i : ℕ) → StandBefore u ts i → before ≡ take i ts → others ≡ drop i ts → AreDivided u ts before others
divided u ts before others i s e f = record {
  whole = rw (e, f) (sym (take-append-drop i ts));
  first = rw e s.before;
  second = rw f s.others;
}

-- ---- The unknown's own term
pub has_own : (u : Unknown) (ts left : List Term) (t : Term) (c : ℤ) → ts ≡ t ∷ left → is_same t.0 u ≡ true → c ≡ t.1 → HasOwn u ts c left
has_own u ts left t c e h k = rw (e, k) (record { more = λ a. same_more u a t left h; fits = λ a. at a h })
  where
    at : (a : ℤ) → is_same t.0 u ≡ true → more_fits u a (t ∷ left) ≡ in_range (t.1 +ℤ a)
    at a h = rw h refl

pub has_none : (u : Unknown) (ts left : List Term) (t : Term) → ts ≡ t ∷ left → is_same t.0 u ≡ false → none_before u ts ≡ true → HasNone u ts
has_none u ts left t e h k =
    let later : precedes t.0 u ≡ false = stays t.0 (rw e at k) in
    rw e (record { more = λ a. other_more u a t left h later; fits = λ a. at a h (total t.0 u (symmetric h) later) })
  where
    stays : (v : Unknown) → not (precedes v u) ≡ true → precedes v u ≡ false
    stays v = turned (precedes v u)
      where
        turned : (b : Bool) → not b ≡ true → b ≡ false
        turned true h = cc
        turned false h = refl

    symmetric : is_same t.0 u ≡ false → is_same u t.0 ≡ false
    symmetric h = grind (arith, nat_tests)

    at : (a : ℤ) → is_same t.0 u ≡ false → precedes u t.0 ≡ true → more_fits u a (t ∷ left) ≡ true
    at a h k = rw (h, k) refl

pub has_nothing : (u : Unknown) (ts : List Term) → ts ≡ [] → HasNone u ts
has_nothing u ts e = rw e (record { more = λ a. refl; fits = λ a. refl })

-- ---- What adding a term comes to
pub added_own : (u : Unknown) (a c v : ℤ) (ts ps rest left old mid new : List Term) → AreDivided u ts ps rest → HasOwn u rest c left → in_range (c +ℤ a) ≡ true → v ≡ c +ℤ a
    → mid ≡ old ++ ps → new ≡ mid ++ with_term u v [] → (more_fits u a ts ≡ true) × Passes u a ts old new left
added_own u a c v ts ps rest left old mid new s h r e m n =
    rw (s.whole, n, m) (more_fits_past u a ps rest s.first ∙ (h.fits a ∙ r), passes u a v ps rest left old s.first (h.more a ∙ ap (λ (z : ℤ). with_term u z left) (sym e)))

pub added_none : (u : Unknown) (a : ℤ) (ts ps rest old mid new : List Term) → AreDivided u ts ps rest → HasNone u rest
    → mid ≡ old ++ ps → new ≡ mid ++ with_term u a [] → (more_fits u a ts ≡ true) × Passes u a ts old new rest
added_none u a ts ps rest old mid new s h m n =
    rw (s.whole, n, m) (more_fits_past u a ps rest s.first ∙ h.fits a, passes u a a ps rest rest old s.first (h.more a))

pub own_wide : (u : Unknown) (a c : ℤ) (ts ps rest left : List Term) → AreDivided u ts ps rest → HasOwn u rest c left → in_range (c +ℤ a) ≡ false → more_fits u a ts ≡ false
own_wide u a c ts ps rest left s h r = rw s.whole (more_fits_past u a ps rest s.first ∙ (h.fits a ∙ r))
