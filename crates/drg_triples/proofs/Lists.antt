-- The counts of a system one after the other: the equations that they add, and the first that doesn't fit.
use Rattle.std.proofs.Common.{◌≡◌, ℕ, zero, suc, ◌+◌, ◌-◌, ◌<◌, ◌≤◌, true, false, List, [], ◌∷◌, ◌++◌, refl, sym, ap, ◌∙◌, subst, arith, append_assoc, append-nil, map, inl, inr}
use Rattle.std.specs.Prelude.{◌⊎◌, ◌↔◌, All, Contains}
use Rattle.std.proofs.lemmas.List.{map-append}
use Rattle.std.proofs.lemmas.List.Elements.{All-append, Contains-append_left, Contains-append_right, Contains-append_cases}
use Rattle.drg_array.specs.declared.node.Node.{Node}
use Rattle.drg_intersection.specs.Numbers.{Numbers}
use Rattle.drg_linear.specs.declared.triple.TripleType.{TripleType}
use Rattle.drg_linear.specs.declared.system.EquationName.{EquationName}
use Rattle.drg_linear.specs.Equations.{EquationContent}
use Rattle.drg_linear.specs.Rooms.{RoomContent}
use Rattle.drg_linear.specs.Systems.{SystemContent}
use Rattle.drg_triples.specs.declared.counted.Counted.{Counted}
use Rattle.drg_triples.specs.declared.fault.TripleFault.{TripleFault}
use Rattle.drg_triples.specs.declared.fault.TripleFault.TheVariants.{Wide, Memory}
use Rattle.drg_triples.specs.Counting.{starting_room, name_of, equation_of, up_to, extended}
use Rattle.drg_triples.specs.Faults.{Fits, AllFit, IsFirstWide, IsFaultAmong}

-- ---- lists one after the other
module _ {A : Type 0} (lists : ℕ → List A) where
  more : (n m k : ℕ) → k ≡ n + m → (rest : List A) × (up_to lists k ≡ up_to lists n ++ rest)
  more n zero k e = (let same : n ≡ k = omega (arith, e) in
      subst (λ k. (rest : List A) × (up_to lists k ≡ up_to lists n ++ rest)) same ([], sym (append-nil (up_to lists n))))
  more n (suc m) zero e = absurd (omega arith)
  more n (suc m) (suc k) e =
      let s = more n m k (omega (arith, e)) in
      (s.0 ++ lists (suc k), ap (λ l. l ++ lists (suc k)) s.1 ∙ append_assoc (up_to lists n) s.0 (lists (suc k)))

  -- the first n of d lists, and the rest
  pub up_to_parts : (n d : ℕ) → n ≤ d → (rest : List A) × (up_to lists d ≡ up_to lists n ++ rest)
  up_to_parts n d h = more n (d - n) d (omega arith)

  pub in_up_to : (n d : ℕ) (x : A) → 1 ≤ n → n ≤ d → Contains (lists n) x → Contains (up_to lists d) x
  in_up_to zero d x low high c = absurd (omega arith)
  in_up_to (suc n) d x low high c =
      let s = up_to_parts (suc n) d high in
      subst (λ l. Contains l x) (sym s.1) (Contains-append_left (up_to lists (suc n)) s.0 x (Contains-append_right (up_to lists n) (lists (suc n)) x c))

  pub up_to_cases : (d : ℕ) (x : A) → Contains (up_to lists d) x → (n : ℕ) × (1 ≤ n) × (n ≤ d) × Contains (lists n) x
  up_to_cases zero x (k, l, e) = absurd (omega arith)
  up_to_cases (suc d) x c =
      elim (Contains-append_cases (up_to lists d) (lists (suc d)) x c) [
        | inl before ↦ (let s = up_to_cases d x before in let high = s.2 in (s.0, s.1, omega (arith, high), s.3))
        | inr last ↦ (suc d, omega arith, omega arith, last)
      ]

module _ (numbers : Numbers) (ty : TripleType) where
  -- ---- the equations that counts add
  with_lists : (s : SystemContent) (names : List EquationName) (equations : List EquationContent) → names ≡ s.names → equations ≡ s.equations
      → Path SystemContent (record { room = s.room; names = names; equations = equations }) s
  with_lists s names equations e f i = record { room = s.room; names = e i; equations = f i }

  pub extended_none : (s : SystemContent) → extended numbers ty s [] ≡ s
  extended_none s = with_lists s _ _ (append-nil s.names) (append-nil s.equations)

  joined : {A B : Type 0} (f : A → B) (l : List B) (xs ys : List A) → (l ++ map f xs) ++ map f ys ≡ l ++ map f (xs ++ ys)
  joined f l xs ys = append_assoc l (map f xs) (map f ys) ∙ ap (λ m. l ++ m) (sym (map-append f xs ys))

  pub extended_twice : (s : SystemContent) (xs ys : List Counted) → extended numbers ty (extended numbers ty s xs) ys ≡ extended numbers ty s (xs ++ ys)
  extended_twice s xs ys = with_lists (extended numbers ty s (xs ++ ys)) _ _ (joined name_of s.names xs ys) (joined (equation_of numbers ty) s.equations xs ys)

  -- ---- the first that doesn't fit
  pub among_front : (xs ys : List Counted) (f : TripleFault) → IsFaultAmong numbers ty xs f → IsFaultAmong numbers ty (xs ++ ys) f
  among_front xs ys Memory w = w
  among_front xs ys (Wide node) w = record {
    before = w.before;
    at = w.at;
    after = w.after ++ ys;
    whole = ap (λ l. l ++ ys) w.whole ∙ append_assoc w.before (w.at ∷ w.after) ys;
    fit = w.fit;
    wide = w.wide;
    names = w.names;
  }

  pub among_back : (xs ys : List Counted) (f : TripleFault) → AllFit numbers ty xs → IsFaultAmong numbers ty ys f → IsFaultAmong numbers ty (xs ++ ys) f
  among_back xs ys Memory fit w = w
  among_back xs ys (Wide node) fit w = record {
    before = xs ++ w.before;
    at = w.at;
    after = w.after;
    whole = ap (λ l. xs ++ l) w.whole ∙ sym (append_assoc xs w.before (w.at ∷ w.after));
    fit = All-append (Fits numbers ty) xs w.before fit w.fit;
    wide = w.wide;
    names = w.names;
  }

  -- ---- one list more
  pub up_to_next : (lists : ℕ → List Counted) (n m : ℕ) (cs : List Counted) → m ≡ suc n → cs ≡ lists (suc n) → up_to lists m ≡ up_to lists n ++ cs
  up_to_next lists n m cs e f = ap (up_to lists) e ∙ ap (λ l. up_to lists n ++ l) (sym f)

  pub system_next : (s old new : SystemContent) (lists : ℕ → List Counted) (n m : ℕ) (cs : List Counted) → m ≡ suc n → cs ≡ lists (suc n)
      → old ≡ extended numbers ty s (up_to lists n) → new ≡ extended numbers ty old cs → new ≡ extended numbers ty s (up_to lists m)
  system_next s old new lists n m cs e f g h =
      h ∙ (ap (λ o. extended numbers ty o cs) g ∙ (extended_twice s (up_to lists n) cs ∙ ap (extended numbers ty s) (sym (up_to_next lists n m cs e f))))

  pub system_end : (s old : SystemContent) (lists : ℕ → List Counted) (n d : ℕ) → n ≡ d → old ≡ extended numbers ty s (up_to lists n) → old ≡ extended numbers ty s (up_to lists d)
  system_end s old lists n d e g = g ∙ ap (λ n. extended numbers ty s (up_to lists n)) e

  pub fit_next : (lists : ℕ → List Counted) (n m : ℕ) (cs : List Counted) → m ≡ suc n → cs ≡ lists (suc n) → AllFit numbers ty (up_to lists n) → AllFit numbers ty cs
      → AllFit numbers ty (up_to lists m)
  fit_next lists n m cs e f g h = subst (AllFit numbers ty) (sym (up_to_next lists n m cs e f)) (All-append (Fits numbers ty) (up_to lists n) cs g h)

  pub fit_end : (lists : ℕ → List Counted) (n d : ℕ) → n ≡ d → AllFit numbers ty (up_to lists n) → AllFit numbers ty (up_to lists d)
  fit_end lists n d e g = subst (λ n. AllFit numbers ty (up_to lists n)) e g

  pub pushed_is : (s new : SystemContent) (c : Counted) (name : EquationName) (e : EquationContent) → name ≡ name_of c → e ≡ equation_of numbers ty c
      → new ≡ record s { names = s.names ++ name ∷ []; equations = s.equations ++ e ∷ [] } → new ≡ extended numbers ty s (c ∷ [])
  pushed_is s new c name e f g h =
      h ∙ with_lists (extended numbers ty s (c ∷ [])) _ _ (ap (λ n. s.names ++ n ∷ []) f) (ap (λ e. s.equations ++ e ∷ []) g)

  -- a fault in one of some lists, where those before it fit
  pub among_all : (lists : ℕ → List Counted) (n d : ℕ) (f : TripleFault) → suc n ≤ d → AllFit numbers ty (up_to lists n) → IsFaultAmong numbers ty (lists (suc n)) f
      → IsFaultAmong numbers ty (up_to lists d) f
  among_all lists n d f h fit w =
      let s = up_to_parts lists (suc n) d h in
      subst (λ l. IsFaultAmong numbers ty l f) (sym s.1) (among_front (up_to lists (suc n)) s.0 f (among_back (up_to lists n) (lists (suc n)) f fit w))

  pub among_next : (lists : ℕ → List Counted) (n d : ℕ) (cs : List Counted) (f : TripleFault) → suc n ≤ d → cs ≡ lists (suc n) → AllFit numbers ty (up_to lists n)
      → IsFaultAmong numbers ty cs f → IsFaultAmong numbers ty (up_to lists d) f
  among_next lists n d cs f h e fit w = among_all lists n d f h fit (subst (λ l. IsFaultAmong numbers ty l f) e w)

  -- ---- three lists from the start
  pub three_parts : (s a b c : SystemContent) (room : RoomContent) (xs ys zs : List Counted)
      → s ≡ record { room = room; names = []; equations = [] } → room ≡ starting_room numbers ty
      → a ≡ extended numbers ty s xs → b ≡ extended numbers ty a ys → c ≡ extended numbers ty b zs
      → c ≡ extended numbers ty (record { room = starting_room numbers ty; names = []; equations = [] }) (xs ++ (ys ++ zs))
  three_parts s a b c room xs ys zs made first e f g =
      let one = f ∙ (ap (λ o. extended numbers ty o ys) e ∙ extended_twice s xs ys) in
      let two = g ∙ (ap (λ o. extended numbers ty o zs) one ∙ extended_twice s (xs ++ ys) zs) in
      two ∙ (ap (extended numbers ty s) (append_assoc xs ys zs)
      ∙ ap (λ o. extended numbers ty o (xs ++ (ys ++ zs))) (made ∙ ap (λ (r : RoomContent). record { room = r; names = []; equations = [] }) first))
