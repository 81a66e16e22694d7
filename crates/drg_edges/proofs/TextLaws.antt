-- A text is that of one graph, or has one fault.
use Rattle.std.proofs.Common.{◌≡◌, ℕ, suc, ◌^◌, ◌<◌, List, [], ◌∷◌, ◌++◌, length, map, refl, sym, ap, ap₂, subst, ◌∙◌, arith, inl, inr}
use Rattle.std.specs.Prelude.{◌≢◌, decimal}
use Rattle.std.specs.List.{AllByRecursion}
use Rattle.std.specs.Str.Parse.{AllDigits}
use Rattle.std.proofs.lemmas.Fmt.{decimal_is_IsNumeral, decimal_injective}
use Rattle.std.proofs.lemmas.Str.Parse.{digit_from_value}
use Rattle.drg_algebra.specs.Sums.{below}
use Rattle.drg_edges.specs.Laws.{OneGraph, OneFault, NoFault}
use Rattle.drg_edges.specs.Reading.{HasNone}
use Rattle.drg_edges.specs.Text.{IsCount, IsPair, head_line, pair_line}
use Rattle.drg_edges.specs.declared.fault.GraphFault.TheVariants.{Bad, Memory}
use Rattle.drg_edges.proofs.Lines.{one_split}

digits_none : (byte : ℕ) → byte < 48 → (ds : List ℕ) → AllDigits 10 ds → HasNone byte ds
digits_none byte low [] d = tt
digits_none byte low (c ∷ cs) d = (let range = digit_from_value c d.0 in ((λ e. (let least = range.0 in omega (arith, least, low, e))), digits_none byte low cs d.1))

-- the text of a number has no space and no line end
pub decimal_none : (byte n : ℕ) → byte < 48 → n < 2 ^ 64 → HasNone byte (decimal n)
decimal_none byte n low small = digits_none byte low (decimal n) (decimal_is_IsNumeral n small).0.1

pub same_pair : (n : ℕ) (p q : ℕ × ℕ) → IsCount n → IsPair n p → IsPair n q → pair_line p ≡ pair_line q → p ≡ q
same_pair n p q count hp hq e =
    let most = count.1 in
    let px : p.0 < 2 ^ 64 = omega (arith, hp.0, most) in
    let py : p.1 < 2 ^ 64 = omega (arith, hp.1, most) in
    let qx : q.0 < 2 ^ 64 = omega (arith, hq.0, most) in
    let qy : q.1 < 2 ^ 64 = omega (arith, hq.1, most) in
    let parts = one_split 32 (decimal p.0) (decimal q.0) (decimal p.1) (decimal q.1) (decimal_none 32 p.0 (omega arith) px) (decimal_none 32 q.0 (omega arith) qx) e in
    ap₂ (λ x y. (x, y)) (decimal_injective p.0 q.0 px qx parts.0) (decimal_injective p.1 q.1 py qy parts.1)

same_head : (n m : ℕ) → IsCount n → IsCount m → head_line n ≡ head_line m → n ≡ m
same_head n m hn hm e =
    let below_n = hn.1 in
    let below_m = hm.1 in
    decimal_injective n m (omega (arith, below_n)) (omega (arith, below_m)) (let f = e in cc)

pub first_of : (x y : List ℕ) (xs ys : List (List ℕ)) → x ∷ xs ≡ y ∷ ys → x ≡ y
first_of x y xs ys e = (let f = e in cc)

rest_of : (x y : List ℕ) (xs ys : List (List ℕ)) → x ∷ xs ≡ y ∷ ys → xs ≡ ys
rest_of x y xs ys e = (let f = e in cc)

same_pairs : (n : ℕ) (ps qs : List (ℕ × ℕ)) → IsCount n → AllByRecursion (IsPair n) ps → AllByRecursion (IsPair n) qs → map pair_line ps ≡ map pair_line qs → ps ≡ qs
same_pairs n [] [] count hp hq e = refl
same_pairs n [] (q ∷ qs) count hp hq e = absurd (let f = e in cc)
same_pairs n (p ∷ ps) [] count hp hq e = absurd (let f = e in cc)
same_pairs n (p ∷ ps) (q ∷ qs) count hp hq e =
    ap₂ (λ x xs. x ∷ xs) (same_pair n p q count hp.0 hq.0 (first_of (pair_line p) (pair_line q) (map pair_line ps) (map pair_line qs) e))
    (same_pairs n ps qs count hp.1 hq.1 (rest_of (pair_line p) (pair_line q) (map pair_line ps) (map pair_line qs) e))

-- a line that is no pair isn't among the lines of pairs
no_bad : (n : ℕ) (good : List (ℕ × ℕ)) (bad : List ℕ) (rest : List (List ℕ)) (pairs : List (ℕ × ℕ)) → ((p : ℕ × ℕ) → IsPair n p → bad ≢ pair_line p)
    → AllByRecursion (IsPair n) pairs → map pair_line good ++ bad ∷ rest ≡ map pair_line pairs → ⊥
no_bad n [] bad rest [] none are e = (let f = e in cc)
no_bad n [] bad rest (p ∷ ps) none are e = none p are.0 (first_of bad (pair_line p) rest (map pair_line ps) e)
no_bad n (g ∷ gs) bad rest [] none are e = (let f = e in cc)
no_bad n (g ∷ gs) bad rest (p ∷ ps) none are e =
    no_bad n gs bad rest ps none are.1 (rest_of (pair_line g) (pair_line p) (map pair_line gs ++ bad ∷ rest) (map pair_line ps) e)

-- the first line that is no pair is at one place
same_place : (n : ℕ) (good : List (ℕ × ℕ)) (bad : List ℕ) (rest : List (List ℕ)) (fine : List (ℕ × ℕ)) (worse : List ℕ) (more : List (List ℕ))
    → ((p : ℕ × ℕ) → IsPair n p → bad ≢ pair_line p) → ((p : ℕ × ℕ) → IsPair n p → worse ≢ pair_line p)
    → AllByRecursion (IsPair n) good → AllByRecursion (IsPair n) fine → map pair_line good ++ bad ∷ rest ≡ map pair_line fine ++ worse ∷ more → length good ≡ length fine
same_place n [] bad rest [] worse more nb nw hg hf e = refl
same_place n [] bad rest (f ∷ fs) worse more nb nw hg hf e = absurd (nb f hf.0 (first_of bad (pair_line f) rest (map pair_line fs ++ worse ∷ more) e))
same_place n (g ∷ gs) bad rest [] worse more nb nw hg hf e = absurd (nw g hg.0 (sym (first_of (pair_line g) worse (map pair_line gs ++ bad ∷ rest) more e)))
same_place n (g ∷ gs) bad rest (f ∷ fs) worse more nb nw hg hf e =
    ap suc (same_place n gs bad rest fs worse more nb nw hg.1 hf.1 (rest_of (pair_line g) (pair_line f) (map pair_line gs ++ bad ∷ rest) (map pair_line fs ++ worse ∷ more) e))

pub one_graph : OneGraph
one_graph text g h (n, t, vn) (m, s, vm) =
    let lines_same = sym t.whole ∙ s.whole in
    let same = same_head n m t.count s.count (first_of _ _ _ _ lines_same) in
    let pairs = same_pairs n g.pairs h.pairs t.count t.are_pairs (subst (λ k. AllByRecursion (IsPair k) h.pairs) (sym same) s.are_pairs) (rest_of _ _ _ _ lines_same) in
    ap₂ (λ v p. record { vertices = v; pairs = p }) (vn ∙ (ap below same ∙ sym vm)) pairs

pub one_fault : OneFault
one_fault text Memory g nf ng a b = absurd (nf refl)
one_fault text f Memory nf ng a b = absurd (ng refl)
one_fault text (Bad m) (Bad n) nf ng (inl a) (inl b) = ap Bad (a.0 ∙ sym b.0)
one_fault text (Bad m) (Bad n) nf ng (inl a) (inr b) = absurd (a.1 b.count _ b.is_count b.whole)
one_fault text (Bad m) (Bad n) nf ng (inr a) (inl b) = absurd (b.1 a.count _ a.is_count a.whole)
one_fault text (Bad m) (Bad n) nf ng (inr a) (inr b) =
    let lines_same = sym a.whole ∙ b.whole in
    let same = same_head a.count b.count a.is_count b.is_count (first_of _ _ _ _ lines_same) in
    let no : (p : ℕ × ℕ) → IsPair a.count p → b.bad ≢ pair_line p = λ p h. b.no_pair p (subst (λ k. IsPair k p) same h) in
    let long = same_place a.count a.good a.bad a.rest b.good b.bad b.rest a.no_pair no a.are_pairs (subst (λ k. AllByRecursion (IsPair k) b.good) (sym same) b.are_pairs) (rest_of _ _ _ _ lines_same) in
    let pa = a.place in
    let pb = b.place in
    ap Bad (omega (arith, long, pa, pb))

pub no_fault : NoFault
no_fault text g Memory nf t f = absurd (nf refl)
no_fault text g (Bad n) nf (m, t, v) (inl f) = f.1 m _ t.count t.whole
no_fault text g (Bad n) nf (m, t, v) (inr f) =
    let lines_same = sym f.whole ∙ t.whole in
    let same = same_head f.count m f.is_count t.count (first_of _ _ _ _ lines_same) in
    no_bad f.count f.good f.bad f.rest g.pairs f.no_pair (subst (λ k. AllByRecursion (IsPair k) g.pairs) (sym same) t.are_pairs) (rest_of _ _ _ _ lines_same)
