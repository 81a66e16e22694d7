-- A counting system has one fault at most, and none where all its equations fit.
use Rattle.std.proofs.Common.{◌≡◌, ℕ, true, false, List, [], ◌∷◌, ◌++◌, refl, sym, ap, ◌∙◌, subst, arith}
use Rattle.std.specs.Prelude.{◌≢◌, All}
use Rattle.std.proofs.lemmas.List.Elements.{All-head, All-tail}
use Rattle.drg_algebra.proofs.Tests.{never}
use Rattle.drg_array.specs.declared.node.Node.{Node}
use Rattle.drg_intersection.specs.Numbers.{Numbers}
use Rattle.drg_linear.specs.declared.triple.TripleType.{TripleType}
use Rattle.drg_triples.specs.declared.counted.Counted.{Counted}
use Rattle.drg_triples.specs.declared.fault.TripleFault.{TripleFault}
use Rattle.drg_triples.specs.declared.fault.TripleFault.TheVariants.{Wide, Memory}
use Rattle.drg_triples.specs.Counting.{counted_of, equation_fits}
use Rattle.drg_triples.specs.Faults.{Fits, AllFit, node_of, IsFirstWide}
use Rattle.drg_triples.specs.Laws.{OneFault, NoFaultWhereAllFit}

module _ (numbers : Numbers) (ty : TripleType) where
  -- what follows counts that fit isn't before them
  first_is : (xs ys us vs : List Counted) (x y : Counted) → Path (List Counted) (xs ++ x ∷ us) (ys ++ y ∷ vs)
      → AllFit numbers ty xs → AllFit numbers ty ys → equation_fits numbers ty x ≡ false → equation_fits numbers ty y ≡ false → x ≡ y
  first_is [] [] us vs x y e fx fy wx wy = cc
  first_is [] (z ∷ ys) us vs x y e fx fy wx wy =
      let same : x ≡ z = cc in
      absurd (never (equation_fits numbers ty z) (All-head (Fits numbers ty) z ys fy) (subst (λ c. equation_fits numbers ty c ≡ false) same wx))
  first_is (z ∷ xs) [] us vs x y e fx fy wx wy =
      let same : y ≡ z = cc in
      absurd (never (equation_fits numbers ty z) (All-head (Fits numbers ty) z xs fx) (subst (λ c. equation_fits numbers ty c ≡ false) same wy))
  first_is (z ∷ xs) (t ∷ ys) us vs x y e fx fy wx wy =
      let rest : Path (List Counted) (xs ++ x ∷ us) (ys ++ y ∷ vs) = cc in
      first_is xs ys us vs x y rest (All-tail (Fits numbers ty) z xs fx) (All-tail (Fits numbers ty) t ys fy) wx wy

  all_fit : (xs us : List Counted) (x : Counted) → AllFit numbers ty (xs ++ x ∷ us) → equation_fits numbers ty x ≡ true
  all_fit [] us x h = All-head (Fits numbers ty) x us h
  all_fit (z ∷ xs) us x h = all_fit xs us x (All-tail (Fits numbers ty) z (xs ++ x ∷ us) h)

pub one_fault : OneFault
one_fault numbers ty Memory g n m v w = absurd (n refl)
one_fault numbers ty (Wide node) Memory n m v w = absurd (m refl)
one_fault numbers ty (Wide node) (Wide other) n m v w =
    let same = first_is numbers ty v.before w.before v.after w.after v.at w.at (sym v.whole ∙ w.whole) v.fit w.fit v.wide w.wide in
    ap Wide (v.names ∙ (ap (node_of ty) same ∙ sym w.names))

pub no_fault_where_all_fit : NoFaultWhereAllFit
no_fault_where_all_fit numbers ty Memory n all w = n refl
no_fault_where_all_fit numbers ty (Wide node) n all w =
    never (equation_fits numbers ty w.at) (all_fit numbers ty w.before w.after w.at (subst (AllFit numbers ty) w.whole all)) w.wide
