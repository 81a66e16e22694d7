-- What the lists of a table stand for.
use Rattle.std.proofs.Common.{◌≡◌, ℕ, zero, suc, ◌<◌, List, [], ◌∷◌, length, refl, sym, ap, ◌∙◌, subst, arith}
use Rattle.std.specs.Prelude.{ℤ, pos, negsuc, ◌≤ℤ◌, unsigned_abs, slice_index_or}
use Rattle.std.proofs.lemmas.Int.{ints}
use Rattle.drg_algebra.specs.Rational.{whole}
use Rattle.drg_array.specs.Entries.{Entries, diameter}
use Rattle.drg_array.specs.Numbers.{vertex_count, IsIntersectionNumber}
use Rattle.drg_intersection.specs.FirstNumbers.{AreSizes, AreCells, AreFirstNumbers, IsCellAt, cell, first_of}
use Rattle.drg_intersection.specs.Numbers.{Numbers, AreNumbersOf, place}
use Rattle.drg_intersection.specs.Table.{IsTable}
use Rattle.drg_intersection.proofs.Places.{inside}

pub pos_abs : (z : ℤ) → pos 0 ≤ℤ z → pos (unsigned_abs z) ≡ z
pos_abs (pos n) h = refl
pos_abs (negsuc n) h = absurd (omega (arith, ints))

same_default : (xs : List ℤ) (i : ℕ) (x y : ℤ) → i < length xs → slice_index_or xs i x ≡ slice_index_or xs i y
same_default [] i x y h = absurd (omega arith)
same_default (z ∷ zs) zero x y h = refl
same_default (z ∷ zs) (suc i) x y h = same_default zs i x y (omega arith)

-- ---- a full table has the numbers of the array
at_diameter : (a : Entries) (k : List ℤ) (n : ℤ) (p : List ℤ) → length k ≡ suc (diameter a) → AreSizes a k → vertex_count a ≡ whole n → pos 0 ≤ℤ n
    → length p ≡ place (diameter a) (suc (diameter a)) 0 0 → AreCells a p → AreNumbersOf a (record { d = diameter a; sizes = k; vertices = n; table = p })
at_diameter a k n p long_k sizes sum natural long_p cells = record {
  same_d = refl;
  sizes = λ i hi. (let here = sizes i (omega (arith, hi, long_k)) in here.is ∙ ap whole (sym (pos_abs _ here.natural)));
  vertices = sum ∙ ap whole (sym (pos_abs n natural));
  intersections = λ h i j hh hi hj.
      (let within = inside (diameter a) h i j hh hi hj in
      let here = cells h i j hh hi hj (omega (arith, within, long_p)) in
      subst (λ z. IsIntersectionNumber a h i j (whole z)) (sym (pos_abs _ here.natural)) here.is);
}

pub numbers_are : (a : Entries) (d : ℕ) (k : List ℤ) (n : ℤ) (p : List ℤ) → d ≡ diameter a → length k ≡ suc (diameter a) → AreSizes a k → vertex_count a ≡ whole n → pos 0 ≤ℤ n
    → length p ≡ place (diameter a) (suc (diameter a)) 0 0 → AreCells a p → AreNumbersOf a (record { d = d; sizes = k; vertices = n; table = p })
numbers_are a d k n p e long_k sizes sum natural long_p cells =
    subst (λ t. AreNumbersOf a (record { d = t; sizes = k; vertices = n; table = p })) (sym e) (at_diameter a k n p long_k sizes sum natural long_p cells)

-- ---- and what has the numbers of the array is made of its first numbers
pub first_are : (a : Entries) (numbers : Numbers) → IsTable numbers → AreNumbersOf a numbers → AreFirstNumbers a (first_of numbers)
first_are a numbers table are = record {
  same_d = are.same_d;
  sizes = λ i less.
      (let long = table.sizes in
      let same = are.same_d in
      let natural = table.natural_sizes i (omega (arith, less, long)) in
      record { is = are.sizes i (omega (arith, less, long, same)) ∙ ap whole (pos_abs _ natural); natural = natural });
  entries = λ h i j hh hi hj less.
      (let e = are.same_d in
      let Q : ℕ → Type 0 = λ d. IsCellAt a h i j (cell d numbers.table h i j) in
      let natural = table.natural_entries h i j (omega (arith, hh, e)) (omega (arith, hi, e)) (omega (arith, hj, e)) in
      subst Q e (record { is = subst (λ z. IsIntersectionNumber a h i j (whole z)) (pos_abs _ natural) (are.intersections h i j hh hi hj); natural = natural }));
}
