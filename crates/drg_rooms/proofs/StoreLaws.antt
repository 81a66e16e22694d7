-- Equations that are kept once.
use Rattle.std.proofs.Common.{◌≡◌, ℕ, zero, suc, ◌<◌, Bool, true, false, List, [], ◌∷◌, ◌++◌, length, refl, sym, ◌∙◌, arith, length-append}
use Rattle.std.specs.Prelude.{slice_index_or, slice_get, if◌then◌else◌, Some}
use Rattle.std.proofs.lemmas.List.{get_or_append_left, map-append}
use Rattle.drg_linear.specs.Equations.{EquationContent}
use Rattle.drg_linear.specs.Sameness.{same_equation}
use Rattle.drg_linear.specs.SamenessLaws.{same_Decides}
use Rattle.drg_rooms.specs.Combinations.{no_equation}
use Rattle.drg_rooms.specs.Stores.{AreAmong, KeepsPlaces, StandsIn, equations_in}

pub places_after : (b : Bool) (keys : List EquationContent) (e : EquationContent) → KeepsPlaces keys (if b then keys else keys ++ e ∷ [])
places_after true keys e = record { within = omega arith; same = λ i h. refl }
places_after false keys e = record {
  within = let l = length-append keys (e ∷ []) in omega (arith, l);
  same = λ i h. get_or_append_left keys (e ∷ []) no_equation i h;
}

found_at : (keys : List EquationContent) (i : ℕ) (k d : EquationContent) → slice_get keys i ≡ Some k → slice_index_or keys i d ≡ k
found_at [] i k d h = cc
found_at (x ∷ xs) zero k d h = cc
found_at (x ∷ xs) (suc i) k d h = found_at xs i k d h

pub stands_in : (keys : List EquationContent) (i : ℕ) (e k : EquationContent) → i < length keys → slice_get keys i ≡ Some k → same_equation e k ≡ true → StandsIn keys i e
stands_in keys i e k h g s = record { within = h; is = found_at keys i k no_equation g ∙ sym ((same_Decides e k).0 s) }

-- the equations at places stay
pub view_kept : (old new : List EquationContent) (places : List ℕ) → KeepsPlaces old new → AreAmong old places → equations_in new places ≡ equations_in old places
view_kept old new [] k a = refl
view_kept old new (p ∷ ps) k a = rw (k.same p (a 0 0 (omega arith)), view_kept old new ps k (λ i d h. a (suc i) d (omega (arith, h)))) refl

pub view_pushed : (old new : List EquationContent) (places : List ℕ) (p : ℕ) (e : EquationContent) → KeepsPlaces old new → AreAmong old places → StandsIn new p e
    → equations_in new (places ++ p ∷ []) ≡ equations_in old places ++ e ∷ []
view_pushed old new places p e k a s =
    rw (map-append (λ i. slice_index_or new i no_equation) places (p ∷ []), view_kept old new places k a, s.is) refl
