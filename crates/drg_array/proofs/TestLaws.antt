-- A test has one name and one number, and stands in the list of all tests at its number.
use Rattle.std.proofs.Common.{◌≡◌, ℕ, ◌-◌, Bool, true, false, List, [], ◌∷◌, Some, refl, sym, ap, subst, ◌∙◌, arith}
use Rattle.std.specs.Prelude.{cond, find, bytes_eq, slice_get, Contains}
use Rattle.std.proofs.lemmas.List.Elements.{Contains-append_right}
use Rattle.std.proofs.lemmas.Slice.Eq.{bytes_eq-Decides}
use Rattle.drg_array.specs.Claims.{test_name}
use Rattle.drg_array.specs.ClaimOrder.{test_number}
use Rattle.drg_array.specs.CatalogueLaws.{AllInOrder, OneTestName, OneTestNumber}
use Rattle.drg_array.specs.declared.test.Test.{Test}
use Rattle.drg_array.specs.declared.test.Test.TheVariants.{First, Degree, Order, Cross, Size, Intersect, Handshake, Induced, Triangles, Mult, Krein, Absolute, Triple, Ktriple}
use Rattle.drg_array.specs.declared.test.TheConstants.Test.{ALL}

abbrev pub is_named : List ℕ → Test → Bool
is_named name t = bytes_eq (test_name t) name

found-again : (t : Test) → find (is_named (test_name t)) ALL ≡ Some t
found-again First = refl
found-again Degree = refl
found-again Order = refl
found-again Cross = refl
found-again Size = refl
found-again Intersect = refl
found-again Handshake = refl
found-again Induced = refl
found-again Triangles = refl
found-again Mult = refl
found-again Krein = refl
found-again Absolute = refl
found-again Triple = refl
found-again Ktriple = refl

pub place : (t : Test) → slice_get ALL (test_number t - 1) ≡ Some t
place First = refl
place Degree = refl
place Order = refl
place Cross = refl
place Size = refl
place Intersect = refl
place Handshake = refl
place Induced = refl
place Triangles = refl
place Mult = refl
place Krein = refl
place Absolute = refl
place Triple = refl
place Ktriple = refl

some-same : (t u : Test) → Some t ≡ Some u → t ≡ u
some-same t u e = cc

pub all_in_order : AllInOrder
all_in_order = record { count = refl; place = place }

pub one_name : OneTestName
one_name t u e = some-same t u (sym (found-again t) ∙ (ap (λ name. find (is_named name) ALL) e ∙ found-again u))

pub one_place : (t u : Test) → test_number t - 1 ≡ test_number u - 1 → t ≡ u
one_place t u e = some-same t u (sym (place t) ∙ (ap (λ n. slice_get ALL n) e ∙ place u))

pub one_number : OneTestNumber
one_number t u e = one_place t u (ap (λ n. n - 1) e)

-- a test of this name is found
pub is_found : (name : List ℕ) (t : Test) → test_name t ≡ name → find (is_named name) ALL ≡ Some t
is_found name t e = subst (λ n. find (is_named n) ALL ≡ Some t) e (found-again t)

-- ---- the first test of a list with a property
found-step : (p : Test → Bool) (u : Test) (us : List Test) (t : Test) (b : Bool) → p u ≡ b → (find p us ≡ Some t → (p t ≡ true) × Contains us t)
    → cond b (Some u) (find p us) ≡ Some t → (p t ≡ true) × Contains (u ∷ us) t
found-step p u us t true is step e = let same : u ≡ t = cc in (subst (λ x. p x ≡ true) same is, (0, omega arith, same))
found-step p u us t false is step e = let k = step e in (k.0, Contains-append_right (u ∷ []) us t k.1)

found : (p : Test → Bool) (ts : List Test) (t : Test) → find p ts ≡ Some t → (p t ≡ true) × Contains ts t
found p [] t e = (cc)
found p (u ∷ us) t e = found-step p u us t (p u) refl (found p us t) e

-- what is found among these by its name has the name
pub found-named : (ts : List Test) (name : List ℕ) (t : Test) → find (is_named name) ts ≡ Some t → (test_name t ≡ name) × Contains ts t
found-named ts name t e =
    let k = found (is_named name) ts t e in
    ((bytes_eq-Decides (test_name t) name).0 k.0, k.1)
