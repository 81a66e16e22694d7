-- A list of tests is read from its text: the text has no other list.
use Rattle.std.proofs.Common.{◌≡◌, ℕ, List, [], ◌∷◌, None, Some, refl, sym, ap, ap₂, ◌∙◌}
use Rattle.std.specs.Prelude.{map, find, codes}
use Rattle.std.specs.List.{join_with_byte}
use Rattle.drg_array.specs.Claims.{test_name}
use Rattle.drg_array.specs.TestLists.{IsTestList}
use Rattle.drg_array.specs.declared.test.Test.{Test}
use Rattle.drg_array.specs.declared.test.TheConstants.Test.{ALL}
use Rattle.drg_array.proofs.TestLaws.{is_named, is_found, one_name}
use Rattle.drg_array.proofs.TestListLaws.{pieces, pieces-names}

abbrev joined : List Test → List ℕ
joined ts = join_with_byte 44 (map test_name ts)

same_tests : (ts us : List Test) → map test_name ts ≡ map test_name us → ts ≡ us
same_tests [] [] e = refl
same_tests [] (u ∷ us) e = (cc)
same_tests (t ∷ ts) [] e = (cc)
same_tests (t ∷ ts) (u ∷ us) e =
    let first : test_name t ≡ test_name u = cc in
    let rest : map test_name ts ≡ map test_name us = cc in
    ap₂ (λ v vs. v ∷ vs) (one_name t u first) (same_tests ts us rest)

not_called_none : (t : Test) → test_name t ≡ codes "none" → ⊥
not_called_none t e =
    let some : find (is_named (codes "none")) ALL ≡ Some t = is_found (codes "none") t e in
    let none : find (is_named (codes "none")) ALL ≡ None = refl in
    cc

not_none : (t : Test) (ts : List Test) → codes "none" ≡ joined (t ∷ ts) → ⊥
not_none t ts e =
    let names : codes "none" ∷ [] ≡ map test_name (t ∷ ts) = ap pieces e ∙ pieces-names t ts in
    not_called_none t (let same : test_name t ≡ codes "none" = cc in same)

pub one_list : (text : List ℕ) (ts us : List Test) → IsTestList text ts → IsTestList text us → ts ≡ us
one_list text [] [] e f = refl
one_list text [] (u ∷ us) e f = absurd (not_none u us (sym e ∙ f.0))
one_list text (t ∷ ts) [] e f = absurd (not_none t ts (sym f ∙ e.0))
one_list text (t ∷ ts) (u ∷ us) e f =
    same_tests (t ∷ ts) (u ∷ us) (sym (pieces-names t ts) ∙ (ap pieces (sym e.0 ∙ f.0) ∙ pieces-names u us))
