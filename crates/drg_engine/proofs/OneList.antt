-- The tests with a property have one list.
use Rattle.std.proofs.Common.{◌≡◌, List, [], ◌∷◌, refl, sym, ap₂, subst, arith, inl, inr}
use Rattle.std.specs.Prelude.{◌↔◌, Contains}
use Rattle.std.proofs.lemmas.List.Elements.{Contains-append_right}
use Rattle.drg_array.specs.declared.test.Test.{Test}
use Rattle.drg_engine.specs.Selections.{AreTests, IsAscending, IsEarlier}
use Rattle.drg_engine.proofs.BuiltTests.{either}

head : (t : Test) (ts : List Test) → Contains (t ∷ ts) t
head t ts = (0, omega arith, refl)

same_head : (t u : Test) (ts us : List Test) → IsAscending (t ∷ ts) → IsAscending (u ∷ us) → Contains (u ∷ us) t → Contains (t ∷ ts) u → t ≡ u
same_head t u ts us order other here there =
    elim (either t u us here) [
      | inl e ↦ sym e
      | inr later ↦ elim (either u t ts there) [ inl e ↦ e | inr last ↦ (let less = other.0 t later in let more = order.0 u last in absurd (omega (arith, less, more))) ]
    ]

into_rest : (t v : Test) (ts us : List Test) → IsAscending (t ∷ ts) → ((w : Test) → Contains (t ∷ ts) w → Contains (t ∷ us) w) → Contains ts v → Contains us v
into_rest t v ts us order into h =
    elim (either v t us (into v (Contains-append_right (t ∷ []) ts v h))) [
      | inl e ↦ (let less = subst (IsEarlier t) (sym e) (order.0 v h) in absurd (omega (arith, less)))
      | inr more ↦ more
    ]

one_list : (ts us : List Test) → IsAscending ts → IsAscending us → ((t : Test) → Contains ts t ↔ Contains us t) → ts ≡ us
one_list [] [] order other same = refl
one_list [] (u ∷ us) order other same = (let none = (same u).1 (head u us) in absurd (omega (arith, none.1)))
one_list (t ∷ ts) [] order other same = (let none = (same t).0 (head t ts) in absurd (omega (arith, none.1)))
one_list (t ∷ ts) (u ∷ us) order other same =
    let e = same_head t u ts us order other ((same t).0 (head t ts)) ((same u).1 (head u us)) in
    let into : (w : Test) → Contains (t ∷ ts) w → Contains (t ∷ us) w = λ w h. subst (λ v. Contains (v ∷ us) w) (sym e) ((same w).0 h) in
    let back : (w : Test) → Contains (t ∷ us) w → Contains (t ∷ ts) w = λ w h. (same w).1 (subst (λ v. Contains (v ∷ us) w) e h) in
    let order_us : IsAscending (t ∷ us) = subst (λ v. IsAscending (v ∷ us)) (sym e) other in
    ap₂ (λ v vs. v ∷ vs) e (one_list ts us order.1 other.1 (λ v. (into_rest t v ts us order into, into_rest t v us ts order_us back)))

pub one_passed : (property : Test → Type 0) (ts us : List Test) → AreTests property ts → AreTests property us → ts ≡ us
one_passed property ts us are other =
    one_list ts us are.order other.order (λ t. ((λ h. (other.members t).1 ((are.members t).0 h)), (λ h. (are.members t).1 ((other.members t).0 h))))
