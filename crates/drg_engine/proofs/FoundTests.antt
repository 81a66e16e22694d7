-- What is found of a list of tests: it is one, and it joins where lists do.
use Rattle.std.proofs.Common.{◌≡◌, List, [], ◌∷◌, ◌++◌, refl, sym, ap, ap₂, ◌∙◌, subst, arith, inl, inr}
use Rattle.std.specs.Prelude.{◌⊎◌, Contains}
use Rattle.std.proofs.lemmas.List.Elements.{Contains-append_cases, Contains-append_left, Contains-append_right, Contains-push_cases}
use Rattle.drg_array.specs.Entries.{Entries}
use Rattle.drg_array.specs.declared.test.Test.{Test}
use Rattle.drg_report.specs.declared.verdict.Cause.{Cause}
use Rattle.drg_report.specs.declared.verdict.Pending.{Pending}
use Rattle.drg_engine.specs.Causes.{AreEntriesOf, IsCause, IsDecidable}
use Rattle.drg_engine.specs.Found.{AreFound, IsPassed}
use Rattle.drg_engine.specs.FrameLaws.{FrameLaws}
use Rattle.drg_engine.proofs.BuiltTests.{either}
use Rattle.drg_engine.proofs.FrameCauses.{one_cause, no_cause}

pub nothing : {A : Type 0} (x : A) → Contains [] x → ⊥
nothing x h = omega (arith, h.1)

abbrev entry : Test → Cause → Pending
entry t c = record { test = t; cause = c }

-- ---- what is found is one
module _ (laws : FrameLaws) (a : Entries) where
  one_entries : (t : Test) (es fs : List Pending) → AreEntriesOf a t es → AreEntriesOf a t fs → es ≡ fs
  one_entries t es fs (c, is, e) (d, also, f) = e ∙ (ap (λ (x : Cause). entry t x ∷ []) (one_cause laws a t c d is also) ∙ sym f)

  pub not_passed : (t : Test) (es : List Pending) → AreEntriesOf a t es → IsDecidable a t → ⊥
  not_passed t es (c, is, e) made = no_cause laws a t c is made

  pub one_found : (ts ps qs : List Test) (es fs : List Pending) → AreFound a ts ps es → AreFound a ts qs fs → (ps ≡ qs) × (es ≡ fs)
  one_found [] ps qs es fs found also = (found.0 ∙ sym also.0, found.1 ∙ sym also.1)
  one_found (t ∷ ts) ps qs es fs (inl (pass, os, e, found)) (inl (other, us, f, also)) =
      let rest = one_found ts os us es fs found also in
      (e ∙ (ap (λ (xs : List Test). t ∷ xs) rest.0 ∙ sym f), rest.1)
  one_found (t ∷ ts) ps qs es fs (inl (pass, os, e, found)) (inr (xs, us, are, f, also)) = absurd (not_passed t xs are pass.decidable)
  one_found (t ∷ ts) ps qs es fs (inr (xs, os, are, e, found)) (inl (other, us, f, also)) = absurd (not_passed t xs are other.decidable)
  one_found (t ∷ ts) ps qs es fs (inr (xs, os, are, e, found)) (inr (ys, us, these, f, also)) =
      let rest = one_found ts ps qs os us found also in
      (rest.0, e ∙ (ap₂ (λ (x y : List Pending). x ++ y) (one_entries t xs ys are these) rest.1 ∙ sym f))

-- ---- its parts
module _ (a : Entries) where
  -- a test of the list holds, or its entries are pending
  pub passed_or_not : (ts ps : List Test) (es : List Pending) (t : Test) → AreFound a ts ps es → Contains ts t
      → IsPassed a t ⊎ ((c : Cause) × IsCause a t c × Contains es (entry t c))
  passed_or_not [] ps es t found h = absurd (nothing t h)
  passed_or_not (u ∷ us) ps es t (inl (pass, os, e, found)) h =
      elim (either t u us h) [ inl same ↦ inl (subst (IsPassed a) same pass) | inr more ↦ passed_or_not us os es t found more ]
  passed_or_not (u ∷ us) ps es t (inr (xs, os, (c, is, f), e, found)) h =
      elim (either t u us h) [
        | inl same ↦ inr (
          c,
          subst (λ v. IsCause a v c) same is,
          subst (λ v. Contains es (entry v c)) same (subst (λ l. Contains l (entry u c)) (sym (e ∙ ap (λ l. l ++ os) f)) (0, omega arith, refl)),
        )
        | inr more ↦ elim (passed_or_not us ps os t found more) [
          | inl pass ↦ inl pass
          | inr (d, also, there) ↦ inr (d, also, subst (λ l. Contains l (entry t d)) (sym e) (Contains-append_right xs os (entry t d) there))
        ]
      ]

  -- each entry is of a test of the list, with its cause
  pub entry_of : (ts ps : List Test) (es : List Pending) (x : Pending) → AreFound a ts ps es → Contains es x → Contains ts x.test × IsCause a x.test x.cause
  entry_of [] ps es x found h = absurd (nothing x (subst (λ l. Contains l x) found.1 h))
  entry_of (u ∷ us) ps es x (inl (pass, os, e, found)) h =
      let rest = entry_of us os es x found h in
      (Contains-append_right (u ∷ []) us x.test rest.0, rest.1)
  entry_of (u ∷ us) ps es x (inr (xs, os, (c, is, f), e, found)) h =
      elim (Contains-append_cases (entry u c ∷ []) os x (subst (λ l. Contains l x) (e ∙ ap (λ l. l ++ os) f) h)) [
        | inl one ↦ elim (Contains-push_cases [] (entry u c) x one) [
          | inl none ↦ absurd (nothing x none)
          | inr same ↦ subst (λ (y : Pending). Contains (u ∷ us) y.test × IsCause a y.test y.cause) same ((0, omega arith, refl), is)
        ]
        | inr more ↦ (let rest = entry_of us ps os x found more in (Contains-append_right (u ∷ []) us x.test rest.0, rest.1))
      ]

  -- ---- how it grows
  pub all_passed : (ts : List Test) → ((t : Test) → Contains ts t → IsPassed a t) → AreFound a ts ts []
  all_passed [] pass = (refl, refl)
  all_passed (t ∷ ts) pass =
      inl (pass t (0, omega arith, refl), ts, refl, all_passed ts (λ u h. pass u (Contains-append_right (t ∷ []) ts u h)))

  pub one_more : (ts : List Test) (t : Test) (c : Cause) → ((u : Test) → Contains ts u → IsPassed a u) → IsCause a t c → AreFound a (ts ++ t ∷ []) ts (entry t c ∷ [])
  one_more [] t c pass is = inr (entry t c ∷ [], [], (c, is, refl), refl, (refl, refl))
  one_more (u ∷ us) t c pass is =
      inl (pass u (0, omega arith, refl), us, refl, one_more us t c (λ v h. pass v (Contains-append_right (u ∷ []) us v h)) is)
