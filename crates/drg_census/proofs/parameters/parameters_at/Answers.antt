use Rattle.std.proofs.Common.{◌≡◌, ℕ, ◌≤◌, ◌∙◌, true, false, Bool, sym, ap, subst, arith, pos, rules}
use Rattle.std.specs.Int.{w32, w128}
use Rattle.std.proofs.lemmas.Int.{to_z-of_z}
use Rattle.std.specs.Bool.{MatchBool}
use Rattle.std.specs.Option.{MatchOption}
use Rattle.std.specs.Prelude.{Option}
use Rattle.drg_algebra.specs.Rational.{whole, plus}
use Rattle.drg_array.specs.Entries.{c_at, diameter}
use Rattle.drg_fraction.specs.Fraction.{rational_of}
use Rattle.drg_fraction.specs.declared.fraction.Fraction.{Fraction}
use Rattle.drg_census.specs.Classical.{bracket}
use Rattle.drg_census.specs.ClassicalWork.{AllPass, IsRefuted, IsWide, alpha_of, b_steps, beta_of, beta_over, c_steps, steps_to}
use Rattle.drg_census.proofs.Composed.{on_err, pass_further, refuted_by_first, refuted_further, refuted_nearer, wide_beta, wide_further, wide_nearer}
use Rattle.drg_census.proofs.NonzeroBrackets.{last_some, next_some}
use Rattle.drg_census.proofs.parameters.parameters_at.Goals as goal

pub returns-then-c-ne1-clause-ok : goal.returns-then-c-ne1-clause-ok
returns-then-c-ne1-clause-ok c = refuted_by_first c.args.array.now (whole c.args.b) (λ e. let f = c.c.ensures in omega arith)

pub alpha_at-requires-clause-nonzero : goal.alpha_at-requires-clause-nonzero
alpha_at-requires-clause-nonzero c =
    let eq : rational_of c.number-base.result ≡ whole c.args.b = c.number-base.ensures ∙ ap whole (to_z-of_z w128 c.from.result (search rules) ∙ c.from.ensures ∙ to_z-of_z w32 c.args.b (search rules)) in
    subst (λ t. ¬ (plus (whole (pos 1)) t ≡ whole (pos 0))) (sym eq) (next_some c.args.b c.requires.tried.not_minus_one)

pub returns-in_err-last-clause-err : goal.returns-in_err-last-clause-err
returns-in_err-last-clause-err c =
    let a = c.args.array.now in
    let q = rational_of c.number-base.result in
    let eq : q ≡ whole c.args.b = c.number-base.ensures ∙ ap whole (to_z-of_z w128 c.from.result (search rules) ∙ c.from.ensures ∙ to_z-of_z w32 c.args.b (search rules)) in
    let first : c_at a 1 ≡ 1 = (let f = c.c.ensures in omega arith) in
    on_err _ (subst (λ t. IsWide (steps_to a t)) eq
    (wide_nearer a q first (rational_of c.in_ok-alpha.alpha) c.in_ok-alpha.ensures.0 c.in_ok-alpha.ensures.1 c.in_err-last.ensures.err))

pub returns-in_default-clause-ok : goal.returns-in_default-clause-ok
returns-in_default-clause-ok c =
    let a = c.args.array.now in
    let q = rational_of c.number-base.result in
    let x = rational_of c.in_ok-alpha.alpha in
    let eq : q ≡ whole c.args.b = c.number-base.ensures ∙ ap whole (to_z-of_z w128 c.from.result (search rules) ∙ c.from.ensures ∙ to_z-of_z w32 c.args.b (search rules)) in
    let first : c_at a 1 ≡ 1 = (let f = c.c.ensures in omega arith) in
    let Told : Option Fraction → Type 0 = λ o. MatchOption o (IsRefuted (c_steps a q x)) (λ last. AllPass (c_steps a q x) × (rational_of last ≡ bracket q (diameter a))) in
    let told : IsRefuted (c_steps a q x) = subst Told c.in_default.is c.in_ok-last.ensures.ok in
    subst (λ t. IsRefuted (steps_to a t)) eq (refuted_nearer a q first x c.in_ok-alpha.ensures.0 c.in_ok-alpha.ensures.1 told)

pub beta_at-requires : goal.beta_at-requires
beta_at-requires c =
    let a = c.args.array.now in
    let q = rational_of c.number-base.result in
    let x = rational_of c.in_ok-alpha.alpha in
    let eq : q ≡ whole c.args.b = c.number-base.ensures ∙ ap whole (to_z-of_z w128 c.from.result (search rules) ∙ c.from.ensures ∙ to_z-of_z w32 c.args.b (search rules)) in
    let Told : Option Fraction → Type 0 = λ o. MatchOption o (IsRefuted (c_steps a q x)) (λ last. AllPass (c_steps a q x) × (rational_of last ≡ bracket q (diameter a))) in
    let told : AllPass (c_steps a q x) × (rational_of c.in-Some.last ≡ bracket q (diameter a)) = subst Told c.in-Some.is c.in_ok-last.ensures.ok in
    let some = c.requires.some in
    record { nonzero = subst (λ t. ¬ (t ≡ whole (pos 0))) (sym (told.1 ∙ ap (λ t. bracket t (diameter a)) eq)) (last_some c.args.b (diameter a) (omega arith) c.requires.tried.not_minus_one) }

pub returns-in_err-beta-clause-err : goal.returns-in_err-beta-clause-err
returns-in_err-beta-clause-err c =
    let a = c.args.array.now in
    let q = rational_of c.number-base.result in
    let x = rational_of c.in_ok-alpha.alpha in
    let eq : q ≡ whole c.args.b = c.number-base.ensures ∙ ap whole (to_z-of_z w128 c.from.result (search rules) ∙ c.from.ensures ∙ to_z-of_z w32 c.args.b (search rules)) in
    let first : c_at a 1 ≡ 1 = (let f = c.c.ensures in omega arith) in
    let Told : Option Fraction → Type 0 = λ o. MatchOption o (IsRefuted (c_steps a q x)) (λ last. AllPass (c_steps a q x) × (rational_of last ≡ bracket q (diameter a))) in
    let told : AllPass (c_steps a q x) × (rational_of c.in-Some.last ≡ bracket q (diameter a)) = subst Told c.in-Some.is c.in_ok-last.ensures.ok in
    on_err _ (subst (λ t. IsWide (steps_to a t)) eq
    (wide_beta a q first x c.in_ok-alpha.ensures.0 c.in_ok-alpha.ensures.1 told.0 (rational_of c.in-Some.last) told.1 c.in_err-beta.ensures))

pub returns-in_err-further_agree-clause-err : goal.returns-in_err-further_agree-clause-err
returns-in_err-further_agree-clause-err c =
    let a = c.args.array.now in
    let q = rational_of c.number-base.result in
    let x = rational_of c.in_ok-alpha.alpha in
    let eq : q ≡ whole c.args.b = c.number-base.ensures ∙ ap whole (to_z-of_z w128 c.from.result (search rules) ∙ c.from.ensures ∙ to_z-of_z w32 c.args.b (search rules)) in
    let first : c_at a 1 ≡ 1 = (let f = c.c.ensures in omega arith) in
    let Told : Option Fraction → Type 0 = λ o. MatchOption o (IsRefuted (c_steps a q x)) (λ last. AllPass (c_steps a q x) × (rational_of last ≡ bracket q (diameter a))) in
    let told : AllPass (c_steps a q x) × (rational_of c.in-Some.last ≡ bracket q (diameter a)) = subst Told c.in-Some.is c.in_ok-last.ensures.ok in
    on_err _ (subst (λ t. IsWide (steps_to a t)) eq
    (wide_further a q first x c.in_ok-alpha.ensures.0 c.in_ok-alpha.ensures.1 told.0 (rational_of c.in-Some.last) told.1
    (rational_of c.in_ok-beta.beta) c.in_ok-beta.ensures.0 (c.in_ok-beta.ensures.1 ∙ ap (beta_over a) told.1) c.in_err-further_agree.ensures.err))

pub returns-then-branch-clause-ok : goal.returns-then-branch-clause-ok
returns-then-branch-clause-ok c =
    let a = c.args.array.now in
    let q = rational_of c.number-base.result in
    let x = rational_of c.in_ok-alpha.alpha in
    let y = rational_of c.in_ok-beta.beta in
    let eq : q ≡ whole c.args.b = c.number-base.ensures ∙ ap whole (to_z-of_z w128 c.from.result (search rules) ∙ c.from.ensures ∙ to_z-of_z w32 c.args.b (search rules)) in
    let first : c_at a 1 ≡ 1 = (let f = c.c.ensures in omega arith) in
    let Told : Option Fraction → Type 0 = λ o. MatchOption o (IsRefuted (c_steps a q x)) (λ last. AllPass (c_steps a q x) × (rational_of last ≡ bracket q (diameter a))) in
    let told : AllPass (c_steps a q x) × (rational_of c.in-Some.last ≡ bracket q (diameter a)) = subst Told c.in-Some.is c.in_ok-last.ensures.ok in
    let Answered : Bool → Type 0 = λ t. MatchBool t (AllPass (b_steps a q x y)) (IsRefuted (b_steps a q x y)) in
    let beta = c.in_ok-beta.ensures.1 ∙ ap (beta_over a) told.1 in
    record {
      pass = subst (λ t. AllPass (steps_to a t)) eq
          (pass_further a q first x c.in_ok-alpha.ensures.0 c.in_ok-alpha.ensures.1 told.0 (rational_of c.in-Some.last) told.1
          y c.in_ok-beta.ensures.0 beta (subst Answered c.if-branch.true c.in_ok-further_agree.ensures.ok));
      alpha = c.in_ok-alpha.ensures.1 ∙ ap (alpha_of a) eq;
      beta = beta ∙ ap (beta_of a) eq;
    }

pub returns-else-branch-clause-ok : goal.returns-else-branch-clause-ok
returns-else-branch-clause-ok c =
    let a = c.args.array.now in
    let q = rational_of c.number-base.result in
    let x = rational_of c.in_ok-alpha.alpha in
    let y = rational_of c.in_ok-beta.beta in
    let eq : q ≡ whole c.args.b = c.number-base.ensures ∙ ap whole (to_z-of_z w128 c.from.result (search rules) ∙ c.from.ensures ∙ to_z-of_z w32 c.args.b (search rules)) in
    let first : c_at a 1 ≡ 1 = (let f = c.c.ensures in omega arith) in
    let Told : Option Fraction → Type 0 = λ o. MatchOption o (IsRefuted (c_steps a q x)) (λ last. AllPass (c_steps a q x) × (rational_of last ≡ bracket q (diameter a))) in
    let told : AllPass (c_steps a q x) × (rational_of c.in-Some.last ≡ bracket q (diameter a)) = subst Told c.in-Some.is c.in_ok-last.ensures.ok in
    let Answered : Bool → Type 0 = λ t. MatchBool t (AllPass (b_steps a q x y)) (IsRefuted (b_steps a q x y)) in
    let beta = c.in_ok-beta.ensures.1 ∙ ap (beta_over a) told.1 in
    subst (λ t. IsRefuted (steps_to a t)) eq
    (refuted_further a q first x c.in_ok-alpha.ensures.0 c.in_ok-alpha.ensures.1 told.0 (rational_of c.in-Some.last) told.1
    y c.in_ok-beta.ensures.0 beta (subst Answered c.if-branch.false c.in_ok-further_agree.ensures.ok))
