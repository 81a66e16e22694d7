use Rattle.std.proofs.Common.{◌≡◌, ℕ, ◌-◌, take, length, refl, ap, sym, ◌∙◌, List, ℤ}
use Rattle.std.specs.Prelude.{vec_len}
use Rattle.drg_eigen.specs.Step.{factor_of, but_last, shortened}
use Rattle.drg_eigen.specs.declared.divisor.Divisor.{Divisor}
use Rattle.drg_eigen.specs.declared.divisor.Divisor.TheVariants.{Linear, Quadratic}
use Rattle.drg_eigen.proofs.Quotients.{taken}
use Rattle.drg_eigen.proofs.quotient.shorten.Goals as goal

pub returns-in-Quadratic : goal.returns-in-Quadratic
returns-in-Quadratic c =
    let first : vec_len c.args.quotient.now ≡ length c.args.quotient.now.items = c.args.quotient.now.ok.0 in
    let second : vec_len c.pop.new.self ≡ length c.pop.new.self.items = c.pop.new.self.ok.0 in
    c.pop-in-Quadratic.ensures.rest
    ∙ (ap (λ (n : ℕ). take (n - 1) c.pop.new.self.items) second ∙ (taken c.pop.new.self.items
    ∙ (ap but_last (c.pop.ensures.rest ∙ (ap (λ (n : ℕ). take (n - 1) c.args.quotient.now.items) first ∙ taken c.args.quotient.now.items))
    ∙ ap (λ (d : Divisor). shortened (factor_of d) c.args.quotient.now.items) (sym c.in-Quadratic.is))))

linear_left : (d : Divisor) (l : List ℤ) → ((s t : ℤ) → d ≡ Quadratic s t → ⊥) → but_last l ≡ shortened (factor_of d) l
linear_left (Linear r) l h = refl
linear_left (Quadratic s t) l h = absurd (h s t refl)

pub returns-in_default : goal.returns-in_default
returns-in_default c =
    let first : vec_len c.args.quotient.now ≡ length c.args.quotient.now.items = c.args.quotient.now.ok.0 in
    c.pop.ensures.rest
    ∙ (ap (λ (n : ℕ). take (n - 1) c.args.quotient.now.items) first ∙ (taken c.args.quotient.now.items ∙ linear_left c.args.divisor c.args.quotient.now.items c.in_default.not-Quadratic))
