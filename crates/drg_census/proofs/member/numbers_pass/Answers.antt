use Rattle.std.proofs.Common.{◌≡◌, ℕ, List, sym, ap, subst, ◌∙◌, arith, pos}
use Rattle.std.proofs.lemmas.Int.{ints}
use Rattle.drg_algebra.specs.Rational.{whole}
use Rattle.drg_algebra.proofs.WholeParts.{same_whole}
use Rattle.drg_array.specs.declared.test.Test.{Test}
use Rattle.drg_counting.specs.Parity.{IsSelectedParity}
use Rattle.drg_intersection.specs.Numbers.{n_of}
use Rattle.drg_census.proofs.Deciding.{late_fails, late_holds}
use Rattle.drg_census.proofs.member.numbers_pass.Goals as goal

pub returns-in-Some : goal.returns-in-Some
returns-in-Some c = λ a array are. (
  λ t. cc,
  λ late. absurd (late_fails c.condition_law.ensures.fails c.args.n a _ c.in-Some._claim c.in-Some.ensures.selected (c.in-Some.ensures.fails a array are) late),
)

pub returns-in-None : goal.returns-in-None
returns-in-None c = λ a array are. (
  λ t. (let same = c.has_vertices.ensures.0 t in
      late_holds c.condition_law.ensures.holds c.args.n a (are.vertices ∙ ap (λ (m : ℕ). whole (pos m)) same)
      (λ claim selected fails. c.in-None.ensures.none a array are claim (subst (λ (ts : List Test). IsSelectedParity ts claim) (sym c.all.ensures) selected) fails)),
  λ late. (let same = same_whole _ _ (sym are.vertices ∙ late.vertices) in c.has_vertices.ensures.1 (omega (arith, ints, same))),
)
