use Rattle.std.proofs.Common.{◌≡◌, ◌≤◌, ◌<◌, arith, ap, sym, subst, List, length}
use Rattle.std.specs.List.{AllByRecursion}
use Rattle.drg_eigen.specs.Found.{IsReal}
use Rattle.drg_eigen.specs.Split.{IsOther, IsWholeSplit}
use Rattle.drg_eigen.specs.Step.{factors_of}
use Rattle.drg_eigen.specs.declared.divisor.Divisor.{Divisor}
use Rattle.drg_eigen.proofs.SplitAnswers.{nothing_left, rest_answer, whole_answer}
use Rattle.drg_eigen.proofs.SplitTrials.{found_real}
use Rattle.drg_eigen.proofs.split.split_of.Goals as goal

pub whole-requires-clause-found : goal.whole-requires-clause-found
whole-requires-clause-found c =
    let s = c.in_ok-search.search in
    let h = c.in_ok-search.ensures in
    subst (λ (ds : List Divisor). AllByRecursion IsReal (factors_of ds)) (sym c.deref.ensures.value)
    (found_real c.args.k c.args.poly.now h.poly.monic (factors_of s.found.items) s.left h.search c.requires.simple c.requires.valency)

pub returns-in_ok-rest-clause-split : goal.returns-in_ok-rest-clause-split
returns-in_ok-rest-clause-split c =
    let s = c.in_ok-search.search in
    let h = c.in_ok-search.ensures in
    let size : length c.coefficients.result.now ≡ length c.in_ok-search.search.left = ap length c.coefficients.ensures.items in
    let more : 1 < length c.in_ok-search.search.left = omega (arith, c.if-coefficients-gt1.true, size) in
    subst (IsOther c.args.k c.args.poly.now) (sym c.in_ok-rest.ensures) (rest_answer c.args.k c.args.poly.now h.poly.monic (factors_of s.found.items) s.left h.search more)

pub returns-in_ok-whole-clause-split : goal.returns-in_ok-whole-clause-split
returns-in_ok-whole-clause-split c =
    let s = c.in_ok-search.search in
    let h = c.in_ok-search.ensures in
    let size : length c.coefficients.result.now ≡ length c.in_ok-search.search.left = ap length c.coefficients.ensures.items in
    let few : length c.in_ok-search.search.left ≤ 1 = omega (arith, c.if-coefficients-gt1.false, size) in
    let nothing = nothing_left s.left c.coefficients.ensures.poly.monic few in
    whole_answer c.args.k c.args.poly.now h.poly.monic (factors_of s.found.items) s.left h.search nothing c.in_ok-whole.field-0
    (subst (λ (ds : List Divisor). IsWholeSplit (factors_of ds) c.in_ok-whole.field-0) c.deref.ensures.value c.in_ok-whole.ensures)
