use Rattle.std.proofs.Common.{◌<◌, arith, sym, subst, pos, ◌++◌, List, [], ◌∷◌, length, take, get_or}
use Rattle.drg_quadratic.specs.declared.eigenvalue.Eigenvalue.{Eigenvalue}
use Rattle.drg_eigen.specs.Factor.{Factor}
use Rattle.drg_eigen.specs.Found.{IsReal}
use Rattle.drg_eigen.specs.Roots.{AreRootsOf}
use Rattle.drg_eigen.specs.Spectrum.{IsOver}
use Rattle.drg_eigen.specs.Step.{factor_of, factors_of}
use Rattle.drg_eigen.specs.declared.divisor.Divisor.TheVariants.{Linear}
use Rattle.drg_eigen.proofs.FactorLists.{factors_more, one_of_all}
use Rattle.drg_eigen.proofs.RootLists.{roots_joined}
use Rattle.drg_eigen.proofs.spectrum.unsorted_roots.Goals as goal

pub push_roots-requires-clause-divisor : goal.push_roots-requires-clause-divisor
push_roots-requires-clause-divisor c =
    one_of_all IsReal c.args.found.now c.divisors.divisor-index (Linear (pos 0)) (omega (arith, c.divisors-test.true)) c.requires.found

pub push_roots-requires-clause-over : goal.push_roots-requires-clause-over
push_roots-requires-clause-over c =
    one_of_all (IsOver c.args.root) c.args.found.now c.divisors.divisor-index (Linear (pos 0)) (omega (arith, c.divisors-test.true)) c.requires.root.shared

pub divisors-preserved : goal.divisors-preserved
divisors-preserved c =
    let ds = c.args.found.now in
    let i = c.divisors.divisor-index in
    let d = get_or ds i (Linear (pos 0)) in
    let inside : c.divisors.divisor-index < length c.args.found.now = omega (arith, c.divisors-test.true) in
    let more = c.in_ok-push_roots.ensures in
    let joined = roots_joined c.args.root (factors_of (take i ds)) (factor_of d ∷ []) c.divisors.roots.items more.more c.divisors.invariant more.roots in
    subst (λ (es : List Factor). AreRootsOf c.args.root es c.push_roots.new.roots.items) (sym (factors_more ds i (Linear (pos 0)) inside))
    (subst (λ (xs : List Eigenvalue). AreRootsOf c.args.root (factors_of (take i ds) ++ factor_of d ∷ []) xs) (sym more.items) joined)
