use Rattle.std.proofs.Common.{◌≡◌, ◌<◌, ℕ, suc, List, [], ◌∷◌, refl, ◌∙◌, arith}
use Rattle.std.specs.Prelude.{decimal}
use Rattle.drg_intersection.specs.Numbers.{Numbers, k_at}
use Rattle.drg_report.proofs.Appends.{nothing, piece-begins}
use Rattle.drg_report.proofs.report.write_sizes.Goals as goal

abbrev size_piece : Numbers → ℕ → List ℕ
size_piece numbers i = 32 ∷ decimal (k_at numbers i)

pub returns-clause-ok : goal.returns-clause-ok
returns-clause-ok c =
    let value = c.d-i-end.ensures.value in
    let all : c.sizes.i ≡ suc c.args.numbers.now.d = omega arith in
    rw all at c.sizes.invariant

pub returns-in_err-push-clause-err : goal.returns-in_err-push-clause-err
returns-in_err-push-clause-err c =
    let value = c.d-i-end.ensures.value in
    let inside : c.sizes.i < suc c.args.numbers.now.d = omega (arith, value, c.sizes-test.true) in
    piece-begins _ (size_piece c.args.numbers.now) _ c.sizes.i _ inside c.sizes.invariant (nothing _ _ c.in_err-push.ensures.items)

pub returns-in_err-extend_from_slice-clause-err : goal.returns-in_err-extend_from_slice-clause-err
returns-in_err-extend_from_slice-clause-err c =
    let numbers = c.args.numbers.now in
    let value = c.d-i-end.ensures.value in
    let inside : c.sizes.i < suc numbers.d = omega (arith, value, c.sizes-test.true) in
    piece-begins _ (size_piece numbers) _ c.sizes.i _ inside c.sizes.invariant
    (record { written = 32 ∷ []; rest = decimal (k_at numbers c.sizes.i); whole = refl; now = c.in_err-extend_from_slice.ensures.items ∙ c.in_ok-push.ensures.items })
