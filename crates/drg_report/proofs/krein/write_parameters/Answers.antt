use Rattle.std.proofs.Common.{◌≡◌, ℕ, List, ◌++◌, ◌+◌, ◌<◌, suc, ap, ap₂, ◌∙◌, subst, arith}
use Rattle.drg_algebra.specs.Beginnings.{BeginsWith}
use Rattle.drg_krein.specs.Tables.{krein_in}
use Rattle.drg_report.specs.Pieces.{spaced}
use Rattle.drg_report.specs.Words.{field_text}
use Rattle.drg_report.specs.KreinTexts.{parameters_text}
use Rattle.drg_report.proofs.Appends.{onward, piece-begins}
use Rattle.drg_report.proofs.krein.write_parameters.Goals as goal

pub returns-in_err-write_spaced_value-clause-err : goal.returns-in_err-write_spaced_value-clause-err
returns-in_err-write_spaced_value-clause-err g c =
    let f = g.F.Field in
    let t = c.args.krein.now in
    let h = c.thirds.h in
    let end = c.d-h-end.ensures.value in
    let inside : h < suc t.d = omega (arith, end, c.thirds-test.true) in
    let text : ℕ → f.V → List ℕ = λ root x. spaced (field_text (f.operations root) root x) in
    let same = ap₂ text c.q.ensures.root c.q.ensures.value in
    let part = subst (λ (l : List ℕ). BeginsWith l c.thirds.out.items c.write_spaced_value.new.out.items) same c.in_err-write_spaced_value.ensures.err in
    piece-begins _ (λ h. text t.root (krein_in f.value f.operations t h c.args.i c.args.j)) (suc t.d) h c.args.out.now.items inside c.thirds.invariant part

pub thirds-preserved : goal.thirds-preserved
thirds-preserved g c =
    let f = g.F.Field in
    let t = c.args.krein.now in
    let i = c.args.i in
    let j = c.args.j in
    let h = c.thirds.h in
    let old = c.args.out.now.items in
    let text : ℕ → f.V → List ℕ = λ root x. spaced (field_text (f.operations root) root x) in
    let same = ap₂ text c.q.ensures.root c.q.ensures.value in
    let now = c.in_ok-write_spaced_value.ensures.ok ∙ ap (λ (l : List ℕ). c.thirds.out.items ++ l) same in
    let next : suc h ≡ h + 1 = omega arith in
    subst (λ (m : ℕ). c.write_spaced_value.new.out.items ≡ old ++ parameters_text f.value f.operations t i j m) next
    (onward old (parameters_text f.value f.operations t i j h) (text t.root (krein_in f.value f.operations t h i j)) c.thirds.invariant now)

pub returns-clause-ok : goal.returns-clause-ok
returns-clause-ok g c =
    let f = g.F.Field in
    let t = c.args.krein.now in
    let end = c.d-h-end.ensures.value in
    let all : c.thirds.h ≡ suc t.d = omega arith in
    subst (λ (m : ℕ). c.thirds.out.items ≡ c.args.out.now.items ++ parameters_text f.value f.operations t c.args.i c.args.j m) all c.thirds.invariant
