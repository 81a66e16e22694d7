use Rattle.std.proofs.Common.{ap, ◌∙◌, subst}
use Rattle.drg_matrices.specs.Tables.{root_of_tables, theta_in}
use Rattle.drg_krein.specs.Values.{values_in}
use Rattle.drg_krein.proofs.Full.{tables_are}
use Rattle.drg_krein.proofs.Meets.{numbers_of_array, symmetric_of_array, tables_meet}
use Rattle.drg_krein.proofs.krein.krein_of.Goals as goal

pub invariant_of-result : goal.invariant_of-result
invariant_of-result g c =
    let f = g.F.Field in
    let v = values_in f.value f.operations c.args.numbers.now c.args.frame.now in
    tables_are f.value f.operations (root_of_tables c.args.frame.now) v c.d.result c.root.result c.in_ok-tables.tables.items c.d.ensures.value (c.root.ensures ∙ c.m.ensures.root) c.d.ensures.short
    c.in_ok-tables.ensures.full c.in_ok-signs.ensures.fit

pub returns-clause-krein : goal.returns-clause-krein
returns-clause-krein g c =
    let f = g.F.Field in
    let frame = c.args.frame.now in
    let root = root_of_tables frame in
    let o = f.operations root in
    let r = c.requires in
    let v = values_in f.value f.operations c.args.numbers.now frame in
    let theta = theta_in f.value f.operations frame in
    let has_root = subst f.HasRoot c.m.ensures.root (g.met.F.Field.has_root c.m.result) in
    let count = ap o.rational r.numbers_are.vertices in
    let formula = numbers_of_array o v.u v.p v.q r.array v.d v.n r.same_d count (c.formula_law.ensures.gives root has_root r.array theta v.u v.p v.q r.is_array r.frame) in
    let symmetric = symmetric_of_array o v.u v.p v.q r.array v.d v.n r.same_d count (c.formula_law.ensures.symmetric root has_root r.array theta v.u v.p v.q r.frame) in
    tables_meet f.value f.operations root v (record { d = c.d.result; root = c.root.result; tables = c.in_ok-tables.tables.items }) c.in_ok-tables.ensures.full symmetric (g.met.F.Field.laws root has_root) formula
