use Rattle.std.proofs.Common.{◌≡◌, ℕ, List, refl, sym, ap, subst, ◌∙◌, take, drop, arith}
use Rattle.drg_array.specs.Entries.{Entries, b_at, diameter}
use Rattle.drg_census.specs.Census.{InCensus, in_order}
use Rattle.drg_census.proofs.Entering.{all_entries, first_half, second_half}
use Rattle.drg_census.proofs.member.member_of.Goals as goal

pub returns-else-branch : goal.returns-else-branch
returns-else-branch c = λ a is begins.
    let xs = c.args.entries.now in
    let d = is.diameter in
    let e = all_entries xs a is.array (let l = c.requires.all in omega arith) begins in
    let one : c.in-Some.array.b ≡ a.b = ap (λ (t : Entries). t.b) c.in-Some.ensures.entries ∙ c.split_at.ensures.front ∙ first_half a xs c.args.sought.d e d in
    let two : c.in-Some.array.c ≡ a.c = ap (λ (t : Entries). t.c) c.in-Some.ensures.entries ∙ c.split_at.ensures.back ∙ second_half a xs c.args.sought.d e d in
    let same : a ≡ c.in-Some.array = λ i. record { b = sym one i; c = sym two i } in
    let here : InCensus (diameter a) (b_at a 0) c.args.sought.n a = record { array = is.array; diameter = refl; valency = refl; vertices = is.vertices; passes = is.passes } in
    let yes = c.in_ok-is_member.ensures.1 (subst (λ (t : Entries). InCensus (diameter t) (b_at t 0) c.args.sought.n t) same here) in
    let no = c.if-branch.false in
    cc
