use Rattle.std.proofs.Common.{◌≡◌, ◌<◌, ◌==◌, ◌∙◌, ◌∷◌, ◌++◌, [], rules, sym, ap, length, map, ℕ, List}
use Rattle.std.specs.List.{before_first, after_first, position_or_len}
use Rattle.drg_array.specs.Claims.{test_name}
use Rattle.drg_array.specs.TestLists.{IsTestList}
use Rattle.drg_array.specs.declared.test.Test.{Test}
use Rattle.drg_array.proofs.TestListLaws.{pieces, first-piece, last-piece, refused, names-push, next-selection, accepted, isnt-none, any-none}
use Rattle.drg_array.proofs.test_set.TestSet.read.Goals as goal

pub returns-in_err-select-clause-none : goal.returns-in_err-select-clause-none
returns-in_err-select-clause-none c =
    let rest = c.names.rest.now in
    let done = map test_name c.names.selected.items in
    let name : c.in-Some.name.now ≡ before_first (λ (b : ℕ). b == 44) c.names.rest.now = search rules in
    let comma : position_or_len (λ (b : ℕ). b == 44) c.names.rest.now < length c.names.rest.now = search rules in
    let names : map test_name c.names.selected.items ++ (c.in-Some.name.now ∷ pieces (after_first (λ (b : ℕ). b == 44) c.names.rest.now)) ≡ pieces c.args.text.now =
    ap (λ (l : List (List ℕ)). done ++ l) (ap (λ (n : List ℕ). n ∷ pieces (after_first (λ (b : ℕ). b == 44) rest)) name ∙ sym (first-piece rest comma)) ∙ c.names.invariant.names in
    let none : (tests : List Test) → IsTestList c.args.text.now tests → ⊥ =
    λ tests. refused c.names.selected.items tests c.args.text.now c.in-Some.name.now _ names (isnt-none c.args.text.now c.eq.result c.eq.ensures c.if-eq.false) c.in_err-select.ensures.none in
    any-none _ none

pub names-preserved : goal.names-preserved
names-preserved c =
    let rest = c.names.rest.now in
    let done = map test_name c.names.selected.items in
    let name : c.in-Some.name.now ≡ before_first (λ (b : ℕ). b == 44) c.names.rest.now = search rules in
    let more : c.in-Some.more.now ≡ after_first (λ (b : ℕ). b == 44) c.names.rest.now = search rules in
    let comma : position_or_len (λ (b : ℕ). b == 44) c.names.rest.now < length c.names.rest.now = search rules in
    let new = c.in_ok-select.ensures.some in
    record {
      utf8 = search rules;
      selection = next-selection c.names.selected.items c.select.new.selected.items c.in-Some.name.now c.names.invariant.selection new;
      names =
          names-push c.names.selected.items c.select.new.selected.items c.in-Some.name.now (pieces c.in-Some.more.now) new
          ∙ (ap (λ (l : List (List ℕ)). done ++ l) (ap (λ (m : List ℕ). c.in-Some.name.now ∷ pieces m) more ∙ (ap (λ (n : List ℕ). n ∷ pieces (after_first (λ (b : ℕ). b == 44) rest)) name ∙ sym (first-piece rest comma)))
          ∙ c.names.invariant.names);
    }

pub returns-in_err-select-2-clause-none : goal.returns-in_err-select-2-clause-none
returns-in_err-select-2-clause-none c =
    let rest = c.names.rest.now in
    let plain : position_or_len (λ (b : ℕ). b == 44) c.names.rest.now ≡ length c.names.rest.now = search rules in
    let names : map test_name c.names.selected.items ++ (c.names.rest.now ∷ []) ≡ pieces c.args.text.now =
    ap (λ (l : List (List ℕ)). map test_name c.names.selected.items ++ l) (sym (last-piece rest plain)) ∙ c.names.invariant.names in
    let none : (tests : List Test) → IsTestList c.args.text.now tests → ⊥ =
    λ tests. refused c.names.selected.items tests c.args.text.now rest [] names (isnt-none c.args.text.now c.eq.result c.eq.ensures c.if-eq.false) c.in_err-select-2.ensures.none in
    any-none _ none

pub returns-clause-some : goal.returns-clause-some
returns-clause-some c =
    let rest = c.names.rest.now in
    let plain : position_or_len (λ (b : ℕ). b == 44) c.names.rest.now ≡ length c.names.rest.now = search rules in
    let names : map test_name c.names.selected.items ++ (c.names.rest.now ∷ []) ≡ pieces c.args.text.now =
    ap (λ (l : List (List ℕ)). map test_name c.names.selected.items ++ l) (sym (last-piece rest plain)) ∙ c.names.invariant.names in
    accepted c.names.selected.items c.select-2.new.selected.items c.args.text.now rest names c.names.invariant.selection c.in_ok-select-2.ensures.some

pub invariant_of-result-2 : goal.invariant_of-result-2
invariant_of-result-2 c =
    next-selection c.names.selected.items c.select-2.new.selected.items c.names.rest.now c.names.invariant.selection c.in_ok-select-2.ensures.some
