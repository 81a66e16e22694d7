use Rattle.std.proofs.Common.{◌≡◌, ℕ, ◌+◌, ◌∷◌, [], ◌++◌, List, length, refl, sym, ap, subst, ◌∙◌, arith}
use Rattle.std.specs.Option.{MatchOption}
use Rattle.std.specs.Prelude.{Option}
use Rattle.std.proofs.lemmas.List.{append_assoc, append-nil}
use Rattle.drg_array.specs.Entries.{Entries}
use Rattle.drg_census.specs.Begins.{AppendsAllFrom, AreAllBelow, AreAllFrom, IsTheArray, NoneBegins}
use Rattle.drg_census.proofs.Gathering.{nothing_from, one_from, none_yet, one_entry_more, all_from_entries, next_beginning}
use Rattle.drg_census.proofs.search.+search.Goals as goal

pub returns-then-not-may_begin : goal.returns-then-not-may_begin
returns-then-not-may_begin t c =
    let s = c.args.sought in
    let none : NoneBegins s.d s.k s.n c.as_slice.result.now = c.may_begin.ensures c.if-not-may_begin.true in
    nothing_from s.d s.k s.n c.args.beginning c.args.found.now.items (subst (NoneBegins s.d s.k s.n) c.as_slice.ensures none)

pub returns-in_ok-push : goal.returns-in_ok-push
returns-in_ok-push t c =
    let s = c.args.sought in
    let xs = c.as_slice-then-len-sought.result.now in
    let old = c.args.found.now.items in
    let Told : Option Entries → Type 0 = λ o. MatchOption o (NoneBegins s.d s.k s.n xs) (IsTheArray s.d s.k s.n xs) in
    let the : IsTheArray s.d s.k s.n xs c.in-Some.array = subst Told c.in-Some.is c.in_ok-array.ensures in
    let here = subst (λ v. IsTheArray s.d s.k s.n v c.in-Some.array) c.as_slice-then-len-sought.ensures the in
    let all : length c.args.beginning ≡ s.d + s.d = (let l = c.len.ensures in omega arith) in
    subst (AppendsAllFrom s.d s.k s.n c.args.beginning old) (sym c.in_ok-push.ensures.items)
    (one_from s.d s.k s.n c.args.beginning c.in-Some.array old all here)

pub returns-in_default : goal.returns-in_default
returns-in_default t c =
    let s = c.args.sought in
    let xs = c.as_slice-then-len-sought.result.now in
    let Told : Option Entries → Type 0 = λ o. MatchOption o (NoneBegins s.d s.k s.n xs) (IsTheArray s.d s.k s.n xs) in
    let none : NoneBegins s.d s.k s.n xs = subst Told c.in_default.is c.in_ok-array.ensures in
    nothing_from s.d s.k s.n c.args.beginning c.args.found.now.items (subst (NoneBegins s.d s.k s.n) c.as_slice-then-len-sought.ensures none)

pub entries-init : goal.entries-init
entries-init t c =
    let s = c.args.sought in
    ([], sym (append-nil c.args.found.now.items), none_yet s.d s.k s.n c.args.beginning)

pub entries-preserved : goal.entries-preserved
entries-preserved t c =
    let s = c.args.sought in
    let (more, e, below) = c.entries.invariant in
    let (next, f, from) = c.in_ok-search.ensures in
    let here = subst (λ v. AreAllFrom s.d s.k s.n v next) c.followed_by.ensures from in (
      more ++ next,
      f ∙ ap (λ v. v ++ next) e ∙ append_assoc c.args.found.now.items more next,
      one_entry_more s.d s.k s.n c.args.beginning c.entries.entry more next below here,
    )

pub returns : goal.returns
returns t c =
    let s = c.args.sought in
    let (more, e, below) = c.entries.invariant in
    let some : ¬ (length c.args.beginning ≡ s.d + s.d) = λ all. (let l = c.len.ensures in omega arith) in
    (more, e, all_from_entries s.d s.k s.n c.entries.entry c.args.beginning more c.requires some (omega arith) below)
