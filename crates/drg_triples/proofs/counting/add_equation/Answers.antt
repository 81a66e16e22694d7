use Rattle.std.proofs.Common.{◌≡◌, true, false, not, [], refl, ap, sym, ◌∙◌}
use Rattle.std.specs.Prelude.{is_ok}
use Rattle.std.proofs.lemmas.List.Elements.{All-nil, All-cons}
use Rattle.drg_whole.specs.Whole.{value_of}
use Rattle.drg_triples.specs.Faults.{Fits}
use Rattle.drg_triples.proofs.Answered.{refused, given}
use Rattle.drg_triples.proofs.Lists.{pushed_is}
use Rattle.drg_triples.proofs.Weights.{sums_are, fits_in}
use Rattle.drg_triples.proofs.counting.add_equation.Goals as goal

pub returns-then-is_err-clause-fault : goal.returns-then-is_err-clause-fault
returns-then-is_err-clause-fault c =
    let numbers = c.args.numbers.now in
    let answer : is_ok c.weight.result ≡ false = c.is_err.ensures.negation ∙ ap not c.if-is_err.true in
    record {
      before = [];
      at = c.args.counted;
      after = [];
      whole = refl;
      fit = All-nil (Fits numbers c.args.ty);
      wide = sym (sums_are numbers c.args.ty c.args.counted c.requires.counted _ _ (c.room.ensures ∙ c.requires.room) c.in_ok-equation.ensures)
          ∙ refused value_of c.weight.result _ _ c.weight.ensures answer;
      names = c.node_of.ensures;
    }

pub push-requires : goal.push-requires
push-requires c =
    let numbers = c.args.numbers.now in
    let answer : is_ok c.weight.result ≡ true = c.is_err.ensures.negation ∙ ap not c.if-is_err.false in
    fits_in numbers c.args.ty c.args.counted c.requires.counted _ _ c.requires.room c.in_ok-equation.ensures
    (sym (sums_are numbers c.args.ty c.args.counted c.requires.counted _ _ (c.room.ensures ∙ c.requires.room) c.in_ok-equation.ensures)
    ∙ given value_of c.weight.result _ _ c.weight.ensures answer)

pub returns-clause-system : goal.returns-clause-system
returns-clause-system c =
    pushed_is c.args.numbers.now c.args.ty c.args.system.now _ c.args.counted _ _ c.name_of.ensures c.in_ok-equation.ensures c.in_ok-push.ensures

pub returns-clause-fit : goal.returns-clause-fit
returns-clause-fit c =
    let numbers = c.args.numbers.now in
    let answer : is_ok c.weight.result ≡ true = c.is_err.ensures.negation ∙ ap not c.if-is_err.false in
    All-cons (Fits numbers c.args.ty) c.args.counted []
    (sym (sums_are numbers c.args.ty c.args.counted c.requires.counted _ _ (c.room.ensures ∙ c.requires.room) c.in_ok-equation.ensures)
    ∙ given value_of c.weight.result _ _ c.weight.ensures answer)
    (All-nil (Fits numbers c.args.ty))
