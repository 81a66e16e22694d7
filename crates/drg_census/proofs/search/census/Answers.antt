use Rattle.std.proofs.Common.{◌≡◌, ℕ, [], ◌∷◌, ◌++◌, List, sym, subst, ◌∙◌, ap}
use Rattle.drg_array.specs.Entries.{Entries}
use Rattle.drg_census.specs.Begins.{AreAllFrom}
use Rattle.drg_census.specs.Census.{IsCensus}
use Rattle.drg_census.proofs.Gathering.{all_from_valency}
use Rattle.drg_census.proofs.search.census.Goals as goal

pub returns : goal.returns
returns c =
    let (more, e, from) = c.in_ok-search.ensures in
    let all : c.search.new.found.items ≡ more = e ∙ ap (λ v. v ++ more) c.new-found.ensures.items in
    let one = subst (λ (v : List ℕ). AreAllFrom c.from.result c.args.k c.args.n v more) c.of.ensures from in
    let two = subst (λ (d : ℕ). AreAllFrom d c.args.k c.args.n (c.args.k ∷ []) more) c.from.ensures one in
    subst (IsCensus c.args.d c.args.k c.args.n) (sym all) (all_from_valency c.args.d c.args.k c.args.n more c.requires two)
