use Rattle.drg_eigen.specs.Step.{factors_of}
use Rattle.drg_eigen.proofs.SortedRoots.{sorted_roots}
use Rattle.drg_eigen.proofs.spectrum.roots.Goals as goal

pub returns : goal.returns
returns c =
    let sort = c.in_ok-sort.ensures in
    sorted_roots c.args.root (factors_of c.args.found.now) c.in_ok-roots.roots.items c.sort.new.self.items c.reverse.new.self.items c.requires.found c.requires.order
    c.in_ok-roots.ensures sort.permutation sort.sorted c.reverse.ensures.items
