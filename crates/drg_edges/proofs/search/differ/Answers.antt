use Rattle.drg_edges.proofs.Differences.{difference_of}
use Rattle.drg_edges.proofs.search.differ.Goals as goal

pub returns : goal.returns
returns c =
    rw (c.from.ensures, c.from-2.ensures, c.from-3.ensures, c.from-4.ensures, c.from-5.ensures, c.from-6.ensures, c.from-7.ensures, c.told.ensures, c.told-2.ensures)
    (difference_of c.args.graph.now c.args.x c.args.found.now c.requires.connected c.requires.first)
