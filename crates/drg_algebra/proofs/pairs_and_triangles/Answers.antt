use Rattle.drg_algebra.proofs.Parity.{pairs-even, triangles-six}
use Rattle.drg_algebra.proofs.pairs_and_triangles.Goals as goal

pub returns : goal.returns
returns c = record {
  pairs = λ r xs swap loop. pairs-even r xs swap loop;
  triangles = λ r xs swap loop. triangles-six r swap loop xs;
}
