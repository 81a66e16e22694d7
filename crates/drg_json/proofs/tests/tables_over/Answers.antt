use Rattle.std.proofs.Common.{ℕ, sym, subst}
use Rattle.drg_matrices.specs.Frame.{IsFrameOf}
use Rattle.drg_matrices.specs.Tables.{theta_in, cosine_in, eigen_in, dual_in}
use Rattle.drg_json.proofs.tests.tables_over.Goals as goal

pub krein_of-requires : goal.krein_of-requires
krein_of-requires g c =
    let f = g.F.Field in
    let t = c.in_ok-frame.frame in
    let told = c.in_ok-frame.ensures in record {
      array = c.args.array.now;
      is_array = c.known_valid.ensures;
      numbers_are = c.requires.numbers;
      same_d = told.diameter;
      frame = subst (λ (r : ℕ). IsFrameOf (f.operations r) r c.args.array.now (theta_in f.value f.operations t) (cosine_in f.value f.operations t) (eigen_in f.value f.operations t) (dual_in f.value f.operations t)) (sym told.root) told.frame;
    }
