use Rattle.std.proofs.Common.{◌∙◌, refl, ap}
use Rattle.drg_program.specs.Census.{census_text}
use Rattle.drg_program.proofs.census.arrays_of.Goals as goal

pub returns : goal.returns
returns c =
    let arrays = c.in_ok-arrays.arrays.items in
    record {
      arrays = arrays;
      census = c.in_ok-arrays.ensures;
      only = λ others is. c.census_law.ensures.one c.args.d c.args.k c.args.n others arrays is c.in_ok-arrays.ensures;
      told = refl;
      written = c.in_ok-text.ensures ∙ ap census_text c.deref.ensures.value;
    }
