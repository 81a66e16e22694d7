use Rattle.std.proofs.Common.{◌∙◌, refl, ap, subst, List}
use Rattle.std.proofs.lemmas.Slice.Zip.{AllZip-long}
use Rattle.drg_array.specs.Entries.{Entries}
use Rattle.drg_sample.specs.Generated.{generated}
use Rattle.drg_sample.specs.Summary.{summary_text}
use Rattle.drg_sample.specs.declared.summary.Found.{Found}
use Rattle.drg_program.specs.Sample.{AreKindsOn, IsKindOn}
use Rattle.drg_program.proofs.sample.sample.Goals as goal

pub returns : goal.returns
returns c =
    let kinds = c.in_ok-kinds.kinds.items in
    let are = subst (λ (l : List Entries). AreKindsOn l kinds) (c.deref.ensures.value ∙ c.in_ok-arrays.ensures) c.in_ok-kinds.ensures in
    record {
      kinds = kinds;
      are = are;
      sum = c.sample_law.ensures.add_up kinds ∙ AllZip-long IsKindOn (generated c.args.seed c.args.count) kinds are.judged
          ∙ c.sample_law.ensures.as_many c.args.seed c.args.count;
      told = refl;
      written = c.in_ok-text.ensures ∙ ap (λ (l : List Found). summary_text c.args.seed l) c.deref-2.ensures.value;
    }
