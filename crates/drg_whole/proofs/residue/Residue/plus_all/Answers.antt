use Rattle.std.proofs.Common.{◌≡◌, ◌+◌, drop, get_or, ap, sym, ◌∙◌, rules, add-one}
use Rattle.std.specs.Prelude.{pos, ◌+ℤ◌, ◌∷◌}
use Rattle.std.specs.Int.{w128}
use Rattle.std.proofs.Math.Seq.{drop-cons}
use Rattle.std.proofs.lemmas.Int.{to_z-of_z}
use Rattle.drg_whole.specs.Residues.{residue}
use Rattle.drg_whole.specs.Sums.{sum_from}
use Rattle.drg_whole.proofs.residue.Residue.plus_all.Goals as goal

pub numbers-preserved : goal.numbers-preserved
numbers-preserved c =
    let xs = c.args.numbers.now in
    let i = c.numbers.number-index in
    let z = get_or xs i (pos 0) in
    let here : drop i xs ≡ z ∷ drop (i + 1) xs = rw (add-one, drop-cons xs i (pos 0) c.numbers-test.true) in
    let same = to_z-of_z w128 z (search rules) in
    let is : c.of.result.value ≡ residue c.of.result.modulus z = rw same at c.of.ensures.value ∙ ap (λ m. residue m z) (sym c.of.ensures.modulus) in (
      c.plus-sum.ensures.modulus ∙ c.numbers.invariant.0,
      λ x h.
          let t = c.numbers.invariant.1 x h in
          (t.0 +ℤ z, c.plus-sum.ensures.value t.0 z t.1 is, sym (ap (sum_from t.0) here) ∙ t.2),
    )
