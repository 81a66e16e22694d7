-- The multiplicity of an eigenvalue, and the list of them while it is made.
use Rattle.std.proofs.Common.{◌≡◌, ℕ, suc, ◌<◌, ◌≤◌, List, [], ◌∷◌, ◌++◌, map, length, get_or, ap, sym, ◌∙◌, subst, arith, inl, inr, ◌⊎◌}
use Rattle.std.proofs.lemmas.Bool.{cases_lt}
use Rattle.std.proofs.lemmas.List.{length-map, length_push, map_push, get_or_append_left, get_or_push}
use Rattle.std.proofs.lemmas.List.Elements.{All-push, All-same, All-nil}
use Rattle.drg_array.specs.Entries.{Entries}
use Rattle.drg_fraction.specs.Operations.{Operations}
use Rattle.drg_matrices.specs.Formulas.{multiplicity_of}
use Rattle.drg_matrices.specs.Fits.{MultiplicityFits}
use Rattle.drg_matrices.specs.Filling.{HasMultiplicities}

module _ {A V : Type 0} (value : A → V) (operations : ℕ → Operations V) (root_of : A → ℕ) (root : ℕ) (a : Entries) (theta : ℕ → V) where
  abbrev o : Operations V
  o = operations root

  abbrev Multiplicities : List A → ℕ → Type 0
  Multiplicities = HasMultiplicities value operations root_of root a theta

  pub multiplicities_none : (ms : List A) → ms ≡ [] → Multiplicities ms 0
  multiplicities_none ms e = record {
    count = ap length e;
    roots = All-same (λ m. root_of m ≡ root) ms [] e (All-nil (λ m. root_of m ≡ root));
    values = λ i h. absurd (omega arith);
    fit = λ i h. absurd (omega arith);
  }

  pub multiplicities_next : (ms more : List A) (k l : ℕ) (m : A) → l ≡ suc k → more ≡ ms ++ m ∷ [] → Multiplicities ms k → root_of m ≡ root
      → value m ≡ multiplicity_of o a (theta k) → MultiplicityFits o a (theta k) → Multiplicities more l
  multiplicities_next ms more k l m e is h root_is here fits = record {
    count = let long = length_push ms m in let count = h.count in let all = ap length is in omega (arith, long, count, all);
    roots = All-same (λ m. root_of m ≡ root) more _ is (All-push (λ m. root_of m ≡ root) ms m h.roots root_is);
    values = λ i g. ap (λ us. get_or us i o.nil) (ap (map value) is ∙ map_push value ms m) ∙ at i (cases_lt i k) g;
    fit = λ i g. fitting i (cases_lt i k) g;
  }
    where
      at : (i : ℕ) → (i < k) ⊎ (k ≤ i) → i < l → get_or (map value ms ++ value m ∷ []) i o.nil ≡ multiplicity_of o a (theta i)
      at i (inl less) g = let count = h.count in let long = length-map ms value in
          get_or_append_left (map value ms) (value m ∷ []) o.nil i (omega (arith, count, long)) ∙ h.values i less
      at i (inr more) g =
          let same : i ≡ k = omega arith in
          get_or_push (map value ms) (value m) o.nil i (length-map ms value ∙ h.count ∙ sym same) ∙ here ∙ ap (λ (j : ℕ). multiplicity_of o a (theta j)) (sym same)

      fitting : (i : ℕ) → (i < k) ⊎ (k ≤ i) → i < l → MultiplicityFits o a (theta i)
      fitting i (inl less) g = h.fit i less
      fitting i (inr more) g = let same : i ≡ k = omega arith in subst (λ (j : ℕ). MultiplicityFits o a (theta j)) (sym same) fits
