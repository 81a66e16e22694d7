-- A derivation that shows that the array fails a claim has a text and is accepted.
use Rattle.std.proofs.Common.{◌≡◌, ℕ, Ok, ap, sym, ◌∙◌, subst, inl, inr}
use Rattle.drg_array.specs.ConditionLaws.{IsArrayTest}
use Rattle.drg_array.specs.Entries.{Entries}
use Rattle.drg_array.specs.Claims.{class_of, test_of}
use Rattle.drg_array.specs.declared.claim.Claim.{Claim}
use Rattle.drg_array.specs.declared.claim.Claim.TheVariants.{Mult}
use Rattle.drg_derivation.specs.Content.{Content}
use Rattle.drg_evidence.specs.Laws.{CountsAccepted, CountsHaveText, MultAccepted, MultHasText, ShowsCounts, ShowsMult}
use Rattle.drg_evidence.specs.Lines.{AreLinesOf}
use Rattle.drg_evidence.specs.Made.{AreMade}
use Rattle.drg_engine.specs.Conditions.{Fails}
use Rattle.drg_engine.specs.Laws.{AcceptanceLaw, ShowsFailure, TextLaw}
use Rattle.drg_engine.proofs.BuiltTests.{claim_kind, counts_fail}

by_counts : (derivation : Content) → IsArrayTest (test_of derivation.claim) → ShowsFailure derivation → ShowsCounts derivation
by_counts derivation counted shows = record {
  array = shows.array;
  fails = counts_fail derivation.array derivation.claim counted shows.fails;
  lines = shows.lines;
  made = shows.made;
}

by_mult : (derivation : Content) (i : ℕ) → derivation.claim ≡ Mult i → ShowsFailure derivation → ShowsMult derivation i
by_mult derivation i is shows = record {
  array = shows.array;
  claimed = is;
  fails = subst (Fails derivation.array) is shows.fails;
  lines = subst (λ c. AreLinesOf derivation.array c derivation.lines) is shows.lines;
  made = subst (AreMade derivation.array) is shows.made;
}

pub accepted : CountsAccepted → MultAccepted → AcceptanceLaw
accepted counts mult derivation shows =
    elim (claim_kind derivation.claim shows.built) [
      | inl counted ↦ counts derivation (by_counts derivation counted shows)
      | inr (i, is) ↦ mult derivation i (by_mult derivation i is shows) ∙ ap (λ (c : Claim). Ok (class_of c)) (sym is)
    ]

pub has_text : CountsHaveText → MultHasText → TextLaw
has_text counts mult derivation shows =
    elim (claim_kind derivation.claim shows.built) [
      | inl counted ↦ counts derivation (by_counts derivation counted shows)
      | inr (i, is) ↦ mult derivation i (by_mult derivation i is shows)
    ]
