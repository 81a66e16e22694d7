-- What a met line has passed.
use Rattle.std.proofs.Common.{◌≡◌, ℕ, Bool, true, false, List, [], ◌∷◌, Ok, Err, refl, subst}
use Rattle.std.specs.Prelude.{ℤ, unsigned_abs, if◌then◌else◌, Option, Some}
use Rattle.drg_array.specs.Entries.{diameter}
use Rattle.drg_derivation.specs.declared.line.Line.{Line}
use Rattle.drg_derivation.specs.declared.line.Line.TheVariants.{Eq}
use Rattle.drg_linear.specs.declared.triple.TripleType.{TripleType}
use Rattle.drg_replay.specs.declared.refusal.Fault.{Fault}
use Rattle.drg_replay.specs.declared.refusal.Fault.TheVariants.{Refused, Memory}
use Rattle.drg_replay.specs.declared.refusal.Refusal.TheVariants.{NotMet}
use Rattle.drg_replay.specs.Indices.{is_index}
use Rattle.drg_replay.specs.Known.{KnownContent}
use Rattle.drg_replay.specs.Steps.{Step, Holds, EachHolds, first_failure}
use Rattle.drg_replay.specs.Lines.{steps_of, asked_of}
use Rattle.drg_replay.specs.Systems.{type_of, equation_of, for_type, eq_steps}
use Rattle.drg_replay.specs.Answers.{outcome, Makes, FollowsRule}
use Rattle.drg_replay.proofs.StepLaws.{each_holds}

-- the steps of its rule
pub rule_holds : (k : KnownContent) (line : Line) → outcome k line ≡ Ok tt → EachHolds (steps_of k line)
rule_holds k line met = (each_holds (asked_of k line) met).1

rest_met : (c : Bool) (steps : List Step) → first_failure (Holds c ∷ steps) ≡ Ok tt → first_failure steps ≡ Ok tt
rest_met true steps h = h
rest_met false steps h = cc

-- its rule is met
pub rule_met : (k : KnownContent) (line : Line) → outcome k line ≡ Ok tt → first_failure (steps_of k line) ≡ Ok tt
rule_met k line met = rest_met _ (steps_of k line) met

-- ---- tests of a line that passed
pub condition_holds : (c : Bool) → Ok tt ≡ first_failure (Holds c ∷ []) → c ≡ true
condition_holds true e = refl
condition_holds false e = cc

index_by : (c : Bool) (x v : ℕ) → Ok v ≡ (if c then Ok x else Err NotMet) → (c ≡ true) × (v ≡ x)
index_by true x v e = (refl, cc)
index_by false x v e = cc

-- a number that is found as an index, and the limit, by other names
pub index_found : (least m limit v : ℕ) (z n : ℤ) → Ok v ≡ (if is_index least z m then Ok (unsigned_abs z) else Err NotMet) → z ≡ n → m ≡ limit
    → (is_index least n limit ≡ true) × (v ≡ unsigned_abs n)
index_found least m limit v z n e same bound =
    let P : ℤ → ℕ → Type 0 = λ z m. (is_index least z m ≡ true) × (v ≡ unsigned_abs z) in
    subst (λ z. P z limit) same (subst (P z) bound (index_by (is_index least z m) (unsigned_abs z) v e))

-- ---- a refused line
-- an `eq` line for which no equation is made, its numbers by other names
pub eq_refused : (fault : Fault) (k : KnownContent) (ty : TripleType) (n x y l v w : ℤ) → Some ty ≡ type_of k.claim → l ≡ n → v ≡ x → w ≡ y
    → Makes (Err fault) (eq_steps k.array k.counts.rows ty l v w) (equation_of (diameter k.array) k.counts.rows ty l v w) → FollowsRule (Err fault) (Eq n x y) k k
eq_refused (Refused r) k ty n x y l v w is first second third refused =
    let P : ℤ → ℤ → ℤ → Option TripleType → Type 0 = λ n x y t. first_failure (for_type t (λ ty. eq_steps k.array k.counts.rows ty n x y)) ≡ Err r in
    (subst (P n x y) is (subst (λ y. P n x y (Some ty)) third (subst (λ x. P n x w (Some ty)) second (subst (λ n. P n v w (Some ty)) first refused))), refl)
eq_refused Memory k ty n x y l v w is first second third refused = refl
