-- What further lines come to depends on what is known before them alone.
use Rattle.std.proofs.Common.{◌≡◌, ℕ, ◌+◌, List, [], ◌∷◌, ◌++◌, length, Ok, Err, refl, sym, subst, arith, length-append}
use Rattle.std.specs.Prelude.{Result, ⊤}
use Rattle.drg_array.specs.Entries.{Entries}
use Rattle.drg_array.specs.declared.claim.Claim.{Claim}
use Rattle.drg_array.specs.declared.claim.Class.{Class}
use Rattle.drg_derivation.specs.declared.line.Line.{Line}
use Rattle.drg_replay.specs.declared.refusal.Refusal.{Refusal}
use Rattle.drg_replay.specs.declared.refusal.Refusal.TheVariants.{NotMet, Wide}
use Rattle.drg_replay.specs.declared.progress.Progress.{Progress}
use Rattle.drg_replay.specs.declared.progress.Progress.TheVariants.{AllMet, Decided}
use Rattle.drg_replay.specs.Known.{KnownContent}
use Rattle.drg_replay.specs.Steps.{first_failure}
use Rattle.drg_replay.specs.Lines.{known_after}
use Rattle.drg_replay.specs.Claims.{closing_steps}
use Rattle.drg_replay.specs.Answers.{outcome, decided_by, goes_on, progress_of, accepted_class, closed_by, answer_at}
use Rattle.drg_replay.specs.Laws.{moved_down, KnownAloneLaw}

-- both know the same, or both were decided by lines as far down
Alike : ℕ → ℕ → Progress → Progress → Type 0
Alike m n (AllMet k) (AllMet l) = k ≡ l
Alike m n (AllMet k) (Decided s y) = ⊥
Alike m n (Decided r x) (AllMet l) = ⊥
Alike m n (Decided r x) (Decided s y) = (r ≡ s) × (x + n ≡ y + m)

decided_alike : (m n x y : ℕ) (r : Result ⊤ Refusal) (after : KnownContent) → x + n ≡ y + m → Alike m n (decided_by r after x) (decided_by r after y)
unfolding Alike
decided_alike m n x y (Ok t) after e = refl
decided_alike m n x y (Err refusal) after e = (refl, e)

one_more : (m n x y : ℕ) (p q : Progress) (line : Line) → x + n ≡ y + m → Alike m n p q → Alike m n (goes_on p line x) (goes_on q line y)
unfolding Alike
one_more m n x y (AllMet k) (AllMet l) line e h =
    subst (λ l. Alike m n (goes_on (AllMet k) line x) (goes_on (AllMet l) line y)) h (decided_alike m n x y (outcome k line) (known_after line k) e)
one_more m n x y (AllMet k) (Decided s w) line e h = absurd h
one_more m n x y (Decided r v) (AllMet l) line e h = absurd h
one_more m n x y (Decided r v) (Decided s w) line e h = h

both_start : (m n : ℕ) (k : KnownContent) → Alike m n (AllMet k) (AllMet k)
unfolding Alike
both_start m n k = refl

module _ (a b : Entries) (claim other : Claim) (lines others : List Line) (k : KnownContent) (first : progress_of a claim lines ≡ AllMet k) (second : progress_of b other others ≡ AllMet k) where
  as_far : (further : List Line) → length (further ++ lines) + 4 + length others ≡ length (further ++ others) + 4 + length lines
  as_far further = omega (arith, length-append further lines, length-append further others)

  alike : (further : List Line) → Alike (length lines) (length others) (progress_of a claim (further ++ lines)) (progress_of b other (further ++ others))
  alike [] =
      let P : Progress → Type 0 = λ p. Alike (length lines) (length others) p (progress_of b other others) in
      let Q : Progress → Type 0 = λ q. Alike (length lines) (length others) (AllMet k) q in
      subst P (sym first) (subst Q (sym second) (both_start (length lines) (length others) k))
  alike (line ∷ further) =
      one_more (length lines) (length others) (length (further ++ lines) + 4) (length (further ++ others) + 4) (progress_of a claim (further ++ lines)) (progress_of b other (further ++ others)) line (as_far further) (alike further)

closed_alike : (m n x y : ℕ) (r : Result ⊤ Refusal) (class : Class) → x + n ≡ y + m → moved_down n (closed_by r class x) ≡ moved_down m (closed_by r class y)
closed_alike m n x y (Ok t) class e = refl
closed_alike m n x y (Err NotMet) class e = rw e refl
closed_alike m n x y (Err Wide) class e = rw e refl

answers_alike : (m n x y : ℕ) (p q : Progress) → x + n ≡ y + m → Alike m n p q → moved_down n (answer_at p x) ≡ moved_down m (answer_at q y)
unfolding Alike
answers_alike m n x y (AllMet k) (AllMet l) e h =
    subst (λ l. moved_down n (answer_at (AllMet k) x) ≡ moved_down m (answer_at (AllMet l) y)) h (closed_alike m n x y (first_failure (closing_steps k)) (accepted_class k) e)
answers_alike m n x y (AllMet k) (Decided s w) e h = absurd h
answers_alike m n x y (Decided r v) (AllMet l) e h = absurd h
answers_alike m n x y (Decided NotMet v) (Decided NotMet w) e h = rw h.1 refl
answers_alike m n x y (Decided NotMet v) (Decided Wide w) e h = cc
answers_alike m n x y (Decided Wide v) (Decided NotMet w) e h = cc
answers_alike m n x y (Decided Wide v) (Decided Wide w) e h = rw h.1 refl

pub known_alone : KnownAloneLaw
known_alone a b claim other lines others further k first second =
    answers_alike (length lines) (length others) (length (further ++ lines) + 4) (length (further ++ others) + 4) (progress_of a claim (further ++ lines)) (progress_of b other (further ++ others))
    (as_far a b claim other lines others k first second further) (alike a b claim other lines others k first second further)
