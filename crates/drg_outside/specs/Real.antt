-- What contracts see of files and of standard output: the counts of their faults, and nothing of names and bytes.
use Rattle.std.specs.Prelude.{◌≡◌, ℕ, ◌-◌, ◌^◌, Result, IsErr, MatchResult}
use Rattle.drg_outside.specs.Causes.{next_count}

-- the faults so far of files
pub record FileFaults : Type 0 where
  pub open_faults : ℕ
  pub read_faults : ℕ

-- The count rose by one where the call failed and else stayed. From its last value on every call fails.
pub record CountsFaults {T E : Type 0} (before now : ℕ) (result : Result T E) : Type 0 where
  pub count : MatchResult result (λ _. now ≡ before) (λ _. now ≡ next_count before)
  pub last : before ≡ 2 ^ 64 - 1 → IsErr result
