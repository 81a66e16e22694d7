-- The number whose square root the field numbers of a frame are made with: 0, or squarefree above 1
use Rattle.std.specs.Prelude.{◌≡◌, ℕ, zero, suc, ◌+◌, ◌*◌, ◌%◌, ◌<◌, ◌≤◌, ◌⊎◌, ◌↔◌, nat_eq, ℤ, pos, unsigned_abs, Bool, true, ◌&&◌, ◌||◌, not}
use Rattle.std.specs.Ordering.{int_eq}
use Rattle.drg_algebra.specs.Root.{IsSquarefree}
use Rattle.drg_replay.specs.Indices.{is_index}

-- the square of no number from 2 to m + 1 divides n
unfoldable pub has_no_square : ℕ → ℕ → Bool
has_no_square n zero = true
has_no_square n (suc m) = has_no_square n m && not (nat_eq (n % ((m + 2) * (m + 2))) 0)

-- up to the greatest root a square that divides it is one of a number below 2^16
abbrev pub is_root : ℤ → Bool
is_root root =
    int_eq root (pos 0) || is_index 2 root 4294967295 && has_no_square (unsigned_abs root) 65534

-- what the test finds out
pub record IsSquarefreeRoot (root : ℤ) : Type 0 where
  pub number : ℕ
  pub is : root ≡ pos number
  pub low : 1 < number
  pub high : number ≤ 4294967295
  pub free : IsSquarefree number

abbrev pub RootLaw : Type 0
RootLaw = (root : ℤ) → (is_root root ≡ true) ↔ ((root ≡ pos 0) ⊎ IsSquarefreeRoot root)
