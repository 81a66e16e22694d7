-- What the lines so far have made known, in groups.
use Rattle.std.specs.Prelude.{ℕ, ℤ, List, Option}
use Rattle.drg_array.specs.Entries.{Entries}
use Rattle.drg_array.specs.declared.claim.Claim.{Claim}
use Rattle.drg_rooms.specs.Content.{BranchesContent}

-- what the lines `k` and `p` state
pub record CountContent : Type 0 where
  -- the numbers of the `k` line, where it stands
  pub sizes : Option (List ℤ)
  -- for each upper index from 0 on, its rows from row 1 on
  pub rows : List (List (List ℤ))

-- what a `krein` line states: its indices i and j, and its numbers after them
pub record KreinContent : Type 0 where
  pub i : ℕ
  pub j : ℕ
  pub numbers : List ℤ

-- what the `frame` line and those that need it state
pub record FrameContent : Type 0 where
  -- the number whose square root the field numbers are made with, 0 for none
  pub root : ℕ
  -- the numbers of the lines `theta`, `prow` and `qrow`, each list from its first line on
  pub theta : List (List ℤ)
  pub p : List (List ℤ)
  pub q : List (List ℤ)
  -- what the `krein` lines state, from the first one on
  pub krein : List KreinContent

pub record KnownContent : Type 0 where
  -- the array and the claim in force
  pub array : Entries
  pub claim : Claim
  pub counts : CountContent
  -- there from the `frame` line on
  pub frame : Option FrameContent
  -- the equations and the open branches, there from the first equation of the claim's type on
  pub rooms : Option BranchesContent
