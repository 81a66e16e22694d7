-- An array has one cause of a fault, none where all its numbers pass, and one table of numbers. So each answer of
-- `numbers_of` other than want of memory comes exactly where its clause says.
use Rattle.std.specs.Prelude.{◌≡◌, ◌≢◌, ℕ, ◌≤◌}
use Rattle.drg_array.specs.Entries.{Entries, IsArray}
use Rattle.drg_intersection.specs.Faults.{AllPass, IsNumbersFault}
use Rattle.drg_intersection.specs.Numbers.{Numbers, AreNumbersOf, k_at, n_of, p_at}
use Rattle.drg_intersection.specs.declared.fault.NumbersFault.{NumbersFault}
use Rattle.drg_intersection.specs.declared.fault.NumbersFault.TheVariants.{Memory}

-- An array has one fault at most, apart from want of memory.
abbrev pub OneFault : Type 0
OneFault = (a : Entries) (f g : NumbersFault) → f ≢ Memory → g ≢ Memory → IsNumbersFault a f → IsNumbersFault a g → f ≡ g

-- An array whose numbers all pass has no fault, apart from want of memory.
abbrev pub NoFaultWhereAllPass : Type 0
NoFaultWhereAllPass = (a : Entries) (f : NumbersFault) → f ≢ Memory → AllPass a → IsNumbersFault a f → ⊥

-- Two tables with the same diameter, sizes, number of vertices and intersection numbers.
pub record AreSame (x y : Numbers) : Type 0 where
  pub d : x.d ≡ y.d
  pub sizes : (i : ℕ) → i ≤ x.d → k_at x i ≡ k_at y i
  pub vertices : n_of x ≡ n_of y
  pub intersections : (h i j : ℕ) → h ≤ x.d → i ≤ x.d → j ≤ x.d → p_at x h i j ≡ p_at y h i j

-- The numbers of an array are one.
abbrev pub OneTable : Type 0
OneTable = (a : Entries) (x y : Numbers) → IsArray a → AreNumbersOf a x → AreNumbersOf a y → AreSame x y
