-- Laws of tables, frames and Krein numbers.
use Rattle.std.specs.Prelude.{◌≡◌, ℕ, ◌≤◌}
use Rattle.drg_array.specs.Entries.{Entries, IsArray, diameter}
use Rattle.drg_fraction.specs.Operations.{Operations}
use Rattle.drg_matrix.specs.Table.{Square, IsTable, cell, IsTableOver}
use Rattle.drg_matrix.specs.Product.{product_at, entry, ProductIsScalar}
use Rattle.drg_matrix.specs.Frame.{IsFrame}
use Rattle.drg_matrix.specs.Krein.{AreKreinNumbersOf}

module _ {A V : Type 0} (value : A → V) (operations : ℕ → Operations V) where
  -- the values of a table whose members have one root are over that root
  abbrev pub CellsAreOver : (A → ℕ) → Type 0
  CellsAreOver root_of = (t : Square A) → IsTable root_of t → IsTableOver (operations t.root) t.side (cell value operations t)

  -- the dot of a row and a column is the sum of the products of their values
  abbrev pub ProductIsSum : ℕ → Type 0
  ProductIsSum root = (s t : Square A) (i j : ℕ) → s.root ≡ root → s.side ≡ t.side
      → product_at value operations s t i j ≡ entry (operations root) s.side (cell value operations s) (cell value operations t) i j

module _ {V : Type 0} (o : Operations V) where
  -- p q = x I with x not nil gives q p = x I, for values over the root
  abbrev pub RightInverseIsLeft : Type 0
  RightInverseIsLeft = (n : ℕ) (p q : ℕ → ℕ → V) (x : V) → IsTableOver o n p → IsTableOver o n q → o.IsOver x → ¬ (x ≡ o.nil)
      → ProductIsScalar o n p q x → ProductIsScalar o n q p x

  -- a frame of an array has at most one family of Krein numbers
  abbrev pub OneKreinFamily : Type 0
  OneKreinFamily = (a : Entries) (theta : ℕ → V) (p q : ℕ → ℕ → V) → IsArray a → IsFrame o a theta p q
      → (i j : ℕ) (x y : ℕ → V) → AreKreinNumbersOf o (diameter a) q i j x → AreKreinNumbersOf o (diameter a) q i j y
      → (h : ℕ) → h ≤ diameter a → x h ≡ y h
