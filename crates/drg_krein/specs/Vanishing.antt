-- The vanishing Krein parameters of a frame, as the list of their indices.
use Rattle.std.specs.Prelude.{◌≡◌, ℕ, ◌≤◌, ◌↔◌, List, Contains}
use Rattle.std.specs.List.{AllPairs}
use Rattle.drg_fraction.specs.Operations.{Operations}
use Rattle.drg_krein.specs.Faults.{ComesBefore}
use Rattle.drg_krein.specs.Tables.{KreinTables, krein_in}

-- three indices come before three others in lexicographic order
abbrev pub IsEarlier : ℕ × ℕ × ℕ → ℕ × ℕ × ℕ → Type 0
IsEarlier s t = ComesBefore s.0 s.1 s.2 t.0 t.1 t.2

module _ {A V : Type 0} (value : A → V) (operations : ℕ → Operations V) (t : KreinTables A) where
  -- q^h_ij is 0
  abbrev pub Vanishes : ℕ → ℕ → ℕ → Type 0
  Vanishes i j h = krein_in value operations t h i j ≡ (operations t.root).nil

  -- i, j and h are from 1 to d, and q^h_ij is 0
  pub record NamesVanishing (i j h : ℕ) : Type 0 where
    pub some : (1 ≤ i) × (1 ≤ j) × (1 ≤ h)
    pub inside : (i ≤ t.d) × (j ≤ t.d) × (h ≤ t.d)
    pub vanishes : Vanishes i j h

  -- the list has exactly the indices of these, ascending
  pub record AreVanishing (found : List (ℕ × ℕ × ℕ)) : Type 0 where
    pub members : (i j h : ℕ) → Contains found (i, j, h) ↔ NamesVanishing i j h
    pub ascending : AllPairs IsEarlier found

  -- the same of the indices before (k, l, m)
  pub record AreVanishingBefore (k l m : ℕ) (found : List (ℕ × ℕ × ℕ)) : Type 0 where
    pub members : (i j h : ℕ) → Contains found (i, j, h) ↔ (NamesVanishing i j h × ComesBefore i j h k l m)
    pub ascending : AllPairs IsEarlier found
