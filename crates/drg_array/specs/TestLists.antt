-- The lists of tests that can be selected, and their texts.
use Rattle.std.specs.Prelude.{◌≡◌, ℕ, ⊤, List, [], ◌∷◌, ◌++◌, map, codes, Contains}
use Rattle.std.specs.List.{join_with_byte}
use Rattle.drg_array.specs.Claims.{test_name}
use Rattle.drg_array.specs.declared.test.Test.{Test}
use Rattle.drg_array.specs.declared.test.Test.TheVariants as test
use Rattle.drg_array.specs.declared.test_set.TheConstants.{BUILT}

-- built tests, none of them twice
abbrev pub IsSelection : List Test → Type 0
IsSelection [] = ⊤
IsSelection (t ∷ ts) = Contains BUILT t × (¬ Contains ts t) × IsSelection ts

-- `none`, or the names of one or more such tests with one comma between two
abbrev pub IsTestList : List ℕ → List Test → Type 0
IsTestList text [] = text ≡ codes "none"
IsTestList text (t ∷ ts) = (text ≡ join_with_byte 44 (map test_name (t ∷ ts))) × IsSelection (t ∷ ts)

-- one more built test, of this name, that isn't among them yet
abbrev pub IsNext : List Test → List ℕ → List Test → Type 0
IsNext old name new = (t : Test) × (new ≡ old ++ t ∷ []) × (test_name t ≡ name) × Contains BUILT t × (¬ Contains old t)

-- tests 1 to 6 always run
abbrev pub IsAlwaysRun : Test → Type 0
IsAlwaysRun test.First = ⊤
IsAlwaysRun test.Degree = ⊤
IsAlwaysRun test.Order = ⊤
IsAlwaysRun test.Cross = ⊤
IsAlwaysRun test.Size = ⊤
IsAlwaysRun test.Intersect = ⊤
IsAlwaysRun test.Handshake = ⊥
IsAlwaysRun test.Induced = ⊥
IsAlwaysRun test.Triangles = ⊥
IsAlwaysRun test.Mult = ⊥
IsAlwaysRun test.Krein = ⊥
IsAlwaysRun test.Absolute = ⊥
IsAlwaysRun test.Triple = ⊥
IsAlwaysRun test.Ktriple = ⊥
