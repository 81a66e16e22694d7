-- The arrays of a census whose first entries are given, as a search goes over them.
use Rattle.std.specs.Prelude.{◌≡◌, ℕ, suc, ◌+◌, ◌*◌, ◌≤◌, ◌<◌, ◌↔◌, List, [], ◌∷◌, ◌++◌, length, slice_index, Contains}
use Rattle.drg_array.specs.Entries.{Entries}
use Rattle.drg_census.specs.Census.{AreAscending, InCensus, IsWithinLimits, in_order}

-- The array begins with these entries.
abbrev pub BeginsWith : List ℕ → Entries → Type 0
BeginsWith beginning a = (rest : List ℕ) × (in_order a ≡ beginning ++ rest)

-- No array of the census begins with these entries.
abbrev pub NoneBegins : ℕ → ℕ → ℕ → List ℕ → Type 0
NoneBegins d k n beginning = (a : Entries) → InCensus d k n a → BeginsWith beginning a → ⊥

-- The beginning of arrays of the census: the valency, and no more than all entries.
pub record IsBeginning (d k n : ℕ) (beginning : List ℕ) : Type 0 where
  pub limits : IsWithinLimits d k n
  pub some : 1 ≤ length beginning
  pub short : length beginning ≤ d + d
  pub valency : slice_index beginning 0 ≡ k

-- The arrays are exactly all of the census that begin with these entries, ascending.
pub record AreAllFrom (d k n : ℕ) (beginning : List ℕ) (arrays : List Entries) : Type 0 where
  pub exactly : (a : Entries) → Contains arrays a ↔ (InCensus d k n a × BeginsWith beginning a)
  pub ascending : AreAscending arrays

-- The same of those whose next entry is below a bound.
pub record AreAllBelow (d k n : ℕ) (beginning : List ℕ) (bound : ℕ) (arrays : List Entries) : Type 0 where
  pub exactly : (a : Entries) → Contains arrays a ↔ (InCensus d k n a × ((v : ℕ) × (v < bound) × BeginsWith (beginning ++ v ∷ []) a))
  pub ascending : AreAscending arrays

-- Arrays were appended, and they are all that begin with these entries.
abbrev pub AppendsAllFrom : ℕ → ℕ → ℕ → List ℕ → List Entries → List Entries → Type 0
AppendsAllFrom d k n beginning old new = (more : List Entries) × (new ≡ old ++ more) × AreAllFrom d k n beginning more

-- The one array of the census with all these entries.
pub record IsTheArray (d k n : ℕ) (beginning : List ℕ) (a : Entries) : Type 0 where
  pub member : InCensus d k n a
  pub entries : in_order a ≡ beginning
