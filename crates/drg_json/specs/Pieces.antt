-- The pieces of which JSON reports are made: lists, texts, numbers, and members that may be missing.
use Rattle.std.specs.Prelude.{ℕ, zero, suc, List, [], ◌∷◌, ◌++◌, Option, Some, None, map}
use Rattle.serde_json.specs.Data.{Data, Members, array, member, number, string, unsigned}
use Rattle.serde_json.specs.View.{items_of}

-- a list with these items
abbrev pub list : List Data → Data
list items = array (items_of items)

-- a list of texts
abbrev pub texts : List (List ℕ) → Data
texts items = list (map string items)

-- a number that isn't negative, as a JSON number
abbrev pub index : ℕ → Data
index n = number (unsigned n)

-- a list of such numbers
abbrev pub indices : List ℕ → Data
indices numbers = list (map index numbers)

-- the first m items f 0, f 1, ..
abbrev pub first_items : (ℕ → Data) → ℕ → List Data
first_items f zero = []
first_items f (suc i) = first_items f i ++ f i ∷ []

-- the member of this key, where it has a value, before the others
abbrev pub member_if : List ℕ → Option Data → Members → Members
member_if key None others = others
member_if key (Some value) others = member key value others
