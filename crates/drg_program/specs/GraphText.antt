-- The line that is written for the answer on a graph.
use Rattle.std.specs.Prelude.{ℕ, List, [], ◌∷◌, ◌++◌, Bool, true, false, codes, decimal}
use Rattle.std.specs.List.{flat_map}
use Rattle.drg_array.specs.Entries.{Entries}
use Rattle.drg_array.specs.Text.{array_text}
use Rattle.drg_edges.specs.declared.answer.GraphAnswer.{GraphAnswer}
use Rattle.drg_edges.specs.declared.answer.GraphAnswer.TheVariants.{Array, Single, Apart, Differ, Far}

-- Numbers are told with one space before each.
abbrev pub numbers_text : List ℕ → List ℕ
numbers_text numbers = flat_map (λ n. 32 ∷ decimal n) numbers

-- An array is told in these words.
abbrev pub array_words : Entries → List ℕ
array_words a = codes "array " ++ array_text a

-- Two pairs that differ in their counts of neighbours further away are told with `up`, and those that differ in their counts
-- of neighbours nearer with `down`.
abbrev pub count_word : Bool → List ℕ
count_word true = codes " up"
count_word false = codes " down"

-- An answer is told in these words, with its numbers in their order.
abbrev pub graph_words : GraphAnswer → List ℕ
graph_words (Array array) = array_words array
graph_words Single = codes "single"
graph_words (Apart x y) = codes "apart" ++ numbers_text (x ∷ y ∷ [])
graph_words (Differ x y x2 y2 distance up first second) =
    codes "differ" ++ numbers_text (x ∷ y ∷ x2 ∷ y2 ∷ distance ∷ []) ++ (count_word up ++ numbers_text (first ∷ second ∷ []))
graph_words (Far x y) = codes "far" ++ numbers_text (x ∷ y ∷ [])

-- The line of an answer is its words and a line feed.
abbrev pub graph_line : GraphAnswer → List ℕ
graph_line answer = graph_words answer ++ codes "\n"
