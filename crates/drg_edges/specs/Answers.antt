-- The answer on a graph: its array, or why it has none.
use Rattle.std.specs.Prelude.{◌≡◌, ◌≢◌, ℕ, suc, ◌<◌, Bool, true, false, IsTrue, length}
use Rattle.drg_array.specs.Entries.{IsArray}
use Rattle.drg_array.specs.declared.limits.TheConstants.{MAX_DIAMETER}
use Rattle.drg_graph.specs.Graph.{Graph, is_vertex, HasDistance, IsDistanceRegular}
use Rattle.drg_edges.specs.Pairs.{Precedes, down_count, up_count, HasDistances, IsReference, Differs}
use Rattle.drg_edges.specs.declared.answer.GraphAnswer.{GraphAnswer}
use Rattle.drg_edges.specs.declared.answer.GraphAnswer.TheVariants.{Array, Single, Apart, Differ, Far}

-- The pair (x, y) is the first without a distance.
pub record IsApart (g : Graph) (x y : ℕ) : Type 0 where
  pub several : 1 < length g.vertices
  pub left : IsTrue (is_vertex g x)
  pub right : IsTrue (is_vertex g y)
  pub none : (t : ℕ) → HasDistance g t x y → ⊥
  pub first : (u v : ℕ) → IsTrue (is_vertex g u) → IsTrue (is_vertex g v) → Precedes u v x y → (t : ℕ) × HasDistance g t u v

-- The counts that an answer tells, of the reference (x, y) of a distance and of a pair (x2, y2) at it: those of the
-- neighbours nearer where these differ, and else those of the neighbours further.
abbrev pub AreTold : Graph → (i x y x2 y2 : ℕ) → Bool → ℕ → ℕ → Type 0
AreTold g i x y x2 y2 false first second = (first ≡ down_count g i x y) × (second ≡ down_count g i x2 y2) × (first ≢ second)
AreTold g i x y x2 y2 true first second =
    (down_count g i x y ≡ down_count g i x2 y2) × (first ≡ up_count g i x y) × (second ≡ up_count g i x2 y2) × (first ≢ second)

-- The pair (x2, y2) is the first that differs from the reference of its distance, which is (x, y).
pub record IsDifference (g : Graph) (x y x2 y2 distance : ℕ) (up : Bool) (first second : ℕ) : Type 0 where
  pub connected : HasDistances g
  pub reference : IsReference g distance x y
  pub at : HasDistance g distance x2 y2
  pub told : AreTold g distance x y x2 y2 up first second
  pub earlier : (i u v : ℕ) → Precedes u v x2 y2 → Differs g i u v → ⊥

-- No pair differs, and (x, y) is the first pair at the least distance that no array has.
pub record IsFar (g : Graph) (x y : ℕ) : Type 0 where
  pub connected : HasDistances g
  pub alike : (i u v : ℕ) → Differs g i u v → ⊥
  pub reference : IsReference g (suc MAX_DIAMETER) x y

-- The answer holds of the graph.
abbrev pub IsAnswer : Graph → GraphAnswer → Type 0
IsAnswer g (Array array) = IsArray array × IsDistanceRegular g array
IsAnswer g Single = length g.vertices ≡ 1
IsAnswer g (Apart x y) = IsApart g x y
IsAnswer g (Differ x y x2 y2 distance up first second) = IsDifference g x y x2 y2 distance up first second
IsAnswer g (Far x y) = IsFar g x y
