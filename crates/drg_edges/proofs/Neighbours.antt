-- The sets of neighbours that a list of pairs gives, and the step from one layer to the next.
use Rattle.std.proofs.Common.{◌≡◌, ℕ, zero, suc, ◌≤◌, ◌<◌, Bool, true, false, List, [], ◌∷◌, length, replicate, take, drop, ◌++◌, refl, sym, ap, ap₂, subst, ◌∙◌, arith, inl, inr}
use Rattle.std.specs.Prelude.{◌==◌, ◌&&◌, ◌||◌, not, ◌≢◌}
use Rattle.std.specs.List.{list_any, AllByRecursion}
use Rattle.std.proofs.lemmas.List.{take_at, get_or-replicate, length-replicate}
use Rattle.drg_algebra.specs.Sums.{below, is_among}
use Rattle.drg_algebra.proofs.Tests.{both, either, and-comm, same-test, same-number, differ-test, any-in, any-out, below-in, below-out}
use Rattle.drg_graph.specs.Graph.{Graph, is_vertex, is_adjacent, has_shorter, is_at_distance}
use Rattle.drg_graph.proofs.Walks.{adjacent-pair, adjacent-in}
use Rattle.drg_graph.proofs.Distances.{distance-right}
use Rattle.drg_edges.specs.Layers.{set_at, are_joined, AreRows, has_neighbour}
use Rattle.drg_edges.specs.Text.{IsPair, graph_on}
use Rattle.drg_edges.specs.VertexSets.{holds}
use Rattle.drg_edges.specs.declared.vertex_set.VertexSet.{VertexSet}
use Rattle.drg_edges.proofs.Reaching.{next_layer, distance_small}

any_same : (p q : ℕ → Bool) (xs : List ℕ) → ((x : ℕ) → is_among x xs ≡ true → p x ≡ q x) → list_any p xs ≡ list_any q xs
any_same p q xs same =
    same-test (list_any p xs) (list_any q xs)
    (λ h. (let found = any-out p xs h in any-in q xs found.0 found.1 (sym (same found.0 found.1) ∙ found.2)))
    (λ h. (let found = any-out q xs h in any-in p xs found.0 found.1 (same found.0 found.1 ∙ found.2)))

pub length-below : (n : ℕ) → length (below n) ≡ n
length-below zero = refl
length-below (suc n) = ap suc (length-below n)

-- ---- rows
pair_inside : (n : ℕ) (pairs : List (ℕ × ℕ)) (u v : ℕ) → AllByRecursion (IsPair n) pairs → list_any (λ p. p.0 == u && p.1 == v) pairs ≡ true → (u < n) × (v < n) × (u ≢ v)
pair_inside n [] u v h e = absurd (let f = e in cc)
pair_inside n (p ∷ ps) u v h e = elim (either (p.0 == u && p.1 == v) _ e) [
  | inl here ↦ (let parts = both (p.0 == u) _ here in
      let left = same-number p.0 u parts.0 in
      let right = same-number p.1 v parts.1 in
      subst (λ a. (a < n) × (v < n) × (a ≢ v)) left (subst (λ b. (p.0 < n) × (b < n) × (p.0 ≢ b)) right h.0))
  | inr later ↦ pair_inside n ps u v h.1 later
]

joined_inside : (n : ℕ) (pairs : List (ℕ × ℕ)) (u v : ℕ) → AllByRecursion (IsPair n) pairs → are_joined pairs u v ≡ true → (u < n) × (v < n) × (u ≢ v)
joined_inside n pairs u v h e = elim (either (list_any (λ p. p.0 == u && p.1 == v) pairs) _ e) [
  | inl one ↦ pair_inside n pairs u v h one
  | inr two ↦ (let found = pair_inside n pairs v u h two in (found.1, found.0, λ same. found.2 (sym same)))
]

pub joined_adjacent : (n : ℕ) (pairs : List (ℕ × ℕ)) (u v : ℕ) → AllByRecursion (IsPair n) pairs → are_joined pairs u v ≡ is_adjacent (graph_on n pairs) u v
joined_adjacent n pairs u v h =
    same-test (are_joined pairs u v) (is_adjacent (graph_on n pairs) u v)
    (λ e. (let inside = joined_inside n pairs u v h e in
    adjacent-in (graph_on n pairs) u v (below-in n u inside.0) (below-in n v inside.1) (differ-test u v inside.2) e))
    (λ e. adjacent-pair (graph_on n pairs) u v e)

-- ---- from one layer to the next
module _ (g : Graph) (rows : List VertexSet) (are : AreRows g rows) where
  pub row_vertex : (v : ℕ) → v < length rows → is_vertex g v ≡ true
  row_vertex v h = subst (λ vs. is_among v vs ≡ true) (sym are.vertices) (below-in (length rows) v h)

  pub vertex_row : (v : ℕ) → is_vertex g v ≡ true → v < length rows
  vertex_row v h = below-out (length rows) v (subst (λ vs. is_among v vs ≡ true) are.vertices h)

  pub rows_length : length g.vertices ≡ length rows
  rows_length = ap length are.vertices ∙ length-below (length rows)

  pub rows_count : (n : ℕ) → g.vertices ≡ below n → n ≡ length rows
  rows_count n all = sym (ap length all ∙ length-below n) ∙ rows_length

  module _ (x k : ℕ) (layer seen : VertexSet) (here : (v : ℕ) → holds layer v ≡ is_at_distance g k x v) (before : (v : ℕ) → holds seen v ≡ has_shorter g (suc k) x v) where
    neighbour_same : (u : ℕ) → has_neighbour rows layer u ≡ list_any (λ v. is_at_distance g k x v && is_adjacent g v u) g.vertices
    neighbour_same u =
        any_same (λ v. holds layer v && holds (set_at rows v) u) (λ v. is_at_distance g k x v && is_adjacent g v u) (below (length rows))
        (λ v h. ap₂ (λ a b. a && b) (here v) (are.hold v u (below-out (length rows) v h)))
        ∙ ap (λ vs. list_any (λ v. is_at_distance g k x v && is_adjacent g v u) vs) (sym are.vertices)

    pub layer_next : (u : ℕ) → (has_neighbour rows layer u && not (holds seen u)) ≡ is_at_distance g (suc k) x u
    layer_next u = ap₂ (λ a b. a && not b) (neighbour_same u) (before u) ∙ sym (next_layer g x k u)

    pub layer_inside : (v : ℕ) → holds layer v ≡ true → v < length rows
    layer_inside v h = vertex_row v (distance-right g k x v (sym (here v) ∙ h))

    pub layer_small : (v : ℕ) → holds layer v ≡ true → k < length rows
    layer_small v h = (let small = distance_small g x k v (sym (here v) ∙ h) in let same = rows_length in omega (arith, small, same))

-- ---- one pair after the other
pub or-false : (b : Bool) → (b || false) ≡ b
or-false true = refl
or-false false = refl

any-append : (f : ℕ × ℕ → Bool) (ps : List (ℕ × ℕ)) (p : ℕ × ℕ) → list_any f (ps ++ p ∷ []) ≡ (list_any f ps || f p)
any-append f [] p = or-false (f p)
any-append f (q ∷ qs) p = ap (λ b. f q || b) (any-append f qs p) ∙ or-assoc (f q) (list_any f qs) (f p)
  where
    or-assoc : (a b c : Bool) → (a || (b || c)) ≡ ((a || b) || c)
    or-assoc true b c = refl
    or-assoc false b c = refl

regroup : (a b x y h : Bool) → (b || (a || ((x || y) || h))) ≡ (((x || a) || (y || b)) || h)
regroup true true true true h = refl
regroup true true true false h = refl
regroup true true false true h = refl
regroup true true false false h = refl
regroup true false true true h = refl
regroup true false true false h = refl
regroup true false false true h = refl
regroup true false false false h = refl
regroup false true true true h = refl
regroup false true true false h = refl
regroup false true false true h = refl
regroup false true false false h = refl
regroup false false true true h = refl
regroup false false true false h = refl
regroup false false false true h = refl
regroup false false false false h = refl

pub joined_next : (ps more : List (ℕ × ℕ)) (x y : ℕ) (old one two : List VertexSet) (first : List VertexSet) → more ≡ ps ++ (x, y) ∷ []
    → ((u v : ℕ) → holds (set_at old u) v ≡ (are_joined ps u v || holds (set_at first u) v))
    → ((u v : ℕ) → holds (set_at one u) v ≡ (x == u && y == v || holds (set_at old u) v))
    → ((u v : ℕ) → holds (set_at two u) v ≡ (y == u && x == v || holds (set_at one u) v))
    → (u v : ℕ) → holds (set_at two u) v ≡ (are_joined more u v || holds (set_at first u) v)
joined_next ps more x y old one two first whole before left right u v =
    let f : ℕ × ℕ → Bool = λ p. p.0 == u && p.1 == v in
    let g : ℕ × ℕ → Bool = λ p. p.0 == v && p.1 == u in
    let h = holds (set_at first u) v in
    let parts : are_joined more u v ≡ ((list_any f ps || (x == u && y == v)) || (list_any g ps || (y == u && x == v))) =
    ap (λ qs. list_any f qs || list_any g qs) whole ∙ (ap₂ (λ a b. a || b) (any-append f ps (x, y)) (any-append g ps (x, y)) ∙ ap (λ b. (list_any f ps || (x == u && y == v)) || (list_any g ps || b)) (and-comm (x == v) (y == u))) in
    right u v
    ∙ (ap (λ b. (y == u && x == v) || b) (left u v ∙ ap (λ b. (x == u && y == v) || b) (before u v))
    ∙ (regroup (x == u && y == v) (y == u && x == v) (list_any f ps) (list_any g ps) h ∙ ap (λ b. b || h) (sym parts)))

pub rows_done : (g : Graph) (n : ℕ) (empty : VertexSet) (rows first : List VertexSet) → 1 ≤ n → n ≤ 2000 → g.vertices ≡ below n → AllByRecursion (IsPair n) g.pairs
    → ((v : ℕ) → holds empty v ≡ false) → first ≡ replicate n empty → length rows ≡ length first
    → ((u v : ℕ) → holds (set_at rows u) v ≡ (are_joined g.pairs u v || holds (set_at first u) v)) → AreRows g rows
rows_done g n empty rows first some most vertices pairs none all long hold =
    let count : length rows ≡ n = long ∙ (ap length all ∙ length-replicate n empty) in
    let whole : graph_on n g.pairs ≡ g = ap (λ vs. record { vertices = vs; pairs = g.pairs }) (sym vertices) in
    record {
      vertices = vertices ∙ ap below (sym count);
      some = omega (arith, count, some);
      most = omega (arith, count, most);
      hold = λ y v less. (let start : holds (set_at first y) v ≡ false =
          ap (λ ss. holds (set_at ss y) v) all ∙ (ap (λ s. holds s v) (get_or-replicate n y empty (record { words = [] }) (omega (arith, less, count))) ∙ none v) in
          hold y v ∙ (ap (λ b. are_joined g.pairs y v || b) start ∙ (or-false (are_joined g.pairs y v) ∙ (joined_adjacent n g.pairs y v pairs ∙ ap (λ h. is_adjacent h y v) whole))));
    }

-- a vector that is lent as a slice of the same length holds what the slice does then
pub refilled : {X : Type 0} (len : ℕ) (ws items : List X) → length ws ≡ length items → length items ≡ len → take len (ws ++ drop (length ws) items) ≡ ws
refilled len ws items one two =
    subst (λ n. take n (ws ++ drop (length ws) items) ≡ ws) (one ∙ two) (take_at ws (drop (length ws) items) (length ws) refl)
