-- The array of a graph of which no pair differs, by the references of its distances.
use Rattle.std.proofs.Common.{◌≡◌, ℕ, zero, suc, ◌+◌, ◌≤◌, ◌<◌, true, List, length, Option, None, Some, refl, sym, ap, subst, ◌∙◌, arith, inl, inr}
use Rattle.std.specs.Prelude.{◌≢◌, ◌&&◌, slice_index}
use Rattle.std.proofs.lemmas.Bool.{cases_lt}
use Rattle.std.proofs.lemmas.List.{get_or_past}
use Rattle.std.proofs.lemmas.List.Elements.{recursion_from_All, All-from_get_or}
use Rattle.drg_algebra.specs.Sums.{below, is_among, AreDistinct}
use Rattle.drg_algebra.proofs.Tests.{below-in, below-out, below-distinct}
use Rattle.drg_array.specs.Entries.{IsArray, IsEntry, b_at, c_at}
use Rattle.drg_array.specs.declared.limits.TheConstants.{MAX_DIAMETER}
use Rattle.drg_graph.specs.Graph.{Graph, is_vertex, is_adjacent, is_at_distance, HasDistance, IsDistanceRegular}
use Rattle.drg_graph.proofs.Distances.{distance-left, zero-self, zero-same, middle}
use Rattle.drg_edges.specs.Answers.{IsFar}
use Rattle.drg_edges.specs.Pairs.{down_count, up_count, HasDistances, IsReference, Differs}
use Rattle.drg_edges.specs.References.{reference_of, IsFound, IsReferenceBefore, AreReferences, AreAlike}
use Rattle.drg_edges.specs.declared.references.Reference.{Reference}
use Rattle.drg_edges.proofs.Neighbours.{length-below}
use Rattle.drg_edges.proofs.Reaching.{count-most, distance_small}
use Rattle.drg_edges.proofs.PairByPair.{alike_all}
use Rattle.drg_edges.proofs.Regularity.{some_down, some_up, none_up, regular_with}

-- what the references are when all pairs are taken
pub record AreFinal (g : Graph) (references : List (Option Reference)) : Type 0 where
  pub connected : HasDistances g
  pub vertices : g.vertices ≡ below (length references)
  pub few : length references ≤ 2000
  pub found : AreReferences g (length references) 0 references
  pub alike : AreAlike g (length references) 0

-- d is the greatest distance
pub record IsGreatest (references : List (Option Reference)) (d : ℕ) : Type 0 where
  pub inside : d < length references
  pub there : (i : ℕ) → 1 ≤ i → i ≤ d → reference_of references i ≢ None
  pub none : suc d < length references → reference_of references (suc d) ≡ None

module _ (g : Graph) (references : List (Option Reference)) (h : AreFinal g references) where
  vertex : (v : ℕ) → v < length references → is_vertex g v ≡ true
  vertex v less = subst (λ vs. is_among v vs ≡ true) (sym h.vertices) (below-in (length references) v less)

  inside : (v : ℕ) → is_vertex g v ≡ true → v < length references
  inside v e = below-out (length references) v (subst (λ vs. is_among v vs ≡ true) h.vertices e)

  many : length g.vertices ≡ length references
  many = ap length h.vertices ∙ length-below (length references)

  -- a distance without a reference isn't a distance of two vertices
  pub no_pair : (i : ℕ) → i < length references → reference_of references i ≡ None → (u v : ℕ) → HasDistance g i u v → ⊥
  no_pair i less none u v e =
      let all : IsReferenceBefore g i (length references) 0 None = subst (IsReferenceBefore g i (length references) 0) none (h.found i less) in
      all u v e (inl (inside u (distance-left g i u v e)))

  pub first_there : reference_of references 0 ≢ None
  first_there none =
      let several = h.connected.several in
      let same = many in
      let some : 0 < length references = omega (arith, several, same) in
      no_pair 0 some none 0 0 (zero-self g 0 (vertex 0 some))

  pub reference_found : (i : ℕ) (r : Reference) → i < length references → reference_of references i ≡ Some r → IsFound g i (length references) 0 r
  reference_found i r less e = subst (IsReferenceBefore g i (length references) 0) e (h.found i less)

  pub all_alike : (i u v : ℕ) → Differs g i u v → ⊥
  all_alike = alike_all g (length references) h.vertices h.alike

  module _ (d : ℕ) (top : IsGreatest references d) where
    pub there_up_to : (i : ℕ) → i ≤ d → reference_of references i ≢ None
    there_up_to zero less = first_there
    there_up_to (suc i) less = top.there (suc i) (omega arith) less

    pub some_of : (i : ℕ) → i ≤ d → (r : Reference) × (reference_of references i ≡ Some r)
    some_of i less = value (reference_of references i) (there_up_to i less)
      where
        value : (o : Option Reference) → o ≢ None → (r : Reference) × (o ≡ Some r)
        value None apart = absurd (apart refl)
        value (Some r) apart = (r, refl)

    pub found_at : (i : ℕ) → i ≤ d → (r : Reference) × (reference_of references i ≡ Some r) × IsFound g i (length references) 0 r
    found_at i less = (let one = some_of i less in let top_inside = top.inside in (one.0, one.1, reference_found i one.0 (omega (arith, less, top_inside)) one.1))

    pub none_further_up : (u v : ℕ) → is_at_distance g (suc d) u v ≡ true → ⊥
    none_further_up u v e = elim (cases_lt (suc d) (length references)) [
      | inl less ↦ no_pair (suc d) less (top.none less) u v e
      | inr more ↦ (let small = distance_small g u (suc d) v e in let same = many in omega (arith, more, small, same))
    ]

    -- two vertices are at distance 1
    pub some_distance : 1 ≤ d
    some_distance = elim (cases_lt 0 d) [
      | inl less ↦ less
      | inr none ↦ (let several = h.connected.several in
          let same = many in
          let zero_distance : d ≡ 0 = omega (arith, none) in
          let near = h.connected.near 0 1 (vertex 0 (omega (arith, several, same))) (vertex 1 (omega (arith, several, same))) in
          absurd (step near.0 near.1 zero_distance))
    ]
      where
        step : (t : ℕ) → HasDistance g t 0 1 → d ≡ 0 → ⊥
        step zero e none = (let same = zero-same g 0 1 e in omega (arith, same))
        step (suc t) e none =
            let P : ℕ → Type 0 = λ n. is_at_distance g n 0 1 ≡ true in
            let whole : suc t ≡ 1 + t = omega arith in
            let between = middle g 1 t 0 1 (subst P whole e) in
            let Q : ℕ → Type 0 = λ n. is_at_distance g n 0 between.0 ≡ true in
            let one : 1 ≡ suc d = omega (arith, none) in
            none_further_up 0 between.0 (subst Q one between.1)

    pub is_far : (r : Reference) → suc MAX_DIAMETER ≤ d → reference_of references (suc MAX_DIAMETER) ≡ Some r → IsFar g r.x r.y
    is_far r more at =
        let top_inside = top.inside in
        let found = reference_found (suc MAX_DIAMETER) r (omega (arith, more, top_inside)) at in
        record { connected = h.connected; alike = all_alike; reference = found.reference }

    module _ (b c : List ℕ) (long-b : length b ≡ d) (long-c : length c ≡ d)
        (further : (j : ℕ) (r : Reference) → j < d → reference_of references j ≡ Some r → slice_index b j ≡ r.counts.up)
        (nearer : (j : ℕ) (r : Reference) → j < d → reference_of references (suc j) ≡ Some r → slice_index c j ≡ r.counts.down) where
      b-count : (j : ℕ) → j < d → (x : ℕ) × (y : ℕ) × IsReference g j x y × (slice_index b j ≡ up_count g j x y)
      b-count j less = (let f = found_at j (omega (arith, less)) in (f.0.x, f.0.y, f.2.reference, further j f.0 less f.1 ∙ f.2.counts.up))

      c-count : (j : ℕ) → j < d → (x : ℕ) × (y : ℕ) × IsReference g (suc j) x y × (slice_index c j ≡ down_count g (suc j) x y)
      c-count j less = (let f = found_at (suc j) less in (f.0.x, f.0.y, f.2.reference, nearer j f.0 less f.1 ∙ f.2.counts.down))

      b-entry : (j : ℕ) → j < length b → IsEntry (slice_index b j)
      b-entry j inside_b =
          let less : j < d = omega (arith, inside_b, long-b) in
          let f = b-count j less in
          let last = found_at d (omega arith) in
          let some = some_up g all_alike j d f.0 f.1 last.0.x last.0.y f.2 last.2.reference.at less in
          let most : up_count g j f.0 f.1 ≤ length g.vertices = count-most (λ z. is_adjacent g f.1 z && is_at_distance g (suc j) f.0 z) g.vertices in
          let same = many in
          let few = h.few in
          let is = f.3 in
          (omega (arith, some, is), omega (arith, most, same, few, is))

      c-entry : (j : ℕ) → j < length c → IsEntry (slice_index c j)
      c-entry j inside_c =
          let less : j < d = omega (arith, inside_c, long-c) in
          let f = c-count j less in
          let some = some_down g all_alike j f.0 f.1 f.2.at in
          let most : down_count g (suc j) f.0 f.1 ≤ length g.vertices = count-most (λ z. is_adjacent g f.1 z && is_at_distance g j f.0 z) g.vertices in
          let same = many in
          let few = h.few in
          let is = f.3 in
          (omega (arith, some, is), omega (arith, most, same, few, is))

      pub is_array : d ≤ MAX_DIAMETER → IsArray (record { b = b; c = c })
      is_array short = record {
        same_length = long-b ∙ sym long-c;
        some = (let some = some_distance in omega (arith, some, long-b));
        short = omega (arith, short, long-b);
        entries_b = recursion_from_All IsEntry b (All-from_get_or IsEntry b 0 b-entry);
        entries_c = recursion_from_All IsEntry c (All-from_get_or IsEntry c 0 c-entry);
      }

      entry_up : (i : ℕ) (r : Reference) → i ≤ d → reference_of references i ≡ Some r → IsFound g i (length references) 0 r → up_count g i r.x r.y ≡ b_at (record { b = b; c = c }) i
      entry_up i r small e found = elim (cases_lt i d) [
        | inl less ↦ sym (further i r less e ∙ found.counts.up)
        | inr more ↦ (let same : i ≡ d = omega (arith, small, more) in
            none_up g i r.x r.y (λ u v f. none_further_up u v (subst (λ k. is_at_distance g (suc k) u v ≡ true) same f))
            ∙ sym (get_or_past b i 0 (omega (arith, more, long-b))))
      ]

      entry_down : (i : ℕ) (r : Reference) → i ≤ d → reference_of references i ≡ Some r → IsFound g i (length references) 0 r → down_count g i r.x r.y ≡ c_at (record { b = b; c = c }) i
      entry_down zero r small e found = refl
      entry_down (suc j) r small e found = sym (nearer j r small e ∙ found.counts.down)

      pub is_regular : IsDistanceRegular g (record { b = b; c = c })
      is_regular =
          regular_with g (record { b = b; c = c }) (subst AreDistinct (sym h.vertices) (below-distinct (length references))) h.connected all_alike
          (λ i less. (let small : i ≤ d = omega (arith, less, long-b) in
          let f = found_at i small in
          (f.0.x, f.0.y, f.2.reference, entry_up i f.0 small f.1 f.2, entry_down i f.0 small f.1 f.2)))
          (λ u v e. none_further_up u v (subst (λ k. is_at_distance g (suc k) u v ≡ true) long-b e))
