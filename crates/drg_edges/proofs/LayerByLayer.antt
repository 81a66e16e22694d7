-- The layers from a vertex, one after the other, and what is noted of distances meanwhile.
use Rattle.std.proofs.Common.{◌≡◌, ℕ, zero, suc, ◌+◌, ◌≤◌, ◌<◌, Bool, true, false, List, [], ◌∷◌, length, Option, None, Some, replicate, ◌++◌, refl, sym, ap, ap₂, subst, ◌∙◌, arith, inl, inr}
use Rattle.std.specs.Prelude.{◌==◌, ◌&&◌, ◌||◌, not, if◌then◌else◌, nat_lt, slice_set, is_some, IfSome, IfNone}
use Rattle.std.proofs.lemmas.Bool.{cases_lt}
use Rattle.std.proofs.lemmas.Bool.Decides.{nat_tests}
use Rattle.std.proofs.lemmas.List.{get_or-set_same, get_or-set_other, get_or_append_left, get_or_push, length-append, length-replicate}
use Rattle.drg_algebra.specs.Sums.{below}
use Rattle.drg_algebra.proofs.Tests.{both, and-in, either, never, decided, or-left, or-right, same-test, same-number, differ, any-in, any-out, below-in}
use Rattle.drg_graph.specs.Graph.{Graph, is_vertex, has_walk, has_shorter, is_at_distance}
use Rattle.drg_edges.specs.Layers.{set_at, noted_at, AreRows, AreLayers, has_neighbour, IsNoted}
use Rattle.drg_edges.specs.VertexSets.{holds}
use Rattle.drg_edges.specs.declared.layers.Layers.{Layers}
use Rattle.drg_edges.specs.declared.vertex_set.VertexSet.{VertexSet}
use Rattle.drg_edges.proofs.Reaching.{next_seen, none_further, none_at_all}
use Rattle.drg_edges.proofs.Neighbours.{row_vertex, rows_length, layer_next, layer_small, or-false}

-- what is noted of v before the layer at distance k
abbrev pub IsNotedBefore : Graph → (x k v : ℕ) → Option ℕ → Type 0
IsNotedBefore g x k v None = has_shorter g k x v ≡ false
IsNotedBefore g x k v (Some t) = is_at_distance g t x v ≡ true

pub noted_next : (g : Graph) (x k v : ℕ) (at : Bool) (old new : Option ℕ) → at ≡ is_at_distance g k x v → IsNotedBefore g x k v old
    → new ≡ (if at then Some k else old) → IsNotedBefore g x (suc k) v new
noted_next g x k v true old new e h same = subst (IsNotedBefore g x (suc k) v) (sym same) (sym e)
noted_next g x k v false None new e h same =
    subst (IsNotedBefore g x (suc k) v) (sym same) (next_seen g x k v ∙ ap₂ (λ a b. a || b) h (sym e))
noted_next g x k v false (Some t) new e h same = subst (IsNotedBefore g x (suc k) v) (sym same) h

pub noted_end : (g : Graph) (x k v : ℕ) (noted : Option ℕ) → ((u : ℕ) → is_at_distance g k x u ≡ false) → IsNotedBefore g x k v noted → IsNoted g x v noted
noted_end g x k v None none h = λ t. none_at_all g x k t v none h
noted_end g x k v (Some t) none h = h

-- ---- one member of a layer after the other
lt-true : (m n : ℕ) → m < n → nat_lt m n ≡ true
lt-true m n h = grind (arith, nat_tests)

lt-false : (m n : ℕ) → n ≤ m → nat_lt m n ≡ false
lt-false m n h = grind (arith, nat_tests)

module _ (rows : List VertexSet) (layer next new row : VertexSet) (from v : ℕ) (row-is : row ≡ set_at rows v) (joined : (u : ℕ) → holds new u ≡ (holds next u || holds row u)) where
  pub sound_next : v < length rows → holds layer v ≡ true → ((u : ℕ) → holds next u ≡ true → has_neighbour rows layer u ≡ true) → (u : ℕ) → holds new u ≡ true → has_neighbour rows layer u ≡ true
  sound_next inside member sound u e = elim (either (holds next u) (holds row u) (sym (joined u) ∙ e)) [
    | inl before ↦ sound u before
    | inr here ↦ (let at : holds (set_at rows v) u ≡ true = ap (λ s. holds s u) (sym row-is) ∙ here in
        any-in (λ w. holds layer w && holds (set_at rows w) u) (below (length rows)) v (below-in (length rows) v inside) (and-in (holds layer v) (holds (set_at rows v) u) member at))
  ]

  pub complete_next : from ≤ v → ((u : ℕ) → from ≤ u → u < v → holds layer u ≡ false)
      → ((w u : ℕ) → w < from → holds layer w ≡ true → holds (set_at rows w) u ≡ true → holds next u ≡ true)
      → (w u : ℕ) → w < v + 1 → holds layer w ≡ true → holds (set_at rows w) u ≡ true → holds new u ≡ true
  complete_next more least complete w u less member at = elim (cases_lt w from) [
    | inl before ↦ joined u ∙ or-left (holds next u) (holds row u) (complete w u before member at)
    | inr after ↦ elim (cases_lt w v) [
      | inl between ↦ absurd (never (holds layer w) member (least w after between))
      | inr end ↦ (let same : w ≡ v = omega (arith, less, end) in
          joined u ∙ or-right (holds next u) (holds row u) (ap (λ s. holds s u) row-is ∙ (ap (λ t. holds (set_at rows t) u) (sym same) ∙ at)))
    ]
  ]

pub noted_member : (layer : VertexSet) (distances old : List (Option ℕ)) (from v d : ℕ) → v < length distances → from ≤ v → holds layer v ≡ true → ((u : ℕ) → from ≤ u → u < v → holds layer u ≡ false)
    → ((w : ℕ) → noted_at distances w ≡ (if nat_lt w from && holds layer w then Some d else noted_at old w))
    → (w : ℕ) → noted_at (slice_set distances v (Some d)) w ≡ (if nat_lt w (v + 1) && holds layer w then Some d else noted_at old w)
noted_member layer distances old from v d inside more member least noted w = elim (decided (w == v)) [
  | inl e ↦ (let same = same-number w v e in
      let test : (nat_lt w (v + 1) && holds layer w) ≡ true = and-in _ _ (lt-true w (v + 1) (omega (arith, same))) (ap (holds layer) same ∙ member) in
      ap (noted_at (slice_set distances v (Some d))) same ∙ (get_or-set_same distances v (Some d) None inside ∙ sym (ap (λ b. if b then Some d else noted_at old w) test)))
  | inr e ↦ (let apart = differ w v e in
      get_or-set_other distances v w (Some d) None apart ∙ (noted w ∙ ap (λ b. if b then Some d else noted_at old w) (tests apart)))
]
  where
    tests : (w ≡ v → ⊥) → (nat_lt w from && holds layer w) ≡ (nat_lt w (v + 1) && holds layer w)
    tests apart = elim (cases_lt w from) [
      | inl before ↦ ap (λ b. b && holds layer w) (lt-true w from before ∙ sym (lt-true w (v + 1) (omega (arith, before, more))))
      | inr after ↦ elim (cases_lt w v) [
        | inl between ↦ (let none = least w after between in ap (λ b. nat_lt w from && b) none ∙ (and-false (nat_lt w from) ∙ sym (ap (λ b. nat_lt w (v + 1) && b) none ∙ and-false (nat_lt w (v + 1)))))
        | inr past ↦ ap (λ b. b && holds layer w) (lt-false w from after ∙ sym (lt-false w (v + 1) (omega (arith, past, apart))))
      ]
    ]
      where
        and-false : (b : Bool) → (b && false) ≡ false
        and-false true = refl
        and-false false = refl

pub neighbours_end : (rows : List VertexSet) (layer next : VertexSet) (from : ℕ) → ((u : ℕ) → from ≤ u → holds layer u ≡ false) → ((u : ℕ) → holds next u ≡ true → has_neighbour rows layer u ≡ true)
    → ((w u : ℕ) → w < from → holds layer w ≡ true → holds (set_at rows w) u ≡ true → holds next u ≡ true) → (u : ℕ) → holds next u ≡ has_neighbour rows layer u
neighbours_end rows layer next from none sound complete u =
    same-test (holds next u) (has_neighbour rows layer u) (sound u)
    (λ e. (let found = any-out (λ w. holds layer w && holds (set_at rows w) u) (below (length rows)) e in
    let parts = both (holds layer found.0) (holds (set_at rows found.0) u) found.2 in
    elim (cases_lt found.0 from) [
      | inl before ↦ complete found.0 u before parts.0 parts.1
      | inr after ↦ absurd (never (holds layer found.0) parts.0 (none found.0 after))
    ]))

-- ---- one layer after the other
-- the layers before the one at distance k, this layer, what is seen up to it, and what is noted before it
pub record AreReached (g : Graph) (rows : List VertexSet) (x : ℕ) (sets : List VertexSet) (layer seen : VertexSet) (distances : List (Option ℕ)) (k : ℕ) : Type 0 where
  pub number : length sets ≡ k
  pub few : k ≤ length rows
  pub hold : (i v : ℕ) → i < k → holds (set_at sets i) v ≡ is_at_distance g i x v
  pub here : (v : ℕ) → holds layer v ≡ is_at_distance g k x v
  pub before : (v : ℕ) → holds seen v ≡ has_shorter g (suc k) x v
  pub long : length distances ≡ length rows
  pub noted : (v : ℕ) → v < length rows → IsNotedBefore g x k v (noted_at distances v)

pub length_push : (sets : List VertexSet) (layer : VertexSet) → length (sets ++ layer ∷ []) ≡ suc (length sets)
length_push sets layer = (let e = length-append sets (layer ∷ []) in omega (arith, e))

hold_more : (g : Graph) (x k : ℕ) (sets : List VertexSet) (layer : VertexSet) → length sets ≡ k → ((i v : ℕ) → i < k → holds (set_at sets i) v ≡ is_at_distance g i x v)
    → ((v : ℕ) → holds layer v ≡ is_at_distance g k x v) → (i v : ℕ) → i < suc k → holds (set_at (sets ++ layer ∷ []) i) v ≡ is_at_distance g i x v
hold_more g x k sets layer number hold here i v less = elim (cases_lt i k) [
  | inl before ↦ ap (λ s. holds s v) (get_or_append_left sets (layer ∷ []) (record { words = [] }) i (omega (arith, before, number))) ∙ hold i v before
  | inr end ↦ (let same : i ≡ k = omega (arith, less, end) in
      ap (λ s. holds s v) (get_or_push sets layer (record { words = [] }) i (number ∙ sym same)) ∙ (here v ∙ ap (λ t. is_at_distance g t x v) (sym same)))
]

and-true : (b : Bool) → (b && true) ≡ b
and-true true = refl
and-true false = refl

none_noted : (n v : ℕ) → noted_at (replicate n None) v ≡ None
none_noted zero v = refl
none_noted (suc n) zero = refl
none_noted (suc n) (suc v) = none_noted n v

module _ (g : Graph) (rows : List VertexSet) (are : AreRows g rows) (x : ℕ) where
  pub reached_start : (sets : List VertexSet) (empty seen : VertexSet) (distances : List (Option ℕ)) → x < length rows → sets ≡ [] → ((v : ℕ) → holds empty v ≡ false)
      → ((v : ℕ) → holds seen v ≡ (x == v || holds empty v)) → distances ≡ replicate (length rows) None → AreReached g rows x sets seen seen distances (length sets)
  reached_start sets empty seen distances inside none nothing one all =
      let vertex : is_vertex g x ≡ true = row_vertex g rows are x inside in
      let self : (v : ℕ) → holds seen v ≡ (x == v) = λ v. one v ∙ (ap (λ b. x == v || b) (nothing v) ∙ or-false (x == v)) in
      let walk : (v : ℕ) → has_walk g 0 x v ≡ (x == v) = λ v. ap (λ b. b && x == v) vertex in
      subst (λ s. AreReached g rows x s seen seen distances (length s)) (sym none) (record {
        number = refl;
        few = omega arith;
        hold = λ i v less. absurd (omega (arith, less));
        here = λ v. self v ∙ sym (and-true (has_walk g 0 x v) ∙ walk v);
        before = λ v. self v ∙ sym (or-false (has_walk g 0 x v) ∙ walk v);
        long = ap length all ∙ length-replicate (length rows) None;
        noted = λ v less. subst (IsNotedBefore g x 0 v) (sym (ap (λ ds. noted_at ds v) all ∙ none_noted (length rows) v)) refl;
      })

  pub reached_next : (sets new : List VertexSet) (layer seen next seen2 : VertexSet) (distances distances2 : List (Option ℕ)) (v : ℕ)
      → AreReached g rows x sets layer seen distances (length sets) → holds layer v ≡ true → new ≡ sets ++ layer ∷ []
      → ((u : ℕ) → holds next u ≡ (has_neighbour rows layer u && not (holds seen u))) → ((u : ℕ) → holds seen2 u ≡ (holds seen u || holds next u))
      → length distances2 ≡ length distances → ((u : ℕ) → noted_at distances2 u ≡ (if holds layer u then Some (length sets) else noted_at distances u))
      → AreReached g rows x new next seen2 distances2 (length new)
  reached_next sets new layer seen next seen2 distances distances2 v r member pushed reach joined long noted =
      let k = length sets in
      let number : length new ≡ suc k = ap length pushed ∙ length_push sets layer in
      let further : (u : ℕ) → holds next u ≡ is_at_distance g (suc k) x u = λ u. reach u ∙ layer_next g rows are x k layer seen r.here r.before u in
      subst (λ n. AreReached g rows x new next seen2 distances2 n) (sym number) (record {
        number = number;
        few = layer_small g rows are x k layer seen r.here r.before v member;
        hold = λ i u less. ap (λ ss. holds (set_at ss i) u) pushed ∙ hold_more g x k sets layer refl r.hold r.here i u less;
        here = further;
        before = λ u. joined u ∙ (ap₂ (λ a b. a || b) (r.before u) (further u) ∙ sym (next_seen g x (suc k) u));
        long = long ∙ r.long;
        noted = λ u less. noted_next g x k u (holds layer u) (noted_at distances u) (noted_at distances2 u) (r.here u) (r.noted u less) (noted u);
      })

  pub reached_end : (sets : List VertexSet) (layer seen : VertexSet) (layers : Layers) → AreReached g rows x sets layer seen layers.distances.items (length sets)
      → ((v : ℕ) → holds layer v ≡ false) → layers.sets.items ≡ sets ++ layer ∷ [] → AreLayers g x layers
  reached_end sets layer seen layers r none pushed =
      let k = length sets in
      let number : length layers.sets.items ≡ suc k = ap length pushed ∙ length_push sets layer in
      let empty : (u : ℕ) → is_at_distance g k x u ≡ false = λ u. sym (r.here u) ∙ none u in
      let same = rows_length g rows are in
      let few = r.few in
      record {
        hold = λ i v less. ap (λ ss. holds (set_at ss i) v) pushed ∙ hold_more g x k sets layer refl r.hold r.here i v (omega (arith, less, number));
        last = λ t v less. none_further g x k t v empty (omega (arith, less, number));
        few = omega (arith, number, few, same);
        vertices = r.long ∙ sym same;
        noted = λ v less. noted_end g x k v (noted_at layers.distances.items v) empty (r.noted v (omega (arith, less, same)));
      }

pub none_of : {P : Type 0} (r : Option ℕ) → is_some r ≡ false → IfNone r P → P
none_of (Some v) e h = absurd (let f = e in cc)
none_of None e h = h

pub some_of : (P : ℕ → Type 0) (r : Option ℕ) → is_some r ≡ true → IfSome r P → (v : ℕ) × P v
some_of P (Some v) e h = (v, h)
some_of P None e h = absurd (let f = e in cc)
