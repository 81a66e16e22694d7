use Rattle.std.proofs.Common.{◌≡◌, ℕ, ◌<◌, sym, ap₂, subst, ◌∙◌, arith}
use Rattle.std.proofs.lemmas.Bool.{false≢true}
use Rattle.drg_array.specs.Entries.{IsArray}
use Rattle.drg_graph.specs.Graph.{IsDistanceRegular}
use Rattle.drg_edges.specs.Answers.{IsFar}
use Rattle.drg_edges.specs.declared.references.Reference.{Reference}
use Rattle.drg_edges.proofs.Arrays.{AreFinal, IsGreatest, is_far, is_array, is_regular, there_up_to}
use Rattle.drg_edges.proofs.regular.regular.Goals as goal

pub returns-in-Some : goal.returns-in-Some
returns-in-Some c =
    let g = c.args.graph.now in
    let references = c.args.references.now in
    let d = c.greatest_distance-diameter.result in
    let final : AreFinal g references = record { connected = c.requires.connected; vertices = c.requires.vertices; few = c.requires.few; found = c.requires.references; alike = c.requires.alike } in
    let top : IsGreatest references d = record {
      inside = c.greatest_distance-diameter.ensures.inside;
      there = c.greatest_distance-diameter.ensures.there;
      none = c.greatest_distance-diameter.ensures.none;
    } in
    let far = is_far g references final d top c.in-Some.far c.in-Some.ensures.0 c.in-Some.ensures.1 in
    subst (λ x. IsFar g x c.from-in-Some.result) (sym c.from.ensures) (subst (IsFar g c.in-Some.far.x) (sym c.from-in-Some.ensures) far)

pub reference_at-requires-clause-there : goal.reference_at-requires-clause-there
reference_at-requires-clause-there c =
    let g = c.args.graph.now in
    let references = c.args.references.now in
    let d = c.greatest_distance-diameter.result in
    let final : AreFinal g references = record { connected = c.requires.connected; vertices = c.requires.vertices; few = c.requires.few; found = c.requires.references; alike = c.requires.alike } in
    let top : IsGreatest references d = record {
      inside = c.greatest_distance-diameter.ensures.inside;
      there = c.greatest_distance-diameter.ensures.there;
      none = c.greatest_distance-diameter.ensures.none;
    } in
    there_up_to g references final d top c.distances.i (omega arith)

pub unreachable-requires : goal.unreachable-requires
unreachable-requires c =
    let g = c.args.graph.now in
    let references = c.args.references.now in
    let d = c.greatest_distance-diameter.result in
    let final : AreFinal g references = record { connected = c.requires.connected; vertices = c.requires.vertices; few = c.requires.few; found = c.requires.references; alike = c.requires.alike } in
    let top : IsGreatest references d = record {
      inside = c.greatest_distance-diameter.ensures.inside;
      there = c.greatest_distance-diameter.ensures.there;
      none = c.greatest_distance-diameter.ensures.none;
    } in
    let end : c.distances.i ≡ d = omega arith in
    let h = c.distances.invariant in
    let array = is_array g references final d top c.distances.b.items c.distances.c.items (h.long_b ∙ end) (h.long_c ∙ end)
    (λ j r less. h.further j r (omega (arith, less, end))) (λ j r less. h.nearer j r (omega (arith, less, end))) c.in_default.ensures in
    let given : IsArray (record { b = c.deref.result.now; c = c.deref-2.result.now }) =
    subst (λ b. IsArray (record { b = b; c = c.deref-2.result.now })) (sym c.deref.ensures.value) (subst (λ e. IsArray (record { b = c.distances.b.items; c = e })) (sym c.deref-2.ensures.value) array) in
    false≢true (c.in_default-make.ensures.some.1 given)

pub returns : goal.returns
returns c =
    let g = c.args.graph.now in
    let references = c.args.references.now in
    let d = c.greatest_distance-diameter.result in
    let final : AreFinal g references = record { connected = c.requires.connected; vertices = c.requires.vertices; few = c.requires.few; found = c.requires.references; alike = c.requires.alike } in
    let top : IsGreatest references d = record {
      inside = c.greatest_distance-diameter.ensures.inside;
      there = c.greatest_distance-diameter.ensures.there;
      none = c.greatest_distance-diameter.ensures.none;
    } in
    let end : c.distances.i ≡ d = omega arith in
    let h = c.distances.invariant in
    let b = c.distances.b.items in
    let e = c.distances.c.items in
    let further = λ (j : ℕ) (r : Reference) (less : j < d). h.further j r (omega (arith, less, end)) in
    let nearer = λ (j : ℕ) (r : Reference) (less : j < d). h.nearer j r (omega (arith, less, end)) in
    let array = is_array g references final d top b e (h.long_b ∙ end) (h.long_c ∙ end) further nearer c.in_default.ensures in
    let regular = is_regular g references final d top b e (h.long_b ∙ end) (h.long_c ∙ end) further nearer in
    let same : c.in-Some-make.array ≡ record { b = b; c = e } = c.in-Some-make.ensures.entries ∙ ap₂ (λ x y. record { b = x; c = y }) c.deref.ensures.value c.deref-2.ensures.value in
    (subst IsArray (sym same) array, subst (IsDistanceRegular g) (sym same) regular)
