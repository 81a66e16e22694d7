-- The numbers of an array are the counts, and an array that fails a test of counts has no graph.
use Rattle.std.proofs.Common.{◌≡◌, ℕ, suc, ◌*◌, refl, sym, ap, ◌∙◌, arith}
use Rattle.std.specs.Prelude.{pos}
use Rattle.drg_algebra.specs.Rational.{ℚ, whole, times}
use Rattle.drg_array.specs.Entries.{diameter}
use Rattle.drg_array.specs.Numbers.{size, IsWholeMultiple}
use Rattle.drg_array.specs.declared.claim.Claim.TheVariants.{First, Degree, Order, Cross, Size, Intersect, Handshake, Induced, Triangles, Mult, Krein, Absolute, Triple, Ktriple}
use Rattle.drg_array.proofs.NumberLaws.{one_number}
use Rattle.drg_graph.specs.Graph.{sphere, pairs_at}
use Rattle.drg_graph.specs.NumberLaws.{SizesAreCounts, VertexCountIsCount, NumbersAreCounts, CountingClaimsLaw}
use Rattle.drg_graph.proofs.Regular.{first_vertex, occurs}
use Rattle.drg_graph.proofs.DistanceLaws.{first_law, degree_law, order_law, cross_law}
use Rattle.drg_graph.proofs.ParityLaws.{handshake-even, induced-even, triangles-six}
use Rattle.drg_graph.proofs.Sizes.{vertices}
use Rattle.drg_graph.proofs.Rationals.{whole-times, size-counts, counts-meet, total-same, total-whole}

pub sizes_are_counts : SizesAreCounts
sizes_are_counts g a x i array r v h = size-counts g a array r x i v h

pub vertex_count_is_count : VertexCountIsCount
vertex_count_is_count g a array r =
    let start = first_vertex g a r in
    total-same (size a) (λ i. whole (pos (sphere g i start.0))) (suc (diameter a)) (λ i h. sizes_are_counts g a start.0 i array r start.1 (omega (arith, h)))
    ∙ (total-whole (λ i. sphere g i start.0) (suc (diameter a)) ∙ ap (λ t. whole (pos t)) (sym (vertices g a r start.0 start.1)))

pub numbers_are_counts : NumbersAreCounts
numbers_are_counts g a h i j x y p array r e hi hj is =
    one_number a h i j p _ array hi hj is (λ i j. whole (pos (pairs_at g i j x y)), counts-meet g a array r h x y e, refl)

-- a product of counts that is a multiple
multiple-two : (t n m q : ℕ) (x y : ℚ) → x ≡ whole (pos n) → y ≡ whole (pos m) → n * m ≡ t * q → IsWholeMultiple t (times x y)
multiple-two t n m q x y first second e = (pos q, rw (first, second) (whole-times (pos n) (pos m) ∙ ap (λ s. whole (pos s)) e))

pub counting_claims_law : CountingClaimsLaw
counting_claims_law a First array fails g r = first_law a array fails g r
counting_claims_law a (Degree i) array ((low, high), fails) g r = degree_law a i array low high fails g r
counting_claims_law a (Order i) array (low, high, fails) g r = order_law a i array low high fails g r
counting_claims_law a (Cross i j) array (low, high, fails) g r = cross_law a i j array low high fails g r
counting_claims_law a (Size i) array ((low, high), fails) g r =
    let v = first_vertex g a r in
    fails (pos (sphere g i v.0), sizes_are_counts g a v.0 i array r v.1 high ∙ ap (λ t. whole (pos t)) (omega arith))
counting_claims_law a (Intersect h i j) array (hh, hi, hj, x, is, fails) g r =
    let v = first_vertex g a r in
    let w = occurs g a r array v.0 v.1 h hh in
    fails (pairs_at g i j v.0 w.0, numbers_are_counts g a h i j v.0 w.0 x array r w.1 hi hj is)
counting_claims_law a (Handshake i) array ((low, high), fails) g r =
    let v = first_vertex g a r in
    let even = handshake-even g a r array i v.0 low high v.1 in
    fails (multiple-two 2 _ _ even.0 _ _ (vertex_count_is_count g a array r) (sizes_are_counts g a v.0 i array r v.1 high) even.1)
counting_claims_law a (Induced i j) array ((low, hi), (first, hj), x, is, fails) g r =
    let v = first_vertex g a r in
    let w = occurs g a r array v.0 v.1 i hi in
    let even = induced-even g a r array i j v.0 w.0 first hi hj w.1 in
    fails (multiple-two 2 _ _ even.0 _ _ (sizes_are_counts g a v.0 i array r v.1 hi) (numbers_are_counts g a i i j v.0 w.0 x array r w.1 hi hj is) even.1)
counting_claims_law a (Triangles i) array ((low, high), x, is, fails) g r =
    let v = first_vertex g a r in
    let w = occurs g a r array v.0 v.1 i high in
    let six = triangles-six g a r array i v.0 w.0 low high w.1 in
    let inner = ap (λ z. times z x) (sizes_are_counts g a v.0 i array r v.1 high)
    ∙ (ap (times (whole (pos (sphere g i v.0)))) (numbers_are_counts g a i i i v.0 w.0 x array r w.1 high high is) ∙ whole-times _ _) in
    fails (multiple-two 6 _ _ six.0 _ _ (vertex_count_is_count g a array r) inner six.1)
counting_claims_law a (Mult i) array fails g r = fails
counting_claims_law a (Krein i j h) array fails g r = fails
counting_claims_law a (Absolute i j) array fails g r = fails
counting_claims_law a (Triple u v w) array fails g r = fails
counting_claims_law a (Ktriple u v w) array fails g r = fails
