-- The laws of sizes.
use Rattle.std.proofs.Common.{◌≡◌, ℕ, suc, ◌*◌, length, sym, ap, ◌∙◌, arith}
use Rattle.std.specs.Prelude.{ℤ, pos, ◌*ℤ◌}
use Rattle.drg_algebra.specs.Sums.{below, whole_sum}
use Rattle.drg_algebra.proofs.Tests.{below-out}
use Rattle.drg_algebra.proofs.Whole.{whole-same}
use Rattle.drg_array.specs.Entries.{Entries, IsArray, diameter, b_at, c_at}
use Rattle.drg_graph.specs.Graph.{Graph, sphere, IsDistanceRegular}
use Rattle.drg_graph.specs.Numbers.{AreSizes}
use Rattle.drg_graph.specs.SizeLaws.{SpheresLaw, SizesLaw, VerticesLaw, SizeLaw}
use Rattle.drg_graph.proofs.Regular.{first_vertex}
use Rattle.drg_graph.proofs.Sizes.{sizes, sphere-start, sphere-next, vertices}

pub spheres_law : SpheresLaw
spheres_law g a x r v = record { start = ap pos (sphere-start g a r x v); next = λ i h. ap pos (sym (sphere-next g a r x i)) }

pub sizes_law : SizesLaw
sizes_law g a k m x i array r small are v h = sizes g a r k m x array small are v i h

pub sum-sizes : (g : Graph) (a : Entries) (k : ℕ → ℤ) → IsArray a → IsDistanceRegular g a → AreSizes a (diameter a) k
    → pos (length g.vertices) ≡ whole_sum k (below (suc (diameter a)))
sum-sizes g a k array r are =
    let start = first_vertex g a r in
    let x = start.0 in
    let v = start.1 in
    ap pos (vertices g a r x v)
    ∙ sym (whole-same k (λ i. sphere g i x) (below (suc (diameter a)))
    (λ i m. sizes g a r k (diameter a) x array (omega arith) are v i (let less = below-out (suc (diameter a)) i m in omega (arith, less))))

pub vertices_law : VerticesLaw
vertices_law g a k array r are = sum-sizes g a k array r are

pub size_law : SizeLaw
size_law a k m array small are none g r =
    let start = first_vertex g a r in
    let x = start.0 in
    let here = sizes g a r k m x array (omega (arith, small)) are start.1 m (omega arith) in
    let edges : sphere g m x * b_at a m ≡ c_at a (suc m) * sphere g (suc m) x = (let e = sphere-next g a r x m in omega (arith, e)) in
    none (pos (sphere g (suc m) x), ap (λ z. z *ℤ pos (b_at a m)) here ∙ ap pos edges)
