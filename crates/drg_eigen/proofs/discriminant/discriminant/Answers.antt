use Rattle.std.proofs.Common.{◌≡◌, arith, rules, ap, ap₂, ◌∙◌, pos, ℤ}
use Rattle.std.specs.Prelude.{◌*ℤ◌, ◌-ℤ◌, ◌+ℤ◌, neg_ℤ}
use Rattle.std.proofs.lemmas.Int.{ints, to_z-of_z}
use mir.Val.{to_z, of_z}
use mir.Syntax.{w32, w64}
use Rattle.drg_eigen.proofs.Discriminants.{square_fits, four_fits, discriminant_fits}
use Rattle.drg_eigen.proofs.discriminant.discriminant.Goals as goal

as_sum : (x y : ℤ) → x -ℤ y ≡ x +ℤ neg_ℤ y
as_sum x y = omega (arith, ints)

pub returns : goal.returns
returns c =
    let s = c.args.s in
    let t = c.args.t in
    let first : to_z w64 (of_z w64 c.from.result) ≡ s = to_z-of_z w64 c.from.result (search rules) ∙ c.from.ensures ∙ to_z-of_z w32 s (search rules) in
    let second : to_z w64 (of_z w64 c.from-2.result) ≡ s = to_z-of_z w64 c.from-2.result (search rules) ∙ c.from-2.ensures ∙ to_z-of_z w32 s (search rules) in
    let third : to_z w64 (of_z w64 c.from-3.result) ≡ t = to_z-of_z w64 c.from-3.result (search rules) ∙ c.from-3.ensures ∙ to_z-of_z w32 t (search rules) in
    let square = ap (λ (z : ℤ). to_z w64 (of_z w64 z)) (ap₂ (λ (x y : ℤ). x *ℤ y) first second) ∙ to_z-of_z w64 (s *ℤ s) (square_fits s c.ranges.s) in
    let four = ap (λ (z : ℤ). to_z w64 (of_z w64 (pos 4 *ℤ z))) third ∙ to_z-of_z w64 (pos 4 *ℤ t) (four_fits t c.ranges.t) in
    ap (λ (z : ℤ). to_z w64 (of_z w64 z)) (ap₂ (λ (x y : ℤ). x -ℤ y) square four)
    ∙ to_z-of_z w64 (s *ℤ s -ℤ pos 4 *ℤ t) (discriminant_fits s t c.ranges.s c.ranges.t)
    ∙ as_sum (s *ℤ s) (pos 4 *ℤ t)
