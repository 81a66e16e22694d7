use Rattle.std.proofs.Common.{◌<◌, ◌/◌, ◌%◌, ◌^◌, slice_index, refl, arith, rules, w64, inl, inr}
use Rattle.std.specs.Int.{trailing_zeros}
use Rattle.std.proofs.lemmas.Bool.{cases_lt}
use Rattle.std.proofs.lemmas.Nat.Bits.{bit_at-trailing_zeros}
use Rattle.drg_edges.proofs.Sets.{low-inside, low-member, none-below, none-after}
use Rattle.drg_edges.proofs.vertex_set.VertexSet.next_member.Goals as goal

pub returns-then-word-ne0-clause-member : goal.returns-then-word-ne0-clause-member
returns-then-word-ne0-clause-member c =
    let words = c.args.self.now.words in
    let v = c.words.v in
    let word = slice_index words (v / 64) / 2 ^ (v % 64) in
    let small : slice_index words (v / 64) < 2 ^ 64 = search rules in
    let some : 0 < word = omega arith in
    let low = bit_at-trailing_zeros w64 word some (omega (arith, small)) in
    let inside = low-inside words v word (trailing_zeros w64 word) refl small low.1 in
    (omega arith, omega arith, low-member words v word (trailing_zeros w64 word) refl small low.1)

pub returns-then-word-ne0-clause-least : goal.returns-then-word-ne0-clause-least
returns-then-word-ne0-clause-least c =
    let words = c.args.self.now.words in
    let v = c.words.v in
    let word = slice_index words (v / 64) / 2 ^ (v % 64) in
    let small : slice_index words (v / 64) < 2 ^ 64 = search rules in
    let some : 0 < word = omega arith in
    let low = bit_at-trailing_zeros w64 word some (omega (arith, small)) in
    λ u more less. elim (cases_lt u v) [
      | inl before ↦ c.words.invariant.none u more before
      | inr after ↦ none-below words v word (trailing_zeros w64 word) refl small low.1 low.2 u after less
    ]

pub words-preserved : goal.words-preserved
words-preserved c = record {
  from = omega arith;
  inside = omega arith;
  none = λ u more less. elim (cases_lt u c.words.v) [
    | inl before ↦ c.words.invariant.none u more before
    | inr after ↦ none-after c.args.self.now.words c.words.v u after less c.if-word-ne0.false
  ];
}
