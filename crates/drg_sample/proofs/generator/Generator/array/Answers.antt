use Rattle.std.proofs.Common.{◌≡◌, ◌∙◌, sym, subst, true≢false}
use Rattle.drg_array.specs.Entries.{IsArray}
use Rattle.drg_sample.proofs.Drawn.{drawn_is, drawn_is_array}
use Rattle.drg_sample.proofs.generator.Generator.array.Goals as goal

pub unreachable-requires : goal.unreachable-requires
unreachable-requires c =
    let s = c.args.self.now.state in
    let made = drawn_is s c.diameter-d.result c.valency-k.result c.diameter-d.new.self.state c.valency-k.new.self.state c.falling-b.new.self.state c.rising-c.new.self.state c.deref.result.now c.deref-2.result.now
    c.diameter-d.ensures.drawn c.diameter-d.ensures.state c.valency-k.ensures.drawn c.valency-k.ensures.state
    (c.deref.ensures.0 ∙ c.falling-b.ensures.numbers) c.falling-b.ensures.state (c.deref-2.ensures.0 ∙ c.rising-c.ensures.numbers) c.rising-c.ensures.state in
    true≢false (sym (c.in_default.ensures.some.1 (subst IsArray (sym made.0) (drawn_is_array s))))

pub returns-clause-drawn : goal.returns-clause-drawn
returns-clause-drawn c =
    let s = c.args.self.now.state in
    let made = drawn_is s c.diameter-d.result c.valency-k.result c.diameter-d.new.self.state c.valency-k.new.self.state c.falling-b.new.self.state c.rising-c.new.self.state c.deref.result.now c.deref-2.result.now
    c.diameter-d.ensures.drawn c.diameter-d.ensures.state c.valency-k.ensures.drawn c.valency-k.ensures.state
    (c.deref.ensures.0 ∙ c.falling-b.ensures.numbers) c.falling-b.ensures.state (c.deref-2.ensures.0 ∙ c.rising-c.ensures.numbers) c.rising-c.ensures.state in
    c.in-Some.ensures.entries ∙ made.0

pub returns-clause-state : goal.returns-clause-state
returns-clause-state c =
    let s = c.args.self.now.state in
    let made = drawn_is s c.diameter-d.result c.valency-k.result c.diameter-d.new.self.state c.valency-k.new.self.state c.falling-b.new.self.state c.rising-c.new.self.state c.deref.result.now c.deref-2.result.now
    c.diameter-d.ensures.drawn c.diameter-d.ensures.state c.valency-k.ensures.drawn c.valency-k.ensures.state
    (c.deref.ensures.0 ∙ c.falling-b.ensures.numbers) c.falling-b.ensures.state (c.deref-2.ensures.0 ∙ c.rising-c.ensures.numbers) c.rising-c.ensures.state in
    made.1
