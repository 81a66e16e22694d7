use Rattle.std.proofs.Common.{ℕ, [], ◌∷◌, ◌++◌, suc, refl, ap, sym, ◌∙◌}
use Rattle.drg_krein.specs.Vanishing.{NamesVanishing}
use Rattle.drg_krein.proofs.VanishingLists.{vanishing_skip, vanishing_push}
use Rattle.drg_krein.proofs.vanishing.add_if_vanishing.Goals as goal

pub returns-in_ok-push : goal.returns-in_ok-push
returns-in_ok-push g c =
    let f = g.F.Field in
    let t = c.args.krein.now in
    let names : NamesVanishing f.value f.operations t c.args.i c.args.j c.args.h = record {
      some = (c.requires.first, c.requires.second, c.requires.third);
      inside = (c.requires.first_inside, c.requires.second_inside, c.requires.third_inside);
      vanishes = sym c.q.ensures.value ∙ c.is_zero.ensures.0 c.if-is_zero.true ∙ ap (λ (r : ℕ). (f.operations r).nil) c.q.ensures.root;
    } in
    vanishing_push f.value f.operations t c.args.i c.args.j c.args.h (suc c.args.h) refl c.args.found.now.items c.requires.before _
    (c.in_ok-push.ensures.items ∙ ap (λ (s : ℕ × ℕ × ℕ). c.args.found.now.items ++ s ∷ []) c.triple.ensures) names

pub returns-else-is_zero : goal.returns-else-is_zero
returns-else-is_zero g c =
    let f = g.F.Field in
    vanishing_skip f.value f.operations c.args.krein.now c.args.i c.args.j c.args.h (suc c.args.h) refl c.args.found.now.items c.requires.before
    (λ e. (let yes = c.is_zero.ensures.1 (c.q.ensures.value ∙ e ∙ sym (ap (λ (r : ℕ). (f.operations r).nil) c.q.ensures.root)) in let no = c.if-is_zero.false in cc))
