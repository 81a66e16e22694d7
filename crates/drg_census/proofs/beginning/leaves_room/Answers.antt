use Rattle.std.proofs.Common.{◌≡◌, ℕ, ◌+◌, ◌-◌, ◌≤◌, ◌<◌, length, sym, ap, ◌∙◌, arith}
use Rattle.std.specs.Prelude.{slice_index}
use Rattle.std.proofs.lemmas.Bool.Decides.{nat_tests}
use Rattle.drg_array.specs.Entries.{b_at}
use Rattle.drg_census.proofs.Cuts.{b_given, room_left_at}
use Rattle.drg_census.proofs.beginning.leaves_room.Goals as goal
use Rattle.drg_census.proofs.beginning.leaves_room.Goals.{then-i-sought, else-i-sought}

pub returns : goal.returns
returns c = λ e a is b.
    let xs = c.args.beginning.now in
    let s = c.args.sought in
    let given : c.if-i-sought.b ≤ b_at a c.args.i = elim c.if-i-sought.branch [
      | then-i-sought w ↦ (let here = w.b-is in let short : c.args.i < s.d = omega arith in
          let f = b_given s.d s.k s.n xs a c.requires.some is b c.args.i (let l = c.requires.last in omega arith) short in omega arith)
      | else-i-sought w ↦ (let none = w.b-is in omega arith)
    ] in
    let h = room_left_at s.d s.k s.n xs a c.requires.some is b c.args.i c.if-i-sought.b (omega arith) c.requires.last given in
    let one = c.from.ensures in
    let two = c.from-2.ensures in
    let three = c.from-3.ensures in
    grind (arith, nat_tests, e, h, one, two, three)
