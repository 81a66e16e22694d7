use Rattle.std.proofs.Common.{[], ◌∷◌, arith, rules, refl}
use Rattle.std.proofs.lemmas.Grind.{common_steps}
use Rattle.drg_derivation.specs.Content.{Content}
use Rattle.drg_derivation.specs.Faults.{IsCause}
use Rattle.drg_derivation.specs.Places.{HandsOutAll, start}
use Rattle.drg_derivation.specs.Text.{lines_of}
use Rattle.drg_derivation.proofs.ReadingLaws.{cause-after, read-whole, whole-hands}
use Rattle.drg_derivation.proofs.reading.read.Goals as goal

pub returns-in_err-_version-clause-refused : goal.returns-in_err-_version-clause-refused
returns-in_err-_version-clause-refused c =
    let h : IsCause c.args.bytes.now c.in_err-_version.field-0.0 = cause-after _ _ _ [] _ c.new-reader.ensures refl c.in_err-_version.ensures.refused in
    first_of (search (rules, h), grind (arith, common_steps, h))

pub returns-in_err-array-clause-refused : goal.returns-in_err-array-clause-refused
returns-in_err-array-clause-refused c =
    let h : IsCause c.args.bytes.now c.in_err-array.field-0.0 =
    cause-after _ _ _ (_ ∷ []) _ c.new-reader.ensures (_, c.in_ok-_version.ensures.ok, refl) c.in_err-array.ensures.refused in
    first_of (search (rules, h), grind (arith, common_steps, h))

pub returns-in_err-claim-clause-refused : goal.returns-in_err-claim-clause-refused
returns-in_err-claim-clause-refused c =
    let h : IsCause c.args.bytes.now c.in_err-claim.field-0.0 =
    cause-after _ _ _ (_ ∷ _ ∷ []) _ c.new-reader.ensures (_, c.in_ok-_version.ensures.ok, (_, c.in_ok-array.ensures.ok, refl)) c.in_err-claim.ensures.refused in
    first_of (search (rules, h), grind (arith, common_steps, h))

pub returns-in_err-lines-clause-refused : goal.returns-in_err-lines-clause-refused
returns-in_err-lines-clause-refused c =
    let h : IsCause c.args.bytes.now c.in_err-lines.field-0.0 =
    cause-after _ _ _ (_ ∷ _ ∷ _ ∷ []) _ c.new-reader.ensures (_, c.in_ok-_version.ensures.ok, (_, c.in_ok-array.ensures.ok, (_, c.in_ok-claim.ensures.ok, refl))) c.in_err-lines.ensures.refused in
    first_of (search (rules, h), grind (arith, common_steps, h))

pub overflow_sub-used : goal.overflow_sub-used
overflow_sub-used c =
    let δ : Content = record { array = c.in_ok-array.array; claim = c.in_ok-claim.claim; lines = c.in_ok-lines.lines.items } in
    let h : HandsOutAll (start c.args.bytes.now) (lines_of δ) c.read_lines.new.reader =
    whole-hands _ _ _ _ _ _ _ δ c.new-reader.ensures c.in_ok-_version.ensures.ok c.in_ok-array.ensures.ok c.in_ok-claim.ensures.ok c.in_ok-lines.ensures.ok in
    rw c.rest.ensures (read-whole c.args.bytes.now δ c.read_lines.new.reader h).shorter

pub invariant_of-derivation : goal.invariant_of-derivation
invariant_of-derivation c =
    let δ : Content = record { array = c.in_ok-array.array; claim = c.in_ok-claim.claim; lines = c.in_ok-lines.lines.items } in
    let h : HandsOutAll (start c.args.bytes.now) (lines_of δ) c.read_lines.new.reader =
    whole-hands _ _ _ _ _ _ _ δ c.new-reader.ensures c.in_ok-_version.ensures.ok c.in_ok-array.ensures.ok c.in_ok-claim.ensures.ok c.in_ok-lines.ensures.ok in
    (read-whole c.args.bytes.now δ c.read_lines.new.reader h).has_text

pub returns-clause-ok : goal.returns-clause-ok
returns-clause-ok c =
    let δ : Content = record { array = c.in_ok-array.array; claim = c.in_ok-claim.claim; lines = c.in_ok-lines.lines.items } in
    let h : HandsOutAll (start c.args.bytes.now) (lines_of δ) c.read_lines.new.reader =
    whole-hands _ _ _ _ _ _ _ δ c.new-reader.ensures c.in_ok-_version.ensures.ok c.in_ok-array.ensures.ok c.in_ok-claim.ensures.ok c.in_ok-lines.ensures.ok in
    rw c.rest.ensures (read-whole c.args.bytes.now δ c.read_lines.new.reader h).begins
