use Rattle.std.proofs.Common.{◌≡◌, ◌≢◌, ℕ, ◌<◌, length, sym, ap, subst, arith}
use Rattle.std.specs.Prelude.{decimal, IfSome, IfNone}
use Rattle.std.specs.Str.{IsUtf8}
use Rattle.std.specs.Str.Parse.{ParsesUnsigned}
use Rattle.std.proofs.lemmas.Fmt.{decimal_nonempty, IsAscii-decimal}
use Rattle.std.proofs.lemmas.Str.{IsUtf8-from_ascii}
use Rattle.std.proofs.lemmas.Bool.Decides.{nat_tests}
use Rattle.drg_edges.proofs.Numbers.{plus_none, zero_none, parsed, parsed_none}
use Rattle.drg_edges.proofs.reading.parse_number.Goals as goal
use Rattle.drg_edges.proofs.reading.parse_number.Goals.{then-first-eq43-via-then-first-eq43, then-first-eq43-via-else-first-eq43+then-not-is_empty, then-first-eq48, else-first-eq48}

pub returns-in_err-first-clause-none : goal.returns-in_err-first-clause-none
returns-in_err-first-clause-none c =
    rw c.from_residual.ensures
    (λ n small same. (let some = decimal_nonempty n (omega (arith, small)) in
    let none = c.in_err-first.ensures.cases in
    let long = ap length same in
    omega (arith, some, none, long)))

pub returns-then-first-eq43-clause-none : goal.returns-then-first-eq43-clause-none
returns-then-first-eq43-clause-none c =
    let first = c.in_ok-first.first.now in
    let rest = c.in_ok-first.rest.now in
    let text = c.args.text.now in
    λ n small same. elim c.then-first-eq43.branch [
      | then-first-eq43-via-then-first-eq43 w ↦ plus_none n first rest text small same c.in_ok-first.ensures.cases.0 w.if-first-eq43.true
      | then-first-eq43-via-else-first-eq43+then-not-is_empty w ↦ elim w.if-first-eq48.branch [
        | then-first-eq48 z ↦ zero_none n first rest text small same c.in_ok-first.ensures.cases.0 z.if-first-eq48.true (let e = z.is_empty.ensures in let f = w.if-not-is_empty.true in let h = z.value-is in grind (arith, nat_tests))
        | else-first-eq48 z ↦ (let f = w.if-not-is_empty.true in let h = z.value-is in let no = z.if-first-eq48.false in grind (arith, nat_tests))
      ]
    ]

pub returns-in_default-clause-none : goal.returns-in_default-clause-none
returns-in_default-clause-none c =
    λ n small same. c.in_default.ensures.cases.0 (subst IsUtf8 (sym same) (IsUtf8-from_ascii (decimal n) (IsAscii-decimal n (omega (arith, small)))))

pub returns-clause-whole : goal.returns-clause-whole
returns-clause-whole c =
    let first = c.in_ok-first.first.now in
    let rest = c.in_ok-first.rest.now in
    let text = c.args.text.now in
    let same = c.in-Ok.ensures.cases.0 in
    let r = c.parse.result in
    let h : ParsesUnsigned 16 10 text r = subst (λ bs. ParsesUnsigned 16 10 bs r) same c.parse.ensures.value.0 in
    let whole = parsed _ first rest text r c.in_ok-first.ensures.cases.0 c.if-first-eq43.false (λ e. elim c.if-first-eq48.branch [
      | then-first-eq48 z ↦ (let f = z.is_empty.ensures in let none = c.if-not-is_empty.false in let h = z.value-is in grind (arith, nat_tests))
      | else-first-eq48 z ↦ absurd (z.if-first-eq48.false e)
    ]) h in
    subst (λ o. IfSome o (λ n. text ≡ decimal n)) (sym c.ok.ensures.value) whole

pub returns-clause-none : goal.returns-clause-none
returns-clause-none c =
    let text = c.args.text.now in
    let same = c.in-Ok.ensures.cases.0 in
    let r = c.parse.result in
    let h : ParsesUnsigned 16 10 text r = subst (λ bs. ParsesUnsigned 16 10 bs r) same c.parse.ensures.value.0 in
    subst (λ o. IfNone o ((n : ℕ) → n < 65536 → text ≢ decimal n)) (sym c.ok.ensures.value) (parsed_none _ text r h)
