use Rattle.std.proofs.Common.{sym, subst, Option, List, ℕ}
use Rattle.clap.specs.Words.{found_of, rows_of}
use Rattle.drg_words.specs.Commands.{AreTests, IsBudget}
use Rattle.drg_words.proofs.Readings.{check_budget, check_file, check_read, check_tests}
use Rattle.drg_words.proofs.Told.{if_none}
use Rattle.drg_words.proofs.reading.check_of.Goals as goal

pub returns-in_err-tests-clause-none : goal.returns-in_err-tests-clause-none
returns-in_err-tests-clause-none c =
    let rows = rows_of (found_of c.args.matches.now) in
    if_none c.from_residual.result _
    (check_tests rows (λ tests h. c.in_err-tests.ensures.none tests (subst (λ (o : Option (List ℕ)). AreTests o tests) (sym c.text_of-list.ensures) h)))

pub returns-in_err-budget-clause-none : goal.returns-in_err-budget-clause-none
returns-in_err-budget-clause-none c =
    let rows = rows_of (found_of c.args.matches.now) in
    if_none c.from_residual-in_err-budget.result _
    (check_budget rows (λ n h. c.in_err-budget.ensures.none n (subst (λ (o : Option (List ℕ)). IsBudget o n) (sym c.text_of-digits.ensures) h)))

pub returns-in_err-file-clause-none : goal.returns-in_err-file-clause-none
returns-in_err-file-clause-none c = if_none c.from_residual-in_err-file.result _ (check_file (rows_of (found_of c.args.matches.now)) c.in_err-file.ensures)

pub returns-clause-some : goal.returns-clause-some
returns-clause-some c =
    let tests = c.in_ok-tests.tests in
    let budget = c.in_ok-budget.budget in
    check_read (rows_of (found_of c.args.matches.now)) tests budget c.has_flag-json.result c.in_ok-file.file
    (subst (λ (o : Option (List ℕ)). AreTests o tests) c.text_of-list.ensures c.in_ok-tests.ensures.some)
    (subst (λ (o : Option (List ℕ)). IsBudget o budget) c.text_of-digits.ensures c.in_ok-budget.ensures.some)
    c.has_flag-json.ensures.given c.has_flag-json.ensures.absent c.in_ok-file.ensures
