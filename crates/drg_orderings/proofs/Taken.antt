-- A test over a list tells whether an index is taken.
use Rattle.std.proofs.Common.{◌≡◌, ℕ, zero, suc, Bool, true, IsTrue, List, get_or, sym, ◌∙◌, arith, eq-eqb}
use Rattle.std.specs.Prelude.{◌==◌}
use Rattle.std.specs.List.{Any, list_any}
use Rattle.std.proofs.lemmas.Bool.Decides.{Decides-eqb}
use Rattle.std.proofs.lemmas.Grind.{get_or_default_zero}
use Rattle.std.proofs.lemmas.List.Folds.{Any-from_list_any, list_any_at}
use Rattle.drg_orderings.specs.Search.{IsTaken}

pub taken_by_test : (order : List ℕ) (x : ℕ) (r : Bool) → ¬ (x ≡ 0) → r ≡ list_any (λ y. y == x) order
    → (IsTrue r → IsTaken order x) × (IsTaken order x → IsTrue r)
taken_by_test order x r some e = (to, from)
  where
    to : r ≡ true → IsTaken order x
    to t = go (Any-from_list_any (λ y. y == x) order (sym e ∙ t))
      where
        go : Any (λ y. (y == x) ≡ true) order → IsTaken order x
        go (k, y, l, q, p) = (suc k, omega arith, sym (get_or_default_zero order k y l) ∙ q ∙ (Decides-eqb y x).0 p)

    from : IsTaken order x → r ≡ true
    from (zero, l, q) = absurd (some (sym q))
    from (suc k, l, q) = e ∙ list_any_at (λ y. y == x) order k 0 (omega arith) (eq-eqb (get_or order k 0) x q)
