-- Equations that are the same, and what a hash of one reads.
use Rattle.std.specs.Prelude.{Bool, ◌&&◌, ◌++◌}
use Rattle.std.specs.Ordering.{int_eq}
use Rattle.std.specs.Cmp.Lexicographic.{pointwise}
use Rattle.std.specs.Hash as fed
use Rattle.drg_linear.specs.Unknowns.{is_same}
use Rattle.drg_linear.specs.Equations.{Term, EquationContent}

abbrev pub same_term : Term → Term → Bool
same_term t u = is_same t.0 u.0 && int_eq t.1 u.1

-- the same terms in one order, and the same right side
abbrev pub same_equation : EquationContent → EquationContent → Bool
same_equation e f = pointwise same_term e.terms f.terms && int_eq e.right f.right

abbrev pub term_writes : Term → fed.HashWrites
term_writes t = (fed.u8 t.0.r ++ (fed.u8 t.0.s ++ fed.u8 t.0.t)) ++ fed.i128 t.1

-- the terms with their number, then the right side
abbrev pub equation_writes : EquationContent → fed.HashWrites
equation_writes e = fed.slice term_writes e.terms ++ fed.i128 e.right
