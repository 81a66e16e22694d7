-- The number of vertices isn't nil.
use Rattle.std.proofs.Common.{◌≡◌, ap, ◌∙◌, subst, pos, ℕ}
use Rattle.drg_algebra.specs.Rational.{whole}
use Rattle.drg_array.specs.Entries.{Entries, IsArray}
use Rattle.drg_array.specs.Numbers.{vertex_count}
use Rattle.drg_array.proofs.SizeSigns.{count_above}
use Rattle.drg_fraction.specs.Operations.{Operations}
use Rattle.drg_fraction.specs.Field.{IsExactField}
use Rattle.drg_intersection.specs.Numbers.{Numbers, AreNumbersOf, n_of}

pub count_apart : {V : Type 0} {o : Operations V} {root : ℕ} → IsExactField o root → (a : Entries) (numbers : Numbers) → IsArray a → AreNumbersOf a numbers
    → ¬ (o.rational (whole (pos (n_of numbers))) ≡ o.nil)
count_apart {o = o} laws a numbers array are e =
    laws.nil_is_not_positive (subst o.IsPositive (ap o.rational are.vertices ∙ e) (laws.rational_positive (vertex_count a) (count_above a array)))
