-- What the tests find of an array decides whether it belongs to a census.
use Rattle.std.proofs.Common.{◌≡◌, ℕ, zero, suc, ◌≤◌, ◌<◌, List, refl, sym, ap, subst, ◌∙◌, arith}
use Rattle.std.specs.Prelude.{pos, Contains}
use Rattle.drg_algebra.specs.Rational.{whole}
use Rattle.drg_array.specs.ClaimOrder.{claim_number, test_number}
use Rattle.drg_array.specs.Claims.{test_of}
use Rattle.drg_array.specs.ConditionLaws.{FailsWhereFalse, HoldsWhereNoneFails, IsArrayTest}
use Rattle.drg_array.specs.Conditions.{CountsFail, CountsHold}
use Rattle.drg_array.specs.Entries.{Entries, IsArray, b_at, diameter}
use Rattle.drg_array.specs.Numbers.{vertex_count}
use Rattle.drg_array.specs.declared.claim.Claim.{Claim}
use Rattle.drg_array.specs.declared.claim.Claim.TheVariants.{First, Degree, Order, Cross, Size, Intersect, Handshake, Induced, Triangles, Mult, Krein, Absolute, Triple, Ktriple}
use Rattle.drg_array.specs.declared.test.Test.{Test}
use Rattle.drg_array.specs.declared.test.Test.TheVariants as test
use Rattle.drg_array.specs.declared.test_set.TheConstants.{BUILT}
use Rattle.drg_counting.specs.EntryTests.{IsBasic}
use Rattle.drg_counting.specs.Parity.{IsSelectedParity}
use Rattle.drg_intersection.specs.Faults.{IsNumbersFault}
use Rattle.drg_intersection.specs.declared.fault.NumbersFault.TheVariants.{Fall, Wide}
use Rattle.drg_array.specs.declared.node.Node.{Node}
use Rattle.drg_census.specs.Census.{InCensus, IsWithinLimits}
use Rattle.drg_census.specs.Members.{PassesLate}
use Rattle.drg_census.proofs.Fitting.{all_fit}

-- ---- the tests on parity
pub late_fails : FailsWhereFalse → (n : ℕ) (a : Entries) (tests : List Test) (claim : Claim) → IsSelectedParity tests claim → CountsFail a claim → PassesLate n a → ⊥
late_fails law n a tests (Handshake i) selected f h = law a (Handshake i) f h.handshake
late_fails law n a tests (Induced i j) selected f h = law a (Induced i j) f h.induced
late_fails law n a tests (Triangles i) selected f h = law a (Triangles i) f h.triangles
late_fails law n a tests (Mult i) selected f h = f
late_fails law n a tests (Krein i j t) selected f h = f
late_fails law n a tests (Absolute i j) selected f h = f
late_fails law n a tests (Triple u v w) selected f h = f
late_fails law n a tests (Ktriple u v w) selected f h = f
late_fails law n a tests claim selected f h = let s = selected.0 in omega (arith, s)

pub late_holds : HoldsWhereNoneFails → (n : ℕ) (a : Entries) → vertex_count a ≡ whole (pos n)
    → ((claim : Claim) → IsSelectedParity BUILT claim → CountsFail a claim → ⊥) → PassesLate n a
late_holds law n a count none = record {
  vertices = count;
  handshake = holds test.Handshake tt (omega arith) (omega arith) (0, omega arith, refl);
  induced = holds test.Induced tt (omega arith) (omega arith) (1, omega arith, refl);
  triangles = holds test.Triangles tt (omega arith) (omega arith) (2, omega arith, refl);
}
  where
    holds : (t : Test) → IsArrayTest t → 7 ≤ test_number t → test_number t ≤ 9 → Contains BUILT t → CountsHold a t
    holds t is low high built =
        law a t is (λ claim e f. (let m : claim_number claim ≡ test_number t = ap test_number e in
        none claim (omega arith, omega arith, subst (Contains BUILT) (sym e) built) f))

-- ---- all nine
basic_is_one : (claim : Claim) → IsBasic claim → IsArrayTest (test_of claim)
basic_is_one First h = tt
basic_is_one (Degree i) h = tt
basic_is_one (Order i) h = tt
basic_is_one (Cross i j) h = tt
basic_is_one (Size i) h = tt
basic_is_one (Intersect t i j) h = tt
basic_is_one (Handshake i) h = tt
basic_is_one (Induced i j) h = tt
basic_is_one (Triangles i) h = tt
basic_is_one claim h = omega (arith, h)

pub basic_fails : FailsWhereFalse → (d k n : ℕ) (a : Entries) (claim : Claim) → IsBasic claim → CountsFail a claim → InCensus d k n a → ⊥
basic_fails law d k n a claim h f is = law a claim f (is.passes (test_of claim) (basic_is_one claim h))

pub fault_fails : FailsWhereFalse → (d k n : ℕ) (a : Entries) (claim : Claim) → IsNumbersFault a (Fall claim) → InCensus d k n a → ⊥
fault_fails law d k n a (Size i) fault is = law a (Size i) fault.failed (is.passes test.Size tt)
fault_fails law d k n a (Intersect h i j) fault is = law a (Intersect h i j) fault.failed (is.passes test.Intersect tt)
fault_fails law d k n a claim fault is = absurd fault

pub never_wide : (d k n : ℕ) (a : Entries) (node : Node) → IsWithinLimits d k n → IsNumbersFault a (Wide node) → InCensus d k n a → ⊥
never_wide d k n a node limits fault is = fault.wide (all_fit d k n a node limits is fault.is_node)

pub late_of : (d k n : ℕ) (a : Entries) → InCensus d k n a → PassesLate n a
late_of d k n a is = record {
  vertices = is.vertices;
  handshake = is.passes test.Handshake tt;
  induced = is.passes test.Induced tt;
  triangles = is.passes test.Triangles tt;
}

pub member : HoldsWhereNoneFails → (n : ℕ) (a : Entries) → IsArray a → ((claim : Claim) → IsBasic claim → CountsFail a claim → ⊥)
    → CountsHold a test.Size → CountsHold a test.Intersect → PassesLate n a → InCensus (diameter a) (b_at a 0) n a
member law n a array none sizes numbers late = record {
  array = array;
  diameter = refl;
  valency = refl;
  vertices = late.vertices;
  passes = passes;
}
  where
    early : (t : Test) → IsArrayTest t → test_number t ≤ 4 → CountsHold a t
    early t is l = law a t is (λ claim e f. (let m : claim_number claim ≡ test_number t = ap test_number e in none claim (omega arith) f))

    passes : (t : Test) → IsArrayTest t → CountsHold a t
    passes test.First h = early test.First tt (omega arith)
    passes test.Degree h = early test.Degree tt (omega arith)
    passes test.Order h = early test.Order tt (omega arith)
    passes test.Cross h = early test.Cross tt (omega arith)
    passes test.Size h = sizes
    passes test.Intersect h = numbers
    passes test.Handshake h = late.handshake
    passes test.Induced h = late.induced
    passes test.Triangles h = late.triangles
    passes t h = absurd h
