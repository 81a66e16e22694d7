-- The claims before a failing one, and the claims of the four tests.
use Rattle.std.proofs.Common.{◌≡◌, ℕ, ◌<◌, List, [], ◌∷◌, subst, arith, inl, inr}
use Rattle.std.specs.Prelude.{◌⊎◌}
use Rattle.drg_array.specs.Entries.{Entries, c_at}
use Rattle.drg_array.specs.Conditions.{CountsFail}
use Rattle.drg_array.specs.Claims.{indices_of}
use Rattle.drg_array.specs.declared.claim.Claim.{Claim}
use Rattle.drg_array.specs.declared.claim.Claim.TheVariants.{First, Degree, Order, Cross}
use Rattle.drg_array.specs.ClaimOrder.{claim_number, IsBefore, ComesBefore}
use Rattle.drg_counting.specs.EntryTests.{IsBasic}

later : (m n : ℕ) (ms ns : List ℕ) → n < m → IsBefore (m ∷ ms) (n ∷ ns) → ⊥
later m n ms ns h (inl less) = omega arith
later m n ms ns h (inr same) = let e = same.0 in omega arith

-- a claim of a later test doesn't come before
pub later_test : (earlier claim : Claim) → claim_number claim < claim_number earlier → ComesBefore earlier claim → ⊥
later_test earlier claim h before = later (claim_number earlier) (claim_number claim) (indices_of earlier) (indices_of claim) h before

pub within : (n : ℕ) (ms ns : List ℕ) → IsBefore (n ∷ ms) (n ∷ ns) → IsBefore ms ns
within n ms ns (inl less) = absurd (omega arith)
within n ms ns (inr same) = same.1

pub one_index : (i j : ℕ) → IsBefore (i ∷ []) (j ∷ []) → i < j
one_index i j (inl less) = less
one_index i j (inr same) = absurd same.1

pub two_indices : (i j k l : ℕ) → IsBefore (i ∷ j ∷ []) (k ∷ l ∷ []) → (i < k) ⊎ ((i ≡ k) × (j < l))
two_indices i j k l (inl less) = inl less
two_indices i j k l (inr same) = inr (same.0, one_index j l same.1)

module _ (a : Entries) (first : c_at a 1 ≡ 1) (no_degree : (j : ℕ) → CountsFail a (Degree j) → ⊥) where
  pub before_order : (i : ℕ) → ((j : ℕ) → j < i → CountsFail a (Order j) → ⊥) → (earlier : Claim) → ComesBefore earlier (Order i) → CountsFail a earlier → ⊥
  before_order i none First before fails = fails first
  before_order i none (Degree j) before fails = no_degree j fails
  before_order i none (Order j) before fails = none j (one_index j i (within 3 (j ∷ []) (i ∷ []) before)) fails
  before_order i none claim before fails = later_test claim (Order i) (omega arith) before

  module _ (no_order : (j : ℕ) → CountsFail a (Order j) → ⊥) where
    cross_before : (i j k l : ℕ) → ((m n : ℕ) → m < i → CountsFail a (Cross m n) → ⊥) → ((n : ℕ) → n < j → CountsFail a (Cross i n) → ⊥) → (k < i) ⊎ ((k ≡ i) × (l < j)) → CountsFail a (Cross k l) → ⊥
    cross_before i j k l rows row (inl less) fails = rows k l less fails
    cross_before i j k l rows row (inr same) fails =
        let P : ℕ → Type 0 = λ n. CountsFail a (Cross n l) in row l same.1 (subst P same.0 fails)

    pub before_cross : (i j : ℕ) → ((m n : ℕ) → m < i → CountsFail a (Cross m n) → ⊥) → ((n : ℕ) → n < j → CountsFail a (Cross i n) → ⊥) → (earlier : Claim) → ComesBefore earlier (Cross i j) → CountsFail a earlier → ⊥
    before_cross i j rows row First before fails = fails first
    before_cross i j rows row (Degree k) before fails = no_degree k fails
    before_cross i j rows row (Order k) before fails = no_order k fails
    before_cross i j rows row (Cross k l) before fails = cross_before i j k l rows row (two_indices k l i j (within 4 (k ∷ l ∷ []) (i ∷ j ∷ []) before)) fails
    before_cross i j rows row claim before fails = later_test claim (Cross i j) (omega arith) before

    pub none_fails : ((i j : ℕ) → CountsFail a (Cross i j) → ⊥) → (claim : Claim) → IsBasic claim → CountsFail a claim → ⊥
    none_fails no_cross First basic fails = fails first
    none_fails no_cross (Degree j) basic fails = no_degree j fails
    none_fails no_cross (Order j) basic fails = no_order j fails
    none_fails no_cross (Cross i j) basic fails = no_cross i j fails
    none_fails no_cross claim basic fails = omega arith
