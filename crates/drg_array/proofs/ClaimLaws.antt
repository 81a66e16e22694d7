-- A claim is known by its name and its indices, and the order of claims is a strict one.
use Rattle.std.proofs.Common.{◌≡◌, ℕ, zero, suc, ◌≤◌, List, [], ◌∷◌, length, refl, sym, ap, ap₂, subst, ◌∙◌, arith, inl, inr}
use Rattle.std.specs.Prelude.{◌⊎◌, Option, None, Some, IsSome, Contains}
use Rattle.drg_array.specs.Claims.{claim_of, name_of, indices_of, index_count, HasParts}
use Rattle.drg_array.specs.ClaimOrder.{claim_number, name_number, test_number, IsBefore}
use Rattle.drg_array.specs.CatalogueLaws.{OneClaimName, ClaimByName, ClaimOfParts, ClaimNamesInOrder, ClaimsInOrder}
use Rattle.std.proofs.lemmas.Bool.{cases_order}
use Rattle.drg_array.specs.TestLists.{IsAlwaysRun}
use Rattle.drg_array.specs.CatalogueLaws.{BuiltAreReplayed}
use Rattle.drg_array.specs.declared.limits.TheConstants.{MAX_INDICES}
use Rattle.drg_array.specs.declared.test.Test.{Test}
use Rattle.drg_array.specs.declared.test.Test.TheVariants as test
use Rattle.drg_array.specs.declared.claim_name.ClaimName.{ClaimName}
use Rattle.drg_array.specs.declared.claim_name.ClaimName.TheVariants.{OfTest}
use Rattle.drg_array.specs.declared.claim.Claim.{Claim}
use Rattle.drg_array.specs.declared.claim.Claim.TheVariants.{First, Degree, Order, Cross, Size, Intersect, Handshake, Induced, Triangles, Mult, Krein, Absolute, Triple, Ktriple}
use Rattle.drg_array.specs.declared.test_set.TheConstants.{BUILT}
use Rattle.drg_array.specs.declared.claim_name.TheConstants.{REPLAYED}
use Rattle.drg_array.proofs.TestLaws.{one_name, one_number}

again : (claim : Claim) → claim_of (name_of claim) (indices_of claim) ≡ Some claim
again First = refl
again _ = refl

count : (claim : Claim) → length (indices_of claim) ≡ index_count (name_of claim)
count First = refl
count _ = refl

some-same : (claim other : Claim) → Some claim ≡ Some other → claim ≡ other
some-same claim other e = cc

one : (claim other : Claim) → name_of claim ≡ name_of other → indices_of claim ≡ indices_of other → claim ≡ other
one claim other e f =
    some-same claim other (sym (again claim) ∙ (ap (λ name. claim_of name (indices_of claim)) e ∙ (ap (claim_of (name_of other)) f ∙ again other)))

has : (name : ClaimName) (ns : List ℕ) (claim made : Claim) → HasParts name ns made → Some made ≡ Some claim → HasParts name ns claim
has name ns claim made is e = subst (HasParts name ns) (some-same made claim e) is

parts : (name : ClaimName) (ns : List ℕ) (claim : Claim) → claim_of name ns ≡ Some claim → HasParts name ns claim
parts (OfTest test.First) [] c e = has _ _ c First (refl, refl) e
parts (OfTest test.Degree) (i ∷ []) c e = has _ _ c (Degree i) (refl, refl) e
parts (OfTest test.Order) (i ∷ []) c e = has _ _ c (Order i) (refl, refl) e
parts (OfTest test.Cross) (i ∷ j ∷ []) c e = has _ _ c (Cross i j) (refl, refl) e
parts (OfTest test.Size) (i ∷ []) c e = has _ _ c (Size i) (refl, refl) e
parts (OfTest test.Intersect) (h ∷ i ∷ j ∷ []) c e = has _ _ c (Intersect h i j) (refl, refl) e
parts (OfTest test.Handshake) (i ∷ []) c e = has _ _ c (Handshake i) (refl, refl) e
parts (OfTest test.Induced) (i ∷ j ∷ []) c e = has _ _ c (Induced i j) (refl, refl) e
parts (OfTest test.Triangles) (i ∷ []) c e = has _ _ c (Triangles i) (refl, refl) e
parts (OfTest test.Mult) (i ∷ []) c e = has _ _ c (Mult i) (refl, refl) e
parts (OfTest test.Krein) (i ∷ j ∷ h ∷ []) c e = has _ _ c (Krein i j h) (refl, refl) e
parts (OfTest test.Absolute) (i ∷ j ∷ []) c e = has _ _ c (Absolute i j) (refl, refl) e
parts (OfTest test.Triple) (u ∷ v ∷ w ∷ []) c e = has _ _ c (Triple u v w) (refl, refl) e
parts (OfTest test.Ktriple) (u ∷ v ∷ w ∷ []) c e = has _ _ c (Ktriple u v w) (refl, refl) e
parts _ ns c e = (let none = e in cc)

few : (name : ClaimName) → index_count name ≤ MAX_INDICES
few (OfTest test.First) = omega arith
few _ = omega arith

-- where one is made of the name, there are as many indices as it has
as_many : (name : ClaimName) (ns : List ℕ) (o : Option Claim) → claim_of name ns ≡ o → IsSome o → length ns ≡ index_count name
as_many name ns None e is = (let h = is in cc)
as_many name ns (Some claim) e is =
    let p = parts name ns claim e in
    ap length (sym p.1) ∙ (count claim ∙ ap index_count p.0)

made : (name : ClaimName) (ns : List ℕ) → length ns ≡ index_count name → IsSome (claim_of name ns)
made (OfTest test.First) [] e = refl
made (OfTest test.Degree) (i ∷ []) e = refl
made (OfTest test.Order) (i ∷ []) e = refl
made (OfTest test.Cross) (i ∷ j ∷ []) e = refl
made (OfTest test.Size) (i ∷ []) e = refl
made (OfTest test.Intersect) (h ∷ i ∷ j ∷ []) e = refl
made (OfTest test.Handshake) (i ∷ []) e = refl
made (OfTest test.Induced) (i ∷ j ∷ []) e = refl
made (OfTest test.Triangles) (i ∷ []) e = refl
made (OfTest test.Mult) (i ∷ []) e = refl
made (OfTest test.Krein) (i ∷ j ∷ h ∷ []) e = refl
made (OfTest test.Absolute) (i ∷ j ∷ []) e = refl
made (OfTest test.Triple) (u ∷ v ∷ w ∷ []) e = refl
made (OfTest test.Ktriple) (u ∷ v ∷ w ∷ []) e = refl
made _ ns e = (let h = e in cc)

pub claim_of_parts : ClaimOfParts
claim_of_parts = record {
  again = again;
  some = λ name ns. (as_many name ns (claim_of name ns) refl, made name ns);
  parts = parts;
  few = few;
}

pub names_in_order : ClaimNamesInOrder
names_in_order (OfTest test.First) = refl
names_in_order _ = refl

pub claim_by_name : ClaimByName
claim_by_name = record { count = count; one = one }

pub one_claim_name : OneClaimName
one_claim_name (OfTest t) (OfTest u) e = ap OfTest (one_name t u e)

-- ---- the lexicographic order
not_itself : (ns : List ℕ) → IsBefore ns ns → ⊥
not_itself [] h = h
not_itself (n ∷ ns) (inl less) = omega (arith, less)
not_itself (n ∷ ns) (inr same) = not_itself ns same.1

along : (ls ms ns : List ℕ) → IsBefore ls ms → IsBefore ms ns → IsBefore ls ns
along ls ms [] h k = k
along ls [] (n ∷ ns) h k = absurd h
along [] (m ∷ ms) (n ∷ ns) h k = tt
along (l ∷ ls) (m ∷ ms) (n ∷ ns) (inl less) (inl more) = inl (omega (arith, less, more))
along (l ∷ ls) (m ∷ ms) (n ∷ ns) (inl less) (inr same) = inl (let e = same.0 in omega (arith, less, e))
along (l ∷ ls) (m ∷ ms) (n ∷ ns) (inr same) (inl more) = inl (let e = same.0 in omega (arith, e, more))
along (l ∷ ls) (m ∷ ms) (n ∷ ns) (inr same) (inr too) = inr (same.0 ∙ too.0, along ls ms ns same.1 too.1)

either : (ms ns : List ℕ) → IsBefore ms ns ⊎ ((ms ≡ ns) ⊎ IsBefore ns ms)
either [] [] = inr (inl refl)
either [] (n ∷ ns) = inl tt
either (m ∷ ms) [] = inr (inr tt)
either (m ∷ ms) (n ∷ ns) =
    elim (cases_order m n) [
      | inl e ↦ elim (either ms ns) [
        | inl before ↦ inl (inr (e, before))
        | inr (inl same) ↦ inr (inl (ap₂ (λ l ls. l ∷ ls) e same))
        | inr (inr after) ↦ inr (inr (inr (sym e, after)))
      ]
      | inr (inl less) ↦ inl (inl less)
      | inr (inr more) ↦ inr (inr (inl more))
    ]

number_apart : (name other : ClaimName) → name_number name ≡ name_number other → name ≡ other
number_apart (OfTest t) (OfTest u) e = ap OfTest (one_number t u e)

pub claims_in_order : ClaimsInOrder
claims_in_order = record {
  not_itself = λ claim. not_itself (claim_number claim ∷ indices_of claim);
  along = λ c d e. along (claim_number c ∷ indices_of c) (claim_number d ∷ indices_of d) (claim_number e ∷ indices_of e);
  either = λ c d. elim (either (claim_number c ∷ indices_of c) (claim_number d ∷ indices_of d)) [
    | inl before ↦ inl before
    | inr (inl same) ↦ inr (inl (one c d (number_apart (name_of c) (name_of d) (let e : claim_number c ≡ claim_number d = cc in e)) (let e : indices_of c ≡ indices_of d = cc in e)))
    | inr (inr after) ↦ inr (inr after)
  ];
}

-- ---- the claims that a replay knows
always_small : (t : Test) → IsAlwaysRun t → test_number t ≤ 6
always_small test.First runs = omega arith
always_small test.Degree runs = omega arith
always_small test.Order runs = omega arith
always_small test.Cross runs = omega arith
always_small test.Size runs = omega arith
always_small test.Intersect runs = omega arith
always_small t runs = absurd runs

built_small : (t : Test) → Contains BUILT t → test_number t ≤ 10
built_small t (zero, less, e) = subst (λ u. test_number u ≤ 10) e (omega arith)
built_small t (suc zero, less, e) = subst (λ u. test_number u ≤ 10) e (omega arith)
built_small t (suc (suc zero), less, e) = subst (λ u. test_number u ≤ 10) e (omega arith)
built_small t (suc (suc (suc zero)), less, e) = subst (λ u. test_number u ≤ 10) e (omega arith)
built_small t (suc (suc (suc (suc k))), less, e) = absurd (omega (arith, less))

known : (t : Test) → test_number t ≤ 10 → Contains REPLAYED (OfTest t)
known test.First h = (0, omega arith, refl)
known test.Degree h = (1, omega arith, refl)
known test.Order h = (2, omega arith, refl)
known test.Cross h = (3, omega arith, refl)
known test.Size h = (4, omega arith, refl)
known test.Intersect h = (5, omega arith, refl)
known test.Handshake h = (6, omega arith, refl)
known test.Induced h = (7, omega arith, refl)
known test.Triangles h = (8, omega arith, refl)
known test.Mult h = (9, omega arith, refl)
known test.Krein h = absurd (omega (arith, h))
known test.Absolute h = absurd (omega (arith, h))
known test.Triple h = absurd (omega (arith, h))
known test.Ktriple h = absurd (omega (arith, h))

pub built_are_replayed : BuiltAreReplayed
built_are_replayed t (inl runs) = known t (let small = always_small t runs in omega (arith, small))
built_are_replayed t (inr built) = known t (let small = built_small t built in omega (arith, small))
