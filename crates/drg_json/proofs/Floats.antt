-- A report has no float.
use Rattle.std.proofs.Common.{◌≡◌, ℕ, zero, suc, ◌+◌, ◌-◌, ℤ, Bool, true, false, ◌||◌, List, [], ◌∷◌, ◌++◌, map, refl, Option, Some, None, codes, decimal}
use Rattle.std.specs.Prelude.{⊤, option_map, option_and_then}
use Rattle.std.specs.Fmt.{signed_decimal}
use Rattle.serde_json.specs.Data.{Data, Members, member, no_members, string}
use Rattle.serde_json.specs.View.{items_of}
use Rattle.serde_json.specs.Written.{has_float, items_have_float, members_have_float}
use Rattle.drg_algebra.proofs.Tests.{neither}
use Rattle.drg_array.specs.Claims.{claim_text, class_name, test_name}
use Rattle.drg_array.specs.Entries.{Entries}
use Rattle.drg_array.specs.declared.test.Test.{Test}
use Rattle.drg_eigen.specs.declared.split.OtherSpectrum.{OtherSpectrum}
use Rattle.drg_eigen.specs.declared.split.OtherSpectrum.TheVariants.{Rest, TwoFields}
use Rattle.drg_fraction.specs.Fraction.{rational_of}
use Rattle.drg_fraction.specs.Operations.{Operations}
use Rattle.drg_fraction.specs.Rationals.{rational_operations}
use Rattle.drg_intersection.specs.Numbers.{Numbers, k_at}
use Rattle.drg_krein.specs.Tables.{KreinTables, krein_in}
use Rattle.drg_matrices.specs.Tables.{FrameTables, diameter_of, root_of_tables}
use Rattle.drg_quadratic.specs.Operations.{value_operations}
use Rattle.drg_quadratic.specs.Quadratic.{value_of}
use Rattle.drg_report.specs.Words.{pending_text}
use Rattle.drg_report.specs.declared.verdict.Infeasible.{Infeasible as TheInfeasible}
use Rattle.drg_report.specs.declared.verdict.Pending.{Pending}
use Rattle.drg_report.specs.declared.verdict.Spectra.{Spectra}
use Rattle.drg_report.specs.declared.verdict.Spectra.TheVariants.{Rational, Quadratic}
use Rattle.drg_report.specs.declared.verdict.Survivor.{Survivor as TheSurvivor}
use Rattle.drg_report.specs.declared.verdict.Verdict.{Verdict}
use Rattle.drg_report.specs.declared.verdict.Verdict.TheVariants.{Infeasible, Undecided, RefusedSpectrum, Survivor}
use Rattle.drg_json.specs.Certificates.{factors_data, first_data, poly_data, polys_data, rest_data, second_data}
use Rattle.drg_json.specs.Pieces.{first_items, index, indices, list, member_if, texts}
use Rattle.drg_json.specs.Reports.{array_data, derivation_lines, infeasible_data, names_data, open_data, orderings_data, pending_data, sizes_data, survivor_data, verdict_data, vertices_data}
use Rattle.drg_json.specs.Tables.{TableData, dual_data, eigen_data, krein_if, pair_data, pairs_of_index, pairs_of_indices, parameter_items, row_data, row_value, spectra_data, table_data, value_data}
use Rattle.drg_json.specs.declared.tables.Row.{Row}
use Rattle.drg_json.specs.declared.tables.Row.TheVariants.{Thetas, Eigen, Dual}

abbrev IsFree : Data → Type 0
IsFree d = has_float d ≡ false

abbrev AreFree : List Data → Type 0
AreFree ds = items_have_float (items_of ds) ≡ false

abbrev MembersFree : Members → Type 0
MembersFree ms = members_have_float ms ≡ false

abbrev IfThere : Option Data → Type 0
IfThere None = ⊤
IfThere (Some d) = IsFree d

-- ---- lists
none : (a b : Bool) → a ≡ false → b ≡ false → (a || b) ≡ false
none true b p q = p
none false b p q = q

append : (xs ys : List Data) → AreFree xs → AreFree ys → AreFree (xs ++ ys)
append [] ys p q = q
append (x ∷ xs) ys p q =
    let h = neither (has_float x) (items_have_float (items_of xs)) p in
    none (has_float x) (items_have_float (items_of (xs ++ ys))) h.0 (append xs ys h.1 q)

mapped : {A : Type 0} (f : A → Data) (xs : List A) → ((x : A) → IsFree (f x)) → AreFree (map f xs)
mapped f [] h = refl
mapped f (x ∷ xs) h = none (has_float (f x)) (items_have_float (items_of (map f xs))) (h x) (mapped f xs h)

firsts : (f : ℕ → Data) (m : ℕ) → ((i : ℕ) → IsFree (f i)) → AreFree (first_items f m)
firsts f zero h = refl
firsts f (suc i) h = append (first_items f i) (f i ∷ []) (firsts f i h) (none (has_float (f i)) false (h i) refl)

free-texts : (xs : List (List ℕ)) → IsFree (texts xs)
free-texts xs = mapped string xs (λ x. refl)

free-indices : (ns : List ℕ) → IsFree (indices ns)
free-indices ns = mapped index ns (λ n. refl)

-- ---- members
one : (k : List ℕ) (d : Data) (ms : Members) → IsFree d → MembersFree ms → MembersFree (member k d ms)
one k d ms p q = none (has_float d) (members_have_float ms) p q

maybe : (k : List ℕ) (d : Option Data) (ms : Members) → IfThere d → MembersFree ms → MembersFree (member_if k d ms)
maybe k None ms p q = q
maybe k (Some d) ms p q = one k d ms p q

-- ---- tables
module _ {A V : Type 0} (value : A → V) (operations : ℕ → Operations V) where
  free-row : (t : FrameTables A) (row : Row) → IsFree (row_data value operations t row)
  free-row t row = firsts (λ j. value_data value operations (root_of_tables t) (row_value value operations t row j)) (suc (diameter_of t)) (λ j. refl)

  free-eigen : (t : FrameTables A) → IsFree (eigen_data value operations t)
  free-eigen t = firsts (λ i. row_data value operations t (Eigen i)) (suc (diameter_of t)) (λ i. free-row t (Eigen i))

  free-dual : (t : FrameTables A) → IsFree (dual_data value operations t)
  free-dual t = firsts (λ r. row_data value operations t (Dual r)) (suc (diameter_of t)) (λ r. free-row t (Dual r))

  free-pair : (t : KreinTables A) (i j : ℕ) → IsFree (pair_data value operations t i j)
  free-pair t i j =
      let q = list (parameter_items value operations t i j (suc t.d)) in
      one (codes "q") q no_members (firsts (λ h. value_data value operations t.root (krein_in value operations t h i j)) (suc t.d) (λ h. refl)) refl

  free-pairs : (t : KreinTables A) (m : ℕ) → AreFree (pairs_of_indices value operations t m)
  free-pairs t zero = refl
  free-pairs t (suc l) =
      append (pairs_of_indices value operations t l) (pairs_of_index value operations t (suc l) (t.d - l)) (free-pairs t l)
      (firsts (λ k. pair_data value operations t (suc l) (suc l + k)) (t.d - l) (λ k. free-pair t (suc l) (suc l + k)))

  free-krein : (krein : Option (KreinTables A)) → IfThere (krein_if value operations krein)
  free-krein None = tt
  free-krein (Some t) = free-pairs t t.d

record AreTablesFree (t : TableData) : Type 0 where
  root : IsFree t.root
  theta : IsFree t.theta
  eigen : IsFree t.eigen
  dual : IsFree t.dual
  krein : IfThere t.krein

free-tables : {A V : Type 0} (value : A → V) (operations : ℕ → Operations V) (t : FrameTables A) (krein : Option (KreinTables A))
    → AreTablesFree (table_data value operations t krein)
free-tables value operations t krein = record {
  root = refl;
  theta = free-row value operations t Thetas;
  eigen = free-eigen value operations t;
  dual = free-dual value operations t;
  krein = free-krein value operations krein;
}

record AreSpectraFree (tables : Option TableData) : Type 0 where
  root : IfThere (option_map (λ (t : TableData). t.root) tables)
  theta : IfThere (option_map (λ (t : TableData). t.theta) tables)
  eigen : IfThere (option_map (λ (t : TableData). t.eigen) tables)
  dual : IfThere (option_map (λ (t : TableData). t.dual) tables)
  krein : IfThere (option_and_then (λ (t : TableData). t.krein) tables)

these : (t : TableData) → AreTablesFree t → AreSpectraFree (Some t)
these t are = record { root = are.root; theta = are.theta; eigen = are.eigen; dual = are.dual; krein = are.krein }

free-spectra : (spectra : Option Spectra) → AreSpectraFree (spectra_data spectra)
free-spectra None = record { root = tt; theta = tt; eigen = tt; dual = tt; krein = tt }
free-spectra (Some (Rational tables)) =
    let all = λ (root : ℕ). rational_operations in
    these (table_data rational_of all tables.frame tables.krein) (free-tables rational_of all tables.frame tables.krein)
free-spectra (Some (Quadratic tables)) =
    these (table_data value_of value_operations tables.frame tables.krein) (free-tables value_of value_operations tables.frame tables.krein)

-- ---- certificates
free-poly : (zs : List ℤ) → IsFree (poly_data zs)
free-poly zs = free-texts (map signed_decimal zs)

free-polys : (polys : List (List ℤ)) → IsFree (polys_data polys)
free-polys polys = mapped poly_data polys free-poly

free-factors : (other : Option OtherSpectrum) → IfThere (factors_data other)
free-factors None = tt
free-factors (Some (Rest factors rest)) = free-polys factors
free-factors (Some (TwoFields factors first second)) = free-polys factors

free-rest : (other : Option OtherSpectrum) → IfThere (rest_data other)
free-rest None = tt
free-rest (Some (Rest factors rest)) = free-poly rest
free-rest (Some (TwoFields factors first second)) = tt

free-first : (other : Option OtherSpectrum) → IfThere (first_data other)
free-first None = tt
free-first (Some (Rest factors rest)) = tt
free-first (Some (TwoFields factors first second)) = free-poly first

free-second : (other : Option OtherSpectrum) → IfThere (second_data other)
free-second None = tt
free-second (Some (Rest factors rest)) = tt
free-second (Some (TwoFields factors first second)) = free-poly second

-- ---- reports
free-array : (a : Entries) → IsFree (array_data a)
free-array a =
    let last = member (codes "c") (indices a.c) no_members in
    one (codes "b") (indices a.b) last (free-indices a.b) (one (codes "c") (indices a.c) no_members (free-indices a.c) refl)

infeasible-free : (entries derivation pending : Data) (claim class verdict : List ℕ) (factors first rest second : Option Data)
    → IsFree entries → IsFree derivation → IsFree pending → IfThere factors → IfThere first → IfThere rest → IfThere second
    → MembersFree (member (codes "array") entries (member (codes "claim") (string claim) (member (codes "class") (string class)
    (member (codes "derivation") derivation (member_if (codes "factors") factors (member_if (codes "first") first
    (member (codes "pending") pending (member_if (codes "rest") rest (member_if (codes "second") second (member (codes "verdict") (string verdict) no_members))))))))))
infeasible-free entries derivation pending claim class verdict factors first rest second a d p f g r s =
    let m9 = member (codes "verdict") (string verdict) no_members in
    let m8 = member_if (codes "second") second m9 in
    let m7 = member_if (codes "rest") rest m8 in
    let m6 = member (codes "pending") pending m7 in
    let m5 = member_if (codes "first") first m6 in
    let m4 = member_if (codes "factors") factors m5 in
    let m3 = member (codes "derivation") derivation m4 in
    let m2 = member (codes "class") (string class) m3 in
    let m1 = member (codes "claim") (string claim) m2 in
    one (codes "array") entries m1 a (one (codes "claim") (string claim) m2 refl (one (codes "class") (string class) m3 refl
    (one (codes "derivation") derivation m4 d (maybe (codes "factors") factors m5 f (maybe (codes "first") first m6 g
    (one (codes "pending") pending m7 p (maybe (codes "rest") rest m8 r (maybe (codes "second") second m9 s refl))))))))

open-free : (entries passed pending : Data) (verdict : List ℕ) (factors first rest second : Option Data)
    → IsFree entries → IsFree passed → IsFree pending → IfThere factors → IfThere first → IfThere rest → IfThere second
    → MembersFree (member (codes "array") entries (member_if (codes "factors") factors (member_if (codes "first") first
    (member (codes "passed") passed (member (codes "pending") pending
    (member_if (codes "rest") rest (member_if (codes "second") second (member (codes "verdict") (string verdict) no_members))))))))
open-free entries passed pending verdict factors first rest second a q p f g r s =
    let m7 = member (codes "verdict") (string verdict) no_members in
    let m6 = member_if (codes "second") second m7 in
    let m5 = member_if (codes "rest") rest m6 in
    let m4 = member (codes "pending") pending m5 in
    let m3 = member (codes "passed") passed m4 in
    let m2 = member_if (codes "first") first m3 in
    let m1 = member_if (codes "factors") factors m2 in
    one (codes "array") entries m1 a (maybe (codes "factors") factors m2 f (maybe (codes "first") first m3 g
    (one (codes "passed") passed m4 q (one (codes "pending") pending m5 p (maybe (codes "rest") rest m6 r (maybe (codes "second") second m7 s refl))))))

survivor-free : (entries passed n sizes ppoly : Data) (verdict : List ℕ) (q dual eigen krein root theta : Option Data)
    → IsFree entries → IsFree passed → IsFree n → IsFree sizes → IsFree ppoly → IfThere q
    → IfThere dual → IfThere eigen → IfThere krein → IfThere root → IfThere theta
    → MembersFree (member (codes "array") entries (member_if (codes "dual") dual (member_if (codes "eigen") eigen (member_if (codes "krein") krein
    (member (codes "n") n (member (codes "passed") passed (member (codes "ppoly") ppoly (member_if (codes "qpoly") q
    (member_if (codes "root") root (member (codes "sizes") sizes (member_if (codes "theta") theta (member (codes "verdict") (string verdict) no_members))))))))))))
survivor-free entries passed n sizes ppoly verdict q dual eigen krein root theta a p v s o qs ds es ks rs ts =
    let m11 = member (codes "verdict") (string verdict) no_members in
    let m10 = member_if (codes "theta") theta m11 in
    let m9 = member (codes "sizes") sizes m10 in
    let m8 = member_if (codes "root") root m9 in
    let m7 = member_if (codes "qpoly") q m8 in
    let m6 = member (codes "ppoly") ppoly m7 in
    let m5 = member (codes "passed") passed m6 in
    let m4 = member (codes "n") n m5 in
    let m3 = member_if (codes "krein") krein m4 in
    let m2 = member_if (codes "eigen") eigen m3 in
    let m1 = member_if (codes "dual") dual m2 in
    one (codes "array") entries m1 a (maybe (codes "dual") dual m2 ds (maybe (codes "eigen") eigen m3 es (maybe (codes "krein") krein m4 ks
    (one (codes "n") n m5 v (one (codes "passed") passed m6 p (one (codes "ppoly") ppoly m7 o (maybe (codes "qpoly") q m8 qs
    (maybe (codes "root") root m9 rs (one (codes "sizes") sizes m10 s (maybe (codes "theta") theta m11 ts refl))))))))))

free-names : (tests : List Test) → IsFree (names_data tests)
free-names tests = free-texts (map test_name tests)

free-pending : (pending : List Pending) → IsFree (pending_data pending)
free-pending pending = free-texts (map pending_text pending)

free-infeasible : (a : Entries) (found : TheInfeasible) → IsFree (infeasible_data a found)
free-infeasible a found =
    infeasible-free (array_data a) (texts (derivation_lines found.derivation)) (pending_data found.pending)
    (claim_text found.claim) (class_name found.class) (codes "infeasible")
    (factors_data found.other) (first_data found.other) (rest_data found.other) (second_data found.other)
    (free-array a) (free-texts (derivation_lines found.derivation)) (free-pending found.pending)
    (free-factors found.other) (free-first found.other) (free-rest found.other) (free-second found.other)

free-open : (word : List ℕ) (a : Entries) (passed : List Test) (pending : List Pending) (other : Option OtherSpectrum) → IsFree (open_data word a passed pending other)
free-open word a passed pending other =
    open-free (array_data a) (names_data passed) (pending_data pending) word
    (factors_data other) (first_data other) (rest_data other) (second_data other)
    (free-array a) (free-names passed) (free-pending pending)
    (free-factors other) (free-first other) (free-rest other) (free-second other)

free-orderings : (orders : List (List ℕ)) → IsFree (orderings_data orders)
free-orderings orders = mapped indices orders free-indices

free-q : (orders : Option (List (List ℕ))) → IfThere (option_map orderings_data orders)
free-q None = tt
free-q (Some orders) = free-orderings orders

free-sizes : (numbers : Numbers) → IsFree (sizes_data numbers)
free-sizes numbers = firsts (λ i. string (decimal (k_at numbers i))) (suc numbers.d) (λ i. refl)

free-survivor : (a : Entries) (found : TheSurvivor) → IsFree (survivor_data a found)
free-survivor a found =
    let tables = spectra_data found.spectra in
    let are = free-spectra found.spectra in
    survivor-free (array_data a) (names_data found.passed) (vertices_data found.numbers) (sizes_data found.numbers) (orderings_data found.p_orderings)
    (codes "survivor") (option_map orderings_data found.q_orderings)
    (option_map (λ (t : TableData). t.dual) tables) (option_map (λ (t : TableData). t.eigen) tables) (option_and_then (λ (t : TableData). t.krein) tables)
    (option_map (λ (t : TableData). t.root) tables) (option_map (λ (t : TableData). t.theta) tables)
    (free-array a) (free-names found.passed) refl (free-sizes found.numbers) (free-orderings found.p_orderings) (free-q found.q_orderings)
    are.dual are.eigen are.krein are.root are.theta

pub no_float : (a : Entries) (verdict : Verdict) → has_float (verdict_data a verdict) ≡ false
no_float a (Infeasible found) = free-infeasible a found
no_float a (Undecided found) = free-open (codes "undecided") a found.passed found.pending found.other
no_float a (RefusedSpectrum found) = free-open (codes "refused-spectrum") a found.passed found.pending (Some found.other)
no_float a (Survivor found) = free-survivor a found
