-- The records of a text: there are all of them, they are one list, and a reader has less to do after each.
use Rattle.std.proofs.Common.{◌≡◌, ◌∙◌, ◌<◌, ◌≤◌, ◌++◌, ◌∷◌, [], refl, sym, ap, ap₂, subst, arith, ℕ, zero, suc, Bool, true, false, List, length, Option, Some, None}
use Rattle.std.specs.Prelude.{if◌then◌else◌}
use Rattle.std.proofs.lemmas.Option.{cond_some, same_Some}
use Rattle.csv.specs.Machine.{Read, ends_at_end, field_after, fields_after, is_end, next_record, step}
use Rattle.csv.specs.Reading.{AreRecords, Reached}
use Rattle.csv.specs.declared.parser.Config.{Config}
use Rattle.csv.specs.declared.parser.State.{State}
use Rattle.csv.specs.declared.parser.State.TheVariants.{StartRecord}
use Rattle.drg_tables.specs.Reading.{work}
use Rattle.drg_tables.specs.Rows.{Record}

small : (b : Bool) → (if b then 1 else 0) ≤ 1
small true = omega arith
small false = omega arith

-- a byte that ends the record, or else what the bytes after it give
ends : (b : Bool) (s : State) (rest : List ℕ) (fields : Record) (more : Option Read) (p : Read)
    → (more ≡ Some p → work p.1 p.2 < work s rest) → (if b then Some (fields, s, rest) else more) ≡ Some p → work p.1 p.2 ≤ work s rest
ends true s rest fields more p h e = subst (λ (q : Read). work q.1 q.2 ≤ work s rest) (same_Some (fields, s, rest) p e) (omega arith)
ends false s rest fields more p h e = let l = h e in omega (arith, l)

pub less_work : (cfg : Config) (s : State) (fields : Record) (field bytes : List ℕ) (p : Read) → next_record cfg s fields field bytes ≡ Some p → work p.1 p.2 < work s bytes
unfolding next_record
less_work cfg s fields field [] p h =
    let e = cond_some (ends_at_end s) (fields ++ (field ∷ []), StartRecord, []) p h in
    subst (λ (q : Read). work q.1 q.2 < work s []) e.1 (rw e.0 (omega arith))
less_work cfg s fields field (c ∷ rest) p h =
    let low = ends (is_end (step cfg s c).1) (step cfg s c).0 rest (fields_after (step cfg s c).1 fields field)
    (next_record cfg (step cfg s c).0 (fields_after (step cfg s c).1 fields field) (field_after (step cfg s c).1 c field) rest) p
    (λ e. less_work cfg (step cfg s c).0 (fields_after (step cfg s c).1 fields field) (field_after (step cfg s c).1 c field) rest p e) h in
    let bit = small (ends_at_end (step cfg s c).0) in
    omega (arith, low, bit)

-- all records that a reader in this state takes from the bytes
pub all_records : (n : ℕ) (cfg : Config) (s : State) (bytes : List ℕ) → work s bytes < n → (records : List Record) × AreRecords cfg s bytes records
unfolding Reached
all_records zero cfg s bytes h = absurd (omega (arith, h))
all_records (suc n) cfg s bytes h = by (λ p low. all_records n cfg p.1 p.2 low) (next_record cfg s [] [] bytes) refl
  where
    by : ((p : Read) → work p.1 p.2 < n → (records : List Record) × AreRecords cfg p.1 p.2 records)
        → (o : Option Read) → next_record cfg s [] [] bytes ≡ o → (records : List Record) × AreRecords cfg s bytes records
    by more None e = ([], (s, bytes, (refl, refl), e))
    by more (Some p) e =
        let low = less_work cfg s [] [] bytes p e in
        let (records, (s2, left, reached, none)) = more p (omega (arith, h, low)) in
        (p.0 ∷ records, (s2, left, (p, e, refl, reached), none))

-- records that are taken, and then further ones
pub reached_more : (cfg : Config) (s : State) (bytes : List ℕ) (records more : List Record) (s2 s3 : State) (left last : List ℕ)
    → Reached cfg s bytes records s2 left → Reached cfg s2 left more s3 last → Reached cfg s bytes (records ++ more) s3 last
unfolding Reached
reached_more cfg s bytes [] more s2 s3 left last (a, b) h = rw (a, b) h
reached_more cfg s bytes (r ∷ records) more s2 s3 left last (p, e, same, reached) h =
    (p, e, same, reached_more cfg p.1 p.2 records more s2 s3 left last reached h)

none_some : {X : Type 0} (p : Read) (o : Option Read) → o ≡ None → o ≡ Some p → X
none_some p o a b = absurd (cc (a, b))

pub one_list : (cfg : Config) (s : State) (bytes : List ℕ) (records others : List Record) → AreRecords cfg s bytes records → AreRecords cfg s bytes others → records ≡ others
unfolding Reached
one_list cfg s bytes [] [] a b = refl
one_list cfg s bytes [] (r ∷ rs) (t, ys, e, none) (t2, zs, h, none2) =
    none_some h.0 (next_record cfg s [] [] bytes) (ap₂ (λ (u : State) (v : List ℕ). next_record cfg u [] [] v) e.0 e.1 ∙ none) h.1
one_list cfg s bytes (r ∷ rs) [] (t, ys, h, none) (t2, zs, e, none2) =
    none_some h.0 (next_record cfg s [] [] bytes) (ap₂ (λ (u : State) (v : List ℕ). next_record cfg u [] [] v) e.0 e.1 ∙ none2) h.1
one_list cfg s bytes (r ∷ rs) (q ∷ qs) (t, ys, h, none) (t2, zs, k, none2) =
    let same : k.0 ≡ h.0 = same_Some k.0 h.0 (sym k.1 ∙ h.1) in
    let more = subst (λ (p : Read). Reached cfg p.1 p.2 qs t2 zs) same k.3 in
    ap₂ (λ (x : Record) (ts : List Record). x ∷ ts) (h.2 ∙ sym (ap (λ (p : Read). p.0) same) ∙ sym k.2)
    (one_list cfg h.0.1 h.0.2 rs qs (t, ys, h.3, none) (t2, zs, more, none2))
