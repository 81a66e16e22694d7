-- The version, the array and the claim are read exactly from the numbers that they are written with.
use Rattle.std.proofs.Common.{◌≡◌, ℕ, zero, suc, ◌+◌, ◌*◌, ◌≤◌, Bool, true, false, inl, inr, List, [], ◌∷◌, ◌++◌, length, take, drop, None, Some, refl, sym, ap, subst, ◌∙◌, arith, append_assoc, length-append, ℤ, pos, negsuc}
use Rattle.std.specs.Bool.{Decides}
use Rattle.std.specs.Prelude.{Option, nat_le, ◌==◌, ◌&&◌, if◌then◌else◌, map, is_some, IsSome, IfSome}
use Rattle.std.specs.List.{AllByRecursion}
use Rattle.std.proofs.lemmas.Bool.Decides.{Decides-and, Decides-like, Decides-eqb}
use Rattle.std.proofs.lemmas.List.{take-append-drop}
use Rattle.std.proofs.Math.Seq.{take-append_seam, drop-append_seam}
use Rattle.drg_array.specs.Entries.{Entries, IsArray, IsEntry, diameter}
use Rattle.drg_array.specs.Claims.{name_of, indices_of}
use Rattle.drg_array.specs.declared.limits.TheConstants.{MAX_DIAMETER, MAX_ENTRY, MAX_INDICES}
use Rattle.drg_array.specs.declared.claim_name.ClaimName.{ClaimName}
use Rattle.drg_array.specs.declared.claim.Claim.{Claim}
use Rattle.drg_array.proofs.ClaimLaws.{claim_by_name, claim_of_parts}
use Rattle.drg_derivation.specs.Header.{natural, naturals, naturals_after, version_named, version_with, version_read, are_entries, array_made, array_from, array_with, array_read, claim_with, claim_read}
use Rattle.drg_derivation.specs.Reading.{◌>>=◌}
use Rattle.drg_derivation.specs.Shapes.{first_of}
use Rattle.drg_derivation.specs.Words.{Written, written, takes_name, array_numbers, IsClaim}
use Rattle.drg_derivation.specs.declared.word.Word.{Word}
use Rattle.drg_derivation.specs.declared.word.Word.TheVariants as word
use Rattle.drg_derivation.specs.declared.view.LineView.TheVariants.{Version, Array, Claim as ClaimView}
use Rattle.drg_derivation.proofs.OptionLaws.{chosen, same_some, bound}
use Rattle.drg_derivation.proofs.ShapeLaws.{le-Decides}

-- ---- numbers from 0 to a limit
naturals_after-more : (front : List ℕ) (n : ℕ) (o : Option (List ℕ)) → naturals_after (front ++ n ∷ []) o ≡ naturals_after front (o >>= λ ns. Some (n ∷ ns))
naturals_after-more front n None = refl
naturals_after-more front n (Some ns) = rw (append_assoc front (n ∷ []) ns) refl

-- the loop took one more number
pub naturals-step : (limit : ℕ) (front : List ℕ) (z : ℤ) (zs left : List ℤ) (n : ℕ) → left ≡ z ∷ zs → natural limit z ≡ Some n
    → naturals_after (front ++ n ∷ []) (naturals limit zs) ≡ naturals_after front (naturals limit left)
naturals-step limit front z zs left n is e = rw (is, e) (naturals_after-more front n (naturals limit zs))

pub naturals-none : (limit : ℕ) (front : List ℕ) (z : ℤ) (zs left : List ℤ) → left ≡ z ∷ zs → natural limit z ≡ None
    → naturals_after front (naturals limit left) ≡ None
naturals-none limit front z zs left is e = rw (is, e) refl

pub naturals-end : (limit : ℕ) (front : List ℕ) (left : List ℤ) → left ≡ [] → naturals_after front (naturals limit left) ≡ Some (front ++ [])
naturals-end limit front left is = rw is refl

-- numbers from 0 to the limit
abbrev AreBelow : ℕ → List ℕ → Type 0
AreBelow limit ns = AllByRecursion (λ n. n ≤ limit) ns

natural-is : (limit : ℕ) (z : ℤ) (n : ℕ) → natural limit z ≡ Some n → (pos n ≡ z) × (n ≤ limit)
natural-is limit (pos m) n e =
    elim (chosen (nat_le m limit) _ _ _ e) [
      | inl good ↦ (let same : m ≡ n = same_some m n good.1 in (ap pos (sym same), subst (λ (k : ℕ). k ≤ limit) same ((le-Decides m limit).0 good.0)))
      | inr bad ↦ (let none = bad.1 in cc)
    ]
natural-is limit (negsuc m) n e = (let none = e in cc)

naturals-are : (limit : ℕ) (zs : List ℤ) (ns : List ℕ) → naturals limit zs ≡ Some ns → (map pos ns ≡ zs) × AreBelow limit ns
naturals-are limit [] ns e = subst (λ (l : List ℕ). (map pos l ≡ []) × AreBelow limit l) (same_some [] ns e) (refl, tt)
naturals-are limit (z ∷ zs) ns e =
    let one = bound (natural limit z) _ _ e in
    let others = bound (naturals limit zs) _ _ one.2 in
    let n = natural-is limit z one.0 one.1 in
    let more = naturals-are limit zs others.0 others.1 in
    let all : (map pos (one.0 ∷ others.0) ≡ z ∷ zs) × AreBelow limit (one.0 ∷ others.0) = (rw (n.0, more.0) refl, (n.1, more.1)) in
    subst (λ (l : List ℕ). (map pos l ≡ z ∷ zs) × AreBelow limit l) (same_some (one.0 ∷ others.0) ns others.2) all

naturals-again : (limit : ℕ) (ns : List ℕ) → AreBelow limit ns → naturals limit (map pos ns) ≡ Some ns
naturals-again limit [] h = refl
naturals-again limit (n ∷ ns) h = rw ((le-Decides n limit).1 h.0) (rw (naturals-again limit ns h.1) refl)

-- ---- words and numbers
pub written-eq : (word : Word) (name other : Option ClaimName) (numbers more : List ℤ) → name ≡ other → numbers ≡ more
    → (let w : Written = record { word = word; name = name; numbers = numbers } in w) ≡ record { word = word; name = other; numbers = more }
written-eq word name other numbers more a b = cc

pub no-name : (name : Option ClaimName) → false ≡ is_some name → name ≡ None
no-name None e = refl
no-name (Some test) e = (let h = e in cc)

one-number : (numbers : List ℤ) → length numbers ≡ 1 → numbers ≡ first_of numbers ∷ []
one-number [] e = absurd (omega (arith, e))
one-number (z ∷ []) e = refl
one-number (z ∷ y ∷ zs) e = absurd (omega (arith, e))

-- ---- the version
version-named : (z : ℤ) (v : ℕ) → version_named z ≡ Some v → (v ≡ 1) × (z ≡ pos v)
version-named z v e =
    let n = bound (natural 255 z) _ _ e in
    elim (chosen (nat_le 1 n.0 && nat_le n.0 1) _ _ _ n.2) [
      | inl good ↦ (let range = (Decides-and _ _ (le-Decides 1 n.0) (le-Decides n.0 1)).0 good.0 in
          let same : n.0 ≡ v = same_some n.0 v good.1 in
          (omega arith, sym (natural-is 255 z n.0 n.1).0 ∙ ap pos same))
      | inr bad ↦ (let none = bad.1 in cc)
    ]

version-with : (word : Word) (name : Option ClaimName) (numbers : List ℤ) (v : ℕ) → takes_name word ≡ is_some name → version_with word numbers ≡ Some v
    → (v ≡ 1) × (written (Version v) ≡ record { word = word; name = name; numbers = numbers })
version-with word.Drg name numbers v named e =
    elim (chosen (length numbers == 1) _ _ _ e) [
      | inl good ↦ (let is = version-named (first_of numbers) v good.1 in
          let one = one-number numbers ((Decides-eqb (length numbers) 1).0 good.0) in
          (is.0, written-eq word.Drg None name (pos v ∷ []) numbers (sym (no-name name named)) (sym (one ∙ ap (λ (z : ℤ). z ∷ []) is.1))))
      | inr bad ↦ (let none = bad.1 in cc)
    ]
version-with _ name numbers v named e = (let none = e in cc)

pub version_read-takes : (w : Written) (v : ℕ) → takes_name w.word ≡ is_some w.name → version_read w ≡ Some v → (v ≡ 1) × (written (Version v) ≡ w)
unfolding version_read
version_read-takes w v named e = version-with w.word w.name w.numbers v named e

pub version_read-again : (v : ℕ) → v ≡ 1 → version_read (written (Version v)) ≡ Some v
unfolding version_read
version_read-again v e = rw e refl

-- ---- the array
entries-Decides : (ns : List ℕ) → Decides (are_entries ns) (AllByRecursion IsEntry ns)
entries-Decides [] = (λ e. tt, λ h. refl)
entries-Decides (n ∷ ns) = Decides-and _ _ (Decides-and _ _ (le-Decides 1 n) (le-Decides n MAX_ENTRY)) (entries-Decides ns)

-- whether the array can be made
abbrev can_be_made : List ℕ → List ℕ → Bool
can_be_made b c = ((length b == length c) && (nat_le 1 (length b) && nat_le (length b) MAX_DIAMETER)) && (are_entries b && are_entries c)

array-Decides : (b c : List ℕ) → Decides (can_be_made b c) (IsArray (record { b = b; c = c }))
array-Decides b c =
    Decides-like (can_be_made b c)
    (λ h. record { same_length = h.0.0; some = h.0.1.0; short = h.0.1.1; entries_b = h.1.0; entries_c = h.1.1 })
    (λ a. ((a.same_length, (a.some, a.short)), (a.entries_b, a.entries_c)))
    (Decides-and _ _
    (Decides-and _ _ (Decides-eqb (length b) (length c)) (Decides-and _ _ (le-Decides 1 (length b)) (le-Decides (length b) MAX_DIAMETER)))
    (Decides-and _ _ (entries-Decides b) (entries-Decides c)))

array_made-is : (b c : List ℕ) (a : Entries) → array_made b c ≡ Some a → IsArray a × (record { b = b; c = c } ≡ a)
array_made-is b c a e =
    elim (chosen (can_be_made b c) _ _ _ e) [
      | inl good ↦ (let same = same_some (record { b = b; c = c }) a good.1 in (subst IsArray same ((array-Decides b c).0 good.0), same))
      | inr bad ↦ (let none = bad.1 in cc)
    ]

array_made-again : (b c : List ℕ) → IsArray (record { b = b; c = c }) → array_made b c ≡ Some (record { b = b; c = c })
array_made-again b c a = rw ((array-Decides b c).1 a) refl

array_made-none : (b c : List ℕ) → ¬ IsArray (record { b = b; c = c }) → array_made b c ≡ None
array_made-none b c none = of (can_be_made b c) (array-Decides b c).0
  where
    of : (t : Bool) → (t ≡ true → IsArray (record { b = b; c = c })) → (let made : Option Entries = Some (record { b = b; c = c }) in if t then made else None) ≡ None
    of true is = absurd (none (is refl))
    of false is = refl

-- what makes an array exactly where it is one makes that of the definition
pub array_made-by : (o : Option Entries) (b c : List ℕ) → (IsArray (record { b = b; c = c }) → IsSome o) → (IsSome o → IsArray (record { b = b; c = c }))
    → IfSome o (λ a. a ≡ record { b = b; c = c }) → o ≡ array_made b c
array_made-by None b c some is same = sym (array_made-none b c (λ a. let s = some a in cc))
array_made-by (Some a) b c some is same = ap (λ (x : Entries). Some x) same ∙ sym (array_made-again b c (is refl))

taken-length : (n : ℕ) (ns : List ℕ) → n ≤ length ns → length (take n ns) ≡ n
taken-length zero ns h = refl
taken-length (suc n) [] h = absurd (omega arith)
taken-length (suc n) (m ∷ ns) h = ap suc (taken-length n ns (omega arith))

-- an array from its numbers, all in one list
array_from-is : (ns : List ℕ) (a : Entries) → array_from ns ≡ Some a → IsArray a × (ns ≡ diameter a ∷ (a.b ++ a.c))
unfolding array_from
array_from-is [] a e = (let none = e in cc)
array_from-is (d ∷ ns) a e =
    elim (chosen (length ns == 2 * d) _ _ _ e) [
      | inl good ↦ (let made = array_made-is (take d ns) (drop d ns) a good.1 in
          let count : length ns ≡ 2 * d = (Decides-eqb (length ns) (2 * d)).0 good.0 in
          let d_is : diameter a ≡ d = sym (ap (λ (x : Entries). length x.b) made.1) ∙ taken-length d ns (omega arith) in
          let all : a.b ++ a.c ≡ ns = sym (ap (λ (x : Entries). x.b ++ x.c) made.1) ∙ take-append-drop d ns in
          (made.0, rw (d_is, all) refl))
      | inr bad ↦ (let none = bad.1 in cc)
    ]

-- an array that was made of the two halves
pub array_from-made : (o : Option Entries) (numbers entries back : List ℕ) (n d : ℕ) → numbers ≡ n ∷ entries → d ≡ n → length entries ≡ 2 * d
    → back ≡ drop d entries → o ≡ array_made (take d entries) back → o ≡ array_from numbers
unfolding array_from
array_from-made o numbers entries back n d whole same count half made =
    rw whole (rw (← same) (rw ((Decides-eqb (length entries) (2 * d)).1 count) (rw half at made)))

array_from-again : (a : Entries) → IsArray a → array_from (diameter a ∷ (a.b ++ a.c)) ≡ Some a
unfolding array_from
array_from-again a array =
    let len : length (a.b ++ a.c) ≡ 2 * length a.b = (let same = array.same_length in omega (arith, length-append a.b a.c)) in
    rw ((Decides-eqb (length (a.b ++ a.c)) (2 * length a.b)).1 len, take-append_seam a.b a.c, drop-append_seam a.b a.c)
    (array_made-again a.b a.c array)

array-with : (word : Word) (name : Option ClaimName) (numbers : List ℤ) (a : Entries) → takes_name word ≡ is_some name → array_with word numbers ≡ Some a
    → IsArray a × (written (Array a) ≡ record { word = word; name = name; numbers = numbers })
array-with word.Array name numbers a named e =
    elim (chosen (nat_le (length numbers) (2 * MAX_DIAMETER + 1)) _ _ _ e) [
      | inl good ↦ (let ns = bound (naturals 65535 numbers) _ _ good.1 in
          let from = array_from-is ns.0 a ns.2 in
          let all : array_numbers a ≡ numbers = sym (ap (map pos) from.1) ∙ (naturals-are 65535 numbers ns.0 ns.1).0 in
          (from.0, written-eq word.Array None name (array_numbers a) numbers (sym (no-name name named)) all))
      | inr bad ↦ (let none = bad.1 in cc)
    ]
array-with _ name numbers a named e = (let none = e in cc)

pub array_read-takes : (w : Written) (a : Entries) → takes_name w.word ≡ is_some w.name → array_read w ≡ Some a → IsArray a × (written (Array a) ≡ w)
unfolding array_read
array_read-takes w a named e = array-with w.word w.name w.numbers a named e

below-all : (ns : List ℕ) → AllByRecursion IsEntry ns → AreBelow 65535 ns
below-all [] h = tt
below-all (n ∷ ns) h = (omega (arith, h.0), below-all ns h.1)

below-join : (limit : ℕ) (xs ys : List ℕ) → AreBelow limit xs → AreBelow limit ys → AreBelow limit (xs ++ ys)
below-join limit [] ys a b = b
below-join limit (x ∷ xs) ys a b = (a.0, below-join limit xs ys a.1 b)

length-map : (ns : List ℕ) → length (map pos ns) ≡ length ns
length-map [] = refl
length-map (n ∷ ns) = ap suc (length-map ns)

pub array_read-again : (a : Entries) → IsArray a → array_read (written (Array a)) ≡ Some a
unfolding array_read
array_read-again a array =
    let d : List ℕ = diameter a ∷ [] in
    let same = array.same_length in
    let short = array.short in
    let len : length (array_numbers a) ≤ 2 * MAX_DIAMETER + 1 = omega (arith, length-map (a.b ++ a.c), length-append a.b a.c) in
    let below : AreBelow 65535 (diameter a ∷ (a.b ++ a.c)) = (omega arith, below-join 65535 a.b a.c (below-all a.b array.entries_b) (below-all a.c array.entries_c)) in
    rw ((le-Decides (length (array_numbers a)) (2 * MAX_DIAMETER + 1)).1 len, naturals-again 65535 (diameter a ∷ (a.b ++ a.c)) below) (array_from-again a array)

-- ---- the claim
claim-with : (word : Word) (name : Option ClaimName) (numbers : List ℤ) (c : Claim) → claim_with word name numbers ≡ Some c
    → IsClaim c × (written (ClaimView c) ≡ record { word = word; name = name; numbers = numbers })
claim-with word.Claim name numbers c e =
    let t = bound name _ _ e in
    elim (chosen (nat_le (length numbers) MAX_INDICES) _ _ _ t.2) [
      | inl good ↦ (let ns = bound (naturals 255 numbers) _ _ good.1 in
          let are = naturals-are 255 numbers ns.0 ns.1 in
          let is = claim_of_parts.parts t.0 ns.0 c ns.2 in
          let all : map pos (indices_of c) ≡ numbers = ap (map pos) is.1 ∙ are.0 in
          let known : Some (name_of c) ≡ name = ap (λ (x : ClaimName). Some x) is.0 ∙ sym t.1 in
          (subst (AreBelow 255) (sym is.1) are.1, written-eq word.Claim (Some (name_of c)) name (map pos (indices_of c)) numbers known all))
      | inr bad ↦ (let none = bad.1 in cc)
    ]
claim-with _ name numbers c e = (let none = e in cc)

pub claim_read-takes : (w : Written) (c : Claim) → claim_read w ≡ Some c → IsClaim c × (written (ClaimView c) ≡ w)
unfolding claim_read
claim_read-takes w c e = claim-with w.word w.name w.numbers c e

few-indices : (c : Claim) → length (indices_of c) ≤ MAX_INDICES
few-indices c = let few = claim_of_parts.few (name_of c) in let count = claim_by_name.count c in omega (arith, few, count)

pub claim_read-again : (c : Claim) → IsClaim c → claim_read (written (ClaimView c)) ≡ Some c
unfolding claim_read
claim_read-again c h =
    let len : length (map pos (indices_of c)) ≤ MAX_INDICES = omega (arith, length-map (indices_of c), few-indices c) in
    rw ((le-Decides (length (map pos (indices_of c))) MAX_INDICES).1 len, naturals-again 255 (indices_of c) h) (claim_of_parts.again c)
