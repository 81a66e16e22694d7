-- The texts of a report have bytes from 32 to 126 alone: they are ASCII, and have no line feed.
use Rattle.std.proofs.Common.{◌≡◌, ℕ, zero, suc, ◌+◌, ◌/◌, ◌%◌, ◌<◌, Bool, true, false, if◌then◌else◌, List, [], ◌∷◌, ◌++◌, ℤ, pos, negsuc, refl, sym, subst, arith, Option, Some, None, codes, decimal}
use Rattle.std.specs.Prelude.{◌&&◌, ◌==◌, nat_lt, int_lt, IsAscii}
use Rattle.std.specs.Fmt.{digits, digits_onto, digit_glyph, signed_decimal}
use Rattle.std.specs.Ordering.{int_eq}
use Rattle.std.proofs.lemmas.Bool.Decides.{nat_tests}
use Rattle.std.proofs.Math.Nat.{mod-lt}
use Rattle.std.proofs.lemmas.Str.Ascii.{IsAscii-cons, IsAscii-nil}
use Rattle.drg_algebra.proofs.Tests.{and-in, both}
use Rattle.drg_algebra.specs.Rational.{ℚ}
use Rattle.drg_algebra.specs.Reduced.{numerator, denominator}
use Rattle.drg_array.specs.Claims.{claim_text, indices_of, spaced, test_name, test_of}
use Rattle.drg_array.specs.Nodes.{node_indices, node_text, node_word}
use Rattle.drg_array.specs.declared.claim.Claim.{Claim}
use Rattle.drg_array.specs.declared.claim_name.ClaimName.{ClaimName}
use Rattle.drg_array.specs.declared.claim_name.ClaimName.TheVariants.{OfTest}
use Rattle.drg_array.specs.declared.node.Node.{Node}
use Rattle.drg_array.specs.declared.node.Node.TheVariants as node
use Rattle.drg_array.specs.declared.test.Test.{Test}
use Rattle.drg_array.specs.declared.test.Test.TheVariants as test
use Rattle.drg_derivation.specs.Integers.{integers_text}
use Rattle.drg_derivation.specs.Shapes.{form_of}
use Rattle.drg_derivation.specs.Words.{Written, second_text, word_text, words_text, written_text}
use Rattle.drg_derivation.specs.declared.kind.Kind.{Kind}
use Rattle.drg_derivation.specs.declared.kind.Kind.TheVariants as kind
use Rattle.drg_derivation.specs.declared.word.Word.{Word}
use Rattle.drg_derivation.specs.declared.word.Word.TheVariants as word
use Rattle.drg_fraction.specs.Text.{rational_text}
use Rattle.drg_quadratic.specs.Text as value
use Rattle.drg_quadratic.specs.Values.{Value}
use Rattle.drg_report.specs.Words.{cause_text, pending_text}
use Rattle.drg_report.specs.declared.verdict.Cause.{Cause}
use Rattle.drg_report.specs.declared.verdict.Cause.TheVariants.{Wide, Spectrum}
use Rattle.drg_report.specs.declared.verdict.Pending.{Pending}
use Rattle.drg_json.specs.Lines.{HasNoEnd}

abbrev pub is_plain_byte : ℕ → Bool
is_plain_byte c = nat_lt 31 c && nat_lt c 127

abbrev pub is_plain : List ℕ → Bool
is_plain [] = true
is_plain (c ∷ cs) = is_plain_byte c && is_plain cs

-- ---- what it says
less-test : (a b : ℕ) → nat_lt a b ≡ true → a < b
less-test a b e = grind (arith, nat_tests, e)

test-less : (a b : ℕ) → a < b → nat_lt a b ≡ true
test-less a b h = grind (arith, nat_tests, h)

bounds : (c : ℕ) → is_plain_byte c ≡ true → (31 < c) × (c < 127)
bounds c e = (let h = both (nat_lt 31 c) (nat_lt c 127) e in (less-test 31 c h.0, less-test c 127 h.1))

pub plain-ascii : (text : List ℕ) → is_plain text ≡ true → IsAscii text
plain-ascii [] p = IsAscii-nil
plain-ascii (c ∷ cs) p =
    let h = both (is_plain_byte c) (is_plain cs) p in
    let b = bounds c h.0 in
    IsAscii-cons c cs (omega (arith, b.1)) (plain-ascii cs h.1)

pub plain-open : (text : List ℕ) → is_plain text ≡ true → HasNoEnd text
plain-open [] p = tt
plain-open (c ∷ cs) p =
    let h = both (is_plain_byte c) (is_plain cs) p in
    let b = bounds c h.0 in
    (omega (arith, b.0), plain-open cs h.1)

-- a text that is written to nothing
pub ascii-of : (text : List ℕ) {new : List ℕ} → is_plain text ≡ true → new ≡ text → IsAscii new
ascii-of text p e = subst IsAscii (sym e) (plain-ascii text p)

-- ---- texts of texts
cons : (c : ℕ) (cs : List ℕ) → is_plain_byte c ≡ true → is_plain cs ≡ true → is_plain (c ∷ cs) ≡ true
cons c cs p q = and-in (is_plain_byte c) (is_plain cs) p q

append : (xs ys : List ℕ) → is_plain xs ≡ true → is_plain ys ≡ true → is_plain (xs ++ ys) ≡ true
append [] ys p q = q
append (x ∷ xs) ys p q =
    let h = both (is_plain_byte x) (is_plain xs) p in
    cons x (xs ++ ys) h.0 (append xs ys h.1 q)

either : (b : Bool) (xs ys : List ℕ) → is_plain xs ≡ true → is_plain ys ≡ true → is_plain (if b then xs else ys) ≡ true
either true xs ys p q = p
either false xs ys p q = q

-- ---- numbers
glyph : (d : ℕ) → d < 10 → is_plain_byte (digit_glyph false d) ≡ true
glyph d h = by (nat_lt d 10)
  where
    by : (b : Bool) → is_plain_byte (if b then 48 + d else 87 + d) ≡ true
    by true = and-in (nat_lt 31 (48 + d)) (nat_lt (48 + d) 127) (test-less 31 (48 + d) (omega arith)) (test-less (48 + d) 127 (omega (arith, h)))
    by false = and-in (nat_lt 31 (87 + d)) (nat_lt (87 + d) 127) (test-less 31 (87 + d) (omega arith)) (test-less (87 + d) 127 (omega (arith, h)))

onto : (k n : ℕ) (acc : List ℕ) → is_plain acc ≡ true → is_plain (digits_onto k 10 false n acc) ≡ true
onto zero n acc p = p
onto (suc k) n acc p =
    let more = cons (digit_glyph false (n % 10)) acc (glyph (n % 10) (let some : 0 < 10 = omega arith in omega (arith, mod-lt n some))) p in
    either (n / 10 == 0) (digit_glyph false (n % 10) ∷ acc) (digits_onto k 10 false (n / 10) (digit_glyph false (n % 10) ∷ acc)) more
    (onto k (n / 10) (digit_glyph false (n % 10) ∷ acc) more)

plain-decimal : (n : ℕ) → is_plain (decimal n) ≡ true
unfolding digits
plain-decimal n = onto 64 n [] refl

plain-signed : (z : ℤ) → is_plain (signed_decimal z) ≡ true
plain-signed (pos n) = plain-decimal n
plain-signed (negsuc n) = cons 45 (decimal (suc n)) refl (plain-decimal (suc n))

plain-spaced : (ns : List ℕ) → is_plain (spaced ns) ≡ true
plain-spaced [] = refl
plain-spaced (n ∷ ns) = append (32 ∷ decimal n) (spaced ns) (cons 32 (decimal n) refl (plain-decimal n)) (plain-spaced ns)

plain-integers : (zs : List ℤ) → is_plain (integers_text zs) ≡ true
plain-integers [] = refl
plain-integers (z ∷ zs) =
    cons 32 (signed_decimal z ++ integers_text zs) refl (append (signed_decimal z) (integers_text zs) (plain-signed z) (plain-integers zs))

-- ---- names, claims, and the lines of a derivation
plain-name : (t : Test) → is_plain (test_name t) ≡ true
plain-name test.First = refl
plain-name test.Degree = refl
plain-name test.Order = refl
plain-name test.Cross = refl
plain-name test.Size = refl
plain-name test.Intersect = refl
plain-name test.Handshake = refl
plain-name test.Induced = refl
plain-name test.Triangles = refl
plain-name test.Mult = refl
plain-name test.Krein = refl
plain-name test.Absolute = refl
plain-name test.Triple = refl
plain-name test.Ktriple = refl

pub plain-claim : (claim : Claim) → is_plain (claim_text claim) ≡ true
plain-claim claim = append (test_name (test_of claim)) (spaced (indices_of claim)) (plain-name (test_of claim)) (plain-spaced (indices_of claim))

plain-kind : (k : Kind) → is_plain (form_of k).word ≡ true
plain-kind kind.K = refl
plain-kind kind.P = refl
plain-kind kind.Frame = refl
plain-kind kind.Theta = refl
plain-kind kind.Prow = refl
plain-kind kind.Qrow = refl
plain-kind kind.Krein = refl
plain-kind kind.Eq = refl
plain-kind kind.Keq = refl
plain-kind kind.Comb = refl
plain-kind kind.Low = refl
plain-kind kind.High = refl
plain-kind kind.Split = refl
plain-kind kind.Miss = refl
plain-kind kind.Mod = refl
plain-kind kind.Void = refl

plain-word : (w : Word) → is_plain (word_text w) ≡ true
plain-word word.Drg = refl
plain-word word.Array = refl
plain-word word.Claim = refl
plain-word (word.Evidence k) = plain-kind k
plain-word word.End = refl

plain-second : (name : Option ClaimName) → is_plain (second_text name) ≡ true
plain-second None = refl
plain-second (Some (OfTest t)) = cons 32 (test_name t) refl (plain-name t)

pub plain-written : (line : Written) → is_plain (written_text line) ≡ true
plain-written line =
    append (words_text line) (integers_text line.numbers)
    (append (word_text line.word) (second_text line.name) (plain-word line.word) (plain-second line.name)) (plain-integers line.numbers)

-- ---- tests that aren't decided
plain-node-word : (n : Node) → is_plain (node_word n) ≡ true
plain-node-word (node.K i) = refl
plain-node-word node.N = refl
plain-node-word (node.P h i j) = refl
plain-node-word (node.Poly j) = refl
plain-node-word (node.Linear r) = refl
plain-node-word (node.Quadratic s t) = refl
plain-node-word (node.U i r) = refl
plain-node-word (node.M i) = refl
plain-node-word (node.Prow i r) = refl
plain-node-word (node.Qrow r i) = refl
plain-node-word (node.Rec i j) = refl
plain-node-word (node.Pq i j) = refl
plain-node-word (node.Krein i j h) = refl
plain-node-word (node.Kprod i j r) = refl
plain-node-word (node.Sign i j h) = refl
plain-node-word (node.Absolute i j) = refl
plain-node-word (node.Eq u v w a x y) = refl
plain-node-word (node.Keq u v w i j h) = refl

plain-node-indices : (n : Node) → is_plain (node_indices n) ≡ true
plain-node-indices (node.K i) = plain-spaced (i ∷ [])
plain-node-indices node.N = refl
plain-node-indices (node.P h i j) = plain-spaced (h ∷ i ∷ j ∷ [])
plain-node-indices (node.Poly j) = plain-spaced (j ∷ [])
plain-node-indices (node.Linear r) = cons 32 (signed_decimal r) refl (plain-signed r)
plain-node-indices (node.Quadratic s t) =
    append (32 ∷ signed_decimal s) (32 ∷ signed_decimal t) (cons 32 (signed_decimal s) refl (plain-signed s)) (cons 32 (signed_decimal t) refl (plain-signed t))
plain-node-indices (node.U i r) = plain-spaced (i ∷ r ∷ [])
plain-node-indices (node.M i) = plain-spaced (i ∷ [])
plain-node-indices (node.Prow i r) = plain-spaced (i ∷ r ∷ [])
plain-node-indices (node.Qrow r i) = plain-spaced (r ∷ i ∷ [])
plain-node-indices (node.Rec i j) = plain-spaced (i ∷ j ∷ [])
plain-node-indices (node.Pq i j) = plain-spaced (i ∷ j ∷ [])
plain-node-indices (node.Krein i j h) = plain-spaced (i ∷ j ∷ h ∷ [])
plain-node-indices (node.Kprod i j r) = plain-spaced (i ∷ j ∷ r ∷ [])
plain-node-indices (node.Sign i j h) = plain-spaced (i ∷ j ∷ h ∷ [])
plain-node-indices (node.Absolute i j) = plain-spaced (i ∷ j ∷ [])
plain-node-indices (node.Eq u v w a x y) = plain-spaced (u ∷ v ∷ w ∷ a ∷ x ∷ y ∷ [])
plain-node-indices (node.Keq u v w i j h) = plain-spaced (u ∷ v ∷ w ∷ i ∷ j ∷ h ∷ [])

plain-cause : (cause : Cause) → is_plain (cause_text cause) ≡ true
plain-cause (Wide n) =
    append (codes "wide ") (node_text n) refl (append (node_word n) (node_indices n) (plain-node-word n) (plain-node-indices n))
plain-cause Spectrum = refl

pub plain-pending : (entry : Pending) → is_plain (pending_text entry) ≡ true
plain-pending entry =
    append (test_name entry.test ++ codes " ") (cause_text entry.cause)
    (append (test_name entry.test) (codes " ") (plain-name entry.test) refl) (plain-cause entry.cause)

-- ---- values of a field
plain-rational : (q : ℚ) → is_plain (rational_text q) ≡ true
plain-rational q =
    let over = signed_decimal (numerator q) in
    let under = signed_decimal (denominator q) in
    either (int_eq (denominator q) (pos 1)) over (over ++ 47 ∷ under) (plain-signed (numerator q))
    (append over (47 ∷ under) (plain-signed (numerator q)) (cons 47 under refl (plain-signed (denominator q))))

plain-first : (a : ℚ) → is_plain (value.first_text a) ≡ true
plain-first a = either (int_eq (numerator a) (pos 0)) [] (rational_text a) refl (plain-rational a)

plain-sign : (z : Value) → is_plain (value.sign_text z) ≡ true
plain-sign z =
    either (int_lt (numerator z.b) (pos 0)) (45 ∷ []) (if int_eq (numerator z.a) (pos 0) then [] else 43 ∷ []) refl
    (either (int_eq (numerator z.a) (pos 0)) [] (43 ∷ []) refl refl)

pub plain-value : (root : ℕ) (z : Value) → is_plain (value.value_text root z) ≡ true
plain-value root z =
    let size = rational_text (value.magnitude_of z.b) in
    let second = append (value.sign_text z ++ size) (value.root_text root)
    (append (value.sign_text z) size (plain-sign z) (plain-rational (value.magnitude_of z.b))) (cons 114 (decimal root) refl (plain-decimal root)) in
    either (int_eq (numerator z.b) (pos 0)) (rational_text z.a) (value.first_text z.a ++ value.second_text root z) (plain-rational z.a)
    (append (value.first_text z.a) (value.second_text root z) (plain-first z.a) second)
