-- A plain word is neither `--`, nor an option, nor a bundle of short options.
use Rattle.std.proofs.Common.{◌≡◌, false, refl, [], ◌∷◌, inl, inr, None, ap}
use Rattle.std.specs.Str.{bytes_eq}
use Rattle.std.proofs.lemmas.Bool.{ne_eqb}
use Rattle.clap.specs.Lexer.{long_of, short_of}
use Rattle.clap.specs.Words.{Text}
use Rattle.drg_words.specs.Grammar.{IsPlain}

pub no_dash : (w : Text) → IsPlain w → bytes_eq w (45 ∷ 45 ∷ []) ≡ false
no_dash [] p = refl
no_dash (x ∷ xs) (inl n) = rw (ne_eqb x 45 n) refl
no_dash (x ∷ xs) (inr e) = ap (λ w. bytes_eq w (45 ∷ 45 ∷ [])) e

pub no_long : (w : Text) → IsPlain w → long_of w ≡ None
no_long [] p = refl
no_long (x ∷ xs) (inl n) = rw (ne_eqb x 45 n) refl
no_long (x ∷ xs) (inr e) = ap long_of e

pub no_short : (w : Text) → IsPlain w → short_of w ≡ None
no_short [] p = refl
no_short (x ∷ xs) (inl n) = rw (ne_eqb x 45 n) refl
no_short (x ∷ xs) (inr e) = ap short_of e
