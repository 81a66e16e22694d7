-- The members of a report, put in one after the other, stand in the order of their keys.
use Rattle.std.proofs.Common.{◌≡◌, refl, Option, Some, None}
use Rattle.std.specs.Prelude.{codes, option_map, option_and_then}
use Rattle.serde_json.specs.Data.{Data, Members, member, no_members, put}
use Rattle.drg_eigen.specs.declared.split.OtherSpectrum.{OtherSpectrum}
use Rattle.drg_eigen.specs.declared.split.OtherSpectrum.TheVariants.{Rest, TwoFields}
use Rattle.drg_json.specs.Certificates.{factors_data, first_data, rest_data, second_data}
use Rattle.drg_json.specs.Pieces.{member_if}
use Rattle.drg_json.specs.Putting.{put_if, put_other, put_spectra}
use Rattle.drg_json.specs.Tables.{TableData}

pub infeasible_members : (entries claim class derivation pending verdict : Data) (other : Option OtherSpectrum)
    → put (codes "verdict") verdict (put (codes "pending") pending (put_other other
    (put (codes "derivation") derivation (put (codes "class") class (put (codes "claim") claim (put (codes "array") entries no_members))))))
    ≡ member (codes "array") entries (member (codes "claim") claim (member (codes "class") class (member (codes "derivation") derivation
    (member_if (codes "factors") (factors_data other) (member_if (codes "first") (first_data other) (member (codes "pending") pending
    (member_if (codes "rest") (rest_data other) (member_if (codes "second") (second_data other) (member (codes "verdict") verdict no_members)))))))))
infeasible_members entries claim class derivation pending verdict None = refl
infeasible_members entries claim class derivation pending verdict (Some (Rest factors rest)) = refl
infeasible_members entries claim class derivation pending verdict (Some (TwoFields factors first second)) = refl

pub open_members : (entries passed pending verdict : Data) (other : Option OtherSpectrum)
    → put (codes "verdict") verdict (put_other other (put (codes "pending") pending (put (codes "passed") passed (put (codes "array") entries no_members))))
    ≡ member (codes "array") entries (member_if (codes "factors") (factors_data other) (member_if (codes "first") (first_data other)
    (member (codes "passed") passed (member (codes "pending") pending
    (member_if (codes "rest") (rest_data other) (member_if (codes "second") (second_data other) (member (codes "verdict") verdict no_members)))))))
open_members entries passed pending verdict None = refl
open_members entries passed pending verdict (Some (Rest factors rest)) = refl
open_members entries passed pending verdict (Some (TwoFields factors first second)) = refl

module _ (entries passed n sizes ppoly verdict : Data) (q : Option Data) where
  abbrev put_in : Option TableData → Members
  put_in tables =
      put (codes "verdict") verdict (put_if (codes "qpoly") q (put (codes "ppoly") ppoly (put_spectra tables
      (put (codes "sizes") sizes (put (codes "n") n (put (codes "passed") passed (put (codes "array") entries no_members)))))))

  abbrev in_order : Option TableData → Members
  in_order tables =
      member (codes "array") entries (member_if (codes "dual") (option_map (λ (t : TableData). t.dual) tables)
      (member_if (codes "eigen") (option_map (λ (t : TableData). t.eigen) tables) (member_if (codes "krein") (option_and_then (λ (t : TableData). t.krein) tables)
      (member (codes "n") n (member (codes "passed") passed (member (codes "ppoly") ppoly (member_if (codes "qpoly") q
      (member_if (codes "root") (option_map (λ (t : TableData). t.root) tables) (member (codes "sizes") sizes
      (member_if (codes "theta") (option_map (λ (t : TableData). t.theta) tables) (member (codes "verdict") verdict no_members)))))))))))

survivor_none : (entries passed n sizes ppoly verdict : Data) (q : Option Data)
    → put_in entries passed n sizes ppoly verdict q None ≡ in_order entries passed n sizes ppoly verdict q None
survivor_none entries passed n sizes ppoly verdict None = refl
survivor_none entries passed n sizes ppoly verdict (Some q) = refl

survivor_some : (entries passed n sizes ppoly verdict root theta eigen dual : Data) (krein q : Option Data)
    → put_in entries passed n sizes ppoly verdict q (Some (record { root = root; theta = theta; eigen = eigen; dual = dual; krein = krein }))
    ≡ in_order entries passed n sizes ppoly verdict q (Some (record { root = root; theta = theta; eigen = eigen; dual = dual; krein = krein }))
survivor_some entries passed n sizes ppoly verdict root theta eigen dual None None = refl
survivor_some entries passed n sizes ppoly verdict root theta eigen dual None (Some q) = refl
survivor_some entries passed n sizes ppoly verdict root theta eigen dual (Some krein) None = refl
survivor_some entries passed n sizes ppoly verdict root theta eigen dual (Some krein) (Some q) = refl

pub survivor_members : (entries passed n sizes ppoly verdict : Data) (q : Option Data) (tables : Option TableData)
    → put_in entries passed n sizes ppoly verdict q tables ≡ in_order entries passed n sizes ppoly verdict q tables
survivor_members entries passed n sizes ppoly verdict q None = survivor_none entries passed n sizes ppoly verdict q
survivor_members entries passed n sizes ppoly verdict q (Some t) = survivor_some entries passed n sizes ppoly verdict t.root t.theta t.eigen t.dual t.krein q
