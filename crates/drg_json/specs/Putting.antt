-- Members that are put into an object, for private clauses.
use Rattle.std.specs.Prelude.{ℕ, List, Option, Some, None, codes}
use Rattle.serde_json.specs.Data.{Data, Members, put}
use Rattle.drg_eigen.specs.declared.split.OtherSpectrum.{OtherSpectrum}
use Rattle.drg_eigen.specs.declared.split.OtherSpectrum.TheVariants.{Rest, TwoFields}
use Rattle.drg_json.specs.Certificates.{poly_data, polys_data}
use Rattle.drg_json.specs.Tables.{TableData}

-- the member of this key, where it has a value
abbrev pub put_if : List ℕ → Option Data → Members → Members
put_if key None members = members
put_if key (Some value) members = put key value members

-- the members of a certificate
abbrev pub put_certificate : OtherSpectrum → Members → Members
put_certificate (Rest factors rest) members =
    put (codes "rest") (poly_data rest) (put (codes "factors") (polys_data factors) members)
put_certificate (TwoFields factors first second) members =
    put (codes "second") (poly_data second)
    (put (codes "first") (poly_data first) (put (codes "factors") (polys_data factors) members))

-- the same, where there is one
abbrev pub put_other : Option OtherSpectrum → Members → Members
put_other None members = members
put_other (Some other) members = put_certificate other members

-- the members of tables
abbrev pub put_tables : TableData → Members → Members
put_tables t members =
    put_if (codes "krein") t.krein
    (put (codes "dual") t.dual
    (put (codes "eigen") t.eigen (put (codes "theta") t.theta (put (codes "root") t.root members))))

-- the same, where there are any
abbrev pub put_spectra : Option TableData → Members → Members
put_spectra None members = members
put_spectra (Some t) members = put_tables t members
