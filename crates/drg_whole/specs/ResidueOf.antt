-- Which numbers have a residue.
use Rattle.std.specs.Prelude.{◌≡◌, ℤ}
use Rattle.drg_whole.specs.Residues.{residue}
use Rattle.drg_whole.specs.declared.residue.Residue.{Residue}

abbrev pub IsResidueOf : Residue → ℤ → Type 0
IsResidueOf r z = r.value ≡ residue r.modulus z
