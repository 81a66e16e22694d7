use Rattle.std.proofs.Common.{sym, subst, rules}
use Rattle.drg_whole.specs.Residues.{IsResidue}
use Rattle.drg_whole.proofs.Residues.{residue_is}
use Rattle.drg_whole.proofs.residue.Residue.of.Goals as goal

pub returns-clause-value : goal.returns-clause-value
returns-clause-value c = search rules

pub returns-clause-residue : goal.returns-clause-residue
returns-clause-residue c =
    subst (IsResidue c.args.modulus c.args.number) (sym (returns-clause-value c)) (residue_is c.args.modulus c.args.number c.requires)
