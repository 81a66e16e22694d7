use Rattle.drg_replay.proofs.SpectralLaws.{spectral_holds}
use Rattle.drg_replay.proofs.laws.spectral_law.Goals as goal

pub returns : goal.returns
returns c = spectral_holds
