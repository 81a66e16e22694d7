use Rattle.drg_replay.proofs.orthogonality.+dot_rest.Given as goal

abbrev pub decreases-dot_rest : goal.decreases-dot_rest
decreases-dot_rest l = l.left
