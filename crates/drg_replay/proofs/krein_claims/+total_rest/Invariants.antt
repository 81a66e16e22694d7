use Rattle.drg_replay.proofs.krein_claims.+total_rest.Given as goal

abbrev pub decreases-total_rest : goal.decreases-total_rest
decreases-total_rest l = l.left
