use Rattle.drg_replay.proofs.krein_claims.+total.Given as goal

abbrev pub decreases-total : goal.decreases-total
decreases-total l = l.left
