use Rattle.drg_replay.proofs.eigenmatrix.+check_recurrences.Given as goal

abbrev pub decreases-check_recurrences : goal.decreases-check_recurrences
decreases-check_recurrences l = l.left
