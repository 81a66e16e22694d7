use Rattle.drg_replay.proofs.orthogonality.+check_cells.Given as goal

abbrev pub decreases-check_cells : goal.decreases-check_cells
decreases-check_cells l = l.left
