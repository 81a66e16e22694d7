use Rattle.drg_replay.proofs.krein_lines.+rows_dot_rest.Given as goal

abbrev pub decreases-rows_dot_rest : goal.decreases-rows_dot_rest
decreases-rows_dot_rest l = l.left
