use Rattle.sc_run.proofs.played.play_pool.Goals as goal

pub returns-clause-kept : goal.returns-clause-kept
returns-clause-kept g c = c.play_by.ensures.kept

pub returns-clause-played : goal.returns-clause-played
returns-clause-played g c = c.play_by.ensures.played
