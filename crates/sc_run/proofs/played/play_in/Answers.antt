use Rattle.sc_run.proofs.played.play_in.Goals as goal

pub returns-in-Runs-clause-kept : goal.returns-in-Runs-clause-kept
returns-in-Runs-clause-kept g c = c.play.ensures.kept

pub returns-in-Runs-clause-played : goal.returns-in-Runs-clause-played
returns-in-Runs-clause-played g c = c.play.ensures.played

pub returns-in-Queue-clause-kept : goal.returns-in-Queue-clause-kept
returns-in-Queue-clause-kept g c = c.play_pool.ensures.kept

pub returns-in-Queue-clause-played : goal.returns-in-Queue-clause-played
returns-in-Queue-clause-played g c = c.play_pool.ensures.played
