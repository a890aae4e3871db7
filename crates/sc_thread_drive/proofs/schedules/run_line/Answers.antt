use Rattle.sc_actor.proofs.TaskLemmas.{one_of}
use Rattle.sc_texts.specs.chance.KeyStream.{two_words}
use Rattle.sc_thread_drive.proofs.SingleSteps.{calm_else}
use Rattle.sc_thread_drive.proofs.schedules.run_line.Goals as goal

pub returns-in-Go-clause-goes : goal.returns-in-Go-clause-goes
returns-in-Go-clause-goes g c = rw c.in-Go.is c.run_go.ensures.goes

pub returns-in-Go-clause-fills : goal.returns-in-Go-clause-fills
returns-in-Go-clause-fills g c = rw c.in-Go.is c.run_go.ensures.fills

pub returns-in-Settle-clause-goes : goal.returns-in-Settle-clause-goes
returns-in-Settle-clause-goes g c = rw c.in-Settle.is c.run_settle.ensures.goes

pub returns-in-Settle-clause-fills : goal.returns-in-Settle-clause-fills
returns-in-Settle-clause-fills g c = rw c.in-Settle.is c.run_settle.ensures.fills

pub returns-in-Free-clause-goes : goal.returns-in-Free-clause-goes
returns-in-Free-clause-goes g c = rw c.in-Free.is c.run_free.ensures.goes

pub returns-in-Free-clause-fills : goal.returns-in-Free-clause-fills
returns-in-Free-clause-fills g c = rw c.in-Free.is c.run_free.ensures.fills

pub returns-in-Storm-clause-goes : goal.returns-in-Storm-clause-goes
returns-in-Storm-clause-goes g c = rw c.in-Storm.is c.run_storm.ensures.goes

pub returns-in-Storm-clause-fills : goal.returns-in-Storm-clause-fills
returns-in-Storm-clause-fills g c = rw c.in-Storm.is c.run_storm.ensures.fills

pub run_once-requires-clause-calm : goal.run_once-requires-clause-calm
run_once-requires-clause-calm g c κs within = calm_else c.args.line.now c.in_default.not-Go c.in_default.not-Settle c.in_default.not-Free c.in_default.not-Storm

pub returns-in_default-clause-goes : goal.returns-in_default-clause-goes
returns-in_default-clause-goes g c = rw (one_of two_words c.args.line.now c.in_default.not-Settle c.in_default.not-Free c.in_default.not-Storm) c.run_once.ensures.goes

pub returns-in_default-clause-fills : goal.returns-in_default-clause-fills
returns-in_default-clause-fills g c = rw (one_of two_words c.args.line.now c.in_default.not-Settle c.in_default.not-Free c.in_default.not-Storm) c.run_once.ensures.fills

pub run_go-requires-clause-runs : goal.run_go-requires-clause-runs
run_go-requires-clause-runs g c κs within = c.requires.runs c.in-Go.who c.in-Go.is
