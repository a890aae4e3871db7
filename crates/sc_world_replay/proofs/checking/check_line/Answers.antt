use Rattle.sc_actor.proofs.TaskLemmas.{one_of}
use Rattle.sc_world_replay.proofs.Checks.{no_row_next}
use Rattle.sc_texts.specs.chance.KeyStream.{two_words}
use Rattle.sc_world_replay.proofs.checking.check_line.Goals as goal

pub returns-in-Settle-clause-checked : goal.returns-in-Settle-clause-checked
returns-in-Settle-clause-checked g c = rw c.in-Settle.is c.check_many.ensures.checked

pub returns-in-Free-clause-checked : goal.returns-in-Free-clause-checked
returns-in-Free-clause-checked g c = rw c.in-Free.is c.check_many-in-Free.ensures.checked

pub returns-in-Storm-clause-checked : goal.returns-in-Storm-clause-checked
returns-in-Storm-clause-checked g c = rw c.in-Storm.is c.check_storm.ensures.checked

pub returns-in_default : goal.returns-in_default
returns-in_default g c =
    let one = one_of two_words c.args.line.now c.in_default.not-Settle c.in_default.not-Free c.in_default.not-Storm in
    record { checked = rw one c.check_once.ensures.checked; skipped = c.check_once.ensures.skipped; ended = c.check_once.ensures.ended }

pub returns-in-Settle-clause-ended : goal.returns-in-Settle-clause-ended
returns-in-Settle-clause-ended g c = λ never ended. c.check_many.ensures.none (λ row is. absurd (no_row_next c.args.stage.now.rows c.args.rows.now row ended is))

pub returns-in-Free-clause-ended : goal.returns-in-Free-clause-ended
returns-in-Free-clause-ended g c = λ never ended. c.check_many-in-Free.ensures.none (λ row is. absurd (no_row_next c.args.stage.now.rows c.args.rows.now row ended is))
