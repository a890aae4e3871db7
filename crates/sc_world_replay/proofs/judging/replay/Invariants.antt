use Rattle.std.proofs.Common.{◌≤◌, drop}
use Rattle.std.specs.List.{flat_map}
use Rattle.sc_actor.specs.Walk.{tasks_of}
use Rattle.sc_texts.specs.chance.KeyStream.{two_words}
use Rattle.sc_world_replay.specs.Checks.{IsTaking}
use Rattle.sc_world_replay.specs.Moves.{IsStageAt, rules_of, with_births}
use Rattle.sc_world_replay.proofs.judging.replay.Given as goal

abbrev pub invariant-loop-line : goal.invariant-loop-line
invariant-loop-line g l =
    IsStageAt (with_births (rules_of g.A.Actor.table g.A.Mail.Parcel.receiver) two_words l.fn.seats.items) l.lines l.stage (flat_map (tasks_of two_words) (drop l.line-index l.lines))
    × IsTaking g.A.Mail.Parcel.receiver l.stage l.rows
    × (l.stage.skipped ≤ l.line-index)
