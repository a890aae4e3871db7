use Rattle.std.proofs.Common.{◌≡◌, ◌-◌, length}
use Rattle.sc_actor.specs.Walk.{storm_steps}
use Rattle.sc_texts.specs.chance.KeyStream.{two_words}
use Rattle.sc_world_replay.specs.Moves.{StageGoes, rules_of}
use Rattle.sc_world_replay.specs.Checks.{IsTaking}
use Rattle.sc_world_replay.proofs.checking.check_storm.Given as goal

abbrev pub invariant-loop-done : goal.invariant-loop-done
invariant-loop-done g l = record {
  goes : StageGoes (rules_of g.A.Actor.table g.A.Mail.Parcel.receiver) l.initial.stage (storm_steps (two_words l.number) 0 l.most) l.stage (storm_steps (two_words l.number) l.done (l.most - l.done));
  taking : IsTaking g.A.Mail.Parcel.receiver l.stage l.rows;
  skipped : l.stage.skipped ≡ l.initial.stage.skipped;
  stays : length l.initial.stage.rows ≡ length l.rows → l.stage.rows ≡ l.initial.stage.rows;
  chance : l.chance ≡ record { number = l.number; step = l.done };
}
