use Rattle.std.proofs.Common.{◌≡◌, ◌-◌}
use Rattle.sc_actor.specs.Walk.{storm_steps}
use Rattle.sc_texts.specs.chance.KeyStream.{two_words}
use Rattle.sc_thread_drive.specs.CompanyRows.{LineEnded}
use Rattle.sc_thread_drive.proofs.storm_lines.run_storm.Given as goal

abbrev pub invariant-loop-done : goal.invariant-loop-done
invariant-loop-done g l = record {
  storm : l.storm ≡ record { number = l.number; step = l.done };
  line : LineEnded (storm_steps (two_words l.number) 0 l.most) (storm_steps (two_words l.number) l.done (l.most - l.done)) l.fn.company l.company;
}
