use Rattle.std.proofs.Common.{List, drop}
use Rattle.std.specs.List.{flat_map}
use Rattle.sc_actor.specs.declared.actors.Seat.{Seat}
use Rattle.sc_actor.specs.Walk.{tasks_of}
use Rattle.sc_texts.specs.chance.KeyStream.{two_words}
use Rattle.sc_thread_drive.specs.Goings.{HasReached, IsOn}
use Rattle.sc_thread_drive.specs.CompanyRows.{HasOpened}
use Rattle.sc_thread_drive.proofs.schedules.drive.Given as goal

abbrev pub invariant-loop-line : goal.invariant-loop-line
invariant-loop-line g l = record {
  on : IsOn l.fn.company.net l.fn.company.shells.items l.company.net l.company.shells.items;
  at : (births : List (Seat g.row.A.Denot)) → HasOpened births l.fn.company → HasReached two_words births l.lines l.company.net l.company.shells.items l.company.score (flat_map (tasks_of two_words) (drop l.line-index l.lines));
}
