use Rattle.std.proofs.Common.{◌≡◌, ◌<◌, ◌+◌, ◌-◌}
use Rattle.sc_thread_work.specs.lend.Offices.{IsLenderOf}
use Rattle.sc_thread_workers.specs.Crews.{AllSound, AreLater, rows_made}
use Rattle.sc_thread_workers.specs.RoundEnds.{CanBegin}
use Rattle.sc_thread_workers.specs.Services.{AllServe}
use Rattle.sc_thread_workers.proofs.playing.played.Given as goal

abbrev pub invariant-loop-answer : goal.invariant-loop-answer
invariant-loop-answer g l = record {
  lender : IsLenderOf l.fn.play.desk.now l.lender;
  used : l.standing.used < l.fn.play.limit;
  later : AreLater l.fn.net l.net l.fn.shells.items l.shells.items;
  sound : AllSound l.shells.items;
  count : rows_made l.shells.items ≡ rows_made l.fn.shells.items + l.standing.used;
  served : AllServe l.net l.fn.shells.items;
  begin : CanBegin l.net l.shells.items l.whos.items;
}

-- each round makes a delivery
abbrev pub decreases-loop-answer : goal.decreases-loop-answer
decreases-loop-answer g l = l.fn.play.limit - l.standing.used
