use Rattle.std.proofs.Common.{◌≡◌, ◌++◌, [], map, take, drop}
use Rattle.sc_actor.specs.Mail.{mails}
use Rattle.sc_meaning.specs.sound.Players.{as_nodes}
use Rattle.sc_world_entries.specs.decided.Deciding.{deciding_from}
use Rattle.sc_world_entries.specs.decided.Found.{AreTracked, IsHeard}
use Rattle.sc_world_entries.proofs.decided.deciding.deciding_rows.Given as goal

-- the rows so far, and those of what is left
abbrev pub invariant-loop-i : goal.invariant-loop-i
invariant-loop-i l = record {
  groups : AreTracked l.bases (take l.i l.rows) l.groups;
  heard : IsHeard (take l.i l.rows) l.heard;
  deciding : l.deciding.items ++ deciding_from as_nodes l.bases (take l.i l.rows) (drop l.i l.rows) ≡ deciding_from as_nodes l.bases [] l.rows;
  sent : map (λ mail. mail.now) l.sent.items ≡ mails (take l.i l.rows);
}
