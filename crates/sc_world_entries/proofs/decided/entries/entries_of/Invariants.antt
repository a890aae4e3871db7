use Rattle.std.proofs.Common.{◌≡◌, map, take}
use Rattle.sc_actor.specs.Mail.{mails}
use Rattle.sc_meaning.specs.sound.Players.{as_nodes}
use Rattle.sc_meaning.specs.sound.GroupsOf.{entries_at}
use Rattle.sc_world_entries.specs.decided.Found.{AreTracked, IsHeard}
use Rattle.sc_world_entries.proofs.decided.entries.entries_of.Given as goal

-- the rows so far
abbrev pub invariant-loop-i : goal.invariant-loop-i
invariant-loop-i l = record {
  groups : AreTracked l.bases (take l.i l.rows) l.groups;
  heard : IsHeard (take l.i l.rows) l.heard;
  entries : l.entries.items ≡ entries_at as_nodes l.bases (take l.i l.rows);
  sent : map (λ mail. mail.now) l.sent.items ≡ mails (take l.i l.rows);
}
