use Rattle.std.proofs.Common.{◌≡◌, List, Some, take, drop, length}
use Rattle.sc_words.specs.declared.commands.orders.OrderLine.{OrderLine}
use Rattle.sc_mail.specs.declared.bodies.Mail.{Mail}
use Rattle.sc_actor.specs.declared.rows.Row.{Row}
use Rattle.sc_world_logs.specs.Known.{Adds}
use Rattle.sc_world_entries.specs.decided.Found.{AreTaken}
use Rattle.sc_world_entries.proofs.decided.entries.take_each.Given as goal

-- those so far are taken, and the others are as they were
abbrev pub invariant-loop-known : goal.invariant-loop-known
invariant-loop-known l = record {
  long : length l.knowns ≡ length l.initial.knowns;
  taken : (rows later : List (Row Mail OrderLine)) → Adds (Some (l.name, l.acceptance)) rows later
      → AreTaken rows later (record { holds = l.holds; calm = l.calm }) (take l.known-index l.initial.knowns) (take l.known-index l.knowns);
  left : drop l.known-index l.knowns ≡ drop l.known-index l.initial.knowns;
}
