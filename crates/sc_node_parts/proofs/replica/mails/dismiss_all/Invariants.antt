use Rattle.std.proofs.Common.{◌≡◌, [], drop}
use Rattle.sc_node_table.specs.Mails.{dismissed_all}
use Rattle.sc_node_parts.proofs.replica.mails.dismiss_all.Given as goal

-- what is left makes the whole; and where the whole makes no mail, neither does what is left
abbrev pub invariant-loop-i : goal.invariant-loop-i
invariant-loop-i l = record {
  left : dismissed_all l.me l.group l.hint l.body (drop l.i l.commands.items) l.out ≡ dismissed_all l.me l.group l.hint l.body l.commands.items l.initial.out;
  none : dismissed_all l.me l.group l.hint l.body l.commands.items [] ≡ [] → dismissed_all l.me l.group l.hint l.body (drop l.i l.commands.items) [] ≡ [];
}
