use Rattle.std.proofs.Common.{◌≡◌, List, true}
use Rattle.sc_words.specs.declared.commands.commands.Command.{Command}
use Rattle.sc_group_table.specs.machine.Group.{group_of}
use Rattle.sc_paxos_law.specs.Steps.{Step}
use Rattle.sc_meaning.specs.sound.GroupsOf.{children_of}
use Rattle.sc_world_logs.specs.Known.{Agrees, KeepsChildren}
use Rattle.sc_world_logs.proofs.known.advance.Given as goal

-- the log is what was chosen so far
abbrev pub invariant-loop-more : goal.invariant-loop-more
invariant-loop-more l = (h : List (Step Command)) → Agrees h l.fn.known
    → Agrees h l.known × (l.known.base ≡ l.fn.known.base) × (KeepsChildren l.fn.known → KeepsChildren l.known) × (l.childless ≡ true → children_of (group_of l.known.base) l.known.log.items ≡ children_of (group_of l.fn.known.base) l.fn.known.log.items)
