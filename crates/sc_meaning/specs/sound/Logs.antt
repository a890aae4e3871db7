-- The decided log of a group in a journal, and the group's state after it.
use Rattle.std.specs.Prelude.{ℕ, List}
use Rattle.sc_node_table.specs.Values.{Command, Base, OrderLine, Mail, Row}
use Rattle.sc_group_table.specs.machine.MachineDefinitions.{state_after, Group, group_of}
use Rattle.sc_meaning.specs.sound.Players.{Ahead}
use Rattle.sc_paxos_law.specs.PaxosLawDefinitions.{Rule, IsChosenAfter, log_of}
use Rattle.sc_meaning.specs.sound.Accepts.{accepts}

-- the rule by which a group's log gives the members of a slot: they are those in the group's state after the entries at least `ahead` slots before it (Paxos Made Simple, section 3)
abbrev pub rule_of : Ahead → Base → Rule Command
rule_of ahead base = record { ahead = ahead.slots; some = ahead.some; members = λ entries. (state_after (group_of base) entries).core.members }

-- a command is chosen at a slot, whose members the given log determines: a majority of them accepted it in one ballot
abbrev pub IsChosenIn : Ahead → Base → List (Row Mail OrderLine) → List Command → ℕ → Command → Type 0
IsChosenIn ahead base rows log slot command = IsChosenAfter (rule_of ahead base) (accepts base.core.id rows) log slot command

-- the decided log of a group in a journal: the longest list whose entry k is chosen at slot k
abbrev pub decided_log : Ahead → Base → List (Row Mail OrderLine) → List Command
decided_log ahead base rows = log_of (rule_of ahead base) (accepts base.core.id rows)

-- the group's state after its decided log
abbrev pub decided_state : Ahead → Base → List (Row Mail OrderLine) → Group
decided_state ahead base rows = state_after (group_of base) (decided_log ahead base rows)
