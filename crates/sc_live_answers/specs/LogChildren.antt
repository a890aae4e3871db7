-- The children that the entries of a group's log name, and that a node which executes such an entry makes its replica of the child.
use Rattle.std.specs.Prelude.{◌≡◌, ℕ, ◌-◌, ◌<◌, ◌≤◌, true, List, [], ◌∷◌, ◌++◌, take, Some}
use Rattle.sc_base.specs.Definitions.{Among, is_member}
use Rattle.sc_node_table.specs.Values.{Ballot, Command, Base, Mail, Accepted, Learn, Seat}
use Rattle.sc_actor.specs.Definitions.{mails, numbered}
use Rattle.sc_group_table.specs.machine.MachineDefinitions.{child_by, group_of, state_after}
use Rattle.sc_scenario.specs.declared.scenario.scenarios.Scenario.{Scenario}
use Rattle.sc_node_table.specs.NodeDefinitions.{NodeState, ReplicaState, next, last_slot, mailed}
use Rattle.sc_meaning.specs.sound.SoundDefinitions.{decided_log, Ahead, Player}
use Rattle.sc_law_entries.specs.logs.LogDefinitions.{Rows}
use Rattle.sc_live_journals.specs.logs.LogDefinitions.{IsGroupOf, HasReplica}

-- the entry at this slot of a group's log makes this child, in the state after the entries before it
pub record IsBirth (all : List Command) (base : Base) (slot : ℕ) (child : Base) : Type 0 where
  pub prefix : List Command
  pub command : Command
  pub before : take (slot - 1) all ≡ prefix
  pub upto : take slot all ≡ prefix ++ command ∷ []
  pub child_is : child_by (state_after (group_of base) prefix) command ≡ Some child

-- a replica makes the child of each entry that it executes, where its node is a member of the child
pub record EntriesCreateChildren : Type 0 where
  -- a replica makes the child of its next entry, which a Learn brings
  pub learnt : (ahead : Ahead) (words : ℕ → ℕ → ℕ × ℕ) (scenario : Scenario) (journal : Rows) (base : Base) → IsGroupOf ahead words scenario journal base
      → (rows : Rows) (seat : Seat Player) (node : NodeState) (r : ReplicaState) → HasReplica ahead scenario journal base rows seat node r
      → (number : ℕ) (mail : Mail) (slot : ℕ) (command : Command) → numbered (mails rows) number ≡ Some mail → mail.body ≡ Learn base.core.id slot command → slot ≡ next r → slot ≤ last_slot
      → (child : Base) → IsBirth (decided_log ahead base journal) base slot child → is_member child.core.members r.me ≡ true → Among child (mailed mail.from mail.body (r, [])).1
  -- a replica makes the child of each entry that it executes by a vote
  pub voted : (ahead : Ahead) (words : ℕ → ℕ → ℕ × ℕ) (scenario : Scenario) (journal : Rows) (base : Base) → IsGroupOf ahead words scenario journal base
      → (rows : Rows) (seat : Seat Player) (node : NodeState) (r : ReplicaState) → HasReplica ahead scenario journal base rows seat node r → r.running ≡ true
      → (number : ℕ) (mail : Mail) (ballot : Ballot) (slot : ℕ) → numbered (mails rows) number ≡ Some mail → mail.body ≡ Accepted base.core.id ballot slot
      → (at : ℕ) (child : Base) → next r ≤ at → at < next (mailed mail.from mail.body (r, [])).0.0 → IsBirth (decided_log ahead base journal) base at child → is_member child.core.members r.me ≡ true
      → Among child (mailed mail.from mail.body (r, [])).1
