-- The states of a group by its log: each replica has the one of its next slot, and none by which a member goes is locked.
use Rattle.std.specs.Prelude.{◌≡◌, ℕ, suc, ◌-◌, ◌≤◌, true, false, take}
use Rattle.sc_node_table.specs.Values.{Base, Free, Seat}
use Rattle.sc_base.specs.Definitions.{is_member}
use Rattle.sc_group_table.specs.machine.MachineDefinitions.{Group, group_of, state_after}
use Rattle.sc_scenario.specs.declared.scenario.scenarios.Scenario.{Scenario}
use Rattle.sc_node_table.specs.NodeDefinitions.{NodeState, ReplicaState, next}
use Rattle.sc_meaning.specs.sound.SoundDefinitions.{decided_log, Ahead, Player}
use Rattle.sc_law_entries.specs.logs.LogDefinitions.{Rows}
use Rattle.sc_live_steps.specs.following.FollowingDefinitions.{members_at}
use Rattle.sc_live_journals.specs.logs.LogDefinitions.{logged_sets, IsGroupOf, HasReplica}

-- the state of a group after the entries before this slot, by its decided log in a journal
abbrev pub state_at : Ahead → Base → Rows → ℕ → Group
state_at ahead base journal slot = state_after (group_of base) (take (slot - 1) (decided_log ahead base journal))

-- after any rows of a lawful journal each replica has the log's state at its next slot
abbrev pub ReplicasRunLogs : Type 0
ReplicasRunLogs = (ahead : Ahead) (words : ℕ → ℕ → ℕ × ℕ) (scenario : Scenario) (journal : Rows) (base : Base) → IsGroupOf ahead words scenario journal base
    → (rows : Rows) (seat : Seat Player) (node : NodeState) (r : ReplicaState) → HasReplica ahead scenario journal base rows seat node r → (1 ≤ next r) × (r.group ≡ state_at ahead base journal (next r))

-- the state after an entry by which a member goes is not locked in a transaction
abbrev pub LeaversFree : Type 0
LeaversFree = (ahead : Ahead) (words : ℕ → ℕ → ℕ × ℕ) (scenario : Scenario) (journal : Rows) (base : Base) → IsGroupOf ahead words scenario journal base → (slot who : ℕ)
    → is_member (members_at (logged_sets ahead base journal) slot) who ≡ true → is_member (members_at (logged_sets ahead base journal) (suc slot)) who ≡ false → (state_at ahead base journal (suc slot)).core.lock ≡ Free
