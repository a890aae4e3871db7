-- A group that is gone stays gone at a node, unless the node is sent a state.
use Rattle.std.specs.Prelude.{◌≡◌, ℕ, List, [], ◌∷◌, ◌++◌, Some}
use Rattle.sc_node_table.specs.Values.{Draw, Command, Base, Core, Free, Route, OrderLine, Mail, Install, Got, Row}
use Rattle.sc_actor.specs.Definitions.{mails, input_of}
use Rattle.sc_live_orderly.specs.OrderlyDefinitions.{AreInTime}
use Rattle.sc_scenario.specs.declared.scenario.scenarios.Scenario.{Scenario}
use Rattle.sc_group_table.specs.machine.MachineDefinitions.{Group, applied}
use Rattle.sc_node_table.specs.NodeDefinitions.{ReplicaState}
use Rattle.sc_meaning.specs.sound.SoundDefinitions.{births, as_nodes}
use Rattle.sc_live_steps.specs.calm.CalmDefinitions.{players, Rows}
use Rattle.sc_live_journals.specs.rows.RowDefinitions.{view_at}

-- The group went into another group, and no transaction binds it.
abbrev pub IsOver : Route → Core → Type 0
IsOver into core = (core.gone ≡ Some into) × (core.lock ≡ Free)

-- `IsOver` stays true of a group, whatever the group executes.
abbrev pub EntriesLeaveOver : Type 0
EntriesLeaveOver = (into : Route) (group : Group) (command : Command) → IsOver into group.core → IsOver into (applied group command).0.core

-- Each state of the group that this row delivers to the node is of a group that is over.
abbrev pub SendsOver : Route → Rows → Row Mail OrderLine → Draw → Type 0
SendsOver into rows row name = (mail : Mail) (slot : ℕ) (base : Base) (sets : List (List ℕ)) → input_of (mails rows) row.event ≡ Some (Got mail) → mail.body ≡ Install name slot base sets → IsOver into base.core

-- `IsOver` stays true of a node's replica in a row in time, if each state of the group that the row delivers to the node is over.
abbrev pub OverStays : Type 0
OverStays =
    (words : ℕ → ℕ → ℕ × ℕ) (scenario : Scenario) (rows : Rows) (row : Row Mail OrderLine) (name : Draw) (who : ℕ) (into : Route) (r : ReplicaState) → AreInTime (players words (births as_nodes scenario)) (rows ++ row ∷ []) → (who ≡ row.who → SendsOver into rows row name)
    → view_at (births as_nodes scenario) rows name who ≡ Some r → IsOver into r.group.core
    → (later : ReplicaState) × (view_at (births as_nodes scenario) (rows ++ row ∷ []) name who ≡ Some later) × IsOver into later.group.core
