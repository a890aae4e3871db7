-- What waits at a replica.
use Rattle.std.specs.Prelude.{◌≡◌, ℕ, false, [], length, Some}
use Rattle.sc_base.specs.Definitions.{Each}
use Rattle.sc_node_table.specs.Values.{Command, Draw}
use Rattle.sc_live_orderly.specs.OrderlyDefinitions.{AreInTime}
use Rattle.sc_scenario.specs.declared.scenario.scenarios.Scenario.{Scenario}
use Rattle.sc_node_table.specs.NodeDefinitions.{ReplicaState, slots_ahead}
use Rattle.sc_meaning.specs.sound.SoundDefinitions.{births, as_nodes}
use Rattle.sc_live_steps.specs.calm.CalmDefinitions.{players, Rows}
use Rattle.sc_live_steps.specs.orders.OrderDefinitions.{Work, work_by}
use Rattle.sc_live_journals.specs.rows.RowDefinitions.{view_at}
use Rattle.sc_law_walks.specs.WalkDefinitions.{IsFiled, IsAsked}

-- Where the replica does not lead, nothing is in flight or queued. It has waited for no tick. One queue has commands of transactions alone, the other calls and orders.
abbrev pub IsIdlyKept : ReplicaState → Type 0
IsIdlyKept r = (r.running ≡ false → (r.leader.flights ≡ []) × (r.acts ≡ []) × (r.backlog ≡ [])) × (r.waits ≡ 0) × Each IsFiled r.acts × Each IsAsked r.backlog

-- `IsIdlyKept` holds of the replica, and it is its node's and has the members of as many slots as are open.
abbrev pub IsPlainlyKept : ℕ → ReplicaState → Type 0
IsPlainlyKept me r = (r.me ≡ me) × (length r.sets ≡ slots_ahead) × IsIdlyKept r

-- `IsPlainlyKept` holds of each replica after rows of a scenario that come in time.
abbrev pub JournalsKeepIdle : Type 0
JournalsKeepIdle = (words : ℕ → ℕ → ℕ × ℕ) (scenario : Scenario) (rows : Rows) (name : Draw) (who : ℕ) (r : ReplicaState) → AreInTime (players words (births as_nodes scenario)) rows → view_at (births as_nodes scenario) rows name who ≡ Some r → IsPlainlyKept who r

-- A command of a transaction is work of an order (`Work`).
abbrev pub FiledIsWork : Type 0
FiledIsWork = (command : Command) → IsFiled command → (work : Work) × (work_by command ≡ Some work)
