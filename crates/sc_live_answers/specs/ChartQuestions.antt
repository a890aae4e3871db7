-- The chart of a calm journal says what the coordinator of an order that is under way asks.
use Rattle.std.specs.Prelude.{◌≡◌, ℕ, true, List, Some}
use Rattle.sc_base.specs.Definitions.{Among}
use Rattle.sc_node_table.specs.Values.{Draw, Seat}
use Rattle.sc_node_table.specs.NodeDefinitions.{ReplicaState, name_of}
use Rattle.sc_meaning.specs.sound.SoundDefinitions.{Player}
use Rattle.sc_live_steps.specs.calm.CalmDefinitions.{Rows}
use Rattle.sc_live_journals.specs.charts.ChartDefinitions.{all_replicas, asked_in}
use Rattle.sc_live_steps.specs.orders.OrderDefinitions.{Turn, is_watch, Asking, Stage, IsAt}
use Rattle.sc_live_journals.specs.scenes.SceneDefinitions.{scene_at, LeadsAlone}

-- each replica of a player that runs leads its group alone
abbrev pub AllLeadAlone : List (Seat Player) → Rows → Type 0
AllLeadAlone births rows = (r : ReplicaState) → Among r (all_replicas births rows) → r.running ≡ true → (node : ℕ) × LeadsAlone births rows (name_of r) node r

-- where each replica that runs leads its group alone, and by the stage a group whose leader is there waits for another in a transaction, the chart says that this other group is asked, and whether as a watcher
abbrev pub StagesAsk : Type 0
StagesAsk =
    (births : List (Seat Player)) (rows : Rows) (stage : Stage) (tx coord asked : Draw) (turn : Turn) (r : ReplicaState) → AllLeadAlone births rows → IsAt stage (scene_at births rows)
    → ((scene_at births rows).at coord).bond ≡ Asking tx asked turn → Among r (all_replicas births rows) → r.running ≡ true → name_of r ≡ coord → asked_in tx (all_replicas births rows) ≡ Some (asked, is_watch turn)
