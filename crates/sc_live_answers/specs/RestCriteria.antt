-- A quiet prefix of a calm journal rests, by what is known of its replicas, its clients and its groups.
use Rattle.std.specs.Prelude.{◌≡◌, ℕ, ◌+◌, ◌≤◌, Bool, true, List, [], Some}
use Rattle.sc_base.specs.Definitions.{Among, Each, client_actor, least_of}
use Rattle.sc_node_table.specs.Values.{Draw, Base, Client}
use Rattle.sc_actor.specs.Definitions.{value, has_started}
use Rattle.sc_live_orderly.specs.OrderlyDefinitions.{orders}
use Rattle.sc_client_table.specs.table.TableDefinitions.{Client as ClientState}
use Rattle.sc_scenario.specs.declared.scenario.scenarios.Asks.{Asks}
use Rattle.sc_scenario.specs.declared.scenario.scenarios.Scenario.{Scenario}
use Rattle.sc_node_table.specs.NodeDefinitions.{ReplicaState}
use Rattle.sc_meaning.specs.sound.SoundDefinitions.{player_table, births, client_seat, route_of, as_nodes, groups_at}
use Rattle.sc_live_steps.specs.calm.CalmDefinitions.{HasReplica, IsAnswered, Rows}
use Rattle.sc_live_journals.specs.rows.RowDefinitions.{view_at}
use Rattle.sc_live_steps.specs.orders.OrderDefinitions.{Still, IsAt}
use Rattle.sc_live_journals.specs.scenes.SceneDefinitions.{scene_at}
use Rattle.sc_live_journals.specs.charts.ChartDefinitions.{names_at, all_replicas, GoInTurn}
use Rattle.sc_live_plain.specs.PlainDefinitions.{replicas_after}
use Rattle.sc_live_answers.specs.QuietPrefixes.{IsQuietPrefix}
use Rattle.sc_live_journals.specs.logs.LogDefinitions.{logged_sets}
use Rattle.sc_live_answers.specs.SlotLeaders.{slot_leaders_at}
use Rattle.sc_live_answers.specs.HintInvariant.{IsRisingOn}
use Rattle.sc_live_answers.specs.CalmJournals.{AreSent}
use Rattle.sc_live_answers.specs.RestingPrefixes.{RestsAt}

-- no part of an order is left, and a replica that runs has nothing waiting; hints rise and rounds are few; a client that has started has all replies, and each other is as at its birth; the node that clients ask first has a replica; and groups went one after another
pub record EndsQuietly (words : ℕ → ℕ → ℕ × ℕ) (scenario : Scenario) (first : Base) (journal prefix : Rows) (sent : AreSent words scenario journal prefix) : Type 0 where
  pub still : IsAt Still (scene_at (births as_nodes scenario) prefix)
  pub done : (name : Draw) (node : ℕ) (r : ReplicaState) → view_at (births as_nodes scenario) prefix name node ≡ Some r → r.running ≡ true → (r.acts ≡ []) × (r.backlog ≡ [])
  pub rounds : (name : Draw) (node : ℕ) (r : ReplicaState) → view_at (births as_nodes scenario) prefix name node ≡ Some r → r.top.round ≤ orders prefix + 1
  pub rising : (base : Base) (among : Among base (groups_at as_nodes scenario.groups journal)) → IsRisingOn (logged_sets as_nodes base journal) (slot_leaders_at as_nodes scenario base journal) words (births as_nodes scenario) prefix base (sent base among).course
  pub clients : List (Bool × ClientState)
  pub answered : Each (λ client. IsAnswered client.0 (route_of first) client.1) clients
  pub players : (asks : Asks) → Among asks scenario.clients → (client : ClientState) × (value player_table (client_seat (route_of first) asks) prefix ≡ Client client) × (client.me ≡ asks.client) × (client.requests ≡ asks.ops)
      × Among (has_started prefix (client_actor asks.client), client) clients
  pub reached : HasReplica (replicas_after scenario prefix) (route_of first).group (least_of (route_of first).members)
  pub turn : Draw → ℕ
  pub turns : GoInTurn (names_at (births as_nodes scenario) prefix) (all_replicas (births as_nodes scenario) prefix) turn

-- a quiet prefix as `EndsQuietly` says rests
abbrev pub QuietPrefixesRest : Type 0
QuietPrefixesRest = (words : ℕ → ℕ → ℕ × ℕ) (scenario : Scenario) (first : Base) (journal prefix : Rows) → (q : IsQuietPrefix words scenario journal prefix) → EndsQuietly words scenario first journal prefix q.sent → RestsAt words scenario first journal prefix
