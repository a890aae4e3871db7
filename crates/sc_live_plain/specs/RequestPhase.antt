-- What holds after each row between two orders of a calm journal, where clients ask and no order is under way.
use Rattle.std.specs.Prelude.{◌≡◌, ℕ, ◌+◌, ◌≤◌, true, List, [], ◌∷◌, ◌++◌}
use Rattle.sc_base.specs.Definitions.{Among, Each, client_actor}
use Rattle.sc_node_table.specs.Values.{Base, OrderLine, Mail, Node, Client, Row}
use Rattle.sc_actor.specs.Definitions.{value, has_started}
use Rattle.sc_client_table.specs.table.TableDefinitions.{Client as ClientState}
use Rattle.sc_node_table.specs.NodeDefinitions.{NodeState, last_slot, slots_ahead}
use Rattle.sc_scenario.specs.declared.scenario.scenarios.Asks.{Asks}
use Rattle.sc_scenario.specs.declared.scenario.scenarios.Scenario.{Scenario}
use Rattle.sc_scenario.specs.scenario.Definitions.{IsValid}
use Rattle.sc_meaning.specs.sound.SoundDefinitions.{player_table, node_seat, client_seat, route_of, system_of, as_nodes}
use Rattle.sc_live_orderly.specs.OrderlyDefinitions.{IsOrderly, IsTidy, rest, is_born}
use Rattle.sc_live_plain.specs.LeaderMailInJournals.{replica_at, next_in, IsGroupAt}
use Rattle.sc_live_plain.specs.CalmClients.{IsLinkedSetting, IsCalmClient}
use Rattle.sc_live_plain.specs.CalmNodes.{Setting, IsSetting, IsCalmNode, IsCalmMail}
use Rattle.sc_live_plain.specs.Frames.{Frame}
use Rattle.sc_live_plain.specs.PlainClients.{IsBegun}

-- a node of the scenario after these rows, which is as `IsCalmNode` says
pub record IsAskingNode (scenario : Scenario) (set : Setting) (rows : List (Row Mail OrderLine)) (me : ℕ) : Type 0 where
  pub node : NodeState
  pub fact : value player_table (node_seat as_nodes scenario.groups scenario.policy me) rows ≡ Node node
  pub me_is : node.me ≡ me
  pub calm : IsCalmNode (IsBegun scenario rows) set node

-- a client of the scenario after these rows, which is as `IsCalmClient` says
pub record IsAskingClient (scenario : Scenario) (set : Setting) (first : Base) (rows : List (Row Mail OrderLine)) (asks : Asks) : Type 0 where
  pub client : ClientState
  pub fact : value player_table (client_seat (route_of first) asks) rows ≡ Client client
  pub calm : IsCalmClient set asks (has_started rows (client_actor asks.client)) client

-- what holds after each row while clients ask alone: of each node, of each client, of all mail that actors have not taken yet, and of each group that stands
pub record IsAsking (words : ℕ → ℕ → ℕ × ℕ) (scenario : Scenario) (set : Setting) (first : Base) (rows : List (Row Mail OrderLine)) : Type 0 where
  pub nodes : (me : ℕ) → 1 ≤ me → me ≤ scenario.nodes → IsAskingNode scenario set rows me
  pub clients : (asks : Asks) → Among asks scenario.clients → IsAskingClient scenario set first rows asks
  pub left : (who : ℕ) → is_born (system_of as_nodes words scenario) who ≡ true → Each (IsCalmMail (IsBegun scenario rows) set) (rest (system_of as_nodes words scenario) rows who)
  pub groups : (frame : Frame) → Among frame set.frames → IsGroupAt words scenario rows frame

-- each replica of a group that stands has room for all open slots below the last slot that a log may have
abbrev pub AreFarFromLast : Scenario → Setting → List (Row Mail OrderLine) → Type 0
AreFarFromLast scenario set rows = (frame : Frame) (node : ℕ) → Among frame set.frames → next_in (replica_at scenario rows frame.core.id node) + slots_ahead ≤ last_slot

-- whatever client starts and whatever mail is delivered in order, `IsAsking` holds after the row as well, as long as no replica is near the last slot
abbrev pub RequestsGoOn : Type 0
RequestsGoOn =
    (words : ℕ → ℕ → ℕ × ℕ) (scenario : Scenario) (set : Setting) (first : Base) (others : List Base) (rows : List (Row Mail OrderLine)) (row : Row Mail OrderLine)
    → IsValid scenario → scenario.groups ≡ first ∷ others → IsSetting set → IsLinkedSetting set → IsTidy rows → AreFarFromLast scenario set rows
    → IsAsking words scenario set first rows → IsOrderly (system_of as_nodes words scenario) rows row → IsAsking words scenario set first (rows ++ row ∷ [])
