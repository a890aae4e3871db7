-- A line of requests: clients start and mail is delivered, with no order between, from a journal in which no request waits.
use Rattle.std.specs.Prelude.{◌≡◌, ℕ, ◌≤◌, true, List, [], ◌∷◌, ◌++◌, length, None}
use Rattle.sc_base.specs.Definitions.{Among, client_actor, is_member}
use Rattle.sc_node_table.specs.Values.{Draw, Base, OrderLine, Mail, Client, Row}
use Rattle.sc_actor.specs.Definitions.{value, has_started}
use Rattle.sc_client_table.specs.table.TableDefinitions.{Client as ClientState}
use Rattle.sc_scenario.specs.declared.scenario.scenarios.Asks.{Asks}
use Rattle.sc_scenario.specs.declared.scenario.scenarios.Scenario.{Scenario}
use Rattle.sc_scenario.specs.scenario.Definitions.{IsValid}
use Rattle.sc_meaning.specs.sound.SoundDefinitions.{player_table, client_seat, route_of, system_of, as_nodes}
use Rattle.sc_live_orderly.specs.OrderlyDefinitions.{IsOrderly, IsTidy, rest, is_born}
use Rattle.sc_live_plain.specs.RequestPhase.{IsAsking, AreFarFromLast}
use Rattle.sc_live_plain.specs.CalmClients.{IsLinkedSetting}
use Rattle.sc_live_plain.specs.CalmNodes.{Setting, IsHome, IsSetting}
use Rattle.sc_live_plain.specs.Frames.{Frame}

-- each of the rows `after` comes in order behind those before it, far from the last slot, with no mail repeated and no actor crashed
abbrev pub AreRequests : (ℕ → ℕ → ℕ × ℕ) → Scenario → Setting → List (Row Mail OrderLine) → List (Row Mail OrderLine) → Type 0
AreRequests words scenario set before after =
    (prefix back : List (Row Mail OrderLine)) (row : Row Mail OrderLine) → after ≡ prefix ++ row ∷ back
    → IsTidy (before ++ prefix) × AreFarFromLast scenario set (before ++ prefix) × IsOrderly (system_of as_nodes words scenario) (before ++ prefix) row

-- after these rows no client waits for an answer
abbrev pub NobodyWaits : Scenario → Base → List (Row Mail OrderLine) → Type 0
NobodyWaits scenario first rows = (asks : Asks) (client : ClientState) → Among asks scenario.clients → value player_table (client_seat (route_of first) asks) rows ≡ Client client → client.waiting ≡ None

-- after these rows each client that has started has a reply to each of its requests
abbrev pub HaveAllReplies : Scenario → Base → List (Row Mail OrderLine) → Type 0
HaveAllReplies scenario first rows =
    (asks : Asks) (client : ClientState) → Among asks scenario.clients → value player_table (client_seat (route_of first) asks) rows ≡ Client client → has_started rows (client_actor asks.client) ≡ true
    → length client.replies ≡ length asks.ops

-- all replicas of the setting, and all nodes that decide slots of its groups, are nodes of the scenario
pub record AreSeated (scenario : Scenario) (set : Setting) : Type 0 where
  pub homes : (group : Draw) (node : ℕ) → IsHome set group node → (1 ≤ node) × (node ≤ scenario.nodes)
  pub voters : (frame : Frame) (slot node : ℕ) → Among frame set.frames → is_member (frame.at slot) node ≡ true → (1 ≤ node) × (node ≤ scenario.nodes)

-- where a line of requests leaves no mail to any actor, `IsAsking` holds, no request waits, and each client that has started has all replies
abbrev pub LinesAreAnswered : Type 0
LinesAreAnswered =
    (words : ℕ → ℕ → ℕ × ℕ) (scenario : Scenario) (set : Setting) (first : Base) (others : List Base) (before after : List (Row Mail OrderLine))
    → IsValid scenario → scenario.groups ≡ first ∷ others → IsSetting set → IsLinkedSetting set → AreSeated scenario set → IsAsking words scenario set first before → NobodyWaits scenario first before
    → AreRequests words scenario set before after → ((who : ℕ) → is_born (system_of as_nodes words scenario) who ≡ true → rest (system_of as_nodes words scenario) (before ++ after) who ≡ [])
    → IsAsking words scenario set first (before ++ after) × NobodyWaits scenario first (before ++ after) × HaveAllReplies scenario first (before ++ after)
