-- Each row of a line of requests finds what the potential needs.
use Rattle.std.specs.Prelude.{◌≡◌, ℕ, ◌≤◌, ◌==◌, ◌++◌, false, List, ◌∷◌, find, Some}
use Rattle.sc_base.specs.Definitions.{Among, Each, client_actor}
use Rattle.sc_node_table.specs.Values.{Base, OrderLine, Mail, Node, Client, Seat, Event, Row}
use Rattle.sc_actor.specs.Definitions.{value, has_started}
use Rattle.sc_client_table.specs.table.TableDefinitions.{Client as ClientState}
use Rattle.sc_node_table.specs.NodeDefinitions.{NodeState}
use Rattle.sc_scenario.specs.declared.scenario.scenarios.Asks.{Asks}
use Rattle.sc_scenario.specs.declared.scenario.scenarios.Scenario.{Scenario}
use Rattle.sc_scenario.specs.scenario.Definitions.{IsValid}
use Rattle.sc_live_orderly.specs.OrderlyDefinitions.{IsTidy, IsInOrder, owed}
use Rattle.sc_meaning.specs.sound.SoundDefinitions.{Player, player_table, births, node_seat, client_seat, route_of, system_of, as_nodes}
use Rattle.sc_live_steps.specs.calm.CalmDefinitions.{Chart, FindsCalm, MayPump, sent_on}
use Rattle.sc_live_plain.specs.PlainDefinitions.{IsAsking, AreFarFromLast, AreRequests, NobodyWaits, AreSeated, IsLinkedSetting, Setting, IsSetting}
use Rattle.sc_live_answers.specs.RequestPremises.{CountsAs}
use Rattle.sc_live_answers.specs.ClientAnswers.{AreReached, KnowOne}
use Rattle.sc_live_answers.specs.Tokens.{token_owing}

-- each replica of each node may pump (`MayPump`)
abbrev pub NodesMayPump : Scenario → List (Row Mail OrderLine) → Type 0
NodesMayPump scenario rows =
    (me : ℕ) (node : NodeState) → 1 ≤ me → me ≤ scenario.nodes → value player_table (node_seat as_nodes scenario.groups scenario.policy me) rows ≡ Node node → Each MayPump node.replicas

-- each client that has not started is sent on no more often than the chart allows
abbrev pub AreNear : Scenario → Chart → Base → List (Row Mail OrderLine) → Type 0
AreNear scenario chart first rows =
    (asks : Asks) (client : ClientState) → Among asks scenario.clients → value player_table (client_seat (route_of first) asks) rows ≡ Client client → has_started rows (client_actor asks.client) ≡ false → sent_on chart.reach client.known ≤ chart.reach.most

-- what holds where a line of requests begins: no request waits, a client that has not started knows one group alone, and each client's request is under way once at most
pub record MayBegin (words : ℕ → ℕ → ℕ × ℕ) (scenario : Scenario) (set : Setting) (first : Base) (before : List (Row Mail OrderLine)) : Type 0 where
  pub asking : IsAsking words scenario set first before
  pub waits : NobodyWaits scenario first before
  pub knows : KnowOne scenario first before
  pub once : (asks : Asks) → Among asks scenario.clients → owed (system_of as_nodes words scenario) (token_owing asks.client) before ≤ 1

-- whatever comes next in a line of requests, in order, finds what the potential needs, by a chart that counts as the setting does
abbrev pub RequestRowsFindCalm : Type 0
RequestRowsFindCalm =
    (words : ℕ → ℕ → ℕ × ℕ) (scenario : Scenario) (set : Setting) (chart : Chart) (first : Base) (others : List Base) (before after : List (Row Mail OrderLine)) (seat : Seat Player) (event : Event OrderLine)
    → IsValid scenario → scenario.groups ≡ first ∷ others → IsSetting set → IsLinkedSetting set → AreSeated scenario set → AreReached set → CountsAs set chart
    → MayBegin words scenario set first before → AreRequests words scenario set before after → IsAsking words scenario set first (before ++ after) → IsTidy (before ++ after) → AreFarFromLast scenario set (before ++ after)
    → NodesMayPump scenario (before ++ after) → AreNear scenario chart first (before ++ after)
    → find (λ other. other.who == seat.who) (births as_nodes scenario) ≡ Some seat → IsInOrder (system_of as_nodes words scenario) (before ++ after) seat.who event
    → FindsCalm chart (births as_nodes scenario) (before ++ after) seat event
