-- What a healed store gives: whoever runs at a living node is settled and idle, and each client whose turn came has its replies, or asked a node that crashed.
use Rattle.std.specs.Prelude.{◌≡◌, ℕ, ◌^◌, ◌≤◌, true, false, List, [], ◌∷◌, ◌++◌, length, Some, ◌⊎◌}
use Rattle.std.specs.List.{flat_map, list_any}
use Rattle.sc_base.specs.Definitions.{Among, Each, client_actor}
use Rattle.sc_node_table.specs.Values.{Draw, Base, Node, Client, Seat, OrderLine, Mail, Row}
use Rattle.sc_actor.specs.Definitions.{value, has_started, has_crashed, is_quiet, unsettled}
use Rattle.sc_scenario.specs.declared.scenario.scenarios.Asks.{Asks}
use Rattle.sc_scenario.specs.declared.scenario.scenarios.Scenario.{Scenario}
use Rattle.sc_scenario.specs.declared.scenario.scenarios.SchedLine.TheVariants.{Settle}
use Rattle.sc_scenario.specs.scenario.Definitions.{IsValid}
use Rattle.sc_node_table.specs.NodeDefinitions.{NodeState, ReplicaState, settled}
use Rattle.sc_client_table.specs.table.TableDefinitions.{Client as ClientState}
use Rattle.sc_meaning.specs.sound.SoundDefinitions.{Player, player_table, births, as_nodes, route_of, kept_replies, Lawful, Whole, system_of, schedule}
use Rattle.sc_live_orderly.specs.Turns.{Ticks, Starts}
use Rattle.sc_live_healed.specs.HealedSchedules.{IsHealed, HasLivingMajorities, ClientTurn, node_lines, client_lines, lives, crashes}

-- a replica that runs may offer at its next slot, and nothing is in flight, ready or queued
pub record IsIdleLeader (r : ReplicaState) : Type 0 where
  pub leads : settled r ≡ true
  pub flights : r.leader.flights ≡ []
  pub ready : r.ready ≡ []
  pub acts : r.acts ≡ []
  pub backlog : r.backlog ≡ []

-- each replica that runs at a living node is settled and idle
abbrev pub IsIdleStore : Scenario → List (Row Mail OrderLine) → Type 0
IsIdleStore scenario rows =
    (seat : Seat Player) (node : NodeState) → Among seat (births as_nodes scenario) → value player_table seat rows ≡ Node node → lives scenario node.me ≡ true
    → Each (λ r. r.running ≡ true → IsIdleLeader r) node.replicas

-- the client kept a reply to each of its requests
abbrev pub HasReplies : Scenario → Asks → List (Row Mail OrderLine) → Type 0
HasReplies scenario asks rows = (first : Base) (others : List Base) → scenario.groups ≡ first ∷ others → length (kept_replies (route_of first) asks rows) ≡ length asks.ops

-- the node that the client asked last has crashed
pub record AskedACrashedNode (scenario : Scenario) (asks : Asks) (rows : List (Row Mail OrderLine)) : Type 0 where
  pub seat : Seat Player
  pub among : Among seat (births as_nodes scenario)
  pub who : seat.who ≡ client_actor asks.client
  pub client : ClientState
  pub now : value player_table seat rows ≡ Client client
  pub group : Draw
  pub node : ℕ
  pub asked : client.asked ≡ Some (group, node)
  pub crashed : has_crashed rows node ≡ true

-- a turn kicks its client: the client ticks and has started before, or it starts there
abbrev pub IsKicked : ClientTurn → List (Row Mail OrderLine) → Type 0
IsKicked turn rows = (has_started rows (client_actor turn.client) ≡ true) × (turn.kick ≡ Ticks) ⊎ (has_started rows (client_actor turn.client) ≡ false) × (turn.kick ≡ Starts)

-- A prefix of a journal at the end of a line: it is a whole lawful journal of the scenario that ends there.
pub record IsAtEnd (words : ℕ → ℕ → ℕ × ℕ) (scenario : Scenario) (healed : IsHealed scenario) (done : List ClientTurn) (journal rows : List (Row Mail OrderLine)) : Type 0 where
  pub later : List (Row Mail OrderLine)
  pub goes_on : journal ≡ rows ++ later
  pub lawful : Lawful as_nodes words (record scenario { lines = healed.before ++ Settle healed.most ∷ flat_map node_lines healed.sweep ++ flat_map client_lines done }) rows
  pub whole : Whole as_nodes words (record scenario { lines = healed.before ++ Settle healed.most ∷ flat_map node_lines healed.sweep ++ flat_map client_lines done }) rows
  pub quiet : is_quiet (system_of as_nodes words scenario) rows ≡ true

-- behind the sweep, and behind each turn of a client, each replica that runs at a living node is settled and idle
abbrev pub StaysIdle : (ℕ → ℕ → ℕ × ℕ) → (scenario : Scenario) → IsHealed scenario → List (Row Mail OrderLine) → Type 0
StaysIdle words scenario healed journal =
    (done rest : List ClientTurn) → healed.asks ≡ done ++ rest
    → (rows : List (Row Mail OrderLine)) × IsAtEnd words scenario healed done journal rows × IsIdleStore scenario rows

-- behind a turn that kicks its client, the client has all its replies, or the node that it asked last has crashed
abbrev pub AnswersTurns : (ℕ → ℕ → ℕ × ℕ) → (scenario : Scenario) → IsHealed scenario → List (Row Mail OrderLine) → Type 0
AnswersTurns words scenario healed journal =
    (done rest : List ClientTurn) (turn : ClientTurn) (asks : Asks) → healed.asks ≡ done ++ turn ∷ rest → Among asks scenario.clients → asks.client ≡ turn.client
    → (early late : List (Row Mail OrderLine)) × IsAtEnd words scenario healed done journal early × IsAtEnd words scenario healed (done ++ turn ∷ []) journal late
    × (IsKicked turn early → HasReplies scenario asks late ⊎ AskedACrashedNode scenario asks late)

-- behind a turn that kicks its client, where no line crashes a node, the client has all its replies
abbrev pub AnswersAll : (ℕ → ℕ → ℕ × ℕ) → (scenario : Scenario) → IsHealed scenario → List (Row Mail OrderLine) → Type 0
AnswersAll words scenario healed journal =
    ((node : ℕ) → list_any (crashes node) scenario.lines ≡ false)
    → (done rest : List ClientTurn) (turn : ClientTurn) (asks : Asks) → healed.asks ≡ done ++ turn ∷ rest → Among asks scenario.clients → asks.client ≡ turn.client
    → (early late : List (Row Mail OrderLine)) × IsAtEnd words scenario healed done journal early × IsAtEnd words scenario healed (done ++ turn ∷ []) journal late × (IsKicked turn early → HasReplies scenario asks late)

-- A store heals: behind the sweep each replica that runs is settled and idle, and each client that a turn kicks is answered, or asked a crashed node.
pub record Heals (words : ℕ → ℕ → ℕ × ℕ) (scenario : Scenario) (healed : IsHealed scenario) (journal : List (Row Mail OrderLine)) : Type 0 where
  pub idle : StaysIdle words scenario healed journal
  pub answers : AnswersTurns words scenario healed journal
  pub all : AnswersAll words scenario healed journal

-- Each whole lawful journal of a valid scenario whose lines heal, with living majorities, in which no line was cut off and of at most 2^28 rows, heals the store.
abbrev pub HealedStoresAnswer : Type 0
HealedStoresAnswer =
    (words : ℕ → ℕ → ℕ × ℕ) (scenario : Scenario) (journal : List (Row Mail OrderLine)) (healed : IsHealed scenario)
    → IsValid scenario → HasLivingMajorities scenario → Lawful as_nodes words scenario journal → Whole as_nodes words scenario journal
    → unsettled (system_of as_nodes words scenario) (schedule scenario) journal ≡ false → length journal ≤ 2 ^ 28
    → Heals words scenario healed journal
