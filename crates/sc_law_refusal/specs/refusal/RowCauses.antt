-- What each row of a lawful journal says of refusals: each answer of a node has its cause, and so has each queued GiveUp; a replica that runs takes requests; and clients ask in turn.
use Rattle.std.specs.Prelude.{◌≡◌, ℕ, ◌+◌, ◌==◌, ◌&&◌, Bool, true, false, List, [], ◌∷◌, ◌++◌, Some, if◌then◌else◌}
use Rattle.std.specs.List.{list_any, find}
use Rattle.sc_base.specs.Definitions.{same_ballot, same_draw}
use Rattle.sc_node_table.specs.Values.{Ballot, Draw, Seat, Event, Deliver, Tick, Go, Crash, Drop, Again, Input, Row, OrderLine, Mail, Node, Client}
use Rattle.sc_actor.specs.declared.rows.Event.TheVariants.{Told}
use Rattle.sc_actor.specs.Definitions.{mails, input_of, value}
use Rattle.sc_group_table.specs.machine.MachineDefinitions.{is_coordinating}
use Rattle.sc_client_table.specs.table.TableDefinitions.{Client as ClientState}
use Rattle.sc_node_table.specs.NodeDefinitions.{NodeState, ReplicaState, name_of, settled}
use Rattle.sc_scenario.specs.declared.scenario.scenarios.Scenario.{Scenario}
use Rattle.sc_meaning.specs.sound.SoundDefinitions.{Ahead, Player, births, player_table}
use Rattle.sc_law_refusal.specs.refusal.ClientTurns.{KeepsTurn}
use Rattle.sc_law_refusal.specs.refusal.NodeCauses.{AnswersHaveCauses, ActsHaveCauses, TakesRequests}

-- the rows of a journal
abbrev pub Rows : Type 0
Rows = List (Row Mail OrderLine)

-- the player that makes a row after these rows, before and after it, and the input that it takes
pub record Acts (ahead : Ahead) (scenario : Scenario) (rows : Rows) (row : Row Mail OrderLine) (seat : Seat Player) (before after : Player) (input : Input Mail OrderLine) : Type 0 where
  pub seated : find (λ other. other.who == row.who) (births ahead scenario) ≡ Some seat
  pub was : value player_table seat rows ≡ before
  pub takes : input_of (mails rows) row.event ≡ Some input
  pub fact : value player_table seat (rows ++ row ∷ []) ≡ after

-- ---- the ticks of a leadership

-- whether a replica leads this group in a ballot, settled, and coordinates a transaction
abbrev pub coordinates : Draw → Ballot → Draw → ReplicaState → Bool
coordinates group ballot tx r = same_draw (name_of r) group && settled r && same_ballot r.leader.ballot ballot && is_coordinating r.group.core.lock tx

-- whether a replica of a node leads this group in a ballot, settled, and coordinates a transaction
abbrev pub node_coordinates : Draw → Ballot → Draw → Player → Bool
node_coordinates group ballot tx (Node node) = list_any (coordinates group ballot tx) node.replicas
node_coordinates group ballot tx (Client client) = false

-- whether an event is a tick
abbrev pub is_tick : Event OrderLine → Bool
is_tick Tick = true
is_tick (Deliver mail) = false
is_tick Go = false
is_tick (Told order) = false
is_tick Crash = false
is_tick (Drop mail) = false
is_tick (Again mail) = false

-- whether the row after these is a tick of a node whose replica leads this group in a ballot, settled, and coordinates a transaction
abbrev pub is_counted : Seat Player → Draw → Ballot → Draw → Rows → Row Mail OrderLine → Bool
is_counted seat group ballot tx rows row = (row.who == seat.who) && is_tick row.event && node_coordinates group ballot tx (value player_table seat rows)

-- the number of such ticks among the later rows, after the earlier ones
abbrev pub ticks_from : Seat Player → Draw → Ballot → Draw → Rows → Rows → ℕ
ticks_from seat group ballot tx before [] = 0
ticks_from seat group ballot tx before (row ∷ rows) =
    (if is_counted seat group ballot tx before row then 1 else 0) + ticks_from seat group ballot tx (before ++ row ∷ []) rows

-- the number of ticks that a replica has had in its leadership under the lock of a transaction
abbrev pub ticks_in : Seat Player → Rows → ReplicaState → Draw → ℕ
ticks_in seat rows r tx = ticks_from seat (name_of r) r.leader.ballot tx [] rows

-- ---- the law

-- What holds of a row of a journal, after these rows.
pub record RowHasCauses (ahead : Ahead) (scenario : Scenario) (rows : Rows) (row : Row Mail OrderLine) : Type 0 where
  -- each answer of a node is to a call that was asked, and has its cause
  pub answers : (seat : Seat Player) (before after : NodeState) (input : Input Mail OrderLine) → Acts ahead scenario rows row seat (Node before) (Node after) input → AnswersHaveCauses before input after row.sent
  -- a replica that runs takes a request that is brought to it
  pub requests : (seat : Seat Player) (before after : NodeState) (input : Input Mail OrderLine) → Acts ahead scenario rows row seat (Node before) (Node after) input → TakesRequests before input row.sent
  -- a new GiveUp is queued only at a tick that is at least the `patience`-th of the coordinator's leadership under that lock; else it goes back from a flight
  pub acts : (seat : Seat Player) (before after : NodeState) (input : Input Mail OrderLine) → Acts ahead scenario rows row seat (Node before) (Node after) input → ActsHaveCauses (ticks_in seat rows) before input after
  -- a client asks in turn
  pub turns : (seat : Seat Player) (before after : ClientState) (input : Input Mail OrderLine) → Acts ahead scenario rows row seat (Client before) (Client after) input → KeepsTurn before after input row.sent
