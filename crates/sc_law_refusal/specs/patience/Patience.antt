-- When a coordinator gives a transaction up: wherever a GiveUp stands, a replica of its group first queued it at a tick, after it had ticked often enough as the leader under that lock.
use Rattle.std.specs.Prelude.{◌≡◌, ◌==◌, ◌++◌, ◌∷◌, map, Some, ◌⊎◌}
use Rattle.std.specs.List.{find}
use Rattle.sc_base.specs.Definitions.{Among}
use Rattle.sc_node_table.specs.Values.{Draw, Seat, Row, Base, Command, GiveUp, OrderLine, Mail, MailBody, Request, Answer, Prepare, Promise, Accept, Accepted, Nack, Learn, Ask, Install, TxPrepare, TxVote, TxOutcome, TxElsewhere, TxWatch, TxWatched, Told, Node}
use Rattle.sc_actor.specs.declared.rows.Input.TheVariants.{Tick}
use Rattle.sc_actor.specs.Definitions.{mails, value}
use Rattle.sc_node_table.specs.NodeDefinitions.{NodeState, ReplicaState, name_of}
use Rattle.sc_scenario.specs.declared.scenario.scenarios.Scenario.{Scenario}
use Rattle.sc_meaning.specs.sound.SoundDefinitions.{Ahead, Player, births, decided_log, player_table}
use Rattle.sc_law_refusal.specs.refusal.Causes.{HoldsCommand, IsImpatient}
use Rattle.sc_law_refusal.specs.refusal.RowCauses.{Rows, Acts, ticks_in}

-- a command stands at a replica: it is queued, in flight, ready, reported to its leader, accepted or executed
abbrev pub StandsAt : ReplicaState → Command → Type 0
StandsAt r command = HoldsCommand r command ⊎ (Among command (map (λ report. report.value) r.acceptor.accepted) ⊎ Among command r.log.entries)

-- a command stands in a mail of a group: an Accept or a Learn of it, or a Promise that reports it
abbrev pub StandsIn : Draw → Command → MailBody → Type 0
StandsIn group command (Accept of ballot slot other) = (of ≡ group) × (other ≡ command)
StandsIn group command (Learn of slot other) = (of ≡ group) × (other ≡ command)
StandsIn group command (Promise of ballot reports) = (of ≡ group) × Among command (map (λ report. report.value) reports)
StandsIn group command (Request of client seq op) = ⊥
StandsIn group command (Answer of seq answer) = ⊥
StandsIn group command (Prepare of ballot from_slot) = ⊥
StandsIn group command (Accepted of ballot slot) = ⊥
StandsIn group command (Nack of promised) = ⊥
StandsIn group command (Ask of from_slot) = ⊥
StandsIn group command (Install of slot base sets) = ⊥
StandsIn group command (TxPrepare tx offer) = ⊥
StandsIn group command (TxVote tx coord part vote) = ⊥
StandsIn group command (TxOutcome tx part outcome) = ⊥
StandsIn group command (TxElsewhere tx coord hint) = ⊥
StandsIn group command (TxWatch tx watch) = ⊥
StandsIn group command (TxWatched tx coord part vote) = ⊥
StandsIn group command (Told order result) = ⊥

-- in one of these rows, a tick, a replica of the group gave the transaction up: settled and its coordinator, it had ticked at least `patience` times in its leadership under that lock, this tick among them
pub record WasGivenUp (ahead : Ahead) (scenario : Scenario) (rows : Rows) (group tx : Draw) : Type 0 where
  pub before : Rows
  pub row : Row Mail OrderLine
  pub later : Rows
  pub are : rows ≡ before ++ row ∷ later
  pub seat : Seat Player
  pub node : NodeState
  pub after : NodeState
  pub acts : Acts ahead scenario before row seat (Node node) (Node after) Tick
  pub replica : ReplicaState
  pub stood : Among replica node.replicas
  pub same : name_of replica ≡ group
  pub impatient : IsImpatient (ticks_in seat before replica tx) replica Tick tx

-- After these rows, wherever a GiveUp stands, its transaction was given up in them by a replica of the group.
pub record GivesUpInTime (ahead : Ahead) (scenario : Scenario) (rows : Rows) : Type 0 where
  -- at a replica of a node
  pub held : (seat : Seat Player) → find (λ other. other.who == seat.who) (births ahead scenario) ≡ Some seat → (node : NodeState) → value player_table seat rows ≡ Node node → (r : ReplicaState) → Among r node.replicas
      → (tx : Draw) → StandsAt r (GiveUp tx) → WasGivenUp ahead scenario rows (name_of r) tx
  -- in a mail that was sent
  pub sent : (mail : Mail) → Among mail (mails rows) → (group tx : Draw) → StandsIn group (GiveUp tx) mail.body → WasGivenUp ahead scenario rows group tx
  -- in the log of a group
  pub decided : (base : Base) (tx : Draw) → Among (GiveUp tx) (decided_log ahead base rows) → WasGivenUp ahead scenario rows base.core.id tx
