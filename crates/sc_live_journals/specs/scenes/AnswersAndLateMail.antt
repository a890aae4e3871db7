-- Mail that a replica answers from what it has, and mail that comes too late, does nothing of an order; and every errand but a question goes to the node that leads.
use Rattle.std.specs.Prelude.{◌≡◌, ℕ, ◌<◌, Bool, false, List, [], Option, Some, None}
use Rattle.sc_base.specs.Definitions.{Among}
use Rattle.sc_node_table.specs.Values.{Ballot, Draw, Command, Base, Mail, Ask, Accepted, Promise, Nack, Learn, Install, Seat, Deliver, Report}
use Rattle.sc_law_walks.specs.WalkDefinitions.{GoesOn}
use Rattle.sc_node_table.specs.NodeDefinitions.{ReplicaState, next}
use Rattle.sc_words.specs.paxos.PaxosDefinitions.{flight_at}
use Rattle.sc_meaning.specs.sound.SoundDefinitions.{Player}
use Rattle.sc_live_steps.specs.calm.CalmDefinitions.{Rows}
use Rattle.sc_live_steps.specs.orders.OrderDefinitions.{Turn, is_watch, Bond, Unbound, Asking, Bound, Errand, Question, Elsewhere, Reply, Result, Here, Scene, IsUnderWay, errand_by}
use Rattle.sc_live_journals.specs.scenes.OrderRows.{KeepsStage, ComesToLeader, ComesBeside, ComesToNone}

-- Which mails keep an order at its stage: an Ask for entries; a vote at a replica that does not lead, or at the leader for a slot where nothing is in flight;
-- a promise or a Nack at a replica that does not lead; and an entry or a state that the leader has executed already.
pub record AskedKeep : Type 0 where
  pub ask : (words : ℕ → ℕ → ℕ × ℕ) (births : List (Seat Player)) (rows : Rows) (seat : Seat Player) (number : ℕ) (mail : Mail) (group : Draw) (r : ReplicaState) (named : Draw) (slot : ℕ)
      → ComesToLeader words births rows seat number mail group r → mail.body ≡ Ask named slot → KeepsStage births rows seat (Deliver number)
  pub ask_beside : (words : ℕ → ℕ → ℕ × ℕ) (births : List (Seat Player)) (rows : Rows) (seat : Seat Player) (number : ℕ) (mail : Mail) (group : Draw) (r : ReplicaState) (named : Draw) (slot : ℕ)
      → ComesBeside words births rows seat number mail group r → mail.body ≡ Ask named slot → KeepsStage births rows seat (Deliver number)
  pub vote_late : (words : ℕ → ℕ → ℕ × ℕ) (births : List (Seat Player)) (rows : Rows) (seat : Seat Player) (number : ℕ) (mail : Mail) (group : Draw) (r : ReplicaState) (named : Draw) (ballot : Ballot) (slot : ℕ)
      → ComesToLeader words births rows seat number mail group r → mail.body ≡ Accepted named ballot slot → flight_at slot r.leader.flights ≡ None → KeepsStage births rows seat (Deliver number)
  pub vote_beside : (words : ℕ → ℕ → ℕ × ℕ) (births : List (Seat Player)) (rows : Rows) (seat : Seat Player) (number : ℕ) (mail : Mail) (group : Draw) (r : ReplicaState) (named : Draw) (ballot : Ballot) (slot : ℕ)
      → ComesBeside words births rows seat number mail group r → mail.body ≡ Accepted named ballot slot → r.running ≡ false → KeepsStage births rows seat (Deliver number)
  pub promise_beside : (words : ℕ → ℕ → ℕ × ℕ) (births : List (Seat Player)) (rows : Rows) (seat : Seat Player) (number : ℕ) (mail : Mail) (group : Draw) (r : ReplicaState) (named : Draw) (ballot : Ballot) (reports : List (Report Command))
      → ComesBeside words births rows seat number mail group r → mail.body ≡ Promise named ballot reports → r.running ≡ false → KeepsStage births rows seat (Deliver number)
  pub nack_beside : (words : ℕ → ℕ → ℕ × ℕ) (births : List (Seat Player)) (rows : Rows) (seat : Seat Player) (number : ℕ) (mail : Mail) (group : Draw) (r : ReplicaState) (named : Draw) (ballot : Ballot)
      → ComesBeside words births rows seat number mail group r → mail.body ≡ Nack named ballot → GoesOn ballot r → KeepsStage births rows seat (Deliver number)
  pub learn_late : (words : ℕ → ℕ → ℕ × ℕ) (births : List (Seat Player)) (rows : Rows) (seat : Seat Player) (number : ℕ) (mail : Mail) (group : Draw) (r : ReplicaState) (named : Draw) (slot : ℕ) (command : Command)
      → ComesToLeader words births rows seat number mail group r → mail.body ≡ Learn named slot command → slot < next r → KeepsStage births rows seat (Deliver number)
  pub install_late : (words : ℕ → ℕ → ℕ × ℕ) (births : List (Seat Player)) (rows : Rows) (seat : Seat Player) (number : ℕ) (mail : Mail) (group : Draw) (r : ReplicaState) (named : Draw) (slot : ℕ) (base : Base) (sets : List (List ℕ))
      → ComesToLeader words births rows seat number mail group r → mail.body ≡ Install named slot base sets → slot < next r → KeepsStage births rows seat (Deliver number)

-- The node that an errand goes to, if only the leader can take it: of every errand but a question.
abbrev pub leader_sought : Errand → Option ℕ
leader_sought (Question tx coord watch by to) = None
leader_sought (Elsewhere tx to) = Some to
leader_sought (Reply tx watch agreed by to) = Some to
leader_sought (Result tx to) = Some to

-- A coordinator asks in this transaction, in the given kind of turn, and its leader has no work.
pub record IsAsking (tx : Draw) (watch : Option Bool) (here : Here) : Type 0 where
  pub asked : Draw
  pub turn : Turn
  pub bond : here.bond ≡ Asking tx asked turn
  pub turn_is : (vote : Bool) → watch ≡ Some vote → is_watch turn ≡ vote
  pub work : here.work ≡ []

-- The group has this bond, and its leader has no work.
pub record IsWaiting (bond : Bond) (here : Here) : Type 0 where
  pub bond_is : here.bond ≡ bond
  pub work : here.work ≡ []

-- What the group that an errand is for must be: bound by nothing for a question, the coordinator for a vote and for `Elsewhere`, and bound in the transaction for an outcome.
abbrev pub Expects : Errand → Here → Type 0
Expects (Question tx coord watch by to) here = IsWaiting Unbound here
Expects (Elsewhere tx to) here = IsAsking tx None here
Expects (Reply tx watch agreed by to) here = IsAsking tx (Some watch) here
Expects (Result tx to) here = IsWaiting (Bound tx) here

-- At each stage a vote, an outcome and an `Elsewhere` go to the node that leads their group, and the group of each errand waits for it.
-- So none of these three comes to another replica of the group, or to a node without one.
pub record AnswersReachLeaders : Type 0 where
  pub led : (now : Scene) (group : Draw) (errand : Errand) (to : ℕ) → IsUnderWay now → Among errand (now.at group).errands → leader_sought errand ≡ Some to → now.lead group ≡ Some to
  pub waits : (now : Scene) (group : Draw) (errand : Errand) → IsUnderWay now → Among errand (now.at group).errands → Expects errand (now.at group)
  pub beside : (words : ℕ → ℕ → ℕ × ℕ) (births : List (Seat Player)) (rows : Rows) (seat : Seat Player) (number : ℕ) (mail : Mail) (group : Draw) (r : ReplicaState) (entry : Draw × Errand)
      → ComesBeside words births rows seat number mail group r → errand_by mail.from mail.to mail.body ≡ Some entry → leader_sought entry.1 ≡ Some mail.to → KeepsStage births rows seat (Deliver number)
  pub missed : (words : ℕ → ℕ → ℕ × ℕ) (births : List (Seat Player)) (rows : Rows) (seat : Seat Player) (number : ℕ) (mail : Mail) (group : Draw) (entry : Draw × Errand)
      → ComesToNone words births rows seat number mail group → errand_by mail.from mail.to mail.body ≡ Some entry → leader_sought entry.1 ≡ Some mail.to → KeepsStage births rows seat (Deliver number)
