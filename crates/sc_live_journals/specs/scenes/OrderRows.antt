-- An order stays under way, row by row: which mail its leader takes, and which comes to a replica that does not lead.
use Rattle.std.specs.Prelude.{◌≡◌, ℕ, true, false, List, [], Option, Some, None, ◌⊎◌}
use Rattle.sc_base.specs.Definitions.{Each}
use Rattle.sc_node_table.specs.Values.{Ballot, Draw, Offer, Watch, Command, Base, OrderLine, Outcome, Past, Vote, Mail, Accept, Prepare, Promise, Nack, Learn, Install, TxPrepare, TxVote, TxOutcome, TxElsewhere, TxWatch, TxWatched, Seat, Event, Deliver, Tick, Go, Crash, Drop, Again}
use Rattle.sc_law_walks.specs.WalkDefinitions.{GoesOn}
use Rattle.sc_actor.specs.declared.rows.Event.TheVariants.{Told}
use Rattle.sc_actor.specs.Definitions.{mails, numbered}
use Rattle.sc_node_table.specs.NodeDefinitions.{NodeState, replica_of, group_of_mail, group_of_order, ReplicaState, Place, settled, listed, mailed, standing_vote, noted_outcome}
use Rattle.sc_meaning.specs.sound.SoundDefinitions.{Player}
use Rattle.sc_live_steps.specs.calm.CalmDefinitions.{Rows}
use Rattle.sc_live_steps.specs.orders.OrderDefinitions.{Turn, is_watch, Asking, Bound, Work, Stage, Still, IsAt, IsUnderWay, IsStepOf, bond_of, works, IsIdle, IsUnbound, MayFile}
use Rattle.sc_live_journals.specs.rows.RowDefinitions.{with_event}
use Rattle.sc_live_journals.specs.scenes.JournalScenes.{scene_at}
use Rattle.sc_live_journals.specs.scenes.SceneRows.{LeadsAlone}
use Rattle.sc_live_journals.specs.scenes.SceneRowKinds.{IsUnled}
use Rattle.sc_live_journals.specs.scenes.SceneReceivers.{MayCreate, IsTaking}

-- The event delivers a mail of this group, where `sent` is all mail sent before it, or gives the group an order.
abbrev pub IsEventOf : List Mail → Event OrderLine → Draw → Type 0
IsEventOf sent (Deliver number) group = (mail : Mail) × (numbered sent number ≡ Some mail) × (group_of_mail mail.body ≡ Some group)
IsEventOf sent (Told line) group = group_of_order line.order ≡ group
IsEventOf sent Tick group = ⊥
IsEventOf sent Go group = ⊥
IsEventOf sent Crash group = ⊥
IsEventOf sent (Drop mail) group = ⊥
IsEventOf sent (Again mail) group = ⊥

-- The event gives an order.
abbrev pub GivesAnOrder : Event OrderLine → Type 0
GivesAnOrder (Told line) = Unit {0}
GivesAnOrder (Deliver number) = ⊥
GivesAnOrder Tick = ⊥
GivesAnOrder Go = ⊥
GivesAnOrder Crash = ⊥
GivesAnOrder (Drop mail) = ⊥
GivesAnOrder (Again mail) = ⊥

-- The row leads from this stage to a later one by a step of its group; and from the stage `Still` only an order leads on.
pub record GoesBy (rows : Rows) (event : Event OrderLine) (stage later : Stage) : Type 0 where
  pub group : Draw
  pub step : IsStepOf group stage later
  pub of : IsEventOf (mails rows) event group
  pub begins : stage ≡ Still → GivesAnOrder event

-- After the row the same stage stands as before it, or one that follows by such a step.
abbrev pub StageAfter : List (Seat Player) → Rows → Seat Player → Event OrderLine → Stage → Type 0
StageAfter births rows seat event stage = (later : Stage) × IsAt later (scene_at births (with_event rows seat event)) × ((later ≡ stage) ⊎ GoesBy rows event stage later)

-- If a stage stands before the row, it stands after it, or one that follows does.
abbrev pub KeepsStage : List (Seat Player) → Rows → Seat Player → Event OrderLine → Type 0
KeepsStage births rows seat event = (under : IsUnderWay (scene_at births rows)) → StageAfter births rows seat event under.0

-- A mail comes in time to a node with a replica of its group, and the children that the row creates are as `MayCreate` says.
pub record ComesTo (words : ℕ → ℕ → ℕ × ℕ) (births : List (Seat Player)) (rows : Rows) (seat : Seat Player) (number : ℕ) (mail : Mail) (group : Draw) (r : ReplicaState) : Type 0 where
  pub node : NodeState
  pub taking : IsTaking words births rows seat number mail group node
  pub here : replica_of group node.replicas ≡ Some r
  pub children : Each (MayCreate births rows seat) (mailed mail.from mail.body (r, [])).1

-- A mail comes to the one replica of its group that leads.
pub record ComesToLeader (words : ℕ → ℕ → ℕ × ℕ) (births : List (Seat Player)) (rows : Rows) (seat : Seat Player) (number : ℕ) (mail : Mail) (group : Draw) (r : ReplicaState) : Type 0 where
  pub comes : ComesTo words births rows seat number mail group r
  pub leads : LeadsAlone births rows group seat.who r

-- Which mails at the leader keep an order under way: a question on which it has cast no vote, a vote for which it waits, the outcome of the transaction in which it is bound,
-- and `Elsewhere`; an Accept, a Prepare and a Nack for which it does not stop, and a promise without reports.
pub record LeadersKeep : Type 0 where
  pub offer : (words : ℕ → ℕ → ℕ × ℕ) (births : List (Seat Player)) (rows : Rows) (seat : Seat Player) (number : ℕ) (mail : Mail) (group : Draw) (r : ReplicaState) (tx : Draw) (offer : Offer)
      → ComesToLeader words births rows seat number mail group r → mail.body ≡ TxPrepare tx offer → MayFile r → standing_vote r.group.core tx ≡ None → KeepsStage births rows seat (Deliver number)
  pub watch : (words : ℕ → ℕ → ℕ × ℕ) (births : List (Seat Player)) (rows : Rows) (seat : Seat Player) (number : ℕ) (mail : Mail) (group : Draw) (r : ReplicaState) (tx : Draw) (watch : Watch)
      → ComesToLeader words births rows seat number mail group r → mail.body ≡ TxWatch tx watch → MayFile r → standing_vote r.group.core tx ≡ None → KeepsStage births rows seat (Deliver number)
  pub vote : (words : ℕ → ℕ → ℕ × ℕ) (births : List (Seat Player)) (rows : Rows) (seat : Seat Player) (number : ℕ) (mail : Mail) (group : Draw) (r : ReplicaState) (tx coord part : Draw) (vote : Vote) (asked : Draw) (turn : Turn)
      → ComesToLeader words births rows seat number mail group r → mail.body ≡ TxVote tx coord part vote → MayFile r → bond_of r.group.core ≡ Asking tx asked turn → is_watch turn ≡ false → noted_outcome r.group.core tx ≡ None → KeepsStage births rows seat (Deliver number)
  pub watched : (words : ℕ → ℕ → ℕ × ℕ) (births : List (Seat Player)) (rows : Rows) (seat : Seat Player) (number : ℕ) (mail : Mail) (group : Draw) (r : ReplicaState) (tx coord part : Draw) (vote : Past) (asked : Draw) (turn : Turn)
      → ComesToLeader words births rows seat number mail group r → mail.body ≡ TxWatched tx coord part vote → MayFile r → bond_of r.group.core ≡ Asking tx asked turn → is_watch turn ≡ true → noted_outcome r.group.core tx ≡ None → KeepsStage births rows seat (Deliver number)
  pub outcome : (words : ℕ → ℕ → ℕ × ℕ) (births : List (Seat Player)) (rows : Rows) (seat : Seat Player) (number : ℕ) (mail : Mail) (group : Draw) (r : ReplicaState) (tx part : Draw) (outcome : Outcome)
      → ComesToLeader words births rows seat number mail group r → mail.body ≡ TxOutcome tx part outcome → MayFile r → bond_of r.group.core ≡ Bound tx → KeepsStage births rows seat (Deliver number)
  pub elsewhere : (words : ℕ → ℕ → ℕ × ℕ) (births : List (Seat Player)) (rows : Rows) (seat : Seat Player) (number : ℕ) (mail : Mail) (group : Draw) (r : ReplicaState) (tx coord asked : Draw) (turn : Turn) (to : ℕ)
      → ComesToLeader words births rows seat number mail group r → mail.body ≡ TxElsewhere tx coord (Some to) → r.me ≡ seat.who → settled r ≡ true → bond_of r.group.core ≡ Asking tx asked turn → KeepsStage births rows seat (Deliver number)
  pub accept : (words : ℕ → ℕ → ℕ × ℕ) (births : List (Seat Player)) (rows : Rows) (seat : Seat Player) (number : ℕ) (mail : Mail) (group : Draw) (r : ReplicaState) (named : Draw) (ballot : Ballot) (slot : ℕ) (command : Command)
      → ComesToLeader words births rows seat number mail group r → mail.body ≡ Accept named ballot slot command → GoesOn ballot r → KeepsStage births rows seat (Deliver number)
  pub prepare : (words : ℕ → ℕ → ℕ × ℕ) (births : List (Seat Player)) (rows : Rows) (seat : Seat Player) (number : ℕ) (mail : Mail) (group : Draw) (r : ReplicaState) (named : Draw) (ballot : Ballot) (from_slot : ℕ)
      → ComesToLeader words births rows seat number mail group r → mail.body ≡ Prepare named ballot from_slot → GoesOn ballot r → KeepsStage births rows seat (Deliver number)
  pub nack : (words : ℕ → ℕ → ℕ × ℕ) (births : List (Seat Player)) (rows : Rows) (seat : Seat Player) (number : ℕ) (mail : Mail) (group : Draw) (r : ReplicaState) (named : Draw) (ballot : Ballot)
      → ComesToLeader words births rows seat number mail group r → mail.body ≡ Nack named ballot → GoesOn ballot r → KeepsStage births rows seat (Deliver number)
  pub promise : (words : ℕ → ℕ → ℕ × ℕ) (births : List (Seat Player)) (rows : Rows) (seat : Seat Player) (number : ℕ) (mail : Mail) (group : Draw) (r : ReplicaState) (named : Draw) (ballot : Ballot) (work : Option Work)
      → ComesToLeader words births rows seat number mail group r → mail.body ≡ Promise named ballot [] → IsUnbound r → works r ≡ listed work → KeepsStage births rows seat (Deliver number)

-- Another replica leads alone, and this one does not lead after its row; or none leads, and the group's newest states stay bound as they were.
pub data IsBeside (births : List (Seat Player)) (rows : Rows) (seat : Seat Player) (event : Event OrderLine) (group : Draw) (after : Place) : Type 0 where
  Led : (node : ℕ) (lead : ReplicaState) → LeadsAlone births rows group node lead → (node ≡ seat.who → ⊥) → after.0.running ≡ false → IsBeside births rows seat event group after
  Unled : IsUnled births rows seat event group after.0 → IsBeside births rows seat event group after

-- A mail comes to a replica that does not lead.
pub record ComesBeside (words : ℕ → ℕ → ℕ × ℕ) (births : List (Seat Player)) (rows : Rows) (seat : Seat Player) (number : ℕ) (mail : Mail) (group : Draw) (r : ReplicaState) : Type 0 where
  pub comes : ComesTo words births rows seat number mail group r
  pub beside : IsBeside births rows seat (Deliver number) group (mailed mail.from mail.body (r, [])).0

-- A mail comes to a node without a replica of its group.
pub record ComesToNone (words : ℕ → ℕ → ℕ × ℕ) (births : List (Seat Player)) (rows : Rows) (seat : Seat Player) (number : ℕ) (mail : Mail) (group : Draw) : Type 0 where
  pub node : NodeState
  pub taking : IsTaking words births rows seat number mail group node
  pub none : replica_of group node.replicas ≡ None

-- Which mails beside the leader keep an order under way: a question of its sender, which is sent back, also where there is no replica;
-- an Accept and a Prepare; an entry that is learnt; and a state that is taken over.
pub record AsidesKeep : Type 0 where
  pub offer : (words : ℕ → ℕ → ℕ × ℕ) (births : List (Seat Player)) (rows : Rows) (seat : Seat Player) (number : ℕ) (mail : Mail) (group : Draw) (r : ReplicaState) (tx : Draw) (offer : Offer)
      → ComesBeside words births rows seat number mail group r → mail.body ≡ TxPrepare tx offer → offer.by ≡ mail.from → r.running ≡ false → standing_vote r.group.core tx ≡ None → KeepsStage births rows seat (Deliver number)
  pub watch : (words : ℕ → ℕ → ℕ × ℕ) (births : List (Seat Player)) (rows : Rows) (seat : Seat Player) (number : ℕ) (mail : Mail) (group : Draw) (r : ReplicaState) (tx : Draw) (watch : Watch)
      → ComesBeside words births rows seat number mail group r → mail.body ≡ TxWatch tx watch → watch.by ≡ mail.from → r.running ≡ false → standing_vote r.group.core tx ≡ None → KeepsStage births rows seat (Deliver number)
  pub offer_missed : (words : ℕ → ℕ → ℕ × ℕ) (births : List (Seat Player)) (rows : Rows) (seat : Seat Player) (number : ℕ) (mail : Mail) (group : Draw) (tx : Draw) (offer : Offer)
      → ComesToNone words births rows seat number mail group → mail.body ≡ TxPrepare tx offer → offer.by ≡ mail.from → KeepsStage births rows seat (Deliver number)
  pub watch_missed : (words : ℕ → ℕ → ℕ × ℕ) (births : List (Seat Player)) (rows : Rows) (seat : Seat Player) (number : ℕ) (mail : Mail) (group : Draw) (tx : Draw) (watch : Watch)
      → ComesToNone words births rows seat number mail group → mail.body ≡ TxWatch tx watch → watch.by ≡ mail.from → KeepsStage births rows seat (Deliver number)
  pub accept : (words : ℕ → ℕ → ℕ × ℕ) (births : List (Seat Player)) (rows : Rows) (seat : Seat Player) (number : ℕ) (mail : Mail) (group : Draw) (r : ReplicaState) (named : Draw) (ballot : Ballot) (slot : ℕ) (command : Command)
      → ComesBeside words births rows seat number mail group r → mail.body ≡ Accept named ballot slot command → GoesOn ballot r → KeepsStage births rows seat (Deliver number)
  pub prepare : (words : ℕ → ℕ → ℕ × ℕ) (births : List (Seat Player)) (rows : Rows) (seat : Seat Player) (number : ℕ) (mail : Mail) (group : Draw) (r : ReplicaState) (named : Draw) (ballot : Ballot) (from_slot : ℕ)
      → ComesBeside words births rows seat number mail group r → mail.body ≡ Prepare named ballot from_slot → GoesOn ballot r → KeepsStage births rows seat (Deliver number)
  pub learn : (words : ℕ → ℕ → ℕ × ℕ) (births : List (Seat Player)) (rows : Rows) (seat : Seat Player) (number : ℕ) (mail : Mail) (group : Draw) (r : ReplicaState) (named : Draw) (slot : ℕ) (command : Command)
      → ComesBeside words births rows seat number mail group r → mail.body ≡ Learn named slot command → IsIdle r → KeepsStage births rows seat (Deliver number)
  pub install : (words : ℕ → ℕ → ℕ × ℕ) (births : List (Seat Player)) (rows : Rows) (seat : Seat Player) (number : ℕ) (mail : Mail) (group : Draw) (r : ReplicaState) (named : Draw) (slot : ℕ) (base : Base) (sets : List (List ℕ))
      → ComesBeside words births rows seat number mail group r → mail.body ≡ Install named slot base sets → IsIdle r → KeepsStage births rows seat (Deliver number)
