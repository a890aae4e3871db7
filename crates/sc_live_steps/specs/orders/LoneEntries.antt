-- What a leader's table does by an entry of an order that it counted alone, and by an order that it is given.
use Rattle.std.specs.Prelude.{◌≡◌, ℕ, true, false, [], ◌∷◌, List, Option, Some, None, ◌⊎◌}
use Rattle.sc_base.specs.Definitions.{Drawer, next_name, is_member}
use Rattle.sc_node_table.specs.Values.{Ballot, Draw, Command, Base, OrderLine, OrderRefusal, Accept, Accepted, Install, Learn, Nack, Prepare, Promise, Flight}
use Rattle.sc_law_walks.specs.WalkDefinitions.{GoesOn}
use Rattle.sc_group_table.specs.machine.MachineDefinitions.{applied}
use Rattle.sc_node_table.specs.NodeDefinitions.{executed, ordered_command, ordered_row, untaken, ReplicaState, Place, next, listed, mailed, before_of, went_on}
use Rattle.sc_live_steps.specs.orders.Scenes.{Work, IsOnly}
use Rattle.sc_live_steps.specs.orders.Parts.{work_by, works_in, works, errands_for}
use Rattle.sc_live_steps.specs.orders.Stages.{IsOrder}
use Rattle.sc_live_steps.specs.orders.OrderTables.{IsUnbound, Works, MayFile}

-- A leader with one command, ready at its next slot: nothing is in flight, no other work waits, and no report binds it.
pub record IsLone (command : Command) (r : ReplicaState) : Type 0 where
  pub running : r.running ≡ true
  pub unbound : IsUnbound r
  pub ready : r.ready ≡ (next r, command) ∷ []
  pub flights : r.leader.flights ≡ []
  pub acts : works_in r.acts ≡ []
  pub backlog : works_in r.backlog ≡ []

-- The leader executes the command. It has no work then, sends the errands by which the transaction goes on and no others, and leads on where it stays a member of a group that stands.
pub record RunsAlone (command : Command) (r : ReplicaState) (after : Place) : Type 0 where
  pub group : after.0.group ≡ (applied r.group command).0
  pub me : after.0.me ≡ r.me
  pub work : works after.0 ≡ []
  pub sends : (name : Draw) → errands_for name after.1 ≡ errands_for name (went_on r.me (applied r.group command).0 (before_of r.group.core) (applied r.group command).1 command [])
  pub leads : (applied r.group command).0.core.gone ≡ None → is_member (applied r.group command).0.core.members r.me ≡ true → after.0.running ≡ true

-- A leader's table does what `RunsAlone` says, by each command that is work of an order.
abbrev pub EntriesRunAlone : Type 0
EntriesRunAlone = (command : Command) (work : Work) (r : ReplicaState) → IsLone command r → work_by command ≡ Some work → RunsAlone command r (executed true command (r, [])).0

-- An order that a leader takes is its one work after the row; one that it refuses leaves its work as it was.
pub record TablesOrder : Type 0 where
  pub taken : (drawer : Drawer) (line : OrderLine) (r : ReplicaState) → MayFile r → untaken drawer line r ≡ None
      → (order : Work) × IsOrder order × (work_by (ordered_command (next_name drawer) line.number line.order) ≡ Some order) × Works (order ∷ []) [] r (ordered_row drawer line (r, []))
  pub refused : (drawer : Drawer) (line : OrderLine) (why : OrderRefusal) (r : ReplicaState) → untaken drawer line r ≡ Some why → Works (works r) [] r (ordered_row drawer line (r, []))

-- A leader with one command, in flight at its next slot: nothing is ready, no other work waits, and no report binds it.
pub record FliesLone (flight : Flight Command) (r : ReplicaState) : Type 0 where
  pub running : r.running ≡ true
  pub unbound : IsUnbound r
  pub flights : r.leader.flights ≡ flight ∷ []
  pub here : flight.slot ≡ next r
  pub ready : r.ready ≡ []
  pub acts : works_in r.acts ≡ []
  pub backlog : works_in r.backlog ≡ []

-- The leader executes the command in flight, as one that is ready alone.
pub record Decides (flight : Flight Command) (r : ReplicaState) (after : Place) : Type 0 where
  pub readied : ReplicaState
  pub lone : IsLone flight.value readied
  pub group : readied.group ≡ r.group
  pub me : readied.me ≡ r.me
  pub fact : after ≡ (executed true flight.value (readied, [])).0

-- A vote at a leader with one command in flight leaves its work as it was, or decides the command.
abbrev pub VotesCountAlone : Type 0
VotesCountAlone =
    (from : ℕ) (group : Draw) (ballot : Ballot) (slot : ℕ) (flight : Flight Command) (r : ReplicaState) → FliesLone flight r
    → Works (works r) [] r (mailed from (Accepted group ballot slot) (r, [])).0 ⊎ Decides flight r (mailed from (Accepted group ballot slot) (r, [])).0

-- A replica that does not run and has no work.
pub record IsIdle (r : ReplicaState) : Type 0 where
  pub stopped : r.running ≡ false
  pub acts : works_in r.acts ≡ []
  pub backlog : works_in r.backlog ≡ []
  pub flights : r.leader.flights ≡ []
  pub ready : r.ready ≡ []

-- After the row the replica has no work, and the row sends no errand.
pub record Rested (after : Place) : Type 0 where
  pub work : works after.0 ≡ []
  pub sends : IsOnly [] [] (λ name. errands_for name after.1)

-- Mail of Paxos does nothing of an order. An Accept, a Prepare and a Nack leave the work of a replica that does not stop by them.
-- An entry that is learnt and a state that is taken over make no work, also where they elect the replica.
pub record TablesRest : Type 0 where
  pub accept : (from : ℕ) (group : Draw) (ballot : Ballot) (slot : ℕ) (command : Command) (r : ReplicaState) → GoesOn ballot r → Works (works r) [] r (mailed from (Accept group ballot slot command) (r, [])).0
  pub prepare : (from : ℕ) (group : Draw) (ballot : Ballot) (from_slot : ℕ) (r : ReplicaState) → GoesOn ballot r → Works (works r) [] r (mailed from (Prepare group ballot from_slot) (r, [])).0
  pub nack : (from : ℕ) (group : Draw) (ballot : Ballot) (r : ReplicaState) → GoesOn ballot r → Works (works r) [] r (mailed from (Nack group ballot) (r, [])).0
  pub learn : (from : ℕ) (group : Draw) (slot : ℕ) (command : Command) (r : ReplicaState) → IsIdle r → Rested (mailed from (Learn group slot command) (r, [])).0
  pub install : (from : ℕ) (group : Draw) (slot : ℕ) (base : Base) (sets : List (List ℕ)) (r : ReplicaState) → IsIdle r → Rested (mailed from (Install group slot base sets) (r, [])).0

-- A promise without reports leaves a leader's one work, or none, as it was.
abbrev pub PromisesKeepWork : Type 0
PromisesKeepWork =
    (from : ℕ) (group : Draw) (ballot : Ballot) (work : Option Work) (r : ReplicaState) → IsUnbound r → works r ≡ listed work → Works (listed work) [] r (mailed from (Promise group ballot []) (r, [])).0
