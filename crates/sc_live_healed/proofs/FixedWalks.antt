-- What an invariant of a replica of a group that is not reshaped needs, together with the mails of its row: what holds of both, and that each part of a row keeps it. In such a group nobody joins or leaves, so a replica stops only for a greater ballot or a state that it takes over, and is elected only at a tick.
use Rattle.std.proofs.Common.{◌≡◌, ℕ, ◌+◌, ◌-◌, ◌<◌, ◌≤◌, nat_le, cond, true, false, List, [], ◌∷◌, ◌++◌, length, Some, None}
use Rattle.sc_base.specs.Definitions.{Each, is_member}
use Rattle.sc_node_table.specs.Values.{Ballot, Draw, Op, Command, Noop, Call, Base, Free, AnswerBody, Mail, MailBody, Request, Prepare, Promise, Accept, Accepted, Nack, Learn, Ask, Install, Chosen, NotYet, Report}
use Rattle.sc_words.specs.declared.paxos.answers.Must.TheVariants.{Value, Gap}
use Rattle.sc_group_table.specs.machine.MachineDefinitions.{base_of}
use Rattle.sc_words.specs.paxos.PaxosDefinitions.{IsAtLeast, reports_from, after_promise, after_accept, may_promise, may_accept, promise_counted, entry_at, counted, must, below}
use Rattle.sc_node_table.specs.NodeDefinitions.{stopped, offered, answered, answer_to, turned_down, sent, jumped, hinted, refused_at, ReplicaState, Place, name_of, next, taken_at, at_slot, with_slot, queued_number, without_request, flying, settled}
use Rattle.sc_law_walks.specs.WalkDefinitions.{GoesOn}
use Rattle.sc_law_walks.proofs.WalkLemmas.{entered_place, elected_place}
use Rattle.sc_live_healed.specs.HealedDefinitions.{IsFixedReplica, KeepsBallots, IsFixedBody}

-- a node is a member of the group
abbrev pub IsMember : Base → ℕ → Type 0
IsMember base node = is_member base.core.members node ≡ true

-- A group as it is at its birth: it is not locked and not gone, its first leader is a member, and so is this node.
pub record IsFresh (base : Base) (me : ℕ) : Type 0 where
  pub free : base.core.lock ≡ Free
  pub stands : base.core.gone ≡ None
  pub first : IsMember base base.core.first
  pub member : IsMember base me

-- a mail that a member sends, of a group that is not reshaped
abbrev pub IsSaid : Base → ℕ → Mail → Type 0
IsSaid base me mail = (mail.from ≡ me) × IsFixedBody base me mail.to mail.body

-- A replica of the node, of a group that is not reshaped, with the mails of its row.
pub record IsFixedPlace (base : Base) (me : ℕ) (place : Place) : Type 0 where
  pub me_is : place.0.me ≡ me
  pub fixed : IsFixedReplica base place.0
  pub ballots : KeepsBallots base place.0
  pub said : Each (IsSaid base me) place.1

-- One invariant of replicas of such a group with their mails: what holds of the replica that a row finds, what holds of replicas and mails, what is heard, and that each part of a row that is no tick keeps it.
pub record FixedWalk (base : Base) (me : ℕ) : Type 1 where
  pub fresh : IsFresh base me
  pub First : ReplicaState → Type 0
  pub P : Place → Type 0
  pub Hears : ℕ → MailBody → Type 0
  pub Sees : Ballot → Type 0
  pub frame : (place : Place) → P place → IsFixedPlace base me place
  pub heard : (from : ℕ) (body : MailBody) → Hears from body → IsFixedBody base from me body
  pub prepare_seen : (from : ℕ) (group : Draw) (ballot : Ballot) (from_slot : ℕ) → Hears from (Prepare group ballot from_slot) → Sees ballot
  pub accept_seen : (from : ℕ) (group : Draw) (ballot : Ballot) (slot : ℕ) (command : Command) → Hears from (Accept group ballot slot command) → Sees ballot
  pub nack_seen : (from : ℕ) (group : Draw) (promised : Ballot) → Hears from (Nack group promised) → Sees promised
  -- what is offered at an open slot, and a request that gets no slot
  pub turned : (command : Command) (answer : AnswerBody) (backlog : List Command) (r : ReplicaState) (mails : List Mail) → r.running ≡ true → r.backlog ≡ command ∷ backlog → turned_down r.group.core command ≡ Some answer → P (r, mails)
      → P (record r { backlog = backlog }, answered r.me r.group.core.id answer command mails)
  pub offers_value : (slot : ℕ) (set : List ℕ) (command : Command) (r : ReplicaState) (mails : List Mail) → r.running ≡ true → next r ≤ slot → slot < next r + length r.sets → taken_at r slot ≡ None → must slot r.leader ≡ Value command → Each (IsMember base) set → P (r, mails) → P (offered slot set command (r, mails))
  pub offers_noop : (slot : ℕ) (set : List ℕ) (r : ReplicaState) (mails : List Mail) → r.running ≡ true → next r ≤ slot → slot < next r + length r.sets → taken_at r slot ≡ None → must slot r.leader ≡ Gap → Each (IsMember base) set → P (r, mails) → P (offered slot set Noop (r, mails))
  pub offers_call : (slot : ℕ) (set : List ℕ) (command : Command) (backlog : List Command) (r : ReplicaState) (mails : List Mail) → r.running ≡ true → next r ≤ slot → slot < next r + length r.sets → taken_at r slot ≡ None → r.backlog ≡ command ∷ backlog → Each (IsMember base) set → P (r, mails)
      → P (offered slot set command (record r { backlog = backlog }, mails))
  -- entries
  pub counted_entry : (command : Command) (r : ReplicaState) (mails : List Mail) → r.running ≡ true → at_slot r.ready (next r) ≡ Some command → P (r, mails) → P (entered_place true command (r, mails))
  pub learnt_entry : (from : ℕ) (group : Draw) (command : Command) (r : ReplicaState) (mails : List Mail) → Hears from (Learn group (next r) command) → First r → P (r, mails) → P (entered_place false command (r, mails))
  -- leaders
  pub seen : (ballot : Ballot) (r : ReplicaState) (mails : List Mail) → Sees ballot → below r.top ballot ≡ true → GoesOn ballot r → P (r, mails) → P (record r { top = ballot }, mails)
  pub overtaken : (ballot : Ballot) (r : ReplicaState) (mails : List Mail) → Sees ballot → r.running ≡ true → below r.leader.ballot ballot ≡ true → P (r, mails) → P (stopped (Some ballot.node) (cond (below r.top ballot) (record r { top = ballot }) r, mails))
  pub polled : (from : ℕ) (group : Draw) (ballot : Ballot) (reports : List (Report Command)) (r : ReplicaState) (mails : List Mail) → r.running ≡ true → Hears from (Promise group ballot reports) → P (r, mails) → P (record r { leader = (promise_counted from ballot reports r.leader).1 }, mails)
  pub counts : (from : ℕ) (group : Draw) (ballot : Ballot) (slot : ℕ) (set : List ℕ) (count : ℕ) (r : ReplicaState) (mails : List Mail) → r.running ≡ true → Hears from (Accepted group ballot slot) → (counted from ballot slot set r.leader).0 ≡ NotYet count → P (r, mails) → P (record r { leader = (counted from ballot slot set r.leader).1 }, mails)
  pub chosen : (from : ℕ) (group : Draw) (ballot : Ballot) (slot : ℕ) (set : List ℕ) (command : Command) (r : ReplicaState) (mails : List Mail) → r.running ≡ true → Hears from (Accepted group ballot slot) → (counted from ballot slot set r.leader).0 ≡ Chosen command → P (r, mails)
      → P (record r { leader = (counted from ballot slot set r.leader).1; ready = with_slot r.ready slot command }, mails)
  -- acceptors
  pub promised : (from : ℕ) (group : Draw) (ballot : Ballot) (from_slot : ℕ) (r : ReplicaState) (mails : List Mail) → Hears from (Prepare group ballot from_slot) → IsAtLeast r.top ballot → GoesOn ballot r → may_promise r.acceptor ballot ≡ true → P (r, mails)
      → P (hinted ballot (record r { acceptor = after_promise ballot r.acceptor }), sent r.me from (Promise (name_of r) ballot (reports_from from_slot r.acceptor.accepted)) mails)
  pub accepted : (from : ℕ) (group : Draw) (report : Report Command) (r : ReplicaState) (mails : List Mail) → Hears from (Accept group report.ballot report.slot report.value) → IsAtLeast r.top report.ballot → GoesOn report.ballot r → may_accept r.acceptor report.ballot ≡ true → P (r, mails)
      → P (hinted report.ballot (record r { acceptor = after_accept report r.acceptor }), sent r.me from (Accepted (name_of r) report.ballot report.slot) mails)
  pub nacks : (to : ℕ) (r : ReplicaState) (mails : List Mail) → IsMember base to → P (r, mails) → P (r, sent r.me to (Nack (name_of r) r.acceptor.promised) mails)
  -- entries and states that are sent
  pub installs : (to : ℕ) (r : ReplicaState) (mails : List Mail) → IsMember base to → P (r, mails) → P (r, sent r.me to (Install (name_of r) (next r - 1) (base_of r.group) r.sets) mails)
  pub recalls : (to from_slot slot : ℕ) (group : Draw) (command : Command) (r : ReplicaState) (mails : List Mail) → Hears to (Ask group from_slot) → IsMember base to → entry_at slot r.log ≡ Some command → P (r, mails) → P (r, sent r.me to (Learn (name_of r) slot command) mails)
  pub wants : (to slot : ℕ) (group : Draw) (command : Command) (r : ReplicaState) (mails : List Mail) → Hears to (Learn group slot command) → IsMember base to → next r < slot → P (r, mails) → P (r, sent r.me to (Ask (name_of r) (next r)) mails)
  -- a state that is taken over
  pub stops : (from : ℕ) (r : ReplicaState) (mails : List Mail) → IsMember base from → r.running ≡ true → P (r, mails) → P (stopped (Some from) (r, mails))
  pub jumps : (from : ℕ) (group : Draw) (slot : ℕ) (sent : Base) (sets : List (List ℕ)) (r : ReplicaState) (mails : List Mail) → Hears from (Install group slot sent sets) → next r ≤ slot → r.running ≡ false → P (r, mails) → P (record (jumped slot sent sets r) { hint = Some from }, mails)
  -- requests
  pub refuses : (from : ℕ) (group : Draw) (client seq : ℕ) (op : Op) (answer : AnswerBody) (r : ReplicaState) (mails : List Mail) → Hears from (Request group client seq op) → refused_at r.group.core.gone op r ≡ Some answer → P (r, mails) → P (r, answer_to r.me (name_of r) client seq answer mails)
  pub requested : (from : ℕ) (group : Draw) (client seq : ℕ) (op : Op) (r : ReplicaState) (mails : List Mail) → Hears from (Request group client seq op) → refused_at r.group.core.gone op r ≡ None → queued_number r.backlog client ≡ None → P (r, mails) → P (record r { backlog = r.backlog ++ Call client seq op ∷ [] }, mails)
  pub requested_again : (from : ℕ) (group : Draw) (client seq other : ℕ) (op : Op) (r : ReplicaState) (mails : List Mail) → Hears from (Request group client seq op) → refused_at r.group.core.gone op r ≡ None → queued_number r.backlog client ≡ Some other → nat_le seq other ≡ false → P (r, mails)
      → P (record r { backlog = without_request r.backlog client ++ Call client seq op ∷ [] }, mails)

-- That what is said again at a tick keeps the invariant.
pub record FixedAskParts (base : Base) (me : ℕ) (P : Place → Type 0) : Type 0 where
  pub reasks : (to slot : ℕ) (command : Command) (r : ReplicaState) (mails : List Mail) → IsMember base to → r.running ≡ true → flying r slot ≡ Some command → P (r, mails) → P (r, sent r.me to (Accept (name_of r) r.leader.ballot slot command) mails)
  pub relearns : (to : ℕ) (command : Command) (r : ReplicaState) (mails : List Mail) → IsMember base to → settled r ≡ true → entry_at (next r - 1) r.log ≡ Some command → P (r, mails) → P (r, sent r.me to (Learn (name_of r) (next r - 1) command) mails)

-- That ticks keep the invariant: elections, and what is said again.
pub record FixedTickParts (base : Base) (me : ℕ) (P : Place → Type 0) : Type 0 where
  pub elected : (r : ReplicaState) (mails : List Mail) → settled r ≡ false → P (r, mails) → P (elected_place (r, mails))
  pub asks : FixedAskParts base me P
