-- A replica's table takes the Paxos mail of its group as the marks of the mail say.
use Rattle.std.specs.Prelude.{◌≡◌, ℕ, suc, ◌+◌, ◌-◌, ◌^◌, ◌<◌, ◌≤◌, ◌==◌, true, false, List, [], ◌∷◌, ◌++◌, length, filter, if◌then◌else◌, Some, None, ◌⊎◌}
use Rattle.sc_node_table.specs.Values.{Ballot, Draw, Command, Base, Route, Mail, Prepare, Accept, Learn, Install}
use Rattle.sc_base.specs.Definitions.{IsRoster, is_member, least_of}
use Rattle.sc_node_table.specs.NodeDefinitions.{open_nodes, entered, learnt_to, welcomed, is_among, ReplicaState, Place, name_of, next, members, first_ballot, last_slot, mailed, made_by}
use Rattle.sc_words.specs.paxos.PaxosDefinitions.{new_leader}
use Rattle.sc_live_steps.specs.following.MailUnderWay.{Mark, Asks, Teaches, Installs, Prepares, marks_of, next_by, promise_by, IsFit, Course, Sets, members_at}
use Rattle.sc_live_steps.specs.following.LeaderRows.{answered, reported_of}
use Rattle.sc_law_walks.specs.WalkDefinitions.{GoesOn}

-- The marks, for a group, of the mails to one node.
abbrev pub marks_for : Draw → ℕ → List Mail → List Mark
marks_for name who mails = marks_of name (filter (λ mail. mail.to == who) mails)

-- A replica takes a mail as its mark says: its next slot and its promise change by it, and it sends the answer.
-- What it leads stays as it is, and what its acceptor has forgotten stays below its next slot.
pub record StepsBy (mark : Mark) (r : ReplicaState) (after : Place) : Type 0 where
  pub reaches : next after.0 ≡ next_by (next r) mark
  pub promises : after.0.acceptor.promised ≡ promise_by r.acceptor.promised mark
  pub runs : after.0.running ≡ r.running
  pub leads : r.running ≡ true → (after.0.leader ≡ r.leader) × (after.0.ready ≡ r.ready)
  pub answers : (who : ℕ) → marks_for (name_of r) who after.1 ≡ answered r.me r.acceptor.promised mark who
  pub low : r.acceptor.floor < next r → after.0.acceptor.floor < next after.0

-- A mail with this mark comes in time to the replica (`IsFit`).
abbrev pub IsInTime : Mark → ReplicaState → Type 0
IsInTime mark r = IsFit (next r) r.acceptor.promised mark

-- The replica does not elect itself: it takes a member for the leader, or is not the least member, or its group is gone.
abbrev pub Stays : ReplicaState → Type 0
Stays r = (is_among (members r) r.hint ≡ true) ⊎ ((least_of (members r) ≡ r.me → ⊥) ⊎ ((into : Route) × (r.group.core.gone ≡ Some into)))

-- A replica's table takes each mail that comes in time as its mark says.
-- An Accept or a Prepare must not stop a leader, and must be above what the acceptor has forgotten; an entry and a state are taken by a replica that does not run.
pub record TablesFollow : Type 0 where
  pub accept : (ballot : Ballot) (slot : ℕ) (command : Command) (r : ReplicaState) → IsInTime (Asks ballot slot) r → GoesOn ballot r → r.acceptor.floor < next r
      → StepsBy (Asks ballot slot) r (mailed ballot.node (Accept (name_of r) ballot slot command) (r, [])).0
  pub prepare : (ballot : Ballot) (from_slot : ℕ) (r : ReplicaState) → IsInTime (Prepares ballot) r → GoesOn ballot r → r.acceptor.floor < from_slot
      → StepsBy (Prepares ballot) r (mailed ballot.node (Prepare (name_of r) ballot from_slot) (r, [])).0
  pub learn : (from slot : ℕ) (command : Command) (r : ReplicaState) → IsInTime (Teaches slot) r → r.running ≡ false → r.leader.flights ≡ [] → slot ≤ last_slot → Stays (entered command r)
      → StepsBy (Teaches slot) r (mailed from (Learn (name_of r) slot command) (r, [])).0
  pub install : (from slot : ℕ) (base : Base) (sets : List (List ℕ)) (r : ReplicaState) → IsInTime (Installs slot) r → r.running ≡ false → slot ≤ last_slot → length sets ≡ length r.sets
      → is_member base.core.members from ≡ true → StepsBy (Installs slot) r (mailed from (Install (name_of r) slot base sets) (r, [])).0

-- A replica that a node creates from a state has executed what the state says, has promised the group's first ballot, does not run, and sends nothing.
pub record StatesMake : Type 0 where
  pub reaches : (me from : ℕ) (group : Draw) (slot : ℕ) (base : Base) (sets : List (List ℕ)) → is_member base.core.members from ≡ true → next (made_by me from group slot base sets).0 ≡ next_by 0 (Installs slot)
  pub promises : (me from : ℕ) (group : Draw) (slot : ℕ) (base : Base) (sets : List (List ℕ)) → is_member base.core.members from ≡ true → (made_by me from group slot base sets).0.acceptor.promised ≡ first_ballot base.core
  pub runs : (me from : ℕ) (group : Draw) (slot : ℕ) (base : Base) (sets : List (List ℕ)) → is_member base.core.members from ≡ true → (made_by me from group slot base sets).0.running ≡ false
  pub low : (me from : ℕ) (group : Draw) (slot : ℕ) (base : Base) (sets : List (List ℕ)) → is_member base.core.members from ≡ true → (made_by me from group slot base sets).0.acceptor.floor < next (made_by me from group slot base sets).0
  pub sends : (me from : ℕ) (group : Draw) (slot : ℕ) (base : Base) (sets : List (List ℕ)) → is_member base.core.members from ≡ true → (made_by me from group slot base sets).1 ≡ []

-- What lets a replica elect itself after an entry: its group stands, it is the least member, it takes no member for the leader, and it has a later round.
pub record MayElect (r : ReplicaState) : Type 0 where
  pub stands : r.group.core.gone ≡ None
  pub hint : is_among (members r) r.hint ≡ false
  pub least : least_of (members r) ≡ r.me
  pub round : r.top.round < 2 ^ 32 - 1

-- The ballot with which the replica elects itself: the round after that of its `top`, and its own number.
abbrev pub next_ballot : ReplicaState → Ballot
next_ballot r = record { round = r.top.round + 1; node = r.me }

-- The replica runs with its next ballot, with nothing in flight or ready and no promise counted, and sends a Prepare to each node that decides an open slot.
pub record ElectsBy (slot : ℕ) (open_sets : List (List ℕ)) (r : ReplicaState) (after : Place) : Type 0 where
  pub reaches : next after.0 ≡ suc slot
  pub promises : after.0.acceptor.promised ≡ r.acceptor.promised
  pub runs : after.0.running ≡ true
  pub leads : after.0.leader ≡ new_leader (next_ballot r) (suc slot)
  pub ready : after.0.ready ≡ []
  pub low : r.acceptor.floor < next r → after.0.acceptor.floor < next after.0
  pub asks : (who : ℕ) → marks_for (name_of r) who after.1 ≡ (if is_member (open_nodes open_sets) who then Prepares (next_ballot r) ∷ [] else [])

-- A replica's table elects the replica when it learns an entry after which `MayElect` holds and the group has the same name.
abbrev pub TablesElect : Type 0
TablesElect =
    (from slot : ℕ) (command : Command) (r : ReplicaState) → IsInTime (Teaches slot) r → r.running ≡ false → r.leader.flights ≡ [] → slot ≤ last_slot → MayElect (entered command r) → name_of (entered command r) ≡ name_of r
    → ElectsBy slot (entered command r).sets r (mailed from (Learn (name_of r) slot command) (r, [])).0

-- A replica that leads in a group's course, after the entry at a slot, before which `before` were the members.
pub record IsLeader (at : Sets) (course : Course) (before : List ℕ) (slot : ℕ) (r : ReplicaState) : Type 0 where
  pub executed : next r ≡ slot + 1
  pub ballot : r.leader.ballot ≡ course.ballot
  pub first : r.leader.is_first ≡ course.is_first
  pub mine : course.ballot.node ≡ r.me
  pub member : is_member before r.me ≡ true
  pub was : members_at at slot ≡ before
  pub fact : members_at at (slot + 1) ≡ members r
  pub rosters : IsRoster before × IsRoster (members r)

-- What a leader sends because of an entry that it counted is `reported_of`, for each receiver.
abbrev pub EntriesReport : Type 0
EntriesReport =
    (at : Sets) (course : Course) (before : List ℕ) (slot : ℕ) (command : Command) (r : ReplicaState) (mails : List Mail) → IsLeader at course before slot r
    → (who : ℕ) → marks_for (name_of r) who (welcomed true before (learnt_to true before slot command (r, mails))).1 ≡ marks_for (name_of r) who mails ++ reported_of at course slot who
