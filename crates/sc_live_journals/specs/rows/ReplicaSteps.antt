-- A row of a replica's table as a row of its group's progress: the node takes a mail, leads, elects itself, or does nothing.
use Rattle.std.specs.Prelude.{◌≡◌, ℕ, suc, ◌<◌, true, false, List, [], length, Some, None, is_some}
use Rattle.sc_node_table.specs.Values.{Ballot, Base, OrderLine, Promise, Accepted, Seat, Event, Command, Report}
use Rattle.sc_base.specs.Definitions.{is_member, least_of}
use Rattle.sc_actor.specs.Definitions.{mails}
use Rattle.sc_words.specs.paxos.PaxosDefinitions.{below}
use Rattle.sc_node_table.specs.NodeDefinitions.{is_node, ReplicaState, Place, name_of, next, first_ballot, mailed, made_by, slots_ahead, leads}
use Rattle.sc_meaning.specs.sound.SoundDefinitions.{Player}
use Rattle.sc_live_steps.specs.calm.CalmDefinitions.{Rows}
use Rattle.sc_live_steps.specs.following.FollowingDefinitions.{Mark, Votes, Teaches, Installs, Promises, Course, Sets, members_at, voters_of, IsLeadOf, LeadsInto, AreAt, IsCount, IsIdle, Takes, Leads, Elects, marks_for, StepsBy, ElectsBy, next_ballot}
use Rattle.sc_live_journals.specs.rows.Groups.{progress_at, taken_mark}
use Rattle.sc_live_journals.specs.rows.PlayerRows.{with_event, IsKind, IsReplicasRow}

-- If no node leads a group that stands, and this one is to lead next, its next slot is still below the group's newest one.
abbrev pub WaitsStill : Sets → Course → ℕ → ℕ → Type 0
WaitsStill at course node next = course.running ≡ false → course.gone ≡ false → node ≡ least_of (members_at at course.newest) → next < course.newest

-- A replica that takes a mail as its mark says does so in its group,
-- if it does not lead where the mark is a vote or a promise, and does not execute the last entry where it is to lead next.
abbrev pub StepsTake : Type 0
StepsTake =
    (at : Sets) (births : List (Seat Player)) (rows : Rows) (seat : Seat Player) (event : Event OrderLine) (base : Base) (course : Course) (mark : Mark) (r : ReplicaState) (after : Place)
    → IsReplicasRow births rows seat event base.core.id (Some r) after → name_of r ≡ base.core.id → r.me ≡ seat.who → taken_mark base.core.id (mails rows) event ≡ Some mark → StepsBy mark r after
    → (course.running ≡ true → seat.who ≡ course.ballot.node → IsCount mark → ⊥) → WaitsStill at course seat.who (next after.0)
    → IsKind (Takes at) births rows seat event base course course

-- A node that creates a replica from a state, sent by a member, takes that mail in its group.
abbrev pub StatesTake : Type 0
StatesTake =
    (at : Sets) (births : List (Seat Player)) (rows : Rows) (seat : Seat Player) (event : Event OrderLine) (base : Base) (course : Course) (me from slot : ℕ) (state : Base) (sets : List (List ℕ))
    → IsReplicasRow births rows seat event base.core.id None (made_by me from base.core.id slot state sets) → taken_mark base.core.id (mails rows) event ≡ Some (Installs slot) → first_ballot state.core ≡ first_ballot base.core → is_member state.core.members from ≡ true
    → WaitsStill at course seat.who (suc slot)
    → IsKind (Takes at) births rows seat event base course course

-- A vote and a promise that no leader counts change nothing and are not answered.
pub record UncountedPass : Type 0 where
  pub vote : (from : ℕ) (ballot : Ballot) (slot : ℕ) (r : ReplicaState) → leads ballot r ≡ false → StepsBy (Votes from ballot slot) r (mailed from (Accepted (name_of r) ballot slot) (r, [])).0
  pub promise : (from : ℕ) (ballot : Ballot) (reports : List (Report Command)) (r : ReplicaState) → leads ballot r ≡ false → StepsBy (Promises from ballot) r (mailed from (Promise (name_of r) ballot reports) (r, [])).0

-- The course of a group after a node elected itself with this ballot.
abbrev pub elected_course : Course → Ballot → Course
elected_course course ballot = record { newest = course.newest; bound = course.bound; ballot = ballot; is_first = false; running = true; gone = false; voters = λ slot. None; counted = λ node. false }

-- No node leads the group, which stands; the replica is the least member, executes the last entry, and has a later ballot;
-- these are the members of the slots that are open then, all of them nodes.
pub record IsToLead (at : Sets) (course : Course) (slot : ℕ) (open_sets : List (List ℕ)) (r : ReplicaState) : Type 0 where
  pub idle : course.running ≡ false
  pub stands : course.gone ≡ false
  pub last : suc slot ≡ course.newest
  pub least : r.me ≡ least_of (members_at at course.newest)
  pub later : below course.ballot (next_ballot r) ≡ true
  pub opens : AreAt at course.newest open_sets
  pub many : length open_sets ≡ slots_ahead
  pub nodes : (slot node : ℕ) → is_member (at slot) node ≡ true → is_node node ≡ true

-- A replica that is to lead, and elects itself in its table, elects itself in its group.
abbrev pub StepsElect : Type 0
StepsElect =
    (at : Sets) (births : List (Seat Player)) (rows : Rows) (seat : Seat Player) (event : Event OrderLine) (base : Base) (course : Course) (slot : ℕ) (open_sets : List (List ℕ)) (r : ReplicaState) (after : Place)
    → IsReplicasRow births rows seat event base.core.id (Some r) after → name_of r ≡ base.core.id → r.me ≡ seat.who → taken_mark base.core.id (mails rows) event ≡ Some (Teaches slot) → ElectsBy slot open_sets r after → IsToLead at course slot open_sets r
    → IsKind (Elects at) births rows seat event base course (elected_course course (next_ballot r))

-- A replica that stays where it is, and sends no Paxos mail of the group, does nothing in it, if it takes no Paxos mail of it.
abbrev pub StillIdle : Type 0
StillIdle =
    (births : List (Seat Player)) (rows : Rows) (seat : Seat Player) (event : Event OrderLine) (base : Base) (course : Course) (r : ReplicaState) (after : Place)
    → IsReplicasRow births rows seat event base.core.id (Some r) after → taken_mark base.core.id (mails rows) event ≡ None → next after.0 ≡ next r → after.0.acceptor.promised ≡ r.acceptor.promised → ((who : ℕ) → marks_for base.core.id who after.1 ≡ [])
    → IsKind IsIdle births rows seat event base course course

-- The course of a group after a row that leaves its leader as `r`, with this bound.
abbrev pub led_course : ℕ → Course → ReplicaState → Course
led_course bound course r = record course { newest = next r; bound = bound; running = r.running; gone = is_some r.group.core.gone; voters = voters_of r; counted = λ node. is_member r.leader.promisers node }

-- The leader's row is of kind `Leads` in its group; if the replica leads on, it does so in the group's course after the row.
pub record LedBy (at : Sets) (births : List (Seat Player)) (rows : Rows) (seat : Seat Player) (event : Event OrderLine) (base : Base) (course : Course) (after : Place) : Type 0 where
  pub bound : ℕ
  pub leads : IsKind (Leads at) births rows seat event base course (led_course bound course after.0)
  pub goes_on : after.0.running ≡ true → IsLeadOf at (progress_at births (with_event rows seat event) base (led_course bound course after.0)) after.0

-- A leader's row in its table is one in its group (`LedBy`), whatever the leader takes.
abbrev pub StepsLead : Type 0
StepsLead =
    (at : Sets) (births : List (Seat Player)) (rows : Rows) (seat : Seat Player) (event : Event OrderLine) (base : Base) (course : Course) (r : ReplicaState) (after : Place)
    → IsReplicasRow births rows seat event base.core.id (Some r) after → name_of r ≡ base.core.id → r.me ≡ seat.who
    → LeadsInto at (progress_at births rows base course) (taken_mark base.core.id (mails rows) event) r after → LedBy at births rows seat event base course after
