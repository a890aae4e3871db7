-- A leader's whole rows in the table, as rows of kind `Leads`.
use Rattle.std.specs.Prelude.{◌≡◌, ℕ, suc, ◌+◌, ◌<◌, ◌≤◌, ◌==◌, ◌||◌, not, nat_lt, Bool, true, false, List, [], length, if◌then◌else◌, Option, Some, None, is_some, ◌⊎◌}
use Rattle.std.specs.Option.{option_map}
use Rattle.sc_base.specs.Definitions.{Drawer, votes_of, is_majority, IsRoster, is_member}
use Rattle.sc_node_table.specs.Values.{Ballot, Command, OrderLine, MailBody, Request, Answer, Prepare, Promise, Accept, Accepted, Nack, Learn, Ask, Install, TxPrepare, TxVote, TxOutcome, TxElsewhere, TxWatch, TxWatched, Told, Chosen, Report}
use Rattle.sc_words.specs.paxos.PaxosDefinitions.{LeaderState, flight_at, kept_voters, counted}
use Rattle.sc_node_table.specs.declared.ReplicaInput.TheVariants as Given
use Rattle.sc_node_table.specs.NodeDefinitions.{executed_one, is_act, ReplicaState, Place, name_of, next, flying, mailed, stepped, at_slot, with_slot}
use Rattle.sc_law_walks.specs.WalkDefinitions.{GoesOn}
use Rattle.sc_live_steps.specs.following.MailUnderWay.{Mark, Asks, Votes, Promises, Course, Progress, Sets, members_at}
use Rattle.sc_live_steps.specs.following.CountedEntries.{IsLed, IsNext}
use Rattle.sc_live_steps.specs.following.ExecutedEntries.{AreNext}
use Rattle.sc_live_steps.specs.following.PaxosTables.{marks_for, IsInTime}
use Rattle.sc_live_steps.specs.following.LeaderRows.{Leads}

-- The nodes whose votes a running leader has counted for what is in flight at a slot; `None` where nothing is in flight, or the slot is executed or ready, or the replica does not run.
abbrev pub voters_of : ReplicaState → ℕ → Option (List ℕ)
voters_of r slot =
    if not r.running || (nat_lt slot (next r) || is_some (at_slot r.ready slot)) then None
    else option_map (λ flight. kept_voters flight.voters) (flight_at slot r.leader.flights)

-- The counted votes are no majority of these members, and each is the vote of a different member.
pub record IsPolled (members voters : List ℕ) : Type 0 where
  pub few : length voters ≤ votes_of members voters
  pub undecided : is_majority members voters ≡ false

-- The replica leads in its group's progress, and the progress is right about it:
-- its next slot, its promise, the votes counted for what it has in flight, and the promises counted.
pub record IsLeadOf (at : Sets) (now : Progress) (r : ReplicaState) : Type 0 where
  pub led : IsLed at now.course r
  pub newest : now.course.newest ≡ next r
  pub runs : now.course.running ≡ true
  pub stands : now.course.gone ≡ false
  pub executed : now.next r.me ≡ next r
  pub promise : now.promise r.me ≡ r.acceptor.promised
  pub voters : (slot : ℕ) → now.course.voters slot ≡ voters_of r slot
  pub polled : (slot : ℕ) (voters : List ℕ) → voters_of r slot ≡ Some voters → IsPolled (at slot) voters
  pub counted : (node : ℕ) → now.course.counted node ≡ is_member r.leader.promisers node

-- The progress after a row that leaves the leader as `r`, with this bound; all other nodes are where they were.
abbrev pub progress_by : ℕ → Progress → ReplicaState → Progress
progress_by bound now r = record {
  next = λ who. if who == r.me then next r else now.next who;
  promise = λ who. if who == r.me then r.acceptor.promised else now.promise who;
  course = record now.course { newest = next r; bound = bound; running = r.running; gone = is_some r.group.core.gone; voters = voters_of r; counted = λ node. is_member r.leader.promisers node };
}

-- A row of a replica that leads is of kind `Leads` in its group's progress. The replica is a member after each entry that it executes but the last,
-- counts no promise but one that it takes, and, if it leads on, leads in the progress after the row.
pub record LeadsInto (at : Sets) (now : Progress) (taken : Option Mark) (r : ReplicaState) (after : Place) : Type 0 where
  pub me : after.0.me ≡ r.me
  pub named : name_of after.0 ≡ name_of r
  pub bound : ℕ
  pub stayed : (slot : ℕ) → next r ≤ slot → suc slot < next after.0 → is_member (members_at at (slot + 1)) r.me ≡ true
  pub leads : Leads at now (progress_by bound now after.0) r.me taken (λ who. marks_for (name_of r) who after.1)
  pub promisers : after.0.running ≡ true → (who : ℕ) → is_member after.0.leader.promisers who ≡ true → (is_member r.leader.promisers who ≡ true) ⊎ (taken ≡ Some (Promises who now.course.ballot))
  pub goes_on : after.0.running ≡ true → IsLeadOf at (progress_by bound now after.0) after.0

-- This command, at the replica's next slot, and the entries ready behind it are each one that `IsNext` allows.
abbrev pub AreEntries : Sets → Command → Place → Type 0
AreEntries at command place = IsNext at command place.0 × AreNext at (executed_one true command place).0.ready (executed_one true command place)

-- If the replica leads no longer, it has executed all that was offered: what takes a leader out of its group, or ends the group, is offered alone.
abbrev pub StopsAlone : Course → ReplicaState → Type 0
StopsAlone course after = after.running ≡ false → next after ≡ course.bound

-- The mail is no Paxos mail of a group, or it is a Nack at which no leader stops.
abbrev pub IsAside : ReplicaState → MailBody → Type 0
IsAside r (Request group client seq op) = Unit {0}
IsAside r (Answer group seq answer) = Unit {0}
IsAside r (TxPrepare tx offer) = Unit {0}
IsAside r (TxVote tx coord part vote) = Unit {0}
IsAside r (TxOutcome tx part outcome) = Unit {0}
IsAside r (TxElsewhere tx coord hint) = Unit {0}
IsAside r (TxWatch tx watch) = Unit {0}
IsAside r (TxWatched tx coord part vote) = Unit {0}
IsAside r (Told order result) = Unit {0}
IsAside r (Nack group promised) = GoesOn promised r
IsAside r (Prepare group ballot from_slot) = ⊥
IsAside r (Promise group ballot reports) = ⊥
IsAside r (Accept group ballot slot command) = ⊥
IsAside r (Accepted group ballot slot) = ⊥
IsAside r (Learn group slot command) = ⊥
IsAside r (Ask group from_slot) = ⊥
IsAside r (Install group slot base sets) = ⊥

-- If this vote decides the replica's next slot, the command there and the entries ready behind it are each one that `IsNext` allows.
abbrev pub DecidesNext : Sets → ℕ → Ballot → ℕ → ReplicaState → Type 0
DecidesNext at from ballot slot r =
    (command : Command) (leader : LeaderState Command) → slot ≡ next r → counted from ballot slot (at slot) r.leader ≡ (Chosen command, leader)
    → AreEntries at command (record r { leader = leader; ready = with_slot r.ready slot command }, [])

-- Whatever a leading replica takes of votes, promises, requests, mails of transactions and orders, its row satisfies `LeadsInto`.
pub record RowsLead : Type 0 where
  pub votes : (at : Sets) (now : Progress) (from : ℕ) (ballot : Ballot) (slot : ℕ) (r : ReplicaState) → ((s : ℕ) → IsRoster (at s)) → IsLeadOf at now r → DecidesNext at from ballot slot r
      → StopsAlone now.course (mailed from (Accepted (name_of r) ballot slot) (r, [])).0.0 → LeadsInto at now (Some (Votes from ballot slot)) r (mailed from (Accepted (name_of r) ballot slot) (r, [])).0
  pub promises : (at : Sets) (now : Progress) (from : ℕ) (ballot : Ballot) (reports : List (Report Command)) (r : ReplicaState) → IsLeadOf at now r
      → LeadsInto at now (Some (Promises from ballot)) r (mailed from (Promise (name_of r) ballot reports) (r, [])).0
  pub asides : (at : Sets) (now : Progress) (from : ℕ) (body : MailBody) (r : ReplicaState) → IsLeadOf at now r → IsAside r body → LeadsInto at now None r (mailed from body (r, [])).0
  pub orders : (at : Sets) (now : Progress) (on : Bool) (drawer : Drawer) (line : OrderLine) (r : ReplicaState) → IsLeadOf at now r → LeadsInto at now None r (stepped on drawer (Given.Told line) (r, [])).0

-- The progress in which this replica has promised what it has.
abbrev pub promised_by : Progress → ReplicaState → Progress
promised_by now r = record now { promise = λ who. if who == r.me then r.acceptor.promised else now.promise who }

-- A leading replica still leads in its progress after it took its own accept request or its own Prepare.
pub record OwnRowsKeep : Type 0 where
  pub accept : (at : Sets) (now : Progress) (ballot : Ballot) (slot : ℕ) (command : Command) (r : ReplicaState) → IsLeadOf at now r → IsInTime (Asks ballot slot) r → GoesOn ballot r → r.acceptor.floor < next r
      → (let after : Place = (mailed ballot.node (Accept (name_of r) ballot slot command) (r, [])).0 in IsLeadOf at (promised_by now after.0) after.0)
  pub prepare : (at : Sets) (now : Progress) (ballot : Ballot) (from_slot : ℕ) (r : ReplicaState) → IsLeadOf at now r → GoesOn ballot r → r.acceptor.floor < from_slot
      → (let after : Place = (mailed ballot.node (Prepare (name_of r) ballot from_slot) (r, [])).0 in IsLeadOf at (promised_by now after.0) after.0)

-- If a command other than a call or a filler is in flight or ready, nothing else is.
abbrev pub ActsAlone : Course → ReplicaState → Type 0
ActsAlone course r =
    (slot : ℕ) (command : Command) → next r ≤ slot → (flying r slot ≡ Some command) ⊎ (at_slot r.ready slot ≡ Some command) → is_act command ≡ true → course.bound ≡ next r + 1

-- Where `ActsAlone` holds of a leader, each vote satisfies `StopsAlone`.
abbrev pub ActsStopAlone : Type 0
ActsStopAlone =
    (at : Sets) (now : Progress) (from : ℕ) (ballot : Ballot) (slot : ℕ) (r : ReplicaState) → ((s : ℕ) → IsRoster (at s)) → IsLeadOf at now r → DecidesNext at from ballot slot r → ActsAlone now.course r
    → StopsAlone now.course (mailed from (Accepted (name_of r) ballot slot) (r, [])).0.0
