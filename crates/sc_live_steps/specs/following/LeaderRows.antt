-- What one row does between the leader of a group and its nodes, and that each kind of row keeps `IsFollowing`.
use Rattle.std.specs.Prelude.{◌≡◌, ℕ, zero, suc, ◌+◌, ◌<◌, ◌≤◌, ◌==◌, ◌&&◌, true, false, List, [], ◌∷◌, ◌++◌, Option, Some, None, ◌⊎◌, if◌then◌else◌}
use Rattle.sc_base.specs.Definitions.{Among, Each, IsRoster, is_member, least_of}
use Rattle.sc_node_table.specs.Values.{Ballot}
use Rattle.sc_node_table.specs.NodeDefinitions.{listed, slots_ahead}
use Rattle.sc_words.specs.paxos.PaxosDefinitions.{below}
use Rattle.sc_live_steps.specs.following.MailUnderWay.{Mark, Asks, Votes, Teaches, Installs, Prepares, Promises, next_by, promise_by, Course, Progress, Sets, members_at, IsOpen, IsInFlight, IsFollowing}

-- A row of a node that takes a mail of the group, or none: the other nodes stay where they are, and what the row sends to each node is appended to its mail.
pub record IsRow (now after : Progress) (node : ℕ) (taken : Option Mark) (sent marks marks_after : ℕ → List Mark) : Type 0 where
  pub left : List Mark
  pub takes : marks node ≡ listed taken ++ left
  pub own : marks_after node ≡ left ++ sent node
  pub others : (who : ℕ) → (who ≡ node → ⊥) → marks_after who ≡ marks who ++ sent who
  pub next : (who : ℕ) → (who ≡ node → ⊥) → after.next who ≡ now.next who
  pub promise : (who : ℕ) → (who ≡ node → ⊥) → after.promise who ≡ now.promise who

-- The row does nothing in the group.
pub record IsIdle (now after : Progress) (node : ℕ) (taken : Option Mark) (sent : ℕ → List Mark) : Type 0 where
  pub takes : taken ≡ None
  pub next : after.next node ≡ now.next node
  pub promise : after.promise node ≡ now.promise node
  pub course : after.course ≡ now.course
  pub sends : (who : ℕ) → sent who ≡ []

-- What a node sends to each node for a mail: to the ballot's node its vote (phase 2b), or its promise (phase 1b) of a ballot that it has not promised yet.
abbrev pub answered : ℕ → Ballot → Mark → ℕ → List Mark
answered node promise (Asks ballot slot) who = if who == ballot.node then Votes node ballot slot ∷ [] else []
answered node promise (Prepares ballot) who = if (who == ballot.node) && below promise ballot then Promises node ballot ∷ [] else []
answered node promise (Votes other ballot slot) who = []
answered node promise (Teaches slot) who = []
answered node promise (Installs slot) who = []
answered node promise (Promises other ballot) who = []

-- The mark is a vote or a promise.
abbrev pub IsCount : Mark → Type 0
IsCount (Votes node ballot slot) = Unit {0}
IsCount (Promises node ballot) = Unit {0}
IsCount (Asks ballot slot) = ⊥
IsCount (Teaches slot) = ⊥
IsCount (Installs slot) = ⊥
IsCount (Prepares ballot) = ⊥

-- A node takes a mail: it accepts, promises, executes an entry that it learns, or takes over a state.
-- The mail is no vote or promise where the node leads, and not the last entry where the node is to lead next.
pub record Takes (at : Sets) (now after : Progress) (node : ℕ) (taken : Option Mark) (sent : ℕ → List Mark) : Type 0 where
  pub mark : Mark
  pub takes : taken ≡ Some mark
  pub next : after.next node ≡ next_by (now.next node) mark
  pub promise : after.promise node ≡ promise_by (now.promise node) mark
  pub course : after.course ≡ now.course
  pub sends : (who : ℕ) → sent who ≡ answered node (now.promise node) mark who
  pub counts : now.course.running ≡ true → node ≡ now.course.ballot.node → IsCount mark → ⊥
  pub waits : now.course.running ≡ false → now.course.gone ≡ false → node ≡ least_of (members_at at now.course.newest) → after.next node < now.course.newest

-- What is sent to a node that the entry at a slot adds: the state after the entry, and a Prepare unless the ballot is the group's first.
abbrev pub welcome : Course → ℕ → List Mark
welcome course slot = Installs slot ∷ (if course.is_first then [] else Prepares course.ballot ∷ [])

-- What a leader sends to a node because of the entry at a slot: the entry to a member before it, `welcome` to a node that it adds, nothing to itself and to others.
abbrev pub reported_of : Sets → Course → ℕ → ℕ → List Mark
reported_of at course slot who =
    if who == course.ballot.node then []
    else if is_member (members_at at slot) who then Teaches slot ∷ []
    else if is_member (members_at at (slot + 1)) who then welcome course slot
    else []

-- What a leader sends to a node because of `more` entries, from a slot on.
abbrev pub taught_from : Sets → Course → ℕ → ℕ → ℕ → List Mark
taught_from at course slot zero who = []
taught_from at course slot (suc more) who = reported_of at course slot who ++ taught_from at course (slot + 1) more who

-- The mark is an accept request in the group's ballot, at a slot that the node decides and at which nothing was offered before.
abbrev pub IsOffer : Sets → Course → ℕ → ℕ → Mark → Type 0
IsOffer at course from who (Asks ballot slot) = (ballot ≡ course.ballot) × (from ≤ slot) × (slot < course.bound) × (is_member (at slot) who ≡ true)
IsOffer at course from who (Votes node ballot slot) = ⊥
IsOffer at course from who (Teaches slot) = ⊥
IsOffer at course from who (Installs slot) = ⊥
IsOffer at course from who (Prepares ballot) = ⊥
IsOffer at course from who (Promises node ballot) = ⊥

-- The mark is no vote at this slot.
abbrev pub IsElsewhere : Mark → ℕ → Type 0
IsElsewhere (Votes node ballot slot) other = other ≡ slot → ⊥
IsElsewhere (Promises node ballot) other = Unit {0}
IsElsewhere (Asks ballot slot) other = Unit {0}
IsElsewhere (Teaches slot) other = Unit {0}
IsElsewhere (Installs slot) other = Unit {0}
IsElsewhere (Prepares ballot) other = Unit {0}

-- What is in flight at this slot was offered in this row: it has no votes, and all nodes that decide the slot are asked to accept it.
pub record IsOffered (at : Sets) (now : Course) (sent : ℕ → List Mark) (slot : ℕ) (voters : List ℕ) : Type 0 where
  pub from : now.bound ≤ slot
  pub none : voters ≡ []
  pub asks : (node : ℕ) → is_member (at slot) node ≡ true → Among (Asks now.ballot slot) (sent node)

-- What is in flight at this slot was so before the row: its votes are kept, and the vote that the row takes is counted.
pub record IsCounted (at : Sets) (now : Course) (taken : Option Mark) (slot : ℕ) (voters : List ℕ) : Type 0 where
  pub before : List ℕ
  pub flew : now.voters slot ≡ Some before
  pub keeps : (node : ℕ) → is_member before node ≡ true → is_member voters node ≡ true
  pub counts : (node : ℕ) → taken ≡ Some (Votes node now.ballot slot) → is_member (at slot) node ≡ true → is_member voters node ≡ true

-- What is in flight at this slot is not executed, and keeps its votes if the node leads on.
pub record IsKept (now after : Course) (slot : ℕ) (voters : List ℕ) : Type 0 where
  pub from : after.newest ≤ slot
  pub same : after.running ≡ true → after.voters slot ≡ Some voters

-- A leader counts a vote or a promise, or takes a request: it executes a number of entries, by which members may come and go,
-- sends them to the members, sends the state to those that join, and offers at new slots.
-- It stops where it is no member any more or the group is gone; then all that was offered is executed.
pub record Leads (at : Sets) (now after : Progress) (node : ℕ) (taken : Option Mark) (sent : ℕ → List Mark) : Type 0 where
  pub runs : now.course.running ≡ true
  pub mine : node ≡ now.course.ballot.node
  pub takes : Each IsCount (listed taken)
  pub executed : ℕ
  pub newest : after.course.newest ≡ now.course.newest + executed
  pub next : after.next node ≡ after.course.newest
  pub promise : after.promise node ≡ now.promise node
  pub ballot : after.course.ballot ≡ now.course.ballot
  pub first : after.course.is_first ≡ now.course.is_first
  pub within : after.course.newest ≤ now.course.bound
  pub bound : now.course.bound ≤ after.course.bound
  pub high : after.course.bound ≤ after.course.newest + slots_ahead
  pub stays : after.course.running ≡ true → (is_member (members_at at after.course.newest) node ≡ true) × (after.course.gone ≡ false)
  pub leaves : after.course.running ≡ false → after.course.gone ≡ false → is_member (members_at at after.course.newest) node ≡ false
  pub stops : after.course.running ≡ false → (1 ≤ executed) × (after.course.bound ≡ after.course.newest)
  pub offers : ℕ → List Mark
  pub sends : (who : ℕ) → sent who ≡ taught_from at now.course now.course.newest executed who ++ offers who
  pub asks : (who : ℕ) → Each (IsOffer at after.course now.course.bound who) (offers who)
  pub unvoted : after.course.running ≡ true → (ballot : Ballot) (slot : ℕ) → Among (Asks ballot slot) (offers node) → after.course.voters slot ≡ Some []
  pub flying : (slot : ℕ) (voters : List ℕ) → after.course.voters slot ≡ Some voters → IsInFlight at after.course slot voters
  pub kept : (slot : ℕ) (voters : List ℕ) → now.course.voters slot ≡ Some voters → Each (λ mark. IsElsewhere mark slot) (listed taken) → IsKept now.course after.course slot voters
  pub grown : (slot : ℕ) (voters : List ℕ) → after.course.voters slot ≡ Some voters → IsOffered at now.course sent slot voters ⊎ IsCounted at now.course taken slot voters
  pub counted : after.course.running ≡ true → (who : ℕ) → now.course.counted who ≡ true → after.course.counted who ≡ true
  pub counts : after.course.running ≡ true → (who : ℕ) → taken ≡ Some (Promises who now.course.ballot) → after.course.counted who ≡ true

-- The mark is the last entry of the newest state, to be learnt, or that state itself.
abbrev pub IsLast : ℕ → Mark → Type 0
IsLast newest mark = (slot : ℕ) × (suc slot ≡ newest) × ((mark ≡ Teaches slot) ⊎ (mark ≡ Installs slot))

-- Where no node leads, the least member elects itself by the last entry, with a later ballot.
-- It sends a Prepare to each node that decides an open slot (Paxos Made Simple, section 2.2, phase 1a).
pub record Elects (at : Sets) (now after : Progress) (node : ℕ) (taken : Option Mark) (sent : ℕ → List Mark) : Type 0 where
  pub mark : Mark
  pub takes : taken ≡ Some mark
  pub last : IsLast now.course.newest mark
  pub idle : now.course.running ≡ false
  pub stands : now.course.gone ≡ false
  pub least : node ≡ least_of (members_at at now.course.newest)
  pub next : after.next node ≡ now.course.newest
  pub promise : after.promise node ≡ now.promise node
  pub newest : after.course.newest ≡ now.course.newest
  pub bound : after.course.bound ≡ now.course.bound
  pub later : below now.course.ballot after.course.ballot ≡ true
  pub mine : after.course.ballot.node ≡ node
  pub first : after.course.is_first ≡ false
  pub runs : after.course.running ≡ true
  pub stays : after.course.gone ≡ false
  pub voters : (slot : ℕ) → after.course.voters slot ≡ None
  pub sends : (who : ℕ) → (sent who ≡ []) ⊎ (IsOpen at now.course.newest who × (sent who ≡ Prepares after.course.ballot ∷ []))
  pub asks : (who : ℕ) → IsOpen at now.course.newest who → sent who ≡ Prepares after.course.ballot ∷ []

-- How a group begins: its members have replicas that have executed nothing, and the node of the first ballot leads.
abbrev pub begun : List ℕ → Ballot → Progress
begun members ballot = record {
  next = λ node. if is_member members node then 1 else 0;
  promise = λ node. ballot;
  course = record { newest = 1; bound = 1; ballot = ballot; is_first = true; running = true; gone = false; voters = λ slot. None; counted = λ node. false };
}

-- Each row of this kind keeps `IsFollowing`, if one to nine nodes decide each slot.
abbrev pub Keeps : (Sets → Progress → Progress → ℕ → Option Mark → (ℕ → List Mark) → Type 0) → Type 0
Keeps Kind =
    (at : Sets) (now after : Progress) (node : ℕ) (taken : Option Mark) (sent marks marks_after : ℕ → List Mark)
    → ((slot : ℕ) → IsRoster (at slot)) → IsRow now after node taken sent marks marks_after → Kind at now after node taken sent
    → IsFollowing at now marks → IsFollowing at after marks_after

-- Rows that do nothing in the group keep `IsFollowing`.
abbrev pub IdleRowsKeep : Type 0
IdleRowsKeep = Keeps (λ at. IsIdle)

-- Rows of nodes that take a mail keep `IsFollowing`.
abbrev pub TakersKeep : Type 0
TakersKeep = Keeps Takes

-- Rows of leaders keep `IsFollowing`.
abbrev pub LeadersKeep : Type 0
LeadersKeep = Keeps Leads
