-- Which Paxos mail is under way between a group's leader and its nodes, and in which order it comes, while members come and go.
use Rattle.std.specs.Prelude.{◌≡◌, ℕ, suc, ◌+◌, ◌<◌, ◌≤◌, Bool, true, false, List, [], ◌∷◌, ◌++◌, if◌then◌else◌, Option, Some, None, ◌⊎◌}
use Rattle.sc_base.specs.Definitions.{Among, Each, same_draw, is_majority, is_member, least_of}
use Rattle.sc_node_table.specs.Values.{Ballot, Draw, Mail, MailBody, Request, Answer, Prepare, Promise, Accept, Accepted, Nack, Learn, Ask, Install, TxPrepare, TxVote, TxOutcome, TxElsewhere, TxWatch, TxWatched, Told}
use Rattle.sc_node_table.specs.NodeDefinitions.{listed, slots_ahead}
use Rattle.sc_words.specs.paxos.PaxosDefinitions.{IsAtLeast}

-- What a mail is to one group, without its contents: a request to accept a command at a slot in a ballot (phase 2a), a node's vote for that (2b),
-- an entry to be learnt at a slot, a state after the entry at a slot, a request to promise a ballot (1a), or a node's promise of it (1b).
-- The phases are those of Paxos Made Simple, section 2.2.
pub data Mark : Type 0 where
  Asks : (ballot : Ballot) (slot : ℕ) → Mark
  Votes : (node : ℕ) (ballot : Ballot) (slot : ℕ) → Mark
  Teaches : (slot : ℕ) → Mark
  Installs : (slot : ℕ) → Mark
  Prepares : (ballot : Ballot) → Mark
  Promises : (node : ℕ) (ballot : Ballot) → Mark

-- The mark, if the mail's group is the one with this name; else none.
abbrev pub named_mark : Draw → Draw → Mark → Option Mark
named_mark name group mark = if same_draw group name then Some mark else None

-- The mark of a mail for a group, by the mail's sender and body. A Nack has none, since it changes nothing at the leader of the ballot that it names.
-- An Ask has none, since none is sent in the journals that these laws are about.
abbrev pub mark_of : Draw → ℕ → MailBody → Option Mark
mark_of name from (Accept group ballot slot command) = named_mark name group (Asks ballot slot)
mark_of name from (Accepted group ballot slot) = named_mark name group (Votes from ballot slot)
mark_of name from (Learn group slot command) = named_mark name group (Teaches slot)
mark_of name from (Install group slot base sets) = named_mark name group (Installs slot)
mark_of name from (Prepare group ballot from_slot) = named_mark name group (Prepares ballot)
mark_of name from (Promise group ballot reports) = named_mark name group (Promises from ballot)
mark_of name from (Nack group promised) = None
mark_of name from (Ask group from_slot) = None
mark_of name from (Request group client seq op) = None
mark_of name from (Answer group seq answer) = None
mark_of name from (TxPrepare tx offer) = None
mark_of name from (TxVote tx coord part vote) = None
mark_of name from (TxOutcome tx part outcome) = None
mark_of name from (TxElsewhere tx coord hint) = None
mark_of name from (TxWatch tx watch) = None
mark_of name from (TxWatched tx coord part vote) = None
mark_of name from (Told order result) = None

-- The marks of these mails for a group, in the order of the mails.
abbrev pub marks_of : Draw → List Mail → List Mark
marks_of name [] = []
marks_of name (mail ∷ mails) = listed (mark_of name mail.from mail.body) ++ marks_of name mails

-- The next slot of a node, 0 where it has no replica, after it took a mail with this mark.
abbrev pub next_by : ℕ → Mark → ℕ
next_by next (Teaches slot) = suc slot
next_by next (Installs slot) = suc slot
next_by next (Asks ballot slot) = next
next_by next (Votes node ballot slot) = next
next_by next (Prepares ballot) = next
next_by next (Promises node ballot) = next

-- The ballot that a node has promised, after it took a mail with this mark.
abbrev pub promise_by : Ballot → Mark → Ballot
promise_by promise (Prepares ballot) = ballot
promise_by promise (Asks ballot slot) = promise
promise_by promise (Votes node ballot slot) = promise
promise_by promise (Teaches slot) = promise
promise_by promise (Installs slot) = promise
promise_by promise (Promises node ballot) = promise

-- The next slot of a node after it took all these mails, one after another.
abbrev pub reached : ℕ → List Mark → ℕ
reached next [] = next
reached next (mark ∷ marks) = reached (next_by next mark) marks

-- The ballot that a node has promised, after it took all these mails, one after another.
abbrev pub pledged : Ballot → List Mark → Ballot
pledged promise [] = promise
pledged promise (mark ∷ marks) = pledged (promise_by promise mark) marks

-- A mail comes in time to a node: an entry to be learnt is at its next slot; a state is not older than its own;
-- an accept request is at a slot that it has not executed, in the ballot that it has promised; a Prepare has no ballot below its promise.
-- A node without a replica takes a state before anything else.
abbrev pub IsFit : ℕ → Ballot → Mark → Type 0
IsFit next promise (Asks ballot slot) = (1 ≤ next) × (next ≤ slot) × (ballot ≡ promise)
IsFit next promise (Teaches slot) = (1 ≤ next) × (slot ≡ next)
IsFit next promise (Installs slot) = next ≤ slot
IsFit next promise (Prepares ballot) = (1 ≤ next) × IsAtLeast ballot promise
IsFit next promise (Votes node ballot slot) = Unit {0}
IsFit next promise (Promises node ballot) = Unit {0}

-- Each of these mails comes in time to the node, taken one after another.
abbrev pub AreFit : ℕ → Ballot → List Mark → Type 0
AreFit next promise [] = Unit {0}
AreFit next promise (mark ∷ marks) = IsFit next promise mark × AreFit (next_by next mark) (promise_by promise mark) marks

-- The mark is no accept request at this slot.
abbrev pub IsNoAsk : ℕ → Mark → Type 0
IsNoAsk slot (Asks ballot other) = other ≡ slot → ⊥
IsNoAsk slot (Votes node ballot other) = Unit {0}
IsNoAsk slot (Teaches other) = Unit {0}
IsNoAsk slot (Installs other) = Unit {0}
IsNoAsk slot (Prepares ballot) = Unit {0}
IsNoAsk slot (Promises node ballot) = Unit {0}

-- No accept request at a slot stands behind a vote at that slot.
abbrev pub AreAskedFirst : List Mark → Type 0
AreAskedFirst [] = Unit {0}
AreAskedFirst (Votes node ballot slot ∷ marks) = Each (IsNoAsk slot) marks × AreAskedFirst marks
AreAskedFirst (Asks ballot slot ∷ marks) = AreAskedFirst marks
AreAskedFirst (Teaches slot ∷ marks) = AreAskedFirst marks
AreAskedFirst (Installs slot ∷ marks) = AreAskedFirst marks
AreAskedFirst (Prepares ballot ∷ marks) = AreAskedFirst marks
AreAskedFirst (Promises node ballot ∷ marks) = AreAskedFirst marks

-- How far a group has come: the next slot of its newest state; the first slot at which nothing was offered yet;
-- the ballot of the node that leads or led last, and whether it is the group's first; whether that node leads; whether the group is gone;
-- for each slot where something is in flight, the nodes whose votes were counted; and whether a node's promise was counted.
pub record Course : Type 0 where
  pub newest : ℕ
  pub bound : ℕ
  pub ballot : Ballot
  pub is_first : Bool
  pub running : Bool
  pub gone : Bool
  pub voters : ℕ → Option (List ℕ)
  pub counted : ℕ → Bool

-- A group's course, with the next slot of each node (0 where it has no replica) and the ballot that each node has promised (the first where it has no replica).
pub record Progress : Type 0 where
  pub next : ℕ → ℕ
  pub promise : ℕ → Ballot
  pub course : Course

-- The members that decide each slot, for the whole log.
-- The members of the state in which a slot is next decide the slot three after it, which is the last one open then.
abbrev pub Sets : Type 0
Sets = ℕ → List ℕ

-- The members of the state in which this slot is the next one.
abbrev pub members_at : Sets → ℕ → List ℕ
members_at at next = at (next + 3)

-- The node decides one of the slots that are open where `next` is the next slot.
pub record IsOpen (at : Sets) (next node : ℕ) : Type 0 where
  pub slot : ℕ
  pub from : next ≤ slot
  pub to : slot < next + slots_ahead
  pub decides : is_member (at slot) node ≡ true

-- The mail is not ahead of the group: an accept request or a vote is at a slot where something was offered, and a Prepare is of a ballot no later than the group's.
abbrev pub IsKnown : Course → Mark → Type 0
IsKnown course (Asks ballot slot) = slot < course.bound
IsKnown course (Votes node ballot slot) = slot < course.bound
IsKnown course (Prepares ballot) = IsAtLeast course.ballot ballot
IsKnown course (Teaches slot) = Unit {0}
IsKnown course (Installs slot) = Unit {0}
IsKnown course (Promises node ballot) = Unit {0}

-- The node of the group's ballot has executed all entries and is a member, and the group stands.
pub record IsLeading (at : Sets) (now : Progress) : Type 0 where
  pub executed : now.next now.course.ballot.node ≡ now.course.newest
  pub member : is_member (members_at at now.course.newest) now.course.ballot.node ≡ true
  pub stands : now.course.gone ≡ false

-- One node leads; what is in flight at this slot was offered there and is not executed, and these votes are no majority of the slot's members.
pub record IsInFlight (at : Sets) (course : Course) (slot : ℕ) (voters : List ℕ) : Type 0 where
  pub runs : course.running ≡ true
  pub from : course.newest ≤ slot
  pub to : slot < course.bound
  pub undecided : is_majority (at slot) voters ≡ false

-- The node's vote for what is in flight at the slot was counted, or is under way to the leader, or the request for it is under way to the node.
abbrev pub IsVoting : Ballot → ℕ → ℕ → List ℕ → List Mark → List Mark → Type 0
IsVoting ballot node slot voters to_node to_lead = (is_member voters node ≡ true) ⊎ (Among (Asks ballot slot) to_node ⊎ Among (Votes node ballot slot) to_lead)

-- The node's promise of the group's ballot was counted, or is under way to the leader.
abbrev pub HasPromised : Course → ℕ → List Mark → Type 0
HasPromised course node to_lead = (course.counted node ≡ true) ⊎ Among (Promises node course.ballot) to_lead

-- The node's promise of the group's ballot was counted or is under way, or the Prepare is under way to the node.
abbrev pub IsPromising : Course → ℕ → List Mark → List Mark → Type 0
IsPromising course node to_node to_lead = Among (Prepares course.ballot) to_node ⊎ HasPromised course node to_lead

-- Once the node has taken its mail, it has a replica and has promised the group's ballot.
pub record IsReady (now : Progress) (node : ℕ) (marks : List Mark) : Type 0 where
  pub replica : 1 ≤ reached (now.next node) marks
  pub promised : pledged (now.promise node) marks ≡ now.course.ballot

-- What holds between the leader of a group and its nodes. `marks` is the mail that each node has not taken yet.
pub record IsFollowing (at : Sets) (now : Progress) (marks : ℕ → List Mark) : Type 0 where
  -- each node's mail comes in time and takes it no further than the newest state; each member reaches that state by its mail
  pub fits : (node : ℕ) → AreFit (now.next node) (now.promise node) (marks node)
  pub within : (node : ℕ) → reached (now.next node) (marks node) ≤ now.course.newest
  pub members : (node : ℕ) → is_member (members_at at now.course.newest) node ≡ true → reached (now.next node) (marks node) ≡ now.course.newest
  pub ready : (node : ℕ) → IsOpen at now.course.newest node → IsReady now node (marks node)
  -- no mail is ahead of what was offered, and no promise or Prepare is of a ballot later than the group's
  pub some : 1 ≤ now.course.newest
  pub low : now.course.newest ≤ now.course.bound
  pub high : now.course.bound ≤ now.course.newest + slots_ahead
  pub known : (node : ℕ) → Each (IsKnown now.course) (marks node)
  pub promised : (node : ℕ) → IsAtLeast now.course.ballot (now.promise node)
  pub first : now.course.is_first ≡ true → (node : ℕ) → pledged (now.promise node) (marks node) ≡ now.course.ballot
  -- no accept request stands behind a vote at its slot; where one is under way to the leader itself, no vote at its slot was counted
  pub asked : (node : ℕ) → AreAskedFirst (marks node)
  pub undone : now.course.running ≡ true → (ballot : Ballot) (slot : ℕ) → Among (Asks ballot slot) (marks now.course.ballot.node) → now.course.voters slot ≡ Some []
  -- each node that decides what is in flight votes for it, and each node that decides an open slot promises the ballot
  pub flying : (slot : ℕ) (voters : List ℕ) → now.course.voters slot ≡ Some voters → IsInFlight at now.course slot voters
  pub votes : (slot : ℕ) (voters : List ℕ) → now.course.voters slot ≡ Some voters → (node : ℕ) → is_member (at slot) node ≡ true
      → IsVoting now.course.ballot node slot voters (marks node) (marks now.course.ballot.node)
  pub promises : now.course.running ≡ true → now.course.is_first ≡ false → (node : ℕ) → IsOpen at now.course.newest node → IsPromising now.course node (marks node) (marks now.course.ballot.node)
  pub pledges : now.course.running ≡ true → now.course.is_first ≡ false → (node : ℕ) → now.promise node ≡ now.course.ballot → HasPromised now.course node (marks now.course.ballot.node)
  -- a node leads; or all that was offered is executed, and the least member, which elects itself by the last entry, has not executed that entry
  pub leads : now.course.running ≡ true → IsLeading at now
  pub offered : now.course.running ≡ false → now.course.bound ≡ now.course.newest
  pub self_election : now.course.running ≡ false → now.course.gone ≡ false → now.next (least_of (members_at at now.course.newest)) < now.course.newest

-- What holds where no mail of the group is under way: all members have executed all entries, and nothing is in flight.
pub record IsEven (at : Sets) (now : Progress) : Type 0 where
  pub members : (node : ℕ) → is_member (members_at at now.course.newest) node ≡ true → now.next node ≡ now.course.newest
  pub most : (node : ℕ) → now.next node ≤ now.course.newest
  pub promised : (node : ℕ) → IsAtLeast now.course.ballot (now.promise node)
  pub none : (slot : ℕ) → now.course.voters slot ≡ None

-- What holds besides, where no mail is under way, of a group that stands: a node leads, and each node that decides an open slot has promised its ballot.
pub record IsEvenLed (at : Sets) (now : Progress) : Type 0 where
  pub runs : now.course.running ≡ true
  pub leads : IsLeading at now
  pub replicas : (node : ℕ) → IsOpen at now.course.newest node → 1 ≤ now.next node
  pub voters : (node : ℕ) → IsOpen at now.course.newest node → now.promise node ≡ now.course.ballot
  pub counted : now.course.is_first ≡ false → (node : ℕ) → IsOpen at now.course.newest node → now.course.counted node ≡ true
