-- The slot from which each node is asked to promise a ballot is not below the node's next slot. So it is above what the node's acceptor has forgotten.
use Rattle.std.specs.Prelude.{◌≡◌, ℕ, suc, ◌<◌, ◌≤◌, ◌==◌, Bool, false, List, [], ◌∷◌, ◌++◌, map, filter, Option, Some, None}
use Rattle.std.specs.Option.{option_map}
use Rattle.sc_base.specs.Definitions.{Each, Drawer, IsRoster}
use Rattle.sc_node_table.specs.Values.{Ballot, Draw, Command, OrderLine, Mail, MailBody, Request, Answer, Prepare, Promise, Accept, Accepted, Nack, Learn, Ask, Install, TxPrepare, TxVote, TxOutcome, TxElsewhere, TxWatch, TxWatched, Told, Report}
use Rattle.sc_node_table.specs.declared.ReplicaInput.TheVariants as Given
use Rattle.sc_node_table.specs.NodeDefinitions.{entered, ReplicaState, listed, name_of, next, last_slot, mailed, stepped}
use Rattle.sc_live_steps.specs.following.MailUnderWay.{Mark, Asks, Votes, Teaches, Installs, Prepares, Promises, mark_of, next_by, Progress, Sets, IsFollowing}
use Rattle.sc_live_steps.specs.following.LeaderRows.{IsIdle, Takes, Leads, Elects}
use Rattle.sc_live_steps.specs.following.LeaderTables.{IsLeadOf, IsAside, DecidesNext}
use Rattle.sc_live_steps.specs.following.PaxosTables.{marks_for, IsInTime, MayElect}

-- A mark with a slot: where the mark is a Prepare, the first slot that it asks about. Otherwise the slot is not read.
abbrev pub Dated : Type 0
Dated = Mark × ℕ

-- The first slot that a Prepare asks about; 0 for every other mail.
abbrev pub from_slot_of : MailBody → ℕ
from_slot_of (Prepare group ballot from_slot) = from_slot
from_slot_of (Request group client seq op) = 0
from_slot_of (Answer group seq answer) = 0
from_slot_of (Promise group ballot reports) = 0
from_slot_of (Accept group ballot slot command) = 0
from_slot_of (Accepted group ballot slot) = 0
from_slot_of (Nack group promised) = 0
from_slot_of (Learn group slot command) = 0
from_slot_of (Ask group from_slot) = 0
from_slot_of (Install group slot base sets) = 0
from_slot_of (TxPrepare tx offer) = 0
from_slot_of (TxVote tx coord part vote) = 0
from_slot_of (TxOutcome tx part outcome) = 0
from_slot_of (TxElsewhere tx coord hint) = 0
from_slot_of (TxWatch tx watch) = 0
from_slot_of (TxWatched tx coord part vote) = 0
from_slot_of (Told order result) = 0

-- The marks of these mails for a group, each with its slot.
abbrev pub dated_of : Draw → List Mail → List Dated
dated_of name [] = []
dated_of name (mail ∷ mails) = listed (option_map (λ mark. (mark, from_slot_of mail.body)) (mark_of name mail.from mail.body)) ++ dated_of name mails

-- The marks of the mails to one node for a group, each with its slot.
abbrev pub dated_for : Draw → ℕ → List Mail → List Dated
dated_for name who mails = dated_of name (filter (λ mail. mail.to == who) mails)

-- The marks without their slots.
abbrev pub marks_in : List Dated → List Mark
marks_in dated = map (λ d. d.0) dated

-- If the mark is a Prepare, its first slot is not below the node's next slot; nothing is asked of other marks.
abbrev pub IsLow : ℕ → Mark → ℕ → Type 0
IsLow next (Prepares ballot) from = next ≤ from
IsLow next (Asks ballot slot) from = Unit {0}
IsLow next (Votes node ballot slot) from = Unit {0}
IsLow next (Teaches slot) from = Unit {0}
IsLow next (Installs slot) from = Unit {0}
IsLow next (Promises node ballot) from = Unit {0}

-- Each Prepare of these marks, taken in order, has a first slot not below the node's next slot at that time.
abbrev pub AreLow : ℕ → List Dated → Type 0
AreLow next [] = Unit {0}
AreLow next (d ∷ dated) = IsLow next d.0 d.1 × AreLow (next_by next d.0) dated

-- The mark is no Prepare.
abbrev pub IsNoPrepare : Mark → Type 0
IsNoPrepare (Prepares ballot) = ⊥
IsNoPrepare (Asks ballot slot) = Unit {0}
IsNoPrepare (Votes node ballot slot) = Unit {0}
IsNoPrepare (Teaches slot) = Unit {0}
IsNoPrepare (Installs slot) = Unit {0}
IsNoPrepare (Promises node ballot) = Unit {0}

-- Each Prepare under way to any node has a first slot not below the node's next slot at the time when the node takes it.
abbrev pub IsAskedLow : Progress → (ℕ → List Dated) → Type 0
IsAskedLow now dated = (node : ℕ) → AreLow (now.next node) (dated node)

-- A row of a node that takes a mail of the group, or none, as `IsRow` says, with the slots of all marks.
pub record IsDatedRow (now after : Progress) (node : ℕ) (taken : Option Dated) (sent dated dated_after : ℕ → List Dated) : Type 0 where
  pub left : List Dated
  pub takes : dated node ≡ listed taken ++ left
  pub own : dated_after node ≡ left ++ sent node
  pub others : (who : ℕ) → (who ≡ node → ⊥) → dated_after who ≡ dated who ++ sent who
  pub next : (who : ℕ) → (who ≡ node → ⊥) → after.next who ≡ now.next who

-- Each Prepare that a leader sends follows a state and asks from the slot after it on, so it is not below the receiver's next slot, wherever the receiver was.
-- If the leader executes an entry, no Prepare is under way to the leader itself.
pub record AsksFromNext (executed node : ℕ) (dated sent : ℕ → List Dated) : Type 0 where
  pub low : (who next : ℕ) → AreLow next (sent who)
  pub own : 1 ≤ executed → Each (λ d. IsNoPrepare d.0) (dated node)

-- What a node sends that elects itself asks from no slot below the next slot of the group's newest state.
abbrev pub AsksFromNewest : Progress → (ℕ → List Dated) → Type 0
AsksFromNewest now sent = (who : ℕ) → Each (λ d. now.course.newest ≤ d.1) (sent who)

-- Each kind of row keeps `IsAskedLow`, and it holds where no mail is under way.
pub record SlotsAreKept : Type 0 where
  pub begin : (now : Progress) → IsAskedLow now (λ node. [])
  pub idle : (at : Sets) (now after : Progress) (node : ℕ) (sent dated dated_after : ℕ → List Dated) → IsDatedRow now after node None sent dated dated_after
      → IsIdle now after node None (λ who. marks_in (sent who)) → IsAskedLow now dated → IsAskedLow after dated_after
  pub takes : (at : Sets) (now after : Progress) (node : ℕ) (taken : Dated) (sent dated dated_after : ℕ → List Dated) → IsDatedRow now after node (Some taken) sent dated dated_after
      → Takes at now after node (Some taken.0) (λ who. marks_in (sent who)) → IsAskedLow now dated → IsAskedLow after dated_after
  pub leads : (at : Sets) (now after : Progress) (node : ℕ) (taken : Option Dated) (sent dated dated_after : ℕ → List Dated) → IsDatedRow now after node taken sent dated dated_after
      → IsFollowing at now (λ who. marks_in (dated who)) → (l : Leads at now after node (option_map (λ d. d.0) taken) (λ who. marks_in (sent who))) → AsksFromNext l.executed node dated sent
      → IsAskedLow now dated → IsAskedLow after dated_after
  pub self_election : (at : Sets) (now after : Progress) (node : ℕ) (taken : Dated) (sent dated dated_after : ℕ → List Dated) → IsDatedRow now after node (Some taken) sent dated dated_after
      → IsFollowing at now (λ who. marks_in (dated who)) → Elects at now after node (Some taken.0) (λ who. marks_in (sent who)) → AsksFromNewest now sent → IsAskedLow now dated → IsAskedLow after dated_after

-- `above`: where a replica's acceptor has forgotten no slot from its next one on, a Prepare asks only about slots above what it has forgotten.
-- `same`: the marks with slots are the marks of the same mails.
pub record PreparesAreKnown : Type 0 where
  pub above : (now : Progress) (dated : ℕ → List Dated) (node : ℕ) (ballot : Ballot) (from_slot : ℕ) (rest : List Dated) (r : ReplicaState) → IsAskedLow now dated → dated node ≡ (Prepares ballot, from_slot) ∷ rest → next r ≡ now.next node
      → r.acceptor.floor < next r → r.acceptor.floor < from_slot
  pub same : (name : Draw) (who : ℕ) (mails : List Mail) → marks_in (dated_for name who mails) ≡ marks_for name who mails

-- A replica that elects itself by the last entry asks from the slot after that entry on.
abbrev pub ElectionsAskNext : Type 0
ElectionsAskNext =
    (from slot : ℕ) (command : Command) (r : ReplicaState) → IsInTime (Teaches slot) r → r.running ≡ false → r.leader.flights ≡ [] → slot ≤ last_slot → MayElect (entered command r) → name_of (entered command r) ≡ name_of r
    → (who : ℕ) → Each (λ d. suc slot ≤ d.1) (dated_for (name_of r) who (mailed from (Learn (name_of r) slot command) (r, [])).0.1)

-- Whatever the receivers' next slots are, each Prepare among these mails asks from no slot below its receiver's next slot at that time, since a state comes before it.
abbrev pub AsksLow : Draw → List Mail → Type 0
AsksLow name mails = (who next : ℕ) → AreLow next (dated_for name who mails)

-- By each row of a leading replica, the mails that it sends satisfy `AsksLow`.
pub record RowsAskNext : Type 0 where
  pub votes : (at : Sets) (now : Progress) (from : ℕ) (ballot : Ballot) (slot : ℕ) (r : ReplicaState) → ((s : ℕ) → IsRoster (at s)) → IsLeadOf at now r → DecidesNext at from ballot slot r
      → AsksLow (name_of r) (mailed from (Accepted (name_of r) ballot slot) (r, [])).0.1
  pub promises : (at : Sets) (now : Progress) (from : ℕ) (ballot : Ballot) (reports : List (Report Command)) (r : ReplicaState) → IsLeadOf at now r → AsksLow (name_of r) (mailed from (Promise (name_of r) ballot reports) (r, [])).0.1
  pub asides : (at : Sets) (now : Progress) (from : ℕ) (body : MailBody) (r : ReplicaState) → IsLeadOf at now r → IsAside r body → AsksLow (name_of r) (mailed from body (r, [])).0.1
  pub orders : (at : Sets) (now : Progress) (on : Bool) (drawer : Drawer) (line : OrderLine) (r : ReplicaState) → IsLeadOf at now r → AsksLow (name_of r) (stepped on drawer (Given.Told line) (r, [])).0.1
