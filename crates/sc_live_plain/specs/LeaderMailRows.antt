-- What one row does to what stands between the leader of a group and its nodes.
use Rattle.std.specs.Prelude.{◌≡◌, ℕ, ◌+◌, ◌<◌, ◌≤◌, true, List, [], ◌∷◌, Some, ◌⊎◌}
use Rattle.sc_base.specs.Definitions.{Among, Each, is_member}
use Rattle.sc_node_table.specs.Values.{Mail}
use Rattle.sc_node_table.specs.NodeDefinitions.{ReplicaState, next, numbers_from}
use Rattle.sc_live_plain.specs.Frames.{Frame}
use Rattle.sc_live_plain.specs.LeaderMail.{Mark, Asks, Votes, Teaches, Other, View, taught_slots}
use Rattle.sc_live_plain.specs.LeaderMailInJournals.{voters_in, marks_for}

-- a mark that a leader may send in a row in which it offers at the slots from `from` to below `to`: it asks only for these, and votes and reports only for earlier ones
abbrev pub IsNew : ℕ → ℕ → Mark → Type 0
IsNew from to (Asks slot) = (from ≤ slot) × (slot < to)
IsNew from to (Votes node slot) = slot < from
IsNew from to (Teaches slot) = slot < from
IsNew from to Other = Unit {0}

-- a mark that is nothing of the group
abbrev pub IsOther : Mark → Type 0
IsOther mark = mark ≡ Other

-- a row that does nothing in the group: next slots, offers and votes stay as they were, and nothing of the group is taken or sent
pub record IsIdle (now after : View) (node : ℕ) (taken : Mark) (sent : ℕ → List Mark) : Type 0 where
  pub takes : taken ≡ Other
  pub next : after.next node ≡ now.next node
  pub bound : after.bound ≡ now.bound
  pub voters : (slot : ℕ) → after.voters slot ≡ now.voters slot
  pub sends : (who : ℕ) → Each IsOther (sent who)

-- a node that is asked to accept a command votes for it, to the leader (Paxos Made Simple, section 2.2, phase 2b)
pub record Accepts (frame : Frame) (now after : View) (node : ℕ) (taken : Mark) (sent : ℕ → List Mark) : Type 0 where
  pub slot : ℕ
  pub takes : taken ≡ Asks slot
  pub next : after.next node ≡ now.next node
  pub bound : after.bound ≡ now.bound
  pub voters : (other : ℕ) → after.voters other ≡ now.voters other
  pub lead : sent frame.lead ≡ Votes node slot ∷ []
  pub others : (who : ℕ) → (who ≡ frame.lead → ⊥) → Each IsOther (sent who)

-- a node that does not lead executes the entry that a Learn brings
pub record Learns (frame : Frame) (now after : View) (node : ℕ) (taken : Mark) (sent : ℕ → List Mark) : Type 0 where
  pub slot : ℕ
  pub takes : taken ≡ Teaches slot
  pub follows : node ≡ frame.lead → ⊥
  pub member : is_member frame.core.members node ≡ true
  pub next : after.next node ≡ now.next node + 1
  pub bound : after.bound ≡ now.bound
  pub voters : (other : ℕ) → after.voters other ≡ now.voters other
  pub sends : (who : ℕ) → Each IsOther (sent who)

-- the mark of what a leader takes: the vote of a member of the slot, or nothing of the group
abbrev pub IsCount : Frame → Mark → Type 0
IsCount frame (Votes node slot) = is_member (frame.at slot) node ≡ true
IsCount frame (Asks slot) = ⊥
IsCount frame (Teaches slot) = ⊥
IsCount frame Other = Unit {0}

-- the mark is no vote for this slot
abbrev pub IsElsewhere : Mark → ℕ → Type 0
IsElsewhere (Votes node slot) other = other ≡ slot → ⊥
IsElsewhere (Asks slot) other = Unit {0}
IsElsewhere (Teaches slot) other = Unit {0}
IsElsewhere Other other = Unit {0}

-- what is in flight at a slot was offered in this row: it has no vote yet, and each member of the slot is asked
pub record IsOffered (frame : Frame) (now : View) (sent : ℕ → List Mark) (slot : ℕ) (voters : List ℕ) : Type 0 where
  pub from : now.bound ≤ slot
  pub none : voters ≡ []
  pub asks : (node : ℕ) → is_member (frame.at slot) node ≡ true → Among (Asks slot) (sent node)

-- what is in flight at a slot was in flight before the row, it keeps its votes, and the vote that the row takes for it is counted
pub record IsCounted (now : View) (taken : Mark) (slot : ℕ) (voters : List ℕ) : Type 0 where
  pub before : List ℕ
  pub flew : now.voters slot ≡ Some before
  pub keeps : (node : ℕ) → is_member before node ≡ true → is_member voters node ≡ true
  pub counts : (node : ℕ) → taken ≡ Votes node slot → is_member voters node ≡ true

-- a leader counts a vote or takes a request: it executes some number of slots, reports each of them to the other members, and offers commands at new slots
pub record Leads (frame : Frame) (now after : View) (node : ℕ) (taken : Mark) (sent : ℕ → List Mark) : Type 0 where
  pub leads : node ≡ frame.lead
  pub takes : IsCount frame taken
  pub executed : ℕ
  pub next : after.next node ≡ now.next node + executed
  pub within : after.next node ≤ now.bound
  pub bound : now.bound ≤ after.bound
  pub tells : (who : ℕ) → is_member frame.core.members who ≡ true → (who ≡ frame.lead → ⊥) → taught_slots (sent who) ≡ numbers_from (now.next node) executed
  pub sends : (who : ℕ) → Each (IsNew now.bound after.bound) (sent who)
  pub offered : (slot : ℕ) → Among (Asks slot) (sent node) → after.voters slot ≡ Some []
  pub flying : (slot : ℕ) (voters : List ℕ) → after.voters slot ≡ Some voters → after.next node ≤ slot
  pub kept : (slot : ℕ) (voters : List ℕ) → now.voters slot ≡ Some voters → IsElsewhere taken slot → after.voters slot ≡ Some voters
  pub grown : (slot : ℕ) (voters : List ℕ) → after.voters slot ≡ Some voters → IsOffered frame now sent slot voters ⊎ IsCounted now taken slot voters

-- what a row does in a group, of one of four kinds: nothing, a vote, an entry that a member learns, or a leader's row
abbrev pub How : Frame → View → View → ℕ → Mark → (ℕ → List Mark) → Type 0
How frame now after node taken sent = IsIdle now after node taken sent ⊎ (Accepts frame now after node taken sent ⊎ (Learns frame now after node taken sent ⊎ Leads frame now after node taken sent))

-- what a row of a node does in a group, by the mark of the mail that it takes and the marks of what it sends to each node; no other node's next slot changes
pub record Moves (frame : Frame) (now after : View) (node : ℕ) (taken : Mark) (sent : ℕ → List Mark) : Type 0 where
  pub others : (who : ℕ) → (who ≡ node → ⊥) → after.next who ≡ now.next who
  pub how : How frame now after node taken sent

-- the row takes the head of the marks, or it takes nothing of the group and the marks stay as they are
abbrev pub IsTaken : Mark → List Mark → List Mark → Type 0
IsTaken taken before left = (before ≡ taken ∷ left) ⊎ ((taken ≡ Other) × (before ≡ left))

-- a view of a group agrees with its replica at a node, at which `taken` slots have a command in flight or ready
pub record IsViewAt (frame : Frame) (me : ℕ) (r : ReplicaState) (taken : ℕ) (view : View) : Type 0 where
  pub bound : me ≡ frame.lead → view.bound ≡ next r + taken
  pub voters : me ≡ frame.lead → (slot : ℕ) → view.voters slot ≡ voters_in r.leader.flights slot
  pub next : view.next me ≡ next r

-- where the node does not lead, two views differ in the node's next slot alone
pub record IsOwn (frame : Frame) (me : ℕ) (now after : View) : Type 0 where
  pub bound : (me ≡ frame.lead → ⊥) → after.bound ≡ now.bound
  pub voters : (me ≡ frame.lead → ⊥) → (slot : ℕ) → after.voters slot ≡ now.voters slot

-- a replica that becomes another one by a mail, and sends these mails, makes a row of one of the four kinds, whatever views agree with the two
abbrev pub MovesBy : Frame → ℕ → ReplicaState → ℕ → ReplicaState → ℕ → Mark → List Mail → Type 0
MovesBy frame me r taken after taken_after mark sent =
    (one two : View) → IsViewAt frame me r taken one → IsViewAt frame me after taken_after two → IsOwn frame me one two
    → How frame one two me mark (λ who. marks_for frame.core.id who sent)
