-- What is under way between the leader of a group and its nodes: which mail of Paxos is for whom, and in which order it comes. A mail counts by its mark, which leaves out what the mail says besides.
use Rattle.std.specs.Prelude.{◌≡◌, ℕ, suc, ◌+◌, ◌<◌, ◌≤◌, max, true, List, [], ◌∷◌, Option, Some, if◌then◌else◌, ◌⊎◌}
use Rattle.sc_base.specs.Definitions.{Among, Each, same_draw, is_member}
use Rattle.sc_node_table.specs.Values.{Draw, Mail, MailBody, Request, Answer, Prepare, Promise, Accept, Accepted, Nack, Learn, Ask, Install, TxPrepare, TxVote, TxOutcome, TxElsewhere, TxWatch, TxWatched, Told}
use Rattle.sc_node_table.specs.NodeDefinitions.{numbers_from}
use Rattle.sc_live_plain.specs.Frames.{Frame}

-- the mark of a mail for a group: it asks to accept something at a slot, it is the vote of a node at a slot, it reports what was decided at a slot, or it is none of these
pub data Mark : Type 0 where
  Asks : (slot : ℕ) → Mark
  Votes : (node slot : ℕ) → Mark
  Teaches : (slot : ℕ) → Mark
  Other : Mark

-- the mark of a body from a node, for the group of this name: Accept asks, Accepted votes, Learn reports, and all else is other
abbrev pub mark_of : Draw → ℕ → MailBody → Mark
mark_of name from (Accept group ballot slot command) = if same_draw group name then Asks slot else Other
mark_of name from (Accepted group ballot slot) = if same_draw group name then Votes from slot else Other
mark_of name from (Learn group slot command) = if same_draw group name then Teaches slot else Other
mark_of name from (Request group client seq op) = Other
mark_of name from (Answer group seq answer) = Other
mark_of name from (Prepare group ballot from_slot) = Other
mark_of name from (Promise group ballot reports) = Other
mark_of name from (Nack group promised) = Other
mark_of name from (Ask group from_slot) = Other
mark_of name from (Install group slot base sets) = Other
mark_of name from (TxPrepare tx offer) = Other
mark_of name from (TxVote tx coord part vote) = Other
mark_of name from (TxOutcome tx part outcome) = Other
mark_of name from (TxElsewhere tx coord hint) = Other
mark_of name from (TxWatch tx watch) = Other
mark_of name from (TxWatched tx coord part vote) = Other
mark_of name from (Told order result) = Other

-- the mark of a mail, for the group of this name
abbrev pub mark : Draw → Mail → Mark
mark name mail = mark_of name mail.from mail.body

-- the marks come in an order that a node can follow: each Asks is for a slot that is at least `low` and above each slot that a mark before it votes for or reports
abbrev pub AreInOrder : ℕ → List Mark → Type 0
AreInOrder low [] = Unit {0}
AreInOrder low (Asks slot ∷ marks) = (low ≤ slot) × AreInOrder low marks
AreInOrder low (Votes node slot ∷ marks) = AreInOrder (max low (suc slot)) marks
AreInOrder low (Teaches slot ∷ marks) = AreInOrder (max low (suc slot)) marks
AreInOrder low (Other ∷ marks) = AreInOrder low marks

-- the mark names a slot below this one, or none
abbrev pub IsBelow : ℕ → Mark → Type 0
IsBelow bound (Asks slot) = slot < bound
IsBelow bound (Votes node slot) = slot < bound
IsBelow bound (Teaches slot) = slot < bound
IsBelow bound Other = Unit {0}

-- the slots that marks report, in their order
abbrev pub taught_slots : List Mark → List ℕ
taught_slots [] = []
taught_slots (Teaches slot ∷ marks) = slot ∷ taught_slots marks
taught_slots (Asks slot ∷ marks) = taught_slots marks
taught_slots (Votes node slot ∷ marks) = taught_slots marks
taught_slots (Other ∷ marks) = taught_slots marks

-- the view of a group: the next slot of each node, the first slot at which the leader has offered nothing yet, and the voters for the command in flight at a slot
pub record View : Type 0 where
  pub next : ℕ → ℕ
  pub bound : ℕ
  pub voters : ℕ → Option (List ℕ)

-- the marks report to a node exactly the slots that it has not executed and its leader has, in ascending order
pub record IsLearning (from to : ℕ) (marks : List Mark) : Type 0 where
  pub left : ℕ
  pub reaches : from + left ≡ to
  pub tells : taught_slots marks ≡ numbers_from from left

-- the vote of a member for the command in flight at a slot is counted, or it is under way to the leader, or the mail that asks the member for it is under way
abbrev pub IsVoting : ℕ → ℕ → List ℕ → List Mark → List Mark → Type 0
IsVoting node slot voters to_node to_lead = (is_member voters node ≡ true) ⊎ (Among (Asks slot) to_node ⊎ Among (Votes node slot) to_lead)

-- what stands between the leader of a group and its nodes, where `marks` are the marks of the mail that each has not taken: what a member has to learn is under way to it in order; what is asked or told is of slots below the first that was never offered; and of each command in flight each member's vote is counted, under way or still asked for
pub record IsBetween (frame : Frame) (view : View) (marks : ℕ → List Mark) : Type 0 where
  pub learners : (node : ℕ) → is_member frame.core.members node ≡ true → (node ≡ frame.lead → ⊥) → IsLearning (view.next node) (view.next frame.lead) (marks node)
  pub order : (node : ℕ) → AreInOrder (view.next node) (marks node)
  pub below : (node : ℕ) → Each (IsBelow view.bound) (marks node)
  pub low : (node : ℕ) → view.next node ≤ view.bound
  pub undone : (slot : ℕ) → Among (Asks slot) (marks frame.lead) → view.voters slot ≡ Some []
  pub flying : (slot : ℕ) (voters : List ℕ) → view.voters slot ≡ Some voters → view.next frame.lead ≤ slot
  pub votes : (slot : ℕ) (voters : List ℕ) → view.voters slot ≡ Some voters → (node : ℕ) → is_member (frame.at slot) node ≡ true → IsVoting node slot voters (marks node) (marks frame.lead)
