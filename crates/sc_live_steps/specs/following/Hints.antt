-- Whom each node of a group takes for the leader while members come and go. So the node that is to lead next elects itself by the last entry, and no other node does by any.
use Rattle.std.specs.Prelude.{◌≡◌, ℕ, suc, ◌+◌, ◌<◌, ◌≤◌, true, false, List, [], ◌∷◌, if◌then◌else◌, Option, Some, ◌⊎◌}
use Rattle.sc_node_table.specs.Values.{Ballot}
use Rattle.sc_base.specs.Definitions.{IsRoster, is_member, least_of}
use Rattle.sc_node_table.specs.NodeDefinitions.{is_among}
use Rattle.sc_words.specs.paxos.PaxosDefinitions.{below}
use Rattle.sc_live_steps.specs.following.MailUnderWay.{Mark, Asks, Votes, Teaches, Installs, Prepares, Promises, promise_by, Course, Progress, Sets, members_at, IsOpen, IsFollowing}
use Rattle.sc_live_steps.specs.following.LeaderRows.{IsRow, IsIdle, Takes, Leads, Elects, begun}

-- The node that leads at each slot: it counts the votes for the slot's entry, sends the entry to be learnt, and sends the state after it.
abbrev pub SlotLeaders : Type 0
SlotLeaders = ℕ → ℕ

-- Whom a node that does not lead takes for the leader after it took a mail: the node of a ballot that it accepts or newly promises, or the sender of a state.
-- If that one is no member after an entry, it is the least member.
abbrev pub hint_by : Sets → SlotLeaders → Ballot → Option ℕ → Mark → Option ℕ
hint_by at by promise hint (Asks ballot slot) = Some ballot.node
hint_by at by promise hint (Prepares ballot) = if below promise ballot then Some ballot.node else hint
hint_by at by promise hint (Teaches slot) = if is_among (members_at at (slot + 1)) hint then hint else Some (least_of (members_at at (slot + 1)))
hint_by at by promise hint (Installs slot) = Some (by slot)
hint_by at by promise hint (Votes node ballot slot) = hint
hint_by at by promise hint (Promises node ballot) = hint

-- Whom a node that does not lead takes for the leader after it took all these mails, one after another.
abbrev pub hinted : Sets → SlotLeaders → Ballot → Option ℕ → List Mark → Option ℕ
hinted at by promise hint [] = hint
hinted at by promise hint (mark ∷ marks) = hinted at by (promise_by promise mark) (hint_by at by promise hint mark) marks

-- The node that counted the entry at this slot is a member after it; or `node` is not the least member then; or the entry is the last one, and no node leads.
abbrev pub MayLeave : Sets → SlotLeaders → Course → ℕ → ℕ → Type 0
MayLeave at by course node slot = (is_member (members_at at (slot + 1)) (by slot) ≡ true) ⊎ ((least_of (members_at at (slot + 1)) ≡ node → ⊥) ⊎ ((course.running ≡ false) × (suc slot ≡ course.newest)))

-- A node learns an entry from the node that it takes for the leader, and `MayLeave` holds of the entry; a state is sent by a member. Nothing is asked of other mails.
abbrev pub IsHeeded : Sets → SlotLeaders → Course → ℕ → Option ℕ → Mark → Type 0
IsHeeded at by course node hint (Teaches slot) = (hint ≡ Some (by slot)) × MayLeave at by course node slot
IsHeeded at by course node hint (Installs slot) = is_member (members_at at (slot + 1)) (by slot) ≡ true
IsHeeded at by course node hint (Asks ballot slot) = Unit {0}
IsHeeded at by course node hint (Prepares ballot) = Unit {0}
IsHeeded at by course node hint (Votes other ballot slot) = Unit {0}
IsHeeded at by course node hint (Promises other ballot) = Unit {0}

-- `IsHeeded` holds of each of these mails, taken one after another.
abbrev pub AreHeeded : Sets → SlotLeaders → Course → ℕ → Ballot → Option ℕ → List Mark → Type 0
AreHeeded at by course node promise hint [] = Unit {0}
AreHeeded at by course node promise hint (mark ∷ marks) = IsHeeded at by course node hint mark × AreHeeded at by course node (promise_by promise mark) (hint_by at by promise hint mark) marks

-- The node does not lead.
abbrev pub IsOther : Course → ℕ → Type 0
IsOther course node = course.running ≡ true → node ≡ course.ballot.node → ⊥

-- Whom each node takes for the leader. While a node leads, each other node that decides an open slot takes it for the leader once it has taken its mail.
-- Where none leads and the group stands, the node that counted the last entry is no member.
pub record IsHeeding (at : Sets) (by : SlotLeaders) (now : Progress) (hints : ℕ → Option ℕ) (marks : ℕ → List Mark) : Type 0 where
  pub heeds : (node : ℕ) → IsOther now.course node → AreHeeded at by now.course node (now.promise node) (hints node) (marks node)
  pub ends : now.course.running ≡ true → (node : ℕ) → (node ≡ now.course.ballot.node → ⊥) → IsOpen at now.course.newest node → hinted at by (now.promise node) (hints node) (marks node) ≡ Some now.course.ballot.node
  pub left : now.course.running ≡ false → now.course.gone ≡ false → (slot : ℕ) → suc slot ≡ now.course.newest → is_member (members_at at now.course.newest) (by slot) ≡ false

-- What a kind of row says of whom its node takes for the leader before and after it.
abbrev pub HintKind : Type 1
HintKind = Sets → SlotLeaders → Progress → Progress → ℕ → Option Mark → Option ℕ → Option ℕ → Type 0

-- The node takes the same node for the leader after the row as before it.
abbrev pub StaysSo : HintKind
StaysSo at by now after node taken hint hint_after = hint_after ≡ hint

-- Whom the node takes for the leader changes as `hint_by` says of the mail, unless the node leads, or has executed all entries of a group that is gone.
abbrev pub GoesBy : HintKind
GoesBy at by now after node taken hint hint_after =
    (mark : Mark) → taken ≡ Some mark → IsOther now.course node → (hint_after ≡ hint_by at by (now.promise node) hint mark) ⊎ ((now.course.gone ≡ true) × (after.next node ≡ now.course.newest))

-- A leader counts each entry that it executes, and is a member after each but the last. If it is no member after the last one, nobody joins by that entry.
pub record LeavesLast (at : Sets) (by : SlotLeaders) (now after : Progress) : Type 0 where
  pub counts : (slot : ℕ) → now.course.newest ≤ slot → slot < after.course.newest → by slot ≡ now.course.ballot.node
  pub stayed : (slot : ℕ) → now.course.newest ≤ slot → suc slot < after.course.newest → is_member (members_at at (slot + 1)) now.course.ballot.node ≡ true
  pub alone : (slot : ℕ) → now.course.newest ≤ slot → suc slot ≡ after.course.newest
      → (is_member (members_at at (slot + 1)) now.course.ballot.node ≡ true) ⊎ ((who : ℕ) → is_member (members_at at (slot + 1)) who ≡ true → is_member (members_at at slot) who ≡ true)

-- Of a leader's row `LeavesLast` holds, and nothing is said of whom the leader takes for the leader.
abbrev pub LeadsSo : HintKind
LeadsSo at by now after node taken hint hint_after = LeavesLast at by now after

-- Nothing is said of whom a node takes for the leader that elects itself.
abbrev pub ElectsSo : HintKind
ElectsSo at by now after node taken hint hint_after = Unit {0}

-- Each row of this kind, with `hints` and `hints_after` as whom each node takes for the leader before and after it, keeps `IsHeeding`.
abbrev pub KeepsHints : (Sets → Progress → Progress → ℕ → Option Mark → (ℕ → List Mark) → Type 0) → HintKind → Type 0
KeepsHints Kind Hint =
    (at : Sets) (by : SlotLeaders) (now after : Progress) (node : ℕ) (taken : Option Mark) (sent marks marks_after : ℕ → List Mark) (hints hints_after : ℕ → Option ℕ)
    → ((slot : ℕ) → IsRoster (at slot)) → IsRow now after node taken sent marks marks_after → Kind at now after node taken sent → IsFollowing at now marks
    → ((who : ℕ) → (who ≡ node → ⊥) → hints_after who ≡ hints who) → Hint at by now after node taken (hints node) (hints_after node) → IsHeeding at by now hints marks → IsHeeding at by after hints_after marks_after

-- Each kind of row keeps `IsHeeding`, and it holds where a group begins and all nodes take its first leader for the leader.
pub record HintsAreKept : Type 0 where
  pub begin : (at : Sets) (by : SlotLeaders) (ballot : Ballot) (hints : ℕ → Option ℕ) → ((node : ℕ) → (node ≡ ballot.node → ⊥) → IsOpen at 1 node → hints node ≡ Some ballot.node)
      → IsHeeding at by (begun (members_at at 1) ballot) hints (λ node. [])
  pub idle : KeepsHints (λ at. IsIdle) StaysSo
  pub takes : KeepsHints Takes GoesBy
  pub leads : KeepsHints Leads LeadsSo
  pub self_election : KeepsHints Elects ElectsSo

-- What `IsHeeding` says of the next mail of a node that does not lead.
-- `told`: after an entry it takes a member for the leader, or is not the least member, or the entry is the last one and no node leads.
-- `last`, `sent`: where no node leads a group that stands, a node that learns the last entry takes no member for the leader, and no state under way is the last one.
pub record NodesHeed : Type 0 where
  pub told : (at : Sets) (by : SlotLeaders) (now : Progress) (hints : ℕ → Option ℕ) (marks : ℕ → List Mark) (node slot : ℕ) (rest : List Mark) → IsHeeding at by now hints marks → IsOther now.course node → marks node ≡ Teaches slot ∷ rest
      → (is_among (members_at at (slot + 1)) (hints node) ≡ true) ⊎ ((least_of (members_at at (slot + 1)) ≡ node → ⊥) ⊎ ((now.course.running ≡ false) × (suc slot ≡ now.course.newest)))
  pub last : (at : Sets) (by : SlotLeaders) (now : Progress) (hints : ℕ → Option ℕ) (marks : ℕ → List Mark) (node slot : ℕ) (rest : List Mark) → IsHeeding at by now hints marks → now.course.running ≡ false → now.course.gone ≡ false
      → marks node ≡ Teaches slot ∷ rest → suc slot ≡ now.course.newest → is_among (members_at at now.course.newest) (hints node) ≡ false
  pub sent : (at : Sets) (by : SlotLeaders) (now : Progress) (hints : ℕ → Option ℕ) (marks : ℕ → List Mark) (node slot : ℕ) (rest : List Mark) → IsHeeding at by now hints marks → now.course.running ≡ false → now.course.gone ≡ false
      → marks node ≡ Installs slot ∷ rest → suc slot ≡ now.course.newest → ⊥
