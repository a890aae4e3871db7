-- Whom a replica's table takes for the leader, and so which replica elects itself when it learns an entry.
use Rattle.std.specs.Prelude.{◌≡◌, ℕ, suc, ◌+◌, ◌-◌, ◌^◌, ◌<◌, ◌≤◌, false, List, [], ◌∷◌, length, Option, None, is_some, true, ◌⊎◌}
use Rattle.sc_node_table.specs.Values.{Ballot, Draw, Command, Base, Prepare, Accept, Learn, Install}
use Rattle.sc_base.specs.Definitions.{is_member}
use Rattle.sc_node_table.specs.NodeDefinitions.{entered, ReplicaState, Place, name_of, next, members, last_slot, mailed, made_by}
use Rattle.sc_law_walks.specs.WalkDefinitions.{GoesOn}
use Rattle.sc_live_steps.specs.following.MailUnderWay.{Mark, Asks, Teaches, Installs, Prepares, Progress, Sets, members_at}
use Rattle.sc_live_steps.specs.following.Hints.{SlotLeaders, hint_by, IsOther, IsHeeding, LeavesLast}
use Rattle.sc_live_steps.specs.following.LeaderTables.{IsLeadOf, progress_by, LeadsInto}
use Rattle.sc_live_steps.specs.following.PaxosTables.{IsInTime, Stays, MayElect}

-- A replica that does not lead takes for the leader whom `hint_by` says of the mark of a mail that comes in time.
-- Of an entry this holds where the group stands after it and the replica does not elect itself; of a state, where its sender is a member.
pub record HintsFollow : Type 0 where
  pub accept : (at : Sets) (by : SlotLeaders) (ballot : Ballot) (slot : ℕ) (command : Command) (r : ReplicaState) → IsInTime (Asks ballot slot) r → GoesOn ballot r → r.acceptor.floor < next r → r.running ≡ false
      → (mailed ballot.node (Accept (name_of r) ballot slot command) (r, [])).0.0.hint ≡ hint_by at by r.acceptor.promised r.hint (Asks ballot slot)
  pub prepare : (at : Sets) (by : SlotLeaders) (ballot : Ballot) (from_slot : ℕ) (r : ReplicaState) → IsInTime (Prepares ballot) r → GoesOn ballot r → r.acceptor.floor < from_slot → r.running ≡ false
      → (mailed ballot.node (Prepare (name_of r) ballot from_slot) (r, [])).0.0.hint ≡ hint_by at by r.acceptor.promised r.hint (Prepares ballot)
  pub learn : (at : Sets) (by : SlotLeaders) (from slot : ℕ) (command : Command) (r : ReplicaState) → IsInTime (Teaches slot) r → r.running ≡ false → r.leader.flights ≡ [] → slot ≤ last_slot → Stays (entered command r)
      → (entered command r).group.core.gone ≡ None → members_at at (slot + 1) ≡ members (entered command r)
      → (mailed from (Learn (name_of r) slot command) (r, [])).0.0.hint ≡ hint_by at by r.acceptor.promised r.hint (Teaches slot)
  pub install : (at : Sets) (by : SlotLeaders) (slot : ℕ) (base : Base) (sets : List (List ℕ)) (r : ReplicaState) → IsInTime (Installs slot) r → r.running ≡ false → slot ≤ last_slot → length sets ≡ length r.sets
      → is_member base.core.members (by slot) ≡ true → (mailed (by slot) (Install (name_of r) slot base sets) (r, [])).0.0.hint ≡ hint_by at by r.acceptor.promised r.hint (Installs slot)
  pub made : (at : Sets) (by : SlotLeaders) (promise : Ballot) (hint : Option ℕ) (me : ℕ) (group : Draw) (slot : ℕ) (base : Base) (sets : List (List ℕ)) → is_member base.core.members (by slot) ≡ true
      → (made_by me (by slot) group slot base sets).0.hint ≡ hint_by at by promise hint (Installs slot)

-- The replica that learns this entry does not lead, and agrees with its group's progress:
-- whom it takes for the leader, the members after the entry, and, if the entry is the last one, whether the group is gone after it.
pub record IsLearner (at : Sets) (now : Progress) (hints : ℕ → Option ℕ) (slot : ℕ) (command : Command) (r : ReplicaState) : Type 0 where
  pub other : IsOther now.course r.me
  pub hint : r.hint ≡ hints r.me
  pub members_are : members_at at (slot + 1) ≡ members (entered command r)
  pub ends : suc slot ≡ now.course.newest → is_some (entered command r).group.core.gone ≡ now.course.gone

-- The replica is to lead next: the entry is the last one, no node leads, and the group stands. It may elect itself while it has a later round.
pub record IsHeir (now : Progress) (slot : ℕ) (command : Command) (r : ReplicaState) : Type 0 where
  pub idle : now.course.running ≡ false
  pub stands : now.course.gone ≡ false
  pub last : suc slot ≡ now.course.newest
  pub may : r.top.round < 2 ^ 32 - 1 → MayElect (entered command r)

-- A replica that learns an entry does not elect itself, or it is the one that is to lead next.
abbrev pub HeirsElect : Type 0
HeirsElect =
    (at : Sets) (by : SlotLeaders) (now : Progress) (hints : ℕ → Option ℕ) (marks : ℕ → List Mark) (slot : ℕ) (rest : List Mark) (command : Command) (r : ReplicaState)
    → IsHeeding at by now hints marks → marks r.me ≡ Teaches slot ∷ rest → IsLearner at now hints slot command r → Stays (entered command r) ⊎ IsHeir now slot command r

-- A leader's row in the table satisfies `LeavesLast`, if the leader counted each entry that it executes,
-- and nobody joins by the entry by which the leader leaves.
abbrev pub LeadersLeaveLast : Type 0
LeadersLeaveLast =
    (at : Sets) (by : SlotLeaders) (now : Progress) (taken : Option Mark) (r : ReplicaState) (after : Place) → IsLeadOf at now r → (l : LeadsInto at now taken r after)
    → ((slot : ℕ) → now.course.newest ≤ slot → slot < next after.0 → by slot ≡ now.course.ballot.node)
    → ((slot : ℕ) → now.course.newest ≤ slot → suc slot ≡ next after.0
    → (is_member (members_at at (slot + 1)) now.course.ballot.node ≡ true) ⊎ ((who : ℕ) → is_member (members_at at (slot + 1)) who ≡ true → is_member (members_at at slot) who ≡ true))
    → LeavesLast at by now (progress_by l.bound now after.0)
