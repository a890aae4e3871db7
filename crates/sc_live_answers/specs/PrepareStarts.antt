-- From which slot on each node is asked to promise a ballot: from above all that it has accepted by then.
use Rattle.std.specs.Prelude.{◌≡◌, ℕ, suc, max, ◌<◌, ◌≤◌, List, [], ◌∷◌, Some}
use Rattle.sc_base.specs.Definitions.{Each}
use Rattle.sc_node_table.specs.Values.{Base, Seat}
use Rattle.sc_words.specs.paxos.PaxosDefinitions.{IsAtLeast}
use Rattle.sc_node_table.specs.NodeDefinitions.{ReplicaState}
use Rattle.sc_meaning.specs.sound.SoundDefinitions.{Player}
use Rattle.sc_live_steps.specs.calm.CalmDefinitions.{players, Rows}
use Rattle.sc_live_steps.specs.following.FollowingDefinitions.{Dated, Mark, Asks, Votes, Teaches, Installs, Prepares, Promises, Course}
use Rattle.sc_live_journals.specs.rows.RowDefinitions.{view_at}
use Rattle.sc_live_journals.specs.groups.GroupDefinitions.{dated_at}

-- a node that has accepted nothing from the slot `top` on is asked to promise a ballot only for slots from `top` or a later one on; other marks ask nothing of it
abbrev pub IsAbove : ℕ → Mark → ℕ → Type 0
IsAbove top (Prepares ballot) from = top ≤ from
IsAbove top (Asks ballot slot) from = Unit {0}
IsAbove top (Votes node ballot slot) from = Unit {0}
IsAbove top (Teaches slot) from = Unit {0}
IsAbove top (Installs slot) from = Unit {0}
IsAbove top (Promises node ballot) from = Unit {0}

-- the slot from which on a node has accepted nothing, after it takes a mail with this mark: only a mail that asks it to accept raises it
abbrev pub top_by : ℕ → Mark → ℕ
top_by top (Asks ballot slot) = max top (suc slot)
top_by top (Prepares ballot) = top
top_by top (Votes node ballot slot) = top
top_by top (Teaches slot) = top
top_by top (Installs slot) = top
top_by top (Promises node ballot) = top

-- each of these marks is as `IsAbove` says, where the node takes the mail in this order
abbrev pub AreAbove : ℕ → List Dated → Type 0
AreAbove top [] = Unit {0}
AreAbove top (d ∷ dated) = IsAbove top d.0 d.1 × AreAbove (top_by top d.0) dated

-- a replica has accepted nothing from the slot `top` on
abbrev pub HasBelow : ℕ → ReplicaState → Type 0
HasBelow top r = Each (λ report. report.slot < top) r.acceptor.accepted

-- what holds of a group after some rows, in a course: no node has accepted, or is asked to accept, anything at a slot at which nothing was offered; each node is asked to promise only from above all that it has accepted by then; no replica keeps a report, and none has seen a later ballot than the course's
pub record IsAskedOn (words : ℕ → ℕ → ℕ × ℕ) (births : List (Seat Player)) (rows : Rows) (base : Base) (course : Course) : Type 0 where
  pub tops : ℕ → ℕ
  pub low : (node : ℕ) → tops node ≤ course.bound
  pub above : (node : ℕ) → AreAbove (tops node) (dated_at (players words births) rows base.core.id node)
  pub accepted : (node : ℕ) (r : ReplicaState) → view_at births rows base.core.id node ≡ Some r → HasBelow (tops node) r
  pub plain : (node : ℕ) (r : ReplicaState) → view_at births rows base.core.id node ≡ Some r → r.leader.reports ≡ []
  pub seen : (node : ℕ) (r : ReplicaState) → view_at births rows base.core.id node ≡ Some r → IsAtLeast course.ballot r.top
