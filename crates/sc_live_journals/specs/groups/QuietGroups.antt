-- What a group that is well led is in a quiet journal.
use Rattle.std.specs.Prelude.{◌≡◌, ℕ, ◌≤◌, true, false, List, [], Some}
use Rattle.sc_node_table.specs.Values.{Base, Seat}
use Rattle.sc_base.specs.Definitions.{IsRoster, is_member}
use Rattle.sc_actor.specs.Definitions.{is_quiet}
use Rattle.sc_live_orderly.specs.OrderlyDefinitions.{is_born, AreInTime}
use Rattle.sc_words.specs.paxos.PaxosDefinitions.{below}
use Rattle.sc_node_table.specs.NodeDefinitions.{ReplicaState, next, members, settled}
use Rattle.sc_meaning.specs.sound.SoundDefinitions.{Player}
use Rattle.sc_live_steps.specs.calm.CalmDefinitions.{players, IsUnbound, MayVote, Rows}
use Rattle.sc_live_steps.specs.following.FollowingDefinitions.{Course, Sets, IsOpen, SlotLeaders, IsLeadOf, IsOrderly}
use Rattle.sc_live_journals.specs.rows.RowDefinitions.{view_at, progress_at, marks_at}
use Rattle.sc_live_journals.specs.groups.WellLedGroups.{Ends, IsWellLed}

-- One replica leads: a settled member that no report binds, with all in order. No other leads, none has executed more, and each member's has executed as much;
-- none has promised a later ballot; and each other replica of a node that decides an open slot may vote.
pub record IsLedQuietly (at : Sets) (births : List (Seat Player)) (rows : Rows) (base : Base) (course : Course) (lead : ReplicaState) : Type 0 where
  pub leads : IsLeadOf at (progress_at births rows base course) lead
  pub runs : lead.running ≡ true
  pub mine : is_member (members lead) lead.me ≡ true
  pub settled_is : settled lead ≡ true
  pub unbound : IsUnbound lead
  pub orderly : IsOrderly lead
  pub alone : (node : ℕ) (r : ReplicaState) → view_at births rows base.core.id node ≡ Some r → r.running ≡ true → r ≡ lead
  pub most : (node : ℕ) (r : ReplicaState) → view_at births rows base.core.id node ≡ Some r → next r ≤ next lead
  pub member : (node : ℕ) (r : ReplicaState) → view_at births rows base.core.id node ≡ Some r → is_member (members lead) node ≡ true → next r ≡ next lead
  pub promised : (node : ℕ) (r : ReplicaState) → view_at births rows base.core.id node ≡ Some r → below lead.leader.ballot r.acceptor.promised ≡ false
  pub voter : (node : ℕ) (r : ReplicaState) → view_at births rows base.core.id node ≡ Some r → r.me ≡ node → IsOpen at course.newest node → (node ≡ lead.me → ⊥) → MayVote lead r

-- In a quiet journal a group that is well led and stands is led as `IsLedQuietly` says by the replica at the node of its ballot,
-- if no Paxos mail of it is under way to a number that no player has. Of a group that is gone, no replica leads.
pub record QuietGroupsAreLed : Type 0 where
  pub stands : (at : Sets) (over : Ends) (by : SlotLeaders) (words : ℕ → ℕ → ℕ × ℕ) (births : List (Seat Player)) (rows : Rows) (base : Base) (course : Course) (lead : ReplicaState) → ((slot : ℕ) → IsRoster (at slot)) → AreInTime (players words births) rows
      → is_quiet (players words births) rows ≡ true → ((who : ℕ) → is_born (players words births) who ≡ false → marks_at (players words births) rows base.core.id who ≡ []) → IsWellLed at over by words births rows base course
      → course.gone ≡ false → view_at births rows base.core.id course.ballot.node ≡ Some lead → IsLedQuietly at births rows base course lead
  pub gone : (at : Sets) (over : Ends) (by : SlotLeaders) (words : ℕ → ℕ → ℕ × ℕ) (births : List (Seat Player)) (rows : Rows) (base : Base) (course : Course) → IsWellLed at over by words births rows base course → course.gone ≡ true
      → (node : ℕ) (r : ReplicaState) → view_at births rows base.core.id node ≡ Some r → r.running ≡ false
