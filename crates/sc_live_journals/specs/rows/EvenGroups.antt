-- What a group that follows its leader is in a quiet journal (no mail pending).
use Rattle.std.specs.Prelude.{◌≡◌, ℕ, true, false, List, [], Some}
use Rattle.sc_node_table.specs.Values.{Base, Seat}
use Rattle.sc_base.specs.Definitions.{IsRoster}
use Rattle.sc_actor.specs.Definitions.{is_quiet}
use Rattle.sc_live_orderly.specs.OrderlyDefinitions.{is_born, AreInTime}
use Rattle.sc_node_table.specs.NodeDefinitions.{ReplicaState}
use Rattle.sc_meaning.specs.sound.SoundDefinitions.{Player}
use Rattle.sc_live_steps.specs.calm.CalmDefinitions.{players, Rows}
use Rattle.sc_live_steps.specs.following.FollowingDefinitions.{Course, Sets, IsEven, IsEvenLed, IsLeadOf}
use Rattle.sc_live_journals.specs.rows.Groups.{view_at, progress_at, marks_at, IsFollowedAt}

-- All members of the group have executed all entries. If the group stands, the replica at the node of its ballot leads, no other does,
-- and each node that decides an open slot has promised that ballot.
pub record IsEvenAt (at : Sets) (births : List (Seat Player)) (rows : Rows) (base : Base) (course : Course) : Type 0 where
  pub even : IsEven at (progress_at births rows base course)
  pub led : course.gone ≡ false → IsEvenLed at (progress_at births rows base course)
  pub lead : course.gone ≡ false → (r : ReplicaState) → view_at births rows base.core.id course.ballot.node ≡ Some r → IsLeadOf at (progress_at births rows base course) r
  pub alone : (node : ℕ) (r : ReplicaState) → view_at births rows base.core.id node ≡ Some r → r.running ≡ true → node ≡ course.ballot.node

-- A group that follows its leader is even in a quiet journal, if no Paxos mail of it is under way to a number that no player has.
abbrev pub QuietGroupsRest : Type 0
QuietGroupsRest =
    (at : Sets) (words : ℕ → ℕ → ℕ × ℕ) (births : List (Seat Player)) (rows : Rows) (base : Base) (course : Course) → ((slot : ℕ) → IsRoster (at slot)) → AreInTime (players words births) rows → is_quiet (players words births) rows ≡ true
    → ((who : ℕ) → is_born (players words births) who ≡ false → marks_at (players words births) rows base.core.id who ≡ []) → IsFollowedAt at words births rows base course → IsEvenAt at births rows base course
