-- Hints rise after some rows of a calm journal: what each row keeps of a group in its course.
use Rattle.std.specs.Prelude.{◌≡◌, ℕ, List, Some}
use Rattle.sc_node_table.specs.Values.{Base, Seat}
use Rattle.sc_words.specs.paxos.PaxosDefinitions.{IsAtLeast}
use Rattle.sc_node_table.specs.NodeDefinitions.{ReplicaState}
use Rattle.sc_meaning.specs.sound.SoundDefinitions.{Player}
use Rattle.sc_live_steps.specs.calm.CalmDefinitions.{players, Rows}
use Rattle.sc_live_steps.specs.following.FollowingDefinitions.{pledged, Course, Sets, SlotLeaders}
use Rattle.sc_live_journals.specs.rows.RowDefinitions.{view_at, marks_at, progress_at}
use Rattle.sc_live_journals.specs.groups.GroupDefinitions.{hints_at}
use Rattle.sc_live_answers.specs.FormerMembers.{AreFated}
use Rattle.sc_live_answers.specs.SeenBallots.{AreSeen}

-- hints rise in a group, after some rows in a course: nodes that left it are as `AreFated` says, no replica saw a later ballot than it has promised once it has taken its mail, and each ballot that is promised or named was seen by its node (`AreSeen`)
pub record IsRisingOn (at : Sets) (by : SlotLeaders) (words : ℕ → ℕ → ℕ × ℕ) (births : List (Seat Player)) (rows : Rows) (base : Base) (course : Course) : Type 0 where
  pub fated : AreFated at by (progress_at births rows base course) (hints_at births rows base) (marks_at (players words births) rows base.core.id)
  pub seen : (node : ℕ) (r : ReplicaState) → view_at births rows base.core.id node ≡ Some r → IsAtLeast (pledged r.acceptor.promised (marks_at (players words births) rows base.core.id node)) r.top
  pub home : AreSeen words births rows base
