-- A node that elects itself leads its group, and the group follows it.
use Rattle.std.specs.Prelude.{◌≡◌, ℕ, suc, ◌≤◌, true, false, List, [], length}
use Rattle.sc_node_table.specs.Values.{Command, Base, Mail, Learn, Seat}
use Rattle.sc_base.specs.Definitions.{is_member}
use Rattle.sc_words.specs.paxos.PaxosDefinitions.{below}
use Rattle.sc_node_table.specs.NodeDefinitions.{entered, NodeState, is_node, ReplicaState, name_of, next, members, last_slot, mailed, slots_ahead}
use Rattle.sc_meaning.specs.sound.SoundDefinitions.{Player}
use Rattle.sc_live_steps.specs.calm.CalmDefinitions.{Rows}
use Rattle.sc_live_steps.specs.following.FollowingDefinitions.{Course, Sets, members_at, AreAt, MayElect, next_ballot}
use Rattle.sc_live_journals.specs.rows.MailRows.{IsScene, TakesMail, HoldsReplica, FollowsAfter}
use Rattle.sc_live_journals.specs.rows.ReplicaSteps.{elected_course}

-- The replica has executed this entry, whoever leads now: its state and the members of its open slots are those after the entry, and nothing is ready.
pub record IsPast (command : Command) (r after : ReplicaState) : Type 0 where
  pub group_is : after.group ≡ (entered command r).group
  pub sets_are : after.sets ≡ (entered command r).sets
  pub me_is : after.me ≡ r.me
  pub ready_is : after.ready ≡ []

-- A replica with nothing ready that learns the entry of its next slot has executed it (`IsPast`).
abbrev pub LearntEntriesAreExecuted : Type 0
LearntEntriesAreExecuted = (from slot : ℕ) (command : Command) (r : ReplicaState) → slot ≡ next r → slot ≤ last_slot → r.ready ≡ [] → IsPast command r (mailed from (Learn (name_of r) slot command) (r, [])).0.0

-- No node leads the group, which stands, and the replica is to lead it next: the entry at this slot is the last one, after it the members and the open slots are the group's,
-- the replica may elect itself by the entry, and its ballot is later than the group's.
pub record IsNextLead (at : Sets) (course : Course) (slot : ℕ) (command : Command) (r : ReplicaState) : Type 0 where
  pub idle : course.running ≡ false
  pub stands : course.gone ≡ false
  pub low : slot ≤ last_slot
  pub last : suc slot ≡ course.newest
  pub may : MayElect (entered command r)
  pub members_are : members_at at course.newest ≡ members (entered command r)
  pub opens : AreAt at course.newest (entered command r).sets
  pub many : length (entered command r).sets ≡ slots_ahead
  pub nodes : (slot node : ℕ) → is_member (at slot) node ≡ true → is_node node ≡ true
  pub later : below course.ballot (next_ballot r) ≡ true

-- A group follows the replica that learns that entry and elects itself by it.
abbrev pub ElectionsKeepFollowing : Type 0
ElectionsKeepFollowing =
    (at : Sets) (words : ℕ → ℕ → ℕ × ℕ) (births : List (Seat Player)) (rows : Rows) (seat : Seat Player) (number : ℕ) (mail : Mail) (node : NodeState) (base : Base) (course : Course) (r : ReplicaState) (slot : ℕ) (command : Command)
    → IsScene at words births rows seat node base course → TakesMail words births rows seat number mail → HoldsReplica seat node base r → mail.body ≡ Learn base.core.id slot command → IsNextLead at course slot command r
    → FollowsAfter at words births rows seat number base (elected_course course (next_ballot r))
