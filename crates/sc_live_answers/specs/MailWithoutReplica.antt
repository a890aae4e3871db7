-- What a mail finds at a node that has no replica of its group, and what the children that a row makes find.
use Rattle.std.specs.Prelude.{List, None, Some, ℕ, ◌≡◌}
use Rattle.sc_node_table.specs.Values.{Seat, Deliver, Draw, Base, Free, Mail, Install}
use Rattle.sc_live_answers.specs.GuidedGroups.{IsNamedGuide}
use Rattle.sc_live_journals.specs.groups.GroupDefinitions.{Ends, IsWellLed}
use Rattle.sc_live_steps.specs.calm.CalmDefinitions.{Rows}
use Rattle.sc_live_journals.specs.mail.MailDefinitions.{IsPosted}
use Rattle.sc_live_steps.specs.orders.OrderDefinitions.{bond_of, Unbound}
use Rattle.sc_live_journals.specs.rows.RowDefinitions.{view_at}
use Rattle.sc_live_journals.specs.scenes.SceneDefinitions.{NodeFinds, IsThere, IsTaking, MayCreate}
use Rattle.sc_live_steps.specs.following.FollowingDefinitions.{Course, Sets, SlotLeaders}
use Rattle.sc_node_table.specs.NodeDefinitions.{NodeState, ReplicaState}
use Rattle.sc_meaning.specs.sound.SoundDefinitions.{Player}

-- a mail to a node without a replica of its group finds what an order needs, where a group of which a state comes is guided at the row and has a replica
abbrev pub MissedAreFound : Type 0
MissedAreFound =
    (words : ℕ → ℕ → ℕ × ℕ) (births : List (Seat Player)) (rows : Rows) (seat : Seat Player) (number : ℕ) (mail : Mail) (group : Draw) (node : NodeState) → IsTaking words births rows seat number mail group node → IsPosted births mail
    → ((slot : ℕ) (state : Base) (sets : List (List ℕ)) → mail.body ≡ Install group slot state sets → IsNamedGuide words births rows seat (Deliver number) group × IsThere births rows group)
    → NodeFinds births rows seat number mail group mail.body

-- a child that a row makes at a node is young: it is well led, its record is not locked, no replica of it is bound in a transaction, and where this node is to lead it, the node has no replica of it yet
pub record IsYoung (words : ℕ → ℕ → ℕ × ℕ) (births : List (Seat Player)) (rows : Rows) (seat : Seat Player) (child : Base) : Type 0 where
  pub at : Sets
  pub over : Ends
  pub by : SlotLeaders
  pub course : Course
  pub led : IsWellLed at over by words births rows child course
  pub free : child.core.lock ≡ Free
  pub unbound : (node : ℕ) (r : ReplicaState) → view_at births rows child.core.id node ≡ Some r → bond_of r.group.core ≡ Unbound
  pub first : child.core.first ≡ seat.who → view_at births rows child.core.id seat.who ≡ None

-- a young child may be made (`MayCreate`)
abbrev pub YoungChildMayBeCreated : Type 0
YoungChildMayBeCreated = (words : ℕ → ℕ → ℕ × ℕ) (births : List (Seat Player)) (rows : Rows) (seat : Seat Player) (child : Base) → IsYoung words births rows seat child → MayCreate births rows seat child
