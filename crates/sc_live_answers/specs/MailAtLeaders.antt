-- What a mail finds at the replica that leads.
use Rattle.std.specs.Prelude.{List, Option, true, ℕ, ◌≡◌}
use Rattle.sc_node_table.specs.Values.{Seat, Ballot, Draw, Op, Base, Mail, Accepted, Request}
use Rattle.sc_live_answers.specs.FollowerMail.{IsHere, IsUnsettled}
use Rattle.sc_live_steps.specs.calm.CalmDefinitions.{Rows}
use Rattle.sc_live_steps.specs.orders.OrderDefinitions.{Scene, Work, IsUnderWay}
use Rattle.sc_live_journals.specs.scenes.SceneDefinitions.{FindsFlight, LeaderFinds, scene_at, LeadsAlone}
use Rattle.sc_node_table.specs.NodeDefinitions.{NodeState, ReplicaState, listed}
use Rattle.sc_meaning.specs.sound.SoundDefinitions.{Player}

-- while an order is under way each leader has one work of it, or none
abbrev pub StagesLeaveOneWork : Type 0
StagesLeaveOneWork = (now : Scene) (group : Draw) → IsUnderWay now → (work : Option Work) × ((now.at group).work ≡ listed work)

-- a mail to the leader finds what an order needs, where an order is under way and no request comes; for a vote, `FindsFlight` is a premise
abbrev pub LeadersAreFound : Type 0
LeadersAreFound =
    (words : ℕ → ℕ → ℕ × ℕ) (births : List (Seat Player)) (rows : Rows) (seat : Seat Player) (number : ℕ) (mail : Mail) (base : Base) (node : NodeState) (r : ReplicaState) → IsHere words births rows seat number mail base node r
    → r.running ≡ true → IsUnderWay (scene_at births rows) → IsUnsettled r mail.body → ((named : Draw) (client seq : ℕ) (op : Op) → mail.body ≡ Request named client seq op → ⊥)
    → ((named : Draw) (ballot : Ballot) (slot : ℕ) → mail.body ≡ Accepted named ballot slot → FindsFlight births rows seat number mail base.core.id r slot)
    → LeadsAlone births rows base.core.id seat.who r × LeaderFinds births rows seat number mail base.core.id r mail.body
