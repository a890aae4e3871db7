-- What a replica owes where another replica of its group leads or is gone: the same without what its group owes.
use Rattle.std.specs.Prelude.{◌≡◌, ℕ, ◌+◌, ◌≤◌, true, false, List, [], sum_by, Some}
use Rattle.sc_node_table.specs.Values.{Draw, Command, Route, MailBody, Learn}
use Rattle.sc_node_table.specs.NodeDefinitions.{entered, executed_one, NodeState, on_mail, ReplicaState, Place, name_of, next, mailed}
use Rattle.sc_live_steps.specs.calm.NodePotential.{IsTaken, after_mail}
use Rattle.sc_live_steps.specs.calm.CalmPotential.{Ways, body_owes, mail_owes, replica_owes}
use Rattle.sc_live_steps.specs.calm.PartyPotential.{Elsewhere, party_owes, party_turn_owes}

-- What is owed at a replica during its row: by its work and by the mails that the row has sent, without what its group owes.
abbrev pub led_owes : Ways → Place → ℕ
led_owes ways place = replica_owes ways.most place.0 + sum_by (mail_owes ways) place.1

-- A mail lowers `led_owes` by at least one.
abbrev pub LowersLed : Ways → ℕ → MailBody → Place → Type 0
LowersLed ways from body place = led_owes ways (mailed from body place).0 + 1 ≤ led_owes ways place + body_owes ways place.0.me body

-- A replica that learns this entry does not lead after it.
abbrev pub StaysBehind : Command → ReplicaState → Type 0
StaysBehind command r = (executed_one false command (r, [])).0.running ≡ false

-- `StaysBehind` holds of a replica whose group is gone after the entry.
abbrev pub EndsLeaveNone : Type 0
EndsLeaveNone =
    (command : Command) (into : Route) (r : ReplicaState) → r.running ≡ false → r.leader.flights ≡ [] → (entered command r).group.core.gone ≡ Some into → StaysBehind command r

-- The replica does not lead, has nothing in flight, and learns an entry, its next one at most, by which it does not become leader.
pub record LearnsLed (slot : ℕ) (command : Command) (r : ReplicaState) : Type 0 where
  pub stopped : r.running ≡ false
  pub flights : r.leader.flights ≡ []
  pub low : slot ≤ next r
  pub behind : StaysBehind command r

-- A replica that learns such an entry lowers `led_owes`, also where its group is gone by it.
abbrev pub LedLearnsLower : Type 0
LedLearnsLower = (ways : Ways) (from : ℕ) (group : Draw) (slot : ℕ) (command : Command) (r : ReplicaState) → LearnsLed slot command r → LowersLed ways from (Learn group slot command) (r, [])

-- A node's replica takes this mail, stays of the same group, and lowers `led_owes` by it; and another replica of the group leads or is gone.
pub record IsLedMail (ways : Ways) (elsewhere : Elsewhere) (from : ℕ) (group : Draw) (body : MailBody) (r : ReplicaState) (node : NodeState) : Type 0 where
  pub taken : IsTaken from group body r node
  pub here : r.me ≡ node.me
  pub led : elsewhere group ≡ true
  pub lowers : LowersLed ways from body (r, [])
  pub same : name_of (after_mail from body r).0 ≡ group

-- Such a mail lowers what is owed by its node and all groups, also where the replica's group is gone by it.
abbrev pub LedPartiesLower : Type 0
LedPartiesLower =
    (ways : Ways) (groups : List Draw) (elsewhere : Elsewhere) (from : ℕ) (group : Draw) (body : MailBody) (r : ReplicaState) (node : NodeState)
    → IsLedMail ways elsewhere from group body r node
    → party_turn_owes ways groups elsewhere (on_mail from body node) + 1 ≤ party_owes ways groups elsewhere node + body_owes ways node.me body
