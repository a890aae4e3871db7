-- What a node and all groups owe after mail that no replica of the node takes.
use Rattle.std.specs.Prelude.{◌≡◌, ℕ, ◌+◌, ◌≤◌, true, false, List, Some, None}
use Rattle.sc_node_table.specs.Values.{Draw, Base, MailBody, Install}
use Rattle.sc_node_table.specs.NodeDefinitions.{NodeState, replica_of, group_of_mail, may_come, on_mail, made_by}
use Rattle.sc_live_steps.specs.calm.NodePotential.{IsDelivered, MayMiss}
use Rattle.sc_live_steps.specs.calm.CalmPotential.{Ways, body_owes}
use Rattle.sc_live_steps.specs.calm.PartyPotential.{Elsewhere, party_owes, party_turn_owes, StandsOnce}

-- The mail from this sender lowers what is owed by the node and these groups by at least one.
abbrev pub PartyLowers : Ways → List Draw → Elsewhere → ℕ → MailBody → NodeState → Type 0
PartyLowers ways groups elsewhere from body node = party_turn_owes ways groups elsewhere (on_mail from body node) + 1 ≤ party_owes ways groups elsewhere node + body_owes ways node.me body

-- If another replica of the group leads or is gone, a replica that the node creates from this state does not lead.
abbrev pub IsMadeBehind : Elsewhere → ℕ → Draw → ℕ → Base → List (List ℕ) → NodeState → Type 0
IsMadeBehind elsewhere from group slot base sets node = elsewhere group ≡ true → (made_by node.me from group slot base sets).0.running ≡ false

-- Mail that no replica of the node takes lowers what is owed by the node and these groups.
pub record StrangersLower : Type 0 where
  -- a mail that is for no group, or comes from one that may not send it
  pub stray : (ways : Ways) (groups : List Draw) (elsewhere : Elsewhere) (from : ℕ) (body : MailBody) (node : NodeState) → IsDelivered body → group_of_mail body ≡ None → PartyLowers ways groups elsewhere from body node
  pub barred : (ways : Ways) (groups : List Draw) (elsewhere : Elsewhere) (from : ℕ) (body : MailBody) (node : NodeState) → IsDelivered body → may_come from body ≡ false → PartyLowers ways groups elsewhere from body node
  -- a mail at a node without a replica of the mail's group
  pub missed : (ways : Ways) (groups : List Draw) (elsewhere : Elsewhere) (from : ℕ) (group : Draw) (body : MailBody) (node : NodeState) → MayMiss body → group_of_mail body ≡ Some group → replica_of group node.replicas ≡ None
      → PartyLowers ways groups elsewhere from body node
  -- a state at a node without a replica of the group, which creates one from it
  pub made : (ways : Ways) (groups : List Draw) (elsewhere : Elsewhere) (from : ℕ) (group : Draw) (slot : ℕ) (base : Base) (sets : List (List ℕ)) (node : NodeState) → StandsOnce group groups → replica_of group node.replicas ≡ None
      → IsMadeBehind elsewhere from group slot base sets node → PartyLowers ways groups elsewhere from (Install group slot base sets) node
