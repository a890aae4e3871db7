-- What a node owes among others, with the election that each group owes once where no replica of it leads.
use Rattle.std.specs.Prelude.{◌≡◌, ℕ, ◌+◌, ◌*◌, ◌≤◌, Bool, true, false, List, [], ◌∷◌, sum_by, Option, Some, None, ◌⊎◌}
use Rattle.sc_base.specs.Definitions.{Each}
use Rattle.sc_node_table.specs.Values.{Draw, OrderLine, Mail, MailBody}
use Rattle.sc_node_table.specs.NodeDefinitions.{NodeState, replica_of, on_mail, group_of_order, on_order, ordered_row, ReplicaState, name_of}
use Rattle.sc_live_steps.specs.calm.PotentialLaws.{Lowers, MayPump}
use Rattle.sc_live_steps.specs.calm.NodePotential.{node_owes, group_owes, IsTaken, after_mail}
use Rattle.sc_live_steps.specs.calm.CalmPotential.{Ways, body_owes, mail_owes, election}

-- What a group owes: nothing where a replica of it leads or is gone at another node; else what its replica at this node says.
abbrev pub idle_with : Bool → Option ReplicaState → ℕ
idle_with true here = 0
idle_with false None = election
idle_with false (Some r) = group_owes r

-- The groups of which a replica leads or is gone at another node.
abbrev pub Elsewhere : Type 0
Elsewhere = Draw → Bool

-- What these groups owe, each once.
abbrev pub groups_owe : List Draw → Elsewhere → NodeState → ℕ
groups_owe groups elsewhere node = sum_by (λ group. idle_with (elsewhere group) (replica_of group node.replicas)) groups

-- What a node owes, with what these groups owe.
abbrev pub party_owes : Ways → List Draw → Elsewhere → NodeState → ℕ
party_owes ways groups elsewhere node = node_owes ways.most node + groups_owe groups elsewhere node

-- What a node and these groups owe after the node's step, with the mails that the step sends.
abbrev pub party_turn_owes : Ways → List Draw → Elsewhere → NodeState × List Mail → ℕ
party_turn_owes ways groups elsewhere turn = party_owes ways groups elsewhere turn.0 + sum_by (mail_owes ways) turn.1

-- The group stands exactly once in the list.
abbrev pub StandsOnce : Draw → List Draw → Type 0
StandsOnce group [] = ⊥
StandsOnce group (other ∷ groups) = ((other ≡ group) × Each (λ another. another ≡ group → ⊥) groups) ⊎ ((other ≡ group → ⊥) × StandsOnce group groups)

-- The node's replica takes this mail, stays of the same group, and lowers what is owed by it.
-- If another replica of the group leads or is gone, this one neither begins to lead nor goes; so it does not learn there that its group is gone.
pub record IsCalmMail (ways : Ways) (elsewhere : Elsewhere) (from : ℕ) (group : Draw) (body : MailBody) (r : ReplicaState) (node : NodeState) : Type 0 where
  pub taken : IsTaken from group body r node
  pub here : r.me ≡ node.me
  pub lowers : Lowers ways from body (r, [])
  pub same : name_of (after_mail from body r).0 ≡ group
  pub alone : elsewhere group ≡ true → group_owes r ≤ group_owes (after_mail from body r).0

-- Such a mail lowers what is owed by its node and all groups: other groups, and those of which a replica is created, owe no more than before.
abbrev pub PartiesLower : Type 0
PartiesLower =
    (ways : Ways) (groups : List Draw) (elsewhere : Elsewhere) (from : ℕ) (group : Draw) (body : MailBody) (r : ReplicaState) (node : NodeState)
    → StandsOnce group groups → IsCalmMail ways elsewhere from group body r node
    → party_turn_owes ways groups elsewhere (on_mail from body node) + 1 ≤ party_owes ways groups elsewhere node + body_owes ways node.me body

-- An order to a node with a replica of the order's group, which may pump and stays of that group. If another replica of the group leads or is gone, this one neither begins to lead nor goes.
pub record IsCalmOrder (elsewhere : Elsewhere) (line : OrderLine) (r : ReplicaState) (node : NodeState) : Type 0 where
  pub found : replica_of (group_of_order line.order) node.replicas ≡ Some r
  pub pumps : MayPump r
  pub same : name_of (ordered_row node.draws line (r, [])).0 ≡ group_of_order line.order
  pub alone : elsewhere (group_of_order line.order) ≡ true → group_owes r ≤ group_owes (ordered_row node.draws line (r, [])).0

-- Such an order raises what is owed by its node and all groups by at most 242 and four times the bound of ways.
abbrev pub PartiesRaiseLittle : Type 0
PartiesRaiseLittle =
    (ways : Ways) (groups : List Draw) (elsewhere : Elsewhere) (line : OrderLine) (r : ReplicaState) (node : NodeState)
    → StandsOnce (group_of_order line.order) groups → IsCalmOrder elsewhere line r node
    → party_turn_owes ways groups elsewhere (on_order line node) ≤ party_owes ways groups elsewhere node + (242 + 4 * ways.most)
