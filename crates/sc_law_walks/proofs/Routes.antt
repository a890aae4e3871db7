-- A mail for a group goes to the node's replica of it, if there is one.
use Rattle.std.proofs.Common.{◌≡◌, ℕ, true, [], Option, Some, ◌∙◌, ap}
use Rattle.std.proofs.lemmas.Bool.{cond-true}
use Rattle.sc_node_table.specs.Values.{Draw, MailBody}
use Rattle.sc_node_table.specs.NodeDefinitions.{NodeState, ReplicaState, replica_of, group_of_mail, may_come, on_mail, routed, taken_by}

-- by the replica that takes it, or none
pub takes_by : (group : Draw) (from : ℕ) (body : MailBody) (node : NodeState) → may_come from body ≡ true → group_of_mail body ≡ Some group → (o : Option ReplicaState) → replica_of group node.replicas ≡ o → on_mail from body node ≡ taken_by o group from body node
takes_by group from body node comes named o here =
    cond-true (may_come from body) (routed (group_of_mail body) from body node) (node, []) comes ∙ (ap (λ g. routed g from body node) named ∙ ap (λ x. taken_by x group from body node) here)
