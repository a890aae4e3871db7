-- A mail that names a group, and may come, is taken for that group's replica.
use Rattle.std.proofs.Common.{◌≡◌, ℕ, true, [], Option, Some, ◌∙◌, ap}
use Rattle.std.proofs.lemmas.Bool.{cond-true}
use Rattle.sc_node_table.specs.Values.{Draw, MailBody}
use Rattle.sc_node_table.specs.NodeDefinitions.{NodeState, ReplicaState, replica_of, group_of_mail, may_come, routed, taken_by, on_mail}

pub mail_taken : (from : ℕ) (body : MailBody) (node : NodeState) (group : Draw) → group_of_mail body ≡ Some group → may_come from body ≡ true → (o : Option ReplicaState) → replica_of group node.replicas ≡ o → on_mail from body node ≡ taken_by o group from body node
mail_taken from body node group named comes o here =
    cond-true (may_come from body) (routed (group_of_mail body) from body node) (node, []) comes ∙ (ap (λ g. routed g from body node) named ∙ ap (λ x. taken_by x group from body node) here)
