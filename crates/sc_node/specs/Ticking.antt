-- The tick of one replica of a node.
use Rattle.std.specs.Prelude.{ℕ, List, get_or, set}
use Rattle.sc_mail.specs.declared.bodies.Mail.{Mail}
use Rattle.sc_node_table.specs.Replica.{ReplicaState}
use Rattle.sc_node_table.specs.Rows.{tick_row}
use Rattle.sc_node_table.specs.Policy.{names_after_tick}
use Rattle.sc_node_table.specs.Node.{NodeState}

-- the replica at a place ticks, and leaves the names that its row leaves; where there is none at that place, the given one is read
abbrev pub ticked_at : ℕ → ReplicaState → NodeState × List Mail → NodeState × List Mail
ticked_at i d (node, mails) =
    let after = tick_row node.policy node.draws (get_or node.replicas i d, mails) in
    (record node { draws = names_after_tick node.policy node.draws (get_or node.replicas i d); replicas = set node.replicas i after.0 }, after.1)
