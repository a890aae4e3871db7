use Rattle.std.proofs.Common.{sym, ap, is_none, ◌∙◌, []}
use Rattle.sc_node_table.specs.Replica.{ReplicaState}
use Rattle.sc_node_parts.specs.replica.Heads.{head_of}
use Rattle.sc_node_replica.proofs.Backlog.{acts-none}
use Rattle.sc_node_replica.proofs.replica.Replica.find_in_acts.Goals as goal

pub returns-then-is_empty-clause-found : goal.returns-then-is_empty-clause-found
returns-then-is_empty-clause-found c =
    rw (← acts-none c.args.self.now.acts (c.args.self.now, c.args.out.now) (sym (c.is_empty.ensures ∙ ap (λ (r : ReplicaState). is_none (head_of r.acts)) c.self.view_is) ∙ c.if-is_empty.true)) c.find_in_backlog.ensures.found

pub returns-then-is_empty-clause-none : goal.returns-then-is_empty-clause-none
returns-then-is_empty-clause-none c =
    rw (← acts-none c.args.self.now.acts (c.args.self.now, []) (sym (c.is_empty.ensures ∙ ap (λ (r : ReplicaState). is_none (head_of r.acts)) c.self.view_is) ∙ c.if-is_empty.true)) c.find_in_backlog.ensures.none
