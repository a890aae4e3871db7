-- A node's step takes a request for a replica that runs: it sends no answer NotLeader.
use Rattle.std.proofs.Common.{◌≡◌, ℕ, true, inl, inr, Option, Some, None, List, sym, ap, subst, ◌∙◌}
use Rattle.sc_base.specs.Definitions.{Among, Each}
use Rattle.sc_node_table.specs.Values.{Draw, Op, Input, OrderLine, Mail, MailBody, Request}
use Rattle.sc_node_table.specs.NodeDefinitions.{NodeState, group_of_mail, node_table, on_mail, replica_of, taken_by, ReplicaState, listed, stepped}
use Rattle.sc_law_refusal.specs.refusal.RefusalDefinitions.{IsNotLeader, TakesRequests, replica_for, takers}
use Rattle.sc_law_refusal.proofs.RefusalProofs.Inputs.{requests_are_taken}

-- no mail is an answer NotLeader
abbrev NoneNotLeader : List Mail → Type 0
NoneNotLeader mails = Each (λ (mail : Mail). IsNotLeader mail.body → ⊥) mails

-- the one that is listed is the one that is there
listed_is : (o : Option ReplicaState) (r : ReplicaState) → Among r (listed o) → o ≡ Some r
listed_is None r never = absurd never
listed_is (Some other) r (inl e) = ap Some e
listed_is (Some other) r (inr never) = absurd never

module _ (node : NodeState) (r : ReplicaState) (runs : r.running ≡ true) (group : Draw) (client seq : ℕ) (op : Op) where
  found_takes : (o : Option ReplicaState) (from to : ℕ) → o ≡ Some r → NoneNotLeader (taken_by o group from (Request group client seq op) node).1
  unfolding stepped
  found_takes None from to e = cc
  found_takes (Some other) from to e = let same : other ≡ r = cc in requests_are_taken node.policy node.draws other from to group client seq op (ap (λ (x : ReplicaState). x.running) same ∙ runs)

  mail_takes : (from to : ℕ) (body : MailBody) → body ≡ Request group client seq op → Among r (replica_for (group_of_mail body) node.replicas) → NoneNotLeader (on_mail from body node).1
  mail_takes from to body e takes =
      subst (λ (b : MailBody). NoneNotLeader (on_mail from b node).1) (sym e)
      (found_takes (replica_of group node.replicas) from to (listed_is (replica_of group node.replicas) r (subst (λ (b : MailBody). Among r (replica_for (group_of_mail b) node.replicas)) e takes)))

pub takes_requests : (node : NodeState) (input : Input Mail OrderLine) → TakesRequests node input (node_table node input).1
takes_requests node input b =
    subst (λ (i : Input Mail OrderLine). NoneNotLeader (node_table node i).1) (sym b.brought)
    (mail_takes node b.replica b.runs b.group b.client b.seq b.op b.mail.from b.mail.to b.mail.body b.request (subst (λ (i : Input Mail OrderLine). Among b.replica (takers node i)) b.brought b.takes))
