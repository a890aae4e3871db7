-- What a quiet group is does not depend on how its replicas are seen.
use Rattle.std.proofs.Common.{◌≡◌, ℕ, Some, sym, ◌∙◌}
use Rattle.sc_node_table.specs.Values.{Draw}
use Rattle.sc_node_table.specs.NodeDefinitions.{ReplicaState}
use Rattle.sc_live_steps.specs.calm.CalmDefinitions.{View, HasReplica, IsNewest, IsLinked, StandsQuiet, IsGoneQuiet}

module _ (one other : View) (same : (name : Draw) (node : ℕ) → other name node ≡ one name node) where
  has_as : (name : Draw) (node : ℕ) → HasReplica one name node → HasReplica other name node
  has_as name node h = (h.0, same name node ∙ h.1)

  back : (name : Draw) (node : ℕ) (r : ReplicaState) → other name node ≡ Some r → one name node ≡ Some r
  back name node r e = sym (same name node) ∙ e

  newest_as : (name : Draw) (r : ReplicaState) → IsNewest one name r → IsNewest other name r
  newest_as name r n = record { is_there = same name r.me ∙ n.is_there; most = λ node x e. n.most node x (back name node x e) }

  linked_as : (lead : ReplicaState) → IsLinked one lead → IsLinked other lead
  linked_as lead l = record {
    behind = l.behind;
    newest = newest_as lead.group.core.succ.group l.behind l.newest;
    stands = l.stands;
    begins = l.begins;
    nodes = λ node m. has_as lead.group.core.succ.group node (l.nodes node m);
  }

  pub stands_as : (name : Draw) → StandsQuiet one name → StandsQuiet other name
  stands_as name s = record {
    lead = s.lead;
    newest = newest_as name s.lead s.newest;
    stands = s.stands;
    leads = s.leads;
    alone = λ node r e runs. s.alone node r (back name node r e) runs;
    below_it = λ node r e. s.below_it node r (back name node r e);
    member = λ node m. (let x = s.member node m in (x.0, same name node ∙ x.1, x.2));
    voter = λ set node a m. (let x = s.voter set node a m in (x.0, same name node ∙ x.1, x.2));
    linked = linked_as s.lead s.linked;
  }

  pub gone_as : (name : Draw) → IsGoneQuiet one name → IsGoneQuiet other name
  gone_as name g = record {
    last = g.last;
    newest = newest_as name g.last g.newest;
    into = g.into;
    went = g.went;
    stopped = λ node r e. g.stopped node r (back name node r e);
    member = λ node m. (let x = g.member node m in (x.0, same name node ∙ x.1, x.2, x.3));
    nodes = λ node m. has_as g.into.group node (g.nodes node m);
  }
