-- What replicas are at birth, computed: nothing is under way, and the first member leads.
use Rattle.std.proofs.Common.{◌&&◌, not, eq-eqb, true, Some, refl, ◌∙◌, ap}
use Rattle.sc_words.specs.paxos.PaxosDefinitions.{below}
use Rattle.sc_words.proofs.PaxosProofs.PaxosLemmas.{at_least_itself}
use Rattle.sc_node_table.specs.NodeDefinitions.{first_ballot}
use Rattle.sc_live_steps.specs.calm.CalmDefinitions.{ReplicasBeginAtRest, FirstMembersLead}

-- At birth a replica is at rest, as in a quiet journal: it waits for nothing, nothing is in flight or ready, and it has promised no later ballot than its own.
pub begin_at_rest : ReplicasBeginAtRest
begin_at_rest ahead me base free = (
  record { free = free; acts = refl; backlog = refl; waits = refl; flights = refl; ready = refl },
  λ slot at. refl,
  record { promised = at_least_itself (first_ballot base.core); top = at_least_itself (first_ballot base.core); accepted = tt },
)

-- At birth the first member of a group leads, as one leads in a quiet journal.
pub first_leads : FirstMembersLead
first_leads ahead me base some first mine = record {
  running = eq-eqb base.core.first me first;
  mine = mine;
  settled_is = ap (λ b. b && (not (below (first_ballot base.core) (first_ballot base.core)) && true)) (eq-eqb base.core.first me first) ∙ ap (λ b. not b && true) (at_least_itself (first_ballot base.core));
  unbound = λ slot at. refl;
  top_is = refl;
  hint_is = ap Some first;
}
