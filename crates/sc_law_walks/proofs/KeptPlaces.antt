-- A walk of kept replicas with their mails is a walk of any: what holds of each is that it is kept, besides.
use Rattle.std.proofs.Common.{◌≡◌, ℕ, ◌<◌, ◌+◌, ◌∙◌, true, false, true≢false, refl, sym, subst, List, [], ◌∷◌, ◌++◌, length, Option, Some, None}
use Rattle.sc_base.specs.Definitions.{Each}
use Rattle.sc_node_table.specs.Values.{Command, Call, Base, AnswerBody, NotLeader, Gone, Mail}
use Rattle.sc_words.specs.paxos.PaxosDefinitions.{LeaderState, below, promise_counted, counted}
use Rattle.sc_node_table.specs.NodeDefinitions.{ReplicaState, next, slots_ahead, without_request, ended, offered, jumped, forgotten}
use Rattle.sc_law_walks.specs.WalkDefinitions.{IsFiled, IsAsked, IsKept}
use Rattle.sc_law_walks.proofs.Ways.{either_way}
use Rattle.sc_law_walks.proofs.Queues.{waiting, one_asked, one_filed, mail_files, order_is_asked, without_asked}
use Rattle.sc_law_walks.proofs.PlaceWalks.{PlaceWalk, Talk, beside_talk, Before, After, Hears, elected_replica}
use Rattle.sc_law_walks.proofs.PlaceEntries.{entry_stands}
use Rattle.sc_law_walks.proofs.TableWalks.{TableFacts, TableStates, TableWalk, talk_said}

ended_kept : (me : ℕ) (hint : Option ℕ) (answer : AnswerBody) (r : ReplicaState) (mails : List Mail) → IsKept me r → IsKept me (ended hint answer (r, mails)).0
unfolding ended
ended_kept me hint answer r mails kept = (kept.0, kept.1, (λ off. (refl, refl, refl), tt, tt))

jumped_kept : (me slot : ℕ) (base : Base) (sets : List (List ℕ)) (r : ReplicaState) → length sets ≡ slots_ahead → IsKept me r → IsKept me (jumped slot base sets r)
unfolding jumped forgotten
jumped_kept me slot base sets r many kept = (kept.0, many, kept.2)

elected_kept : (me : ℕ) (r : ReplicaState) → IsKept me r → IsKept me (elected_replica r)
elected_kept me r kept = (kept.0, kept.1, (λ off. absurd (true≢false off), kept.2.1, kept.2.2))

-- one that runs may have anything in flight
flying_on : (me : ℕ) (r : ReplicaState) (leader : LeaderState Command) → r.running ≡ true → IsKept me r → IsKept me (record r { leader = leader })
flying_on me r leader on kept = (kept.0, kept.1, (λ off. absurd (true≢false (sym on ∙ off)), kept.2.1, kept.2.2))

offered_kept : (me slot : ℕ) (set : List ℕ) (command : Command) (r : ReplicaState) (mails : List Mail) → r.running ≡ true → IsKept me r → IsKept me (offered slot set command (r, mails)).0
unfolding offered
offered_kept me slot set command r mails on kept = (kept.0, kept.1, (λ off. absurd (true≢false (sym on ∙ off)), kept.2.1, kept.2.2))

-- what waits without its first
acts_kept : (me : ℕ) (act : Command) (rest : List Command) (r : ReplicaState) → r.running ≡ true → r.acts ≡ act ∷ rest → IsKept me r → IsKept me (record r { acts = rest })
acts_kept me act rest r on e kept = (let filed : Each IsFiled (act ∷ rest) = subst (λ (cs : List Command). Each IsFiled cs) e kept.2.1 in waiting me r rest r.backlog on filed.1 kept.2.2 kept)

calls_kept : (me : ℕ) (command : Command) (rest : List Command) (r : ReplicaState) → r.running ≡ true → r.backlog ≡ command ∷ rest → IsKept me r → IsKept me (record r { backlog = rest })
calls_kept me command rest r on e kept = (let asked : Each IsAsked (command ∷ rest) = subst (λ (cs : List Command). Each IsAsked cs) e kept.2.2 in waiting me r r.acts rest on kept.2.1 asked.1 kept)

near_kept : (me slot : ℕ) (r : ReplicaState) → IsKept me r → slot < next r + length r.sets → slot < next r + slots_ahead
near_kept me slot r kept near = subst (λ n. slot < next r + n) kept.1 near

module _ (w : PlaceWalk) where
  abbrev pub kept_facts : TableFacts
  kept_facts = record {
    First = λ r. Unit {0};
    Early = λ place. Before w.facts place;
    Late = λ place. After w.facts place;
    Hears = λ from body. Hears w.facts body;
    Round = λ ballot. w.facts.Round ballot;
    Entry = λ slot command. w.facts.Entry slot command;
    Files = λ act. Unit {0};
    Orders = λ order. Unit {0};
    Given = λ drawer line. Unit {0};
    Child = λ base. Unit {0};
  }

  pub kept_states : TableStates kept_facts
  kept_states = record {
    late = λ place k. (k.0, w.states.late place k.1);
    again = λ command r mails on e k. (let a = w.states.again command r mails on e k.1 in ((k.0, a.0), a.1));
    counted_entry = λ command r mails on e low k. (entry_stands w.facts.me true command r mails (λ _. on) k.0, w.states.counted_entry command r mails k.0 on e low k.1);
    learnt_entry = λ from group command r mails h first k. (entry_stands w.facts.me false command r mails (λ t. absurd (true≢false (sym t))) k.0, w.states.learnt_entry command r mails k.0 h.0 k.1);
    children = λ counted command r mails child may e k. tt;
    jumped = λ from group slot base sets r mails h many later off k. (jumped_kept w.facts.me slot base sets r (many ∙ k.0.1) k.0, w.states.jumped slot base sets r mails (many ∙ k.0.1) h.0 later off k.1);
    hinted = λ hint r mails off k. (k.0, w.states.hinted hint r mails off k.1);
    stops = λ hint r mails on k. (ended_kept w.facts.me hint (NotLeader hint) r mails k.0, w.states.ended hint (NotLeader hint) r mails k.0 on k.1);
    goes = λ into r mails on e k. (ended_kept w.facts.me None (Gone into) r mails k.0, w.states.ended None (Gone into) r mails k.0 on k.1);
    overtaken = λ ballot r mails good on t k. (
      ended_kept w.facts.me (Some ballot.node) (NotLeader (Some ballot.node)) _ mails (either_way (λ (x : ReplicaState). IsKept w.facts.me x) (below r.top ballot) (record r { top = ballot }) r k.0 k.0),
      w.states.overtaken ballot r mails k.0 good on t k.1,
    );
    elected = λ r mails k. (elected_kept w.facts.me r k.0, w.states.elected r mails k.0 k.1);
    seen = λ ballot r mails good t on k. (k.0, w.states.seen ballot r mails good t on k.1);
    polled = λ from group ballot reports r mails on h k. (flying_on w.facts.me r (promise_counted from ballot reports r.leader).1 on k.0, w.states.polled from ballot reports r mails on h k.1);
    counts = λ from ballot slot set count r mails vote e k. (flying_on w.facts.me r (counted from ballot slot set r.leader).1 vote.runs k.0, w.states.counts from ballot slot set count r mails vote.runs e k.1);
    chosen = λ from group ballot slot set command r mails vote e h k. (let so = w.states.chosen from ballot slot set command r mails vote.runs e h k.1 in (so.0, (flying_on w.facts.me r (counted from ballot slot set r.leader).1 vote.runs k.0, so.1)));
    promised = λ from group ballot from_slot r mails h top t k. (k.0, w.states.promised from ballot from_slot r mails k.0.0 h.0 h.1 top t k.1);
    accepted = λ from group report r mails h top t k. (k.0, w.states.accepted from report r mails k.0.0 h top t k.1);
    filed = λ act r mails on q e brought k. (waiting w.facts.me r (r.acts ++ act ∷ []) r.backlog on (one_filed r.acts act (mail_files act q) k.0.2.1) k.0.2.2 k.0, w.states.filed act r mails on q e k.1);
    ordered = λ order r mails on q may k. (waiting w.facts.me r r.acts (r.backlog ++ order ∷ []) on k.0.2.1 (one_asked r.backlog order (order_is_asked order q) k.0.2.2) k.0, w.states.ordered order r mails on q k.1);
    requested = λ client seq op r mails request e k. (waiting w.facts.me r r.acts (r.backlog ++ Call client seq op ∷ []) request.runs k.0.2.1 (one_asked r.backlog (Call client seq op) tt k.0.2.2) k.0, w.states.requested client seq op r mails request.runs e k.1);
    requested_again = λ client seq other op r mails request e g k. (
      waiting w.facts.me r r.acts (without_request r.backlog client ++ Call client seq op ∷ []) request.runs k.0.2.1 (one_asked (without_request r.backlog client) (Call client seq op) tt (without_asked r.backlog client k.0.2.2)) k.0,
      w.states.requested_again client seq other op r mails request.runs e g k.1,
    );
    turned = λ command answer backlog r mails on e no k. (calls_kept w.facts.me command backlog r on e k.0, w.states.turned command answer backlog r mails k.0.0 on e no k.1);
    offers_value = λ slot set command r mails on at free e k. (offered_kept w.facts.me slot set command r mails on k.0, w.states.offers_value slot set command r mails k.0.0 on (near_kept w.facts.me slot r k.0 at.near) free e k.1);
    offers_noop = λ slot set r mails on at free gap k. (offered_kept w.facts.me slot set _ r mails on k.0, w.states.offers_noop slot set r mails k.0.0 on (near_kept w.facts.me slot r k.0 at.near) free k.1);
    offers_act = λ slot set act acts r mails on at free e k. (
      offered_kept w.facts.me slot set act (record r { acts = acts }) mails on (acts_kept w.facts.me act acts r on e k.0),
      w.states.offers_act slot set act acts r mails k.0.0 on (near_kept w.facts.me slot r k.0 at.near) free e k.1,
    );
    offers_call = λ slot set command backlog r mails on at free e k. (
      offered_kept w.facts.me slot set command (record r { backlog = backlog }) mails on (calls_kept w.facts.me command backlog r on e k.0),
      w.states.offers_call slot set command backlog r mails k.0.0 on (near_kept w.facts.me slot r k.0 at.near) free e k.1,
    );
  }

  pub kept_talk : (r : ReplicaState) → Talk r.me (λ mails. Before w.facts (r, mails))
  kept_talk r = beside_talk (IsKept w.facts.me r) r.me (λ mails. w.facts.Early (r, mails)) (λ kept. w.says.early r kept.0)

  -- mail brings ballots of promises, of entries and of refusals
  abbrev pub kept_walk : TableWalk
  kept_walk = record {
    facts = kept_facts;
    hears = record {
      prepare_round = λ from group ballot from_slot h. h.0;
      accept_round = λ from group ballot slot command h. h.0;
      nack_round = λ from group promised h. h;
      offer_filed = λ from tx offer h. tt;
      vote_filed = λ from tx coord part vote h. tt;
      outcome_filed = λ from tx part outcome h. tt;
      watch_filed = λ from tx watch h. tt;
      watched_filed = λ from tx coord part vote h. tt;
    };
    states = kept_states;
    says = talk_said kept_facts kept_talk (λ to r mails k. (k.0, w.says.installs to r mails k.0.0 k.1)) (λ to slot command r mails e k. (k.0, w.says.recalls to slot command r mails k.0.0 e k.1))
        (λ to group slot command r mails h low k. (k.0, w.says.wants to slot r mails k.0.0 h.1 low k.1)) (λ to r mails k. (k.0, w.says.nacks to r mails k.0.0 k.1));
  }
