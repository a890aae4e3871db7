-- An invariant of replicas and one of each mail are an invariant of replicas with their mails: what the mails of a row may be is kept with each mail that may be sent.
use Rattle.std.proofs.Common.{◌≡◌, ℕ, ◌<◌, ◌+◌, ◌∙◌, Bool, true, false, true≢false, sym, cond, List, [], ◌∷◌, Option, Some}
use Rattle.sc_base.specs.Definitions.{client_actor}
use Rattle.sc_node_table.specs.Values.{Command, Noop, AnswerBody, NotLeader, Mail, MailBody, Answer, Told, Accept, TxElsewhere, TxPrepare, TxWatch, TxVote, TxWatched, TxOutcome}
use Rattle.sc_words.proofs.PaxosProofs.PaxosLemmas.{Each-append}
use Rattle.sc_words.specs.paxos.PaxosDefinitions.{below, counted}
use Rattle.sc_node_table.specs.NodeDefinitions.{ReplicaState, Place, name_of, next, slots_ahead, under_way, sent, ended, answered_all, offered, open_nodes}
use Rattle.sc_law_walks.specs.WalkDefinitions.{IsKept}
use Rattle.sc_law_walks.proofs.Ways.{either_way}
use Rattle.sc_law_walks.proofs.PlaceWalks.{PlaceFacts, PlaceWalk, PlaceTicks, PlaceBirths, Talk, entered_place, ended_replica, Before as BeforeAt, After as AfterAt}
use Rattle.sc_law_walks.proofs.Talks.{all_sent, one_answered, all_answered, all_dismissed}
use Rattle.sc_law_walks.proofs.PlaceEntries.{EntryParts, entry_kept}
use Rattle.sc_law_walks.proofs.Walks.{Walk, Births, Ticks, AreSaid, Sends, place_facts, Before, After}

-- Q holds of the mails of a row, and of each longer list whose last mail may be said
module _ (w : Walk) (Q : List Mail → Type 0) (puts : (me to : ℕ) (body : MailBody) (mails : List Mail) → me ≡ w.facts.me → w.facts.Says to body → Q mails → Q (sent me to body mails)) where
  abbrev pub f : PlaceFacts
  f = place_facts w.facts Q

  pub talk : (A : Type 0) (me : ℕ) → me ≡ w.facts.me → Talk me (λ mails. A × Q mails)
  talk A me same = record {
    tells = λ number result mails m. (m.0, puts me 0 (Told number result) mails same (w.mails.tells number result) m.1);
    answers = λ client group seq answer mails m. (m.0, puts me (client_actor client) (Answer group seq answer) mails same (w.mails.answers client group seq answer) m.1);
    offers = λ to tx offer mails own m. (m.0, puts me to (TxPrepare tx offer) mails same (w.mails.offers to tx offer (own ∙ same)) m.1);
    watches = λ to tx watch mails own m. (m.0, puts me to (TxWatch tx watch) mails same (w.mails.watches to tx watch (own ∙ same)) m.1);
    casts = λ to tx coord part vote mails m. (m.0, puts me to (TxVote tx coord part vote) mails same (w.mails.casts to tx coord part vote) m.1);
    sees = λ to tx coord part vote mails m. (m.0, puts me to (TxWatched tx coord part vote) mails same (w.mails.sees to tx coord part vote) m.1);
    ends = λ to tx part outcome mails m. (m.0, puts me to (TxOutcome tx part outcome) mails same (w.mails.ends to tx part outcome) m.1);
    sends_on = λ to tx coord hint mails m. (m.0, puts me to (TxElsewhere tx coord hint) mails same (w.mails.sends_on to tx coord hint) m.1);
  }

  -- ---- the parts that change a replica and send

  entry_parts : EntryParts w.facts.me f.Early w.facts.Entry (λ command. Unit {0})
  entry_parts = record {
    entered = λ command r mails kept low k. (w.states.entered command r kept low k.0, k.1);
    flown = λ slot command r mails e k. tt;
    asked = λ client seq op. tt;
    back = λ command r mails on good k. (w.states.back command r on k.0, k.1);
    landed = λ slot r mails k. (w.states.landed slot r k.0, k.1);
    talks = λ r same. talk (w.facts.Early r) r.me same;
    teaches = λ to slot command r mails same low k. (k.0, puts r.me to _ mails same (w.mails.teaches to slot command (name_of r) low) k.1);
    installs = λ to r mails same k. (k.0, puts r.me to _ mails same (w.mails.installs to r k.0) k.1);
    repolls = λ to r mails same on k. (k.0, puts r.me to _ mails same (w.mails.repolls to r same on k.0) k.1);
  }

  pub entry_at : (counted : Bool) (command : Command) (r : ReplicaState) (mails : List Mail) → (counted ≡ true → r.running ≡ true) → IsKept w.facts.me r → w.facts.Entry (next r) command → f.Early (r, mails) → f.Early (entered_place counted command (r, mails))
  entry_at counted command r mails on kept low k = (entry_kept w.facts.me f.Early w.facts.Entry (λ c. Unit {0}) entry_parts counted command r mails on low kept k).1

  pub ends_at : (hint : Option ℕ) (answer : AnswerBody) (r : ReplicaState) (mails : List Mail) → r.me ≡ w.facts.me → w.facts.Early (ended_replica hint r) → Q mails → f.Early (ended hint answer (r, mails))
  unfolding ended
  ends_at hint answer r mails same k m =
      let t : Talk r.me (λ ms. w.facts.Early (ended_replica hint r) × Q ms) = talk (w.facts.Early (ended_replica hint r)) r.me same in
      all_dismissed r.me (λ ms. w.facts.Early (ended_replica hint r) × Q ms) t (name_of r) hint answer r.backlog (answered_all r.me (name_of r) answer (under_way r) mails)
      (all_answered r.me (λ ms. w.facts.Early (ended_replica hint r) × Q ms) t (name_of r) answer (under_way r) mails (k, m))

  pub flies_at : (slot : ℕ) (set : List ℕ) (command : Command) (r : ReplicaState) (mails : List Mail) → r.me ≡ w.facts.me → r.running ≡ true → slot < next r + slots_ahead → w.facts.Found command → w.facts.Late r → Q mails → f.Late (offered slot set command (r, mails))
  unfolding offered
  flies_at slot set command r mails same on near good k m =
      (w.states.flown slot command r on near good k, all_sent r.me Q (Accept (name_of r) r.leader.ballot slot command) (λ to ms q. puts r.me to _ ms same (w.mails.asks to slot command r same on near good k) q) set mails m)

  -- ---- the walk

  abbrev pub placed : PlaceWalk
  placed = record {
    facts = f;
    states = record {
      late = λ place k. (w.states.late place.0 k.0, k.1);
      again = λ command r mails on e k. (let a = w.states.again r command on e k.0 in ((a.0, k.1), a.1));
      counted_entry = λ command r mails kept on e low k. entry_at true command r mails (λ _. on) kept low k;
      learnt_entry = λ command r mails kept low k. entry_at false command r mails (λ t. absurd (true≢false (sym t))) kept low k;
      jumped = λ slot base sets r mails many good later off k. (w.states.jumped slot base sets r many good later k.0, k.1);
      hinted = λ hint r mails off k. (w.states.hinted hint r off k.0, k.1);
      ended = λ hint answer r mails kept on k. ends_at hint answer r mails kept.0 (w.states.ended hint r k.0) k.1;
      overtaken = λ ballot r mails kept good on t k. ends_at (Some ballot.node) (NotLeader (Some ballot.node)) (cond (below r.top ballot) (record r { top = ballot }) r) mails (either_way (λ (x : ReplicaState). x.me ≡ w.facts.me) (below r.top ballot) _ _ kept.0 kept.0) (w.states.overtaken ballot r good on t k.0) k.1;
      elected = λ r mails kept k. (w.states.elected r kept.0 k.0, all_sent r.me Q _ (λ to ms q. puts r.me to _ ms kept.0 (w.mails.polls to r kept.0 k.0) q) (open_nodes r.sets) mails k.1);
      seen = λ ballot r mails good t on k. (w.states.seen ballot r good t on k.0, k.1);
      polled = λ from ballot reports r mails on good k. (w.states.polled from ballot reports r on good k.0, k.1);
      counts = λ from ballot slot set count r mails on e k. (w.states.counts from ballot slot set r on k.0, k.1);
      chosen = λ from ballot slot set command r mails on e low k. (let entry = w.states.chosen from ballot slot set command r e low k.0 in (entry, (w.states.readied slot command (record r { leader = (counted from ballot slot set r.leader).1 }) on entry (w.states.counts from ballot slot set r on k.0), k.1)));
      promised = λ from ballot from_slot r mails same good polled top t k. (w.states.promised ballot r good top t k.0, puts r.me from _ mails same (w.mails.promises from ballot from_slot r good polled k.0) k.1);
      accepted = λ from report r mails same good top t k. (w.states.accepted report r good top t k.0, puts r.me from _ mails same (w.mails.votes from report.ballot report.slot report.value (name_of r) good.0 good.1) k.1);
      filed = λ act r mails on good e k. (w.states.filed act r on good e k.0, k.1);
      ordered = λ order r mails on good k. (w.states.ordered order r on good k.0, k.1);
      requested = λ client seq op r mails on e k. (w.states.requested client seq op r on e k.0, k.1);
      requested_again = λ client seq other op r mails on e g k. (w.states.requested_again client seq other op r on e g k.0, k.1);
      turned = λ command answer backlog r mails same on e no k. one_answered r.me (λ ms. w.facts.Late (record r { backlog = backlog }) × Q ms) (talk _ r.me same) r.group.core.id answer command mails (w.states.uncalled command backlog r on e k.0, k.1);
      offers_value = λ slot set command r mails same on near free e k. flies_at slot set command r mails same on near (w.states.must_found slot command r e k.0) k.0 k.1;
      offers_noop = λ slot set r mails same on near free k. flies_at slot set Noop r mails same on near w.states.noop_found k.0 k.1;
      offers_act = λ slot set act acts r mails same on near free e k. flies_at slot set act (record r { acts = acts }) mails same on near (w.states.act_found act acts r e k.0) (w.states.unfiled act acts r on e k.0) k.1;
      offers_call = λ slot set command backlog r mails same on near free e k. flies_at slot set command (record r { backlog = backlog }) mails same on near (w.states.call_found command backlog r e k.0) (w.states.uncalled command backlog r on e k.0) k.1;
    };
    says = record {
      early = λ r same. talk (w.facts.Early r) r.me same;
      late = λ r same. talk (w.facts.Late r) r.me same;
      installs = λ to r mails same k. (k.0, puts r.me to _ mails same (w.mails.installs to r k.0) k.1);
      recalls = λ to slot command r mails same e k. (k.0, puts r.me to _ mails same (w.mails.recalls to slot command r e k.0) k.1);
      wants = λ to slot r mails same behind low k. (k.0, puts r.me to _ mails same (w.mails.wants to slot r behind low k.0) k.1);
      nacks = λ to r mails same k. (k.0, puts r.me to _ mails same (w.mails.nacks to r k.0) k.1);
    };
  }

  abbrev pub placed_ticks : Ticks w.facts → PlaceTicks f
  placed_ticks t = record {
    waited = λ waits r mails k. (t.waited waits r k.0, k.1);
    gives_up = λ tx r mails on f k. (t.gives_up tx r on f k.0, k.1);
    agains = record {
      reasks = λ to slot command r mails same on e k. (k.0, puts r.me to _ mails same (t.reasks to slot command r same on e k.0) k.1);
      relearns = λ to command r mails same e k. (k.0, puts r.me to _ mails same (t.relearns to command r e k.0) k.1);
    };
  }

module _ (w : Walk) where
  pub said_more : (me to : ℕ) (body : MailBody) (mails : List Mail) → me ≡ w.facts.me → w.facts.Says to body → AreSaid w mails → AreSaid w (sent me to body mails)
  said_more me to body mails same q m = Each-append (Sends w) mails (record { from = me; to = to; body = body } ∷ []) m ((same, q), tt)

  -- the walk with what each of its mails may be
  abbrev pub place_walk : PlaceWalk
  place_walk = placed w (AreSaid w) said_more

  abbrev pub place_ticks : Ticks w.facts → PlaceTicks place_walk.facts
  place_ticks t = placed_ticks w (AreSaid w) said_more t

  abbrev pub place_births : Births w.facts → PlaceBirths place_walk.facts
  place_births b = record {
    Rest = λ mails. AreSaid w mails;
    rest = λ place k. k.1;
    rest_none = tt;
    beside_early = λ r mails rest k. (k.0, rest);
    beside = λ r mails more rest k. (k.0, rest);
    born = λ base. (b.born base, tt);
    made = λ slot base sets many good. (b.made slot base sets many good, tt);
    refuses = λ me number result same. ((same, w.mails.tells number result), tt);
    answers = λ me client group seq answer same. ((same, w.mails.answers client group seq answer), tt);
    wants_all = λ me to group same. ((same, b.wants_all to group), tt);
    sends_on = λ me to tx coord hint same. ((same, w.mails.sends_on to tx coord hint), tt);
  }

  -- a replica and its mails, as the walk has them and as one
  pub to_place : (place : Place) → Before w place → BeforeAt place_walk.facts place
  to_place place k = (k.0.0, (k.0.1, k.1))

  pub from_place : (place : Place) → AfterAt place_walk.facts place → After w place
  from_place place k = ((k.0, k.1.0), k.1.1)
