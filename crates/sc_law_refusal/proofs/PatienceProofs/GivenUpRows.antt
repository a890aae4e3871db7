-- What holds of each GiveUp that stands at a replica of a group, and in its mail, is kept by the rows of the replica: an instance of the walk by places.
use Rattle.std.proofs.Common.{◌≡◌, ℕ, ◌-◌, ◌+◌, nat_le, nat_lt, eqb, cond, Bool, true, false, true≢false, refl, sym, ◌∙◌, subst, List, [], ◌∷◌, ◌++◌, Option, Some, None}
use Rattle.sc_base.specs.Definitions.{Each}
use Rattle.sc_node_table.specs.Values.{Ballot, Draw, Command, Noop, Call, Base, AnswerBody, NotLeader, Mail, MailBody, Prepare, Promise, Accept, Accepted, Learn, Chosen, Flight, Report}
use Rattle.sc_words.specs.declared.paxos.answers.Learnt.{Learnt}
use Rattle.sc_words.proofs.PaxosProofs.PaxosLemmas.{Each-append, Each-filter, Each-weaker}
use Rattle.sc_words.specs.paxos.PaxosDefinitions.{below, counted, entry_at, LogState, learnt, next_of, reports_from, with_flight_at, after_accept, after_promise}
use Rattle.sc_node_table.specs.NodeDefinitions.{ReplicaState, Place, name_of, next, entered, forgotten, jumped, put_back, sent, under_way, answered_all, ended, offered, open_nodes, without_request}
use Rattle.sc_law_entries.specs.names.NameDefinitions.{Opt}
use Rattle.sc_law_entries.proofs.NamesProofs.EachFound.{opt_slot, report_with}
use Rattle.sc_law_walks.proofs.Ways.{either_way}
use Rattle.sc_law_walks.proofs.PlaceWalks.{PlaceFacts, PlaceStates, PlaceSays, PlaceAgains, PlaceWalk, Talk, IsReported, elected_place, entered_place, ended_replica}
use Rattle.sc_law_walks.proofs.PlaceEntries.{EntryParts, entry_kept}
use Rattle.sc_law_walks.proofs.Talks.{all_sent, one_answered, all_answered, all_dismissed}
use Rattle.sc_law_walks.specs.WalkDefinitions.{IsKept}
use Rattle.sc_law_refusal.proofs.RefusalProofs.Executing.{entered_name}
use Rattle.sc_law_refusal.proofs.PatienceProofs.GivenUpCommands.{Gives, MailGives, Holds, Commands, Reports, filed_gives, order_gives, with_top, with_hint, with_calls, with_acts, back_gives, with_leader, with_ready, landed_gives, polled_gives, entry_gives, forgotten_gives, with_acceptor, counted_gives, held_gives}
use Rattle.sc_law_entries.proofs.NamesProofs.HeldCommands.{without_held, flying_held, chosen_held, must_held}

-- what goes back leaves the group as it is
back_name : (command : Command) (r : ReplicaState) → name_of (put_back command r) ≡ name_of r
unfolding put_back
back_name Noop r = refl
back_name _ r = refl

-- a replica keeps its name with a state that it takes over
jumped_name : (slot : ℕ) (base : Base) (sets : List (List ℕ)) (r : ReplicaState) → name_of (jumped slot base sets r) ≡ name_of r
unfolding jumped forgotten
jumped_name slot base sets r = refl

-- F says of which transactions a group may give up; the replica is of node `me` and of this group
module _ (F : Draw → Draw → Type 0) (me : ℕ) (group : Draw) where
  abbrev pub W : Draw → Type 0
  W = F group

  abbrev pub Said : List Mail → Type 0
  Said mails = Each (λ (mail : Mail). MailGives F mail.body) mails

  abbrev pub Stands : Place → Type 0
  Stands place = (name_of place.0 ≡ group) × Holds W place.0 × Said place.1

  say : (from to : ℕ) (body : MailBody) (mails : List Mail) → MailGives F body → Said mails → Said (sent from to body mails)
  say from to body mails b m = Each-append (λ (mail : Mail). MailGives F mail.body) mails (record { from = from; to = to; body = body } ∷ []) m (b, tt)

  -- in the mails of a replica of this group
  own : (r : ReplicaState) (command : Command) → name_of r ≡ group → Gives W command → Gives (F (name_of r)) command
  own r command same g = subst (λ (name : Draw). Gives (F name) command) (sym same) g

  talk : (r : ReplicaState) → Talk r.me (λ mails. Stands (r, mails))
  talk r = record {
    tells = λ number result mails k. (k.0, k.1, say r.me _ _ mails tt k.2);
    answers = λ client of seq answer mails k. (k.0, k.1, say r.me _ _ mails tt k.2);
    offers = λ to tx offer mails from k. (k.0, k.1, say r.me to _ mails tt k.2);
    watches = λ to tx watch mails from k. (k.0, k.1, say r.me to _ mails tt k.2);
    casts = λ to tx coord part vote mails k. (k.0, k.1, say r.me to _ mails tt k.2);
    sees = λ to tx coord part vote mails k. (k.0, k.1, say r.me to _ mails tt k.2);
    ends = λ to tx part outcome mails k. (k.0, k.1, say r.me to _ mails tt k.2);
    sends_on = λ to tx coord hint mails k. (k.0, k.1, say r.me to _ mails tt k.2);
  }

  -- ---- entries

  abbrev Logs : Learnt × LogState Command → Type 0
  Logs p = Commands W p.1.entries

  logged : (slot : ℕ) (command : Command) (log : LogState Command) → Gives W command → Commands W log.entries → Commands W (learnt slot command log).1.entries
  logged slot command log c h =
      either_way Logs (eqb slot (next_of log)) _ _ (Each-append (Gives W) log.entries (command ∷ []) h (c, tt))
      (either_way Logs (nat_lt slot (next_of log)) _ _ h h)

  enters : (command : Command) (r : ReplicaState) → Gives W command → Holds W r → Holds W (entered command r)
  unfolding entered
  enters command r c h =
      forgotten_gives W (next r) _ (record { backlog = h.backlog; acts = h.acts; flights = h.flights; ready = h.ready; reports = h.reports; accepted = h.accepted; log = logged (next_of r.log) command r.log c h.log })

  entry_parts : EntryParts me Stands (λ slot command. Gives W command) (λ command. Gives W command)
  entry_parts = record {
    entered = λ command r mails kept good k. (entered_name command r ∙ k.0, enters command r good k.1, k.2);
    flown = λ slot command r mails e k. subst (λ (o : Option Command). Opt (Gives W) o) e (flying_held (Gives W) r slot (held_gives W r k.1));
    asked = λ client seq op. tt;
    back = λ command r mails on good k. (back_name command r ∙ k.0, back_gives W command r good k.1, k.2);
    landed = λ slot r mails k. (k.0, landed_gives W slot r k.1, k.2);
    talks = λ r same. talk r;
    teaches = λ to slot command r mails same good k. (k.0, k.1, say r.me to (Learn (name_of r) slot command) mails (own r command k.0 good) k.2);
    installs = λ to r mails same k. (k.0, k.1, say r.me to _ mails tt k.2);
    repolls = λ to r mails same on k. (k.0, k.1, say r.me to _ mails tt k.2);
  }

  entry_at_slot : (counts : Bool) (command : Command) (r : ReplicaState) (mails : List Mail) → (counts ≡ true → r.running ≡ true) → IsKept me r → Gives W command → Stands (r, mails) → Stands (entered_place counts command (r, mails))
  entry_at_slot counts command r mails on kept good k = (entry_kept me Stands (λ slot c. Gives W c) (λ c. Gives W c) entry_parts counts command r mails on good kept k).1

  jumps : (slot : ℕ) (base : Base) (sets : List (List ℕ)) (r : ReplicaState) → Holds W r → Holds W (jumped slot base sets r)
  unfolding jumped
  jumps slot base sets r h = forgotten_gives W slot _ (record { backlog = h.backlog; acts = h.acts; flights = h.flights; ready = h.ready; reports = h.reports; accepted = h.accepted; log = tt })

  -- ---- leaders

  ends : (hint : Option ℕ) (answer : AnswerBody) (r : ReplicaState) (mails : List Mail) → Stands (r, mails) → Stands (ended hint answer (r, mails))
  unfolding ended
  ends hint answer r mails k =
      let after : ReplicaState = ended_replica hint r in
      let stands : Stands (after, mails) = (k.0, record { backlog = tt; acts = tt; flights = tt; ready = tt; reports = tt; accepted = k.1.accepted; log = k.1.log }, k.2) in
      all_dismissed r.me (λ ms. Stands (after, ms)) (talk after) (name_of r) hint answer r.backlog (answered_all r.me (name_of r) answer (under_way r) mails)
      (all_answered r.me (λ ms. Stands (after, ms)) (talk after) (name_of r) answer (under_way r) mails stands)

  elects : (r : ReplicaState) (mails : List Mail) → Stands (r, mails) → Stands (elected_place (r, mails))
  elects r mails k =
      (k.0, record { backlog = k.1.backlog; acts = k.1.acts; flights = tt; ready = tt; reports = tt; accepted = k.1.accepted; log = k.1.log }, all_sent r.me Said (Prepare (name_of r) (record { round = r.top.round + 1; node = r.me }) (next r)) (λ to ms q. say r.me to _ ms tt q) (open_nodes r.sets) mails k.2)

  abbrev Round : Ballot → Type 0
  Round ballot = Unit {0}

  abbrev Entry : ℕ → Command → Type 0
  Entry slot command = Gives W command

  reported : (reports : List (Report Command)) → Each (IsReported Round Entry) reports → Reports W reports
  reported reports good = Each-weaker (IsReported Round Entry) (λ (report : Report Command). Gives W report.value) (λ report q. q.1) reports good

  is_chosen : (from : ℕ) (ballot : Ballot) (slot : ℕ) (set : List ℕ) (command : Command) (r : ReplicaState) → (counted from ballot slot set r.leader).0 ≡ Chosen command → Holds W r → Gives W command
  is_chosen from ballot slot set command r e h = chosen_held (Gives W) from ballot slot set r.leader (h.flights, h.reports) command e

  -- ---- what is offered

  offers : (slot : ℕ) (set : List ℕ) (command : Command) (r : ReplicaState) (mails : List Mail) → Gives W command → Stands (r, mails) → Stands (offered slot set command (r, mails))
  unfolding offered
  offers slot set command r mails c k = (
    k.0,
    with_leader W r (with_flight_at slot command r.leader) k.1.reports (Each-append (λ (flight : Flight Command). Gives W flight.value) r.leader.flights (record { slot = slot; value = command; voters = None } ∷ []) k.1.flights (c, tt)) k.1,
    all_sent r.me Said (Accept (name_of r) r.leader.ballot slot command) (λ to ms q. say r.me to _ ms (own r command k.0 c) q) set mails k.2,
  )

  queued_last : (r : ReplicaState) (command : Command) → Gives W command → Commands W r.backlog → Commands W (r.backlog ++ command ∷ [])
  queued_last r command c h = Each-append (Gives W) r.backlog (command ∷ []) h (c, tt)

  first_act : (r : ReplicaState) (act : Command) (rest : List Command) → r.acts ≡ act ∷ rest → Holds W r → Gives W act × Commands W rest
  first_act r act acts e h = subst (λ (cs : List Command). Commands W cs) e h.acts

  first_call : (r : ReplicaState) (command : Command) (rest : List Command) → r.backlog ≡ command ∷ rest → Holds W r → Gives W command × Commands W rest
  first_call r command backlog e h = subst (λ (cs : List Command). Commands W cs) e h.backlog

  -- ---- the walk

  abbrev pub given_facts : PlaceFacts
  given_facts = record {
    me = me;
    Early = λ place. Stands place;
    Late = λ place. Stands place;
    Round = λ ballot. Unit {0};
    Entry = λ slot command. Gives W command;
    Voted = λ slot. Unit {0};
    State = λ slot base. Unit {0};
    Polled = λ ballot. Unit {0};
    Learnt = λ slot command. Gives W command;
    Behind = λ slot. Unit {0};
  }

  pub given_states : PlaceStates given_facts
  given_states = record {
    late = λ place k. k;
    again = λ command r mails on e k. (k, subst (λ (o : Option Command). Opt (Gives W) o) e (opt_slot (Gives W) r.ready (next r) k.1.ready));
    counted_entry = λ command r mails kept on e good k. entry_at_slot true command r mails (λ t. on) kept good k;
    learnt_entry = λ command r mails kept good k. entry_at_slot false command r mails (λ t. absurd (true≢false (sym t))) kept good k;
    jumped = λ slot base sets r mails many good later off k. (jumped_name slot base sets r ∙ k.0, jumps slot base sets r k.1, k.2);
    hinted = λ hint r mails off k. (k.0, with_hint W r hint k.1, k.2);
    ended = λ hint answer r mails kept on k. ends hint answer r mails k;
    overtaken = λ ballot r mails kept good on t k. ends (Some ballot.node) (NotLeader (Some ballot.node)) (cond (below r.top ballot) (record r { top = ballot }) r) mails
        (either_way (λ (x : ReplicaState). Stands (x, mails)) (below r.top ballot) (record r { top = ballot }) r (k.0, with_top W r ballot k.1, k.2) k);
    elected = λ r mails kept k. elects r mails k;
    seen = λ ballot r mails good t on k. (k.0, with_top W r ballot k.1, k.2);
    polled = λ from ballot reports r mails on good k. (k.0, polled_gives W from ballot reports r (reported reports good) k.1, k.2);
    counts = λ from ballot slot set count r mails on e k. (k.0, counted_gives W from ballot slot set r k.1, k.2);
    chosen = λ from ballot slot set command r mails on e voted k. (let c = is_chosen from ballot slot set command r e k.1 in
        (c, (k.0, with_ready W (record r { leader = (counted from ballot slot set r.leader).1 }) slot command c (counted_gives W from ballot slot set r k.1), k.2)));
    promised = λ from ballot from_slot r mails same good asked top t k. (
      k.0,
      with_acceptor W r (after_promise ballot r.acceptor) k.1.accepted k.1,
      say r.me from (Promise (name_of r) ballot (reports_from from_slot r.acceptor.accepted)) mails
          (subst (λ (name : Draw). Each (λ (report : Report Command). Gives (F name) report.value) (reports_from from_slot r.acceptor.accepted)) (sym k.0)
          (Each-filter (λ (report : Report Command). Gives W report.value) (λ (report : Report Command). nat_le from_slot report.slot) r.acceptor.accepted k.1.accepted)) k.2,
    );
    accepted = λ from report r mails same good top t k. (
      k.0,
      with_acceptor W r (after_accept report r.acceptor) (report_with (Gives W) report r.acceptor.accepted good.1 k.1.accepted) k.1,
      say r.me from (Accepted (name_of r) report.ballot report.slot) mails tt k.2,
    );
    filed = λ act r mails on good e k. (k.0, with_acts W r (r.acts ++ act ∷ []) (Each-append (Gives W) r.acts (act ∷ []) k.1.acts (filed_gives W act good, tt)) k.1, k.2);
    ordered = λ order r mails on good k. (k.0, with_calls W r (r.backlog ++ order ∷ []) (queued_last r order (order_gives W order good) k.1.backlog) k.1, k.2);
    requested = λ client seq op r mails on e k. (k.0, with_calls W r (r.backlog ++ Call client seq op ∷ []) (queued_last r (Call client seq op) tt k.1.backlog) k.1, k.2);
    requested_again = λ client seq other op r mails on e f k. (
      k.0,
      with_calls W r (without_request r.backlog client ++ Call client seq op ∷ []) (Each-append (Gives W) (without_request r.backlog client) (Call client seq op ∷ []) (without_held (Gives W) r.backlog client k.1.backlog) (tt, tt)) k.1,
      k.2,
    );
    turned = λ command answer backlog r mails same on e no k. (let after : ReplicaState = record r { backlog = backlog } in
        one_answered r.me (λ ms. Stands (after, ms)) (talk after) r.group.core.id answer command mails (k.0, with_calls W r backlog (first_call r command backlog e k.1).1 k.1, k.2));
    offers_value = λ slot set command r mails same on near free e k. offers slot set command r mails (must_held (Gives W) slot r.leader command e (k.1.flights, k.1.reports)) k;
    offers_noop = λ slot set r mails same on near free k. offers slot set Noop r mails tt k;
    offers_act = λ slot set act acts r mails same on near free e k. (let first = first_act r act acts e k.1 in offers slot set act (record r { acts = acts }) mails first.0 (k.0, with_acts W r acts first.1 k.1, k.2));
    offers_call = λ slot set command backlog r mails same on near free e k. (let first = first_call r command backlog e k.1 in offers slot set command (record r { backlog = backlog }) mails first.0 (k.0, with_calls W r backlog first.1 k.1, k.2));
  }

  recalled : (to slot : ℕ) (command : Command) (r : ReplicaState) (mails : List Mail) → entry_at slot r.log ≡ Some command → Stands (r, mails) → Stands (r, sent r.me to (Learn (name_of r) slot command) mails)
  recalled to slot command r mails e k = (k.0, k.1, say r.me to (Learn (name_of r) slot command) mails (own r command k.0 (subst (λ (o : Option Command). Opt (Gives W) o) e (entry_gives W slot r k.1))) k.2)

  pub given_says : PlaceSays given_facts
  given_says = record {
    early = λ r same. talk r;
    late = λ r same. talk r;
    installs = λ to r mails same k. (k.0, k.1, say r.me to _ mails tt k.2);
    recalls = λ to slot command r mails same e k. recalled to slot command r mails e k;
    wants = λ to slot r mails same behind low k. (k.0, k.1, say r.me to _ mails tt k.2);
    nacks = λ to r mails same k. (k.0, k.1, say r.me to _ mails tt k.2);
  }

  abbrev pub given_walk : PlaceWalk
  given_walk = record { facts = given_facts; states = given_states; says = given_says }

  pub given_agains : PlaceAgains given_facts
  given_agains = record {
    reasks = λ to slot command r mails same on e k. (k.0, k.1, say r.me to (Accept (name_of r) r.leader.ballot slot command) mails (own r command k.0 (subst (λ (o : Option Command). Opt (Gives W) o) e (flying_held (Gives W) r slot (held_gives W r k.1)))) k.2);
    relearns = λ to command r mails same e k. recalled to (next r - 1) command r mails e k;
  }
