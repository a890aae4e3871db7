-- What a replica reports of an order in a row: what the log of its group decided by an entry that it executes; or that it does not lead, of an order that waited, where its leadership ended. An instance of the walk over any replica's table.
use Rattle.std.proofs.Common.{◌≡◌, ℕ, ◌+◌, ◌<◌, ◌≤◌, cond, Bool, true, false, true≢false, refl, sym, ◌∙◌, subst, List, [], ◌∷◌, ◌++◌, Option, Some, None, ◌⊎◌, inl, inr, arith}
use Rattle.std.proofs.lemmas.Bool.{cond_both}
use Rattle.sc_base.specs.Definitions.{Among, Each}
use Rattle.sc_node_table.specs.Values.{Ballot, Command, Noop, Call, Join, Leave, Split, Begin, GiveUp, Base, AnswerBody, OrderResult, Refused, Chosen, Flight, Report, Mail, MailBody, Request, Prepare, Promise, Accept, Accepted, Learn, Install, Told}
use Rattle.sc_words.specs.declared.commands.orders.OrderRefusal.TheVariants.{NotLeader}
use Rattle.sc_group_table.specs.machine.MachineDefinitions.{applied, state_after}
use Rattle.sc_group_table.specs.policy.PolicyDefinitions.{is_reported}
use Rattle.sc_words.specs.paxos.PaxosDefinitions.{LeaderState, below, counted, promise_counted, without_flight_at}
use Rattle.sc_words.proofs.PaxosProofs.PaxosLemmas.{Each-among, Each-append, Each-weaker}
use Rattle.sc_paxos_law.specs.PaxosLawDefinitions.{IsLog, IsLawfulHistory, Accepted as AcceptedStep}
use Rattle.sc_law_entries.specs.names.NameDefinitions.{Opt}
use Rattle.sc_law_entries.proofs.HistoryProofs.HistoryLemmas.{applied_same}
use Rattle.sc_law_entries.proofs.NamesProofs.EachFound.{opt_slot, slot_with, slot_without, flight_without}
use Rattle.sc_node_table.specs.NodeDefinitions.{ReplicaState, Place, name_of, next, set_at, at_slot, with_slot, without_slot, without_request, open_nodes, ended, entered, jumped, forgotten, offered, put_back, answered_all, under_way, before_of, order_number, begun_result, spoken_number, spoken_mails, begun_reported, result_reported, went_on}
use Rattle.sc_meaning.specs.sound.SoundDefinitions.{Ahead}
use Rattle.sc_law_groups.proofs.GroupProofs.GroupLemmas.{IsLearnt, Steps, rule, first, birth, IsReplica, IsState, slot_among}
use Rattle.sc_law_walks.specs.WalkDefinitions.{IsFiledOnMail}
use Rattle.sc_law_walks.proofs.WalkLemmas.{below_round, promise_ballot, counted_ballot, either_way, back_any, TableFacts, TableStates, TableSays, TableWalk, TableTicks, all_heard, TableEntry, entry_holds}
use Rattle.sc_law_walks.proofs.PlaceWalks.{Parties}
use Rattle.sc_law_walks.proofs.Talks.{all_sent, client_reported, one_replied, all_replied, vote_reported, watch_reported, outcome_said, next_one_asked, went_said, all_reminded}
use Rattle.sc_law_refusal.specs.results.ResultDefinitions.{IsOf, EndsOrder, IfReported, ReportAs}
use Rattle.sc_law_refusal.proofs.ResultsProofs.Reports.{puts, parties_told, reported, begun_said, all_dismissed, order_ends, begun_ends, is_of}
use Rattle.sc_law_entries.proofs.NamesProofs.HeldCommands.{Commands, Flights, Reports, Ready, Held, without_held, back_held, last_held, flying_held, polled_held, counted_held, chosen_held, must_held}
use Rattle.sc_law_refusal.proofs.ResultsProofs.LoggedReplicas.{IsLogged, longer_is, enters, clears, unready, readies_more, jumps, vote_chooses}

-- what tells so tells what follows from it
told_so : (Fact More : ℕ → OrderResult → Type 0) → ((number : ℕ) (result : OrderResult) → Fact number result → More number result) → (body : MailBody) → IfReported Fact body → IfReported More body
told_so Fact More f (Told number result) t = f number result t
told_so Fact More f (Request group client seq op) t = t
told_so Fact More f _ t = tt

pub tell_so : (Fact More : ℕ → OrderResult → Type 0) → ((number : ℕ) (result : OrderResult) → Fact number result → More number result) → (mails : List Mail) → ReportAs Fact mails → ReportAs More mails
tell_so Fact More f mails m = Each-weaker (λ (mail : Mail). IfReported Fact mail.body) (λ (mail : Mail). IfReported More mail.body) (λ mail t. told_so Fact More f mail.body t) mails m

-- a command, where it is that of an order with a number, waits as W says
abbrev pub Waits : (ℕ → Command → Type 0) → Command → Type 0
Waits W command = (number : ℕ) → IsOf number command → is_reported number ≡ true → W number command

filed_waits : (W : ℕ → Command → Type 0) (act : Command) → IsFiledOnMail act → Waits W act
filed_waits W (Join node order) q = absurd q
filed_waits W (Leave node order) q = absurd q
filed_waits W (Split at child order) q = absurd q
filed_waits W (Begin tx body order) q = absurd q
filed_waits W Noop q = λ number own t. absurd own
filed_waits W _ q = λ number own t. absurd own

-- a result is that of an order that is given back, where W says which orders wait
pub record IsBack (W : ℕ → Command → Type 0) (number : ℕ) (result : OrderResult) : Type 0 where
  pub command : Command
  pub own : IsOf number command
  pub waits : W number command
  pub hint : Option ℕ
  pub says : result ≡ Refused (NotLeader hint)

-- a replica has ended a leadership in a row that found a round: it does not run, or it leads in a later round
abbrev pub HasStopped : ℕ → ReplicaState → Type 0
HasStopped round r = (r.running ≡ false) ⊎ (round < r.leader.ballot.round)

module _ (ahead : Ahead) (base : Base) (h : Steps) (made : Command → Type 0) (W : ℕ → Command → Type 0) where
  -- what a mail of the group brings is true of its steps, and the orders that it brings wait
  abbrev pub Brings : ℕ → MailBody → Type 0
  Brings from (Accepted group ballot slot) = (d : Command) × Among (AcceptedStep from ballot slot d) h
  Brings from (Learn group slot command) = IsLearnt (rule ahead base) h slot command
  Brings from (Install group slot state sets) = IsState ahead base made h slot state sets
  Brings from (Promise group ballot reports) = Each (λ (report : Report Command). Waits W report.value) reports
  Brings from _ = Unit {0}

-- the steps of a group before the row; what its log decides of orders is so; and the orders that wait at a replica whose greatest round is this one, or that the row brings
module _ (ahead : Ahead) (base : Base) (h : Steps) (lawful : IsLawfulHistory (rule ahead base) (first ahead base) h) (made : Command → Type 0) (Fact : ℕ → OrderResult → Type 0)
    (decided : (whole : List Command) (command : Command) → IsLog (rule ahead base) h (whole ++ command ∷ []) → (number : ℕ) (result : OrderResult) → EndsOrder (state_after (birth ahead base) whole) command number result → Fact number result)
    (W : ℕ → Command → Type 0) (round : ℕ) where
  abbrev Logged : ReplicaState → Type 0
  Logged r = (name_of r ≡ base.core.id) × IsLogged ahead base h lawful r

  abbrev P : Command → Type 0
  P command = Waits W command

  -- a result is so, or, where the leadership has ended in the row, it is that of an order that is given back
  abbrev pub MayGiveOrder : Bool → ℕ → OrderResult → Type 0
  MayGiveOrder ended number result = Fact number result ⊎ ((ended ≡ true) × IsBack W number result)

  abbrev ReportsOrders : Bool → List Mail → Type 0
  ReportsOrders ended mails = ReportAs (MayGiveOrder ended) mails

  -- mail that reports nothing leaves it so
  none_told : (ended : Bool) (me : ℕ) → Parties me (ReportsOrders ended)
  none_told ended me = parties_told me (MayGiveOrder ended)

  abbrev pub Stands : Bool → ReplicaState → Type 0
  Stands ended r = Logged r × Held P r × (round ≤ r.top.round) × (ended ≡ true → HasStopped round r)

  abbrev pub ReportsSo : Place → Type 0
  ReportsSo place = (ended : Bool) × Stands ended place.0 × ReportAs (MayGiveOrder ended) place.1

  -- ---- an entry

  back_stands : (ended : Bool) (command : Command) (r : ReplicaState) → P command → Stands ended r → Stands ended (put_back command r)
  back_stands ended command r c k =
      let rest = back_any (λ s. Logged s × (round ≤ s.top.round) × (ended ≡ true → HasStopped round s)) (λ s acts backlog q. q) command r (k.0, k.2, k.3) in
      (rest.0, back_held P command r c k.1, rest.1, rest.2)

  entered_stands : (ended : Bool) (command : Command) (r : ReplicaState) → IsLearnt (rule ahead base) h (next r) command → Stands ended r → Stands ended (entered command r)
  unfolding entered forgotten
  entered_stands ended command r t k = (((applied_same r.group command).0 ∙ k.0.0, enters ahead base h lawful command r k.0.1 t), k.1, k.2, k.3)

  -- what the entry does to an order is what the log decides of it
  entry_decides : (command : Command) (start : ReplicaState) → Logged start → IsLearnt (rule ahead base) h (next start) command → (number : ℕ) (result : OrderResult) → EndsOrder start.group command number result → Fact number result
  entry_decides command start k t number result ends =
      decided k.1.whole command (longer_is ahead base h lawful start command k.1 t) number result (subst (λ g. EndsOrder g command number result) k.1.log_is.group_is ends)

  spoken_tells : (ended counted : Bool) (command : Command) (start r : ReplicaState) (mails : List Mail) → ((number : ℕ) (result : OrderResult) → EndsOrder start.group command number result → Fact number result) → ReportAs (MayGiveOrder ended) mails
      → ReportAs (MayGiveOrder ended) (spoken_mails counted r.me r.group (before_of start.group.core) (applied start.group command).1 command mails)
  unfolding spoken_mails begun_reported
  spoken_tells ended counted command start r mails fact m =
      let Q : List Mail → Type 0 = λ ms. ReportAs (MayGiveOrder ended) ms in
      let before = before_of start.group.core in
      let effect = (applied start.group command).1 in
      let told : List Mail = result_reported r.me (begun_result before.alone effect command) (spoken_number before.order command) mails in
      let said : Q told = begun_said r.me (MayGiveOrder ended) (spoken_number before.order command) (begun_result before.alone effect command) mails (λ result e t. inl (fact (spoken_number before.order command) result (begun_ends start.group command result e t))) m in
      either_way Q counted (went_on r.me r.group before effect command told) told (went_said r.me (ReportsOrders ended) (none_told ended r.me) r.group before effect command told said) said

  entry_keeps : (counted : Bool) (command : Command) (start : ReplicaState) → Logged start → IsLearnt (rule ahead base) h (next start) command → (counted ≡ true → P command) → TableEntry counted command start ReportsSo ReportsSo
  entry_keeps counted command start logged t waits = record {
    Lost = λ other. P other;
    entered = λ mails k. (k.0, entered_stands k.0 command start t k.1, k.2);
    answers = λ client seq op answer r mails c e a k. (k.0, k.1, client_reported r.me (ReportsOrders k.0) (none_told k.0 r.me) client (name_of r) seq answer mails k.2);
    returned = λ r mails c k. (k.0, back_stands k.0 command r (waits c) k.1, k.2);
    reports = λ result r mails e k. (k.0, k.1, reported r.me (MayGiveOrder k.0) (order_number command) result mails (λ _. inl (entry_decides command start logged t (order_number command) result (order_ends start.group command result e))) k.2);
    speaks = λ r mails k. (k.0, k.1, spoken_tells k.0 counted command start r mails (entry_decides command start logged t) k.2);
    teaches = λ to r mails c a k. (k.0, k.1, puts r.me (MayGiveOrder k.0) to _ mails tt k.2);
    installs = λ to r mails c new k. (k.0, k.1, puts r.me (MayGiveOrder k.0) to _ mails tt k.2);
    repolls = λ to r mails c new k. (k.0, k.1, puts r.me (MayGiveOrder k.0) to _ mails tt k.2);
    flies = λ other r mails e k. subst (λ (o : Option Command). Opt P o) e (flying_held P r (next start) k.1.1);
    landed = λ place k. (k.0, cleared_stands k.0 place.0 k.1, k.2);
    back = λ other r mails l k. (k.0, back_stands k.0 other r l k.1, k.2);
  }
    where
      cleared_stands : (ended : Bool) (r : ReplicaState) → Stands ended r → Stands ended (record r { leader = without_flight_at (next start) r.leader; ready = without_slot r.ready (next start) })
      cleared_stands ended r k = (
        (k.0.0, clears ahead base h lawful (next start) r (without_flight_at (next start) r.leader) k.0.1),
        (k.1.0, k.1.1, flight_without P (next start) r.leader.flights k.1.2, k.1.3, slot_without P r.ready (next start) k.1.4),
        k.2,
        k.3,
      )

  -- ---- leaders

  ends : (hint : Option ℕ) (answer : AnswerBody) (r : ReplicaState) (mails : List Mail) → ReportsSo (r, mails) → ReportsSo (ended hint answer (r, mails))
  unfolding ended
  ends hint answer r mails k = (
    true,
    ((k.1.0.0, unready ahead base h lawful r k.1.0.1), (tt, tt, tt, tt, tt), k.1.2, λ _. inl refl),
    all_dismissed r.me (MayGiveOrder true) (name_of r) hint answer r.backlog (answered_all r.me (name_of r) answer (under_way r) mails)
        (λ command a t. inr (refl, record { command = command; own = is_of command t; waits = Each-among P r.backlog command k.1.1.0 a (order_number command) (is_of command t) t; hint = hint; says = refl }))
        (all_replied r.me (ReportsOrders true) (none_told true r.me) (name_of r) answer (under_way r) mails
        (tell_so (MayGiveOrder k.0) (MayGiveOrder true) (λ number result t. elim t [ inl f ↦ inl f | inr b ↦ inr (refl, b.1) ]) mails k.2)),
  )

  -- a command is offered
  offers : (slot : ℕ) (set : List ℕ) (command : Command) (r : ReplicaState) (mails : List Mail) → P command → ReportsSo (r, mails) → ReportsSo (offered slot set command (r, mails))
  unfolding offered
  offers slot set command r mails c k = (
    k.0,
    (k.1.0, (k.1.1.0, k.1.1.1, Each-append (λ (flight : Flight Command). P flight.value) r.leader.flights (record { slot = slot; value = command; voters = None } ∷ []) k.1.1.2 (c, tt), k.1.1.3, k.1.1.4), k.1.2, k.1.3),
    all_sent r.me (λ ms. ReportAs (MayGiveOrder k.0) ms) (Accept (name_of r) r.leader.ballot slot command) (λ to ms q. puts r.me (MayGiveOrder k.0) to _ ms tt q) set mails k.2,
  )

  -- a greater ballot is seen
  saw_later : (ballot : Ballot) (r : ReplicaState) (mails : List Mail) → below r.top ballot ≡ true → ReportsSo (r, mails) → ReportsSo (record r { top = ballot }, mails)
  saw_later ballot r mails t k = (let later = below_round r.top ballot t in let low = k.1.2 in (k.0, (k.1.0, k.1.1, omega (arith, later, low), k.1.3), k.2))

  -- the leader's ballot stays
  with_leader : (ended : Bool) (r : ReplicaState) (leader : LeaderState Command) → leader.ballot ≡ r.leader.ballot → Flights P leader.flights × Reports P leader.reports → Stands ended r → Stands ended (record r { leader = leader })
  with_leader ended r leader same l k = (
    k.0,
    (k.1.0, k.1.1, l.0, l.1, k.1.4),
    k.2,
    λ e. elim (k.3 e) [ inl off ↦ inl off | inr later ↦ inr (subst (λ (b : Ballot). round < b.round) (sym same) later) ],
  )

  other : (ended : Bool) (slot : ℕ) (state : Base) (sets : List (List ℕ)) (r : ReplicaState) → (name_of r ≡ base.core.id) × Held P r × (round ≤ r.top.round) × (ended ≡ true → HasStopped round r)
      → (let s : ReplicaState = jumped slot state sets r in (name_of s ≡ base.core.id) × Held P s × (round ≤ s.top.round) × (ended ≡ true → HasStopped round s))
  unfolding jumped forgotten
  other ended slot state sets r k = k

  jumped_stands : (ended : Bool) (slot : ℕ) (state : Base) (sets : List (List ℕ)) (r : ReplicaState) → IsState ahead base made h slot state sets → Stands ended r → Stands ended (jumped slot state sets r)
  jumped_stands ended slot state sets r t k = (let rest = other ended slot state sets r (k.0.0, k.1, k.2, k.3) in ((rest.0, jumps ahead base h lawful made slot state sets r k.0.0 t k.0.1), rest.1, rest.2, rest.3))

  -- ---- the walk

  abbrev pub reported_facts : TableFacts
  reported_facts = record {
    First = λ r. (me : ℕ) × IsReplica ahead base made h me r;
    Early = λ place. ReportsSo place;
    Late = λ place. ReportsSo place;
    Hears = λ from body. Brings ahead base h made W from body;
    Round = λ ballot. Unit {0};
    Entry = λ slot command. IsLearnt (rule ahead base) h slot command;
    Files = λ act. Unit {0};
    Orders = λ order. P order;
    Given = λ drawer line. ⊥;
    Child = λ child. Unit {0};
  }

  ready_of : (r : ReplicaState) (command : Command) → at_slot r.ready (next r) ≡ Some command → Ready P r.ready → P command
  ready_of r command e k = subst (λ (o : Option Command). Opt P o) e (opt_slot P r.ready (next r) k)

  first_act : (r : ReplicaState) (act : Command) (rest : List Command) → r.acts ≡ act ∷ rest → Commands P r.acts → P act × Commands P rest
  first_act r act acts e k = subst (λ (cs : List Command). Commands P cs) e k

  first_call : (r : ReplicaState) (command : Command) (rest : List Command) → r.backlog ≡ command ∷ rest → Commands P r.backlog → P command × Commands P rest
  first_call r command backlog e k = subst (λ (cs : List Command). Commands P cs) e k

  pub with_backlog : (r : ReplicaState) (mails : List Mail) (rest : List Command) → Commands P rest → ReportsSo (r, mails) → ReportsSo (record r { backlog = rest }, mails)
  with_backlog r mails rest c k = (k.0, (k.1.0, (c, k.1.1.1, k.1.1.2, k.1.1.3, k.1.1.4), k.1.2, k.1.3), k.2)

  pub with_acts : (r : ReplicaState) (mails : List Mail) (rest : List Command) → Commands P rest → ReportsSo (r, mails) → ReportsSo (record r { acts = rest }, mails)
  with_acts r mails rest c k = (k.0, (k.1.0, (k.1.1.0, c, k.1.1.2, k.1.1.3, k.1.1.4), k.1.2, k.1.3), k.2)

  no_order : (command : Command) → ((number : ℕ) → IsOf number command → ⊥) → P command
  no_order command none = λ number own t. absurd (none number own)

  -- a vote that decides its slot is for what was chosen there
  votes : (from : ℕ) (ballot : Ballot) (slot : ℕ) (set : List ℕ) (command : Command) (r : ReplicaState) (mails : List Mail) → ((me : ℕ) × IsReplica ahead base made h me r) → ((d : Command) × Among (AcceptedStep from ballot slot d) h) → set_at slot r ≡ Some set
      → (counted from ballot slot set r.leader).0 ≡ Chosen command → ReportsSo (r, mails) → IsLearnt (rule ahead base) h slot command × ReportsSo (record r { leader = (counted from ballot slot set r.leader).1; ready = with_slot r.ready slot command }, mails)
  votes from ballot slot set command r mails first did is_open e k =
      let t = vote_chooses ahead base h lawful made first.0 from slot ballot set r first.1 did.0 did.1 is_open command e in
      let p : P command = chosen_held P from ballot slot set r.leader (k.1.1.2, k.1.1.3) command e in
      let led : Stands k.0 (record r { leader = (counted from ballot slot set r.leader).1 }) =
      with_leader k.0 r (counted from ballot slot set r.leader).1 (counted_ballot from ballot slot set r.leader) (counted_held P from ballot slot set r.leader (k.1.1.2, k.1.1.3)) k.1 in
      (t, (k.0, ((led.0.0, readies_more ahead base h lawful slot command r t k.1.0.1), (led.1.0, led.1.1, led.1.2, led.1.3, slot_with P r.ready slot command p led.1.4), led.2, led.3), k.2))

  pub reported_states : TableStates reported_facts
  reported_states = record {
    late = λ place k. k;
    again = λ command r mails on e k. (k, Each-among (λ e. IsLearnt (rule ahead base) h e.0 e.1) r.ready (next r, command) k.1.0.1.is_ready (slot_among r.ready (next r) command e));
    counted_entry = λ command r mails on e low k. entry_holds true command r ReportsSo ReportsSo (entry_keeps true command r k.1.0 low (λ _. ready_of r command e k.1.1.4)) mails k;
    learnt_entry = λ from group command r mails t first k. entry_holds false command r ReportsSo ReportsSo (entry_keeps false command r k.1.0 t (λ e. absurd (true≢false (sym e)))) mails k;
    children = λ counted command r mails child may e k. tt;
    jumped = λ from group slot state sets r mails t many later off k. (k.0, jumped_stands k.0 slot state sets r t k.1, k.2);
    hinted = λ hint r mails off k. k;
    stops = λ hint r mails on k. ends hint _ r mails k;
    goes = λ into r mails on e k. ends None _ r mails k;
    overtaken = λ ballot r mails good on t k. ends (Some ballot.node) _ (cond (below r.top ballot) (record r { top = ballot }) r) mails (cond_both (below r.top ballot) (record r { top = ballot }) r (λ (x : ReplicaState). ReportsSo (x, mails)) (λ later. saw_later ballot r mails later k) (λ _. k));
    elected = λ r mails k. (let low = k.1.2 in (
      k.0,
      ((k.1.0.0, unready ahead base h lawful r k.1.0.1), (k.1.1.0, k.1.1.1, tt, tt, tt), omega (arith, low), λ _. inr (omega (arith, low))),
      all_sent r.me (λ ms. ReportAs (MayGiveOrder k.0) ms) (Prepare (name_of r) (record { round = r.top.round + 1; node = r.me }) (next r)) (λ to ms q. puts r.me (MayGiveOrder k.0) to _ ms tt q) (open_nodes r.sets) mails k.2,
    ));
    seen = λ ballot r mails good t on k. saw_later ballot r mails t k;
    polled = λ from group ballot reports r mails on t k. (k.0, with_leader k.0 r (promise_counted from ballot reports r.leader).1 (promise_ballot from ballot reports r.leader) (polled_held P from ballot reports r.leader t (k.1.1.2, k.1.1.3)) k.1, k.2);
    counts = λ from ballot slot set count r mails on e k. (k.0, with_leader k.0 r (counted from ballot slot set r.leader).1 (counted_ballot from ballot slot set r.leader) (counted_held P from ballot slot set r.leader (k.1.1.2, k.1.1.3)) k.1, k.2);
    chosen = λ from group ballot slot set command r mails vote e t k. votes from ballot slot set command r mails vote.first t vote.members_are e k;
    promised = λ from group ballot from_slot r mails t top may k. (k.0, k.1, puts r.me (MayGiveOrder k.0) from _ mails tt k.2);
    accepted = λ from group report r mails t top may k. (k.0, k.1, puts r.me (MayGiveOrder k.0) from _ mails tt k.2);
    filed = λ act r mails on q e brought k. with_acts r mails (r.acts ++ act ∷ []) (last_held P r.acts act (filed_waits W act q) k.1.1.1) k;
    ordered = λ order r mails on q may k. with_backlog r mails (r.backlog ++ order ∷ []) (last_held P r.backlog order may k.1.1.0) k;
    requested = λ client seq op r mails on e k. with_backlog r mails (r.backlog ++ Call client seq op ∷ []) (last_held P r.backlog (Call client seq op) (no_order (Call client seq op) (λ number own. own)) k.1.1.0) k;
    requested_again = λ client seq other op r mails on e g k.
        with_backlog r mails (without_request r.backlog client ++ Call client seq op ∷ []) (last_held P (without_request r.backlog client) (Call client seq op) (no_order (Call client seq op) (λ number own. own)) (without_held P r.backlog client k.1.1.0)) k;
    turned = λ command answer backlog r mails on e no k. (let rest = with_backlog r mails backlog (first_call r command backlog e k.1.1.0).1 k in
        (rest.0, rest.1, one_replied r.me (ReportsOrders rest.0) (none_told rest.0 r.me) r.group.core.id answer command mails rest.2));
    offers_value = λ slot set command r mails on near free e k. offers slot set command r mails (must_held P slot r.leader command e (k.1.1.2, k.1.1.3)) k;
    offers_noop = λ slot set r mails on near free gap k. offers slot set Noop r mails (no_order Noop (λ number own. own)) k;
    offers_act = λ slot set act acts r mails on near free e k. (let one = first_act r act acts e k.1.1.1 in offers slot set act (record r { acts = acts }) mails one.0 (with_acts r mails acts one.1 k));
    offers_call = λ slot set command backlog r mails on near free e k. (let one = first_call r command backlog e k.1.1.0 in offers slot set command (record r { backlog = backlog }) mails one.0 (with_backlog r mails backlog one.1 k));
  }

  pub reported_says : TableSays reported_facts
  reported_says = record {
    refuses = λ from group client seq op answer r mails t e k. (k.0, k.1, client_reported r.me (ReportsOrders k.0) (none_told k.0 r.me) client (name_of r) seq answer mails k.2);
    tells = λ drawer line why r mails given e k. absurd given;
    votes = λ from tx offer vote r mails t e k. (k.0, k.1, vote_reported r.me (ReportsOrders k.0) (none_told k.0 r.me) r.group from tx offer vote mails k.2);
    sees = λ from tx watch vote r mails t e k. (k.0, k.1, watch_reported r.me (ReportsOrders k.0) (none_told k.0 r.me) from tx watch vote mails k.2);
    vote_ends = λ from tx coord part vote outcome r mails t e k. (k.0, k.1, outcome_said r.me (ReportsOrders k.0) (none_told k.0 r.me) from tx part outcome mails k.2);
    watch_ends = λ from tx coord part vote outcome r mails t e k. (k.0, k.1, outcome_said r.me (ReportsOrders k.0) (none_told k.0 r.me) from tx part outcome mails k.2);
    offer_sent_on = λ from tx offer r mails t k. (k.0, k.1, puts r.me (MayGiveOrder k.0) from _ mails tt k.2);
    watch_sent_on = λ from tx watch r mails t k. (k.0, k.1, puts r.me (MayGiveOrder k.0) from _ mails tt k.2);
    asks_next = λ from tx coord hint r mails t k. (k.0, k.1, next_one_asked r.me (ReportsOrders k.0) (none_told k.0 r.me) r.group.core.lock r.group.core from tx hint mails k.2);
    prepare_behind = λ from group ballot from_slot r mails t found low k. (k.0, k.1, puts r.me (MayGiveOrder k.0) from _ mails tt k.2);
    accept_behind = λ from group report r mails t found low k. (k.0, k.1, puts r.me (MayGiveOrder k.0) from _ mails tt k.2);
    ask_behind = λ from group slot r mails t k. (k.0, k.1, puts r.me (MayGiveOrder k.0) from _ mails tt k.2);
    recalls = λ from group asked slot command r mails t e k. (k.0, k.1, puts r.me (MayGiveOrder k.0) from _ mails tt k.2);
    wants = λ from group slot command r mails t low k. (k.0, k.1, puts r.me (MayGiveOrder k.0) from _ mails tt k.2);
    prepare_nacked = λ from group ballot from_slot r mails t found no k. (k.0, k.1, puts r.me (MayGiveOrder k.0) from _ mails tt k.2);
    accept_nacked = λ from group report r mails t found no k. (k.0, k.1, puts r.me (MayGiveOrder k.0) from _ mails tt k.2);
  }

  abbrev pub reported_walk : TableWalk
  reported_walk = record { facts = reported_facts; hears = all_heard reported_facts (λ ballot. tt) (λ act. tt); states = reported_states; says = reported_says }

  pub reported_ticks : TableTicks reported_facts
  reported_ticks = record {
    waited = λ waits r mails k. k;
    gives_up = λ tx body order heard r mails e on no k. with_acts r mails (r.acts ++ GiveUp tx ∷ []) (last_held P r.acts (GiveUp tx) (no_order (GiveUp tx) (λ number own. own)) k.1.1.1) k;
    agains = record {
      reminds = λ r mails on k. (k.0, k.1, all_reminded r.me (ReportsOrders k.0) (none_told k.0 r.me) r.group.core.lock r.group mails k.2);
      reasks = λ to slot command r mails on e k. (k.0, k.1, puts r.me (MayGiveOrder k.0) to _ mails tt k.2);
      relearns = λ to command r mails e k. (k.0, k.1, puts r.me (MayGiveOrder k.0) to _ mails tt k.2);
    };
  }
