-- While one client asks alone, whatever is under way is its own request, with a number from the first one on. And as long as no reply to the request that it waits for is under way, that request is in no log and in no Learn.
use Rattle.std.proofs.Common.{◌≡◌, ℕ, ◌<◌, ◌≤◌, ◌||◌, nat_lt, Bool, true, false, true≢false, List, [], ◌∷◌, Option, Some, None, ◌⊎◌, inl, inr, refl, sym, ◌∙◌, ap, subst, arith}
use Rattle.std.specs.Option.{option_map}
use Rattle.std.proofs.lemmas.Bool.{cond_both, ltb-true}
use Rattle.sc_base.specs.Definitions.{Among, Each, client_actor}
use Rattle.sc_node_table.specs.Values.{Draw, Reply, Command, Call, AnswerBody, Value, NotLeader, Mail, MailBody, Request, Answer, Prepare, Promise, Accept, Learn, Ask, Flight, Report}
use Rattle.sc_words.specs.declared.paxos.answers.Must.TheVariants.{Value as MustBe, Gap, Free as Open}
use Rattle.sc_words.proofs.PaxosProofs.PaxosLemmas.{Each-append, Each-among, choice_among}
use Rattle.sc_words.specs.paxos.PaxosDefinitions.{LeaderState, LogState, must, must_without, with_flight_at, choice, names_above, chosen_value}
use Rattle.sc_node_table.specs.NodeDefinitions.{ReplicaState, Place, next, name_of, flying, at_slot, sent, sent_all, stopped, ended, offered, answered, taken_at, taken_from, listed, open_slots, under_way, answered_all, dismissed, dismissed_all, put_back}
use Rattle.sc_law_entries.specs.names.NameDefinitions.{Opt}
use Rattle.sc_law_entries.proofs.NamesProofs.EachFound.{opt_either, opt_slot}
use Rattle.sc_law_entries.proofs.NamesProofs.HeldCommands as held
use Rattle.sc_law_walks.proofs.Talks.{all_sent}
use Rattle.sc_live_plain.proofs.PlainRowsProofs.RepeatedMail.{mail_of, among_push}
use Rattle.sc_live_healed.proofs.TakenRequests.{is_call}

module _ (client first : ℕ) where
  -- a request of the client, with a number from the first one on
  abbrev pub IsMine : Command → Type 0
  IsMine (Call who number op) = (who ≡ client) × (first ≤ number)
  IsMine _ = ⊥

  -- what is under way: the client's own requests, and no poll
  abbrev pub IsLoneBody : MailBody → Type 0
  IsLoneBody (Request group who number op) = (who ≡ client) × (first ≤ number)
  IsLoneBody (Accept group ballot slot command) = IsMine command
  IsLoneBody (Prepare group ballot from_slot) = ⊥
  IsLoneBody (Promise group ballot reports) = ⊥
  IsLoneBody _ = Unit {0}

  -- answers go to the client
  abbrev pub GoesToClient : ℕ → MailBody → Type 0
  GoesToClient to (Answer group number answer) = to ≡ client_actor client
  GoesToClient to _ = Unit {0}

  abbrev pub IsLoneMail : Mail → Type 0
  IsLoneMail mail = IsLoneBody mail.body × GoesToClient mail.to mail.body

  -- what a leader has under way
  pub record LeadsAlone (r : ReplicaState) : Type 0 where
    pub backlog : Each IsMine r.backlog
    pub flights : Each (λ (flight : Flight Command). IsMine flight.value) r.leader.flights
    pub ready : Each (λ (entry : ℕ × Command). IsMine entry.1) r.ready
    pub reports : Each (λ (report : Report Command). report.slot < next r) r.leader.reports

  -- a replica with the mails of its row, while the client asks alone
  pub record IsAlone (place : Place) : Type 0 where
    pub leads : place.0.running ≡ true → LeadsAlone place.0
    pub said : Each IsLoneMail place.1

  -- the same replica with one mail more
  pub alone_push : (r : ReplicaState) (mails : List Mail) (to : ℕ) (body : MailBody) → IsLoneBody body → GoesToClient to body → IsAlone (r, mails) → IsAlone (r, sent r.me to body mails)
  alone_push r mails to body lone goes k = record { leads = k.leads; said = Each-append IsLoneMail mails (mail_of r.me to body ∷ []) k.said ((lone, goes), tt) }

  -- with the same leader's state and next slot
  pub leads_with : (r after : ReplicaState) → Each IsMine after.backlog → after.leader ≡ r.leader → after.ready ≡ r.ready → next after ≡ next r → LeadsAlone r → LeadsAlone after
  leads_with r after backlog leader ready at_next k = record {
    backlog = backlog;
    flights = subst (λ (l : LeaderState Command). Each (λ (flight : Flight Command). IsMine flight.value) l.flights) (sym leader) k.flights;
    ready = subst (Each (λ (entry : ℕ × Command). IsMine entry.1)) (sym ready) k.ready;
    reports = subst (λ n. Each (λ (report : Report Command). report.slot < n) after.leader.reports) (sym at_next) (subst (λ (l : LeaderState Command). Each (λ (report : Report Command). report.slot < next r) l.reports) (sym leader) k.reports);
  }

  -- a request of the client that goes back to the queue
  pub mine_back : (command : Command) (r : ReplicaState) → IsMine command → Each IsMine r.backlog → Each IsMine (put_back command r).backlog
  unfolding put_back
  mine_back (Call who number op) r m k = (held.back_held IsMine (Call who number op) (record r { acts = []; leader = record r.leader { reports = []; flights = [] }; ready = [] }) m (k, tt, tt, tt, tt)).0
  mine_back _ r m k = absurd m

  -- ---- what must be proposed: nothing was reported from the next slot on

  none_above : (slot : ℕ) (reports : List (Report Command)) (n : ℕ) → n ≤ slot → Each (λ (report : Report Command). report.slot < n) reports → names_above slot reports ≡ false
  none_above slot [] n low k = refl
  none_above slot (report ∷ reports) n low k = by (nat_lt slot report.slot) refl (none_above slot reports n low k.1)
    where
      by : (b : Bool) → nat_lt slot report.slot ≡ b → names_above slot reports ≡ false → names_above slot (report ∷ reports) ≡ false
      by true t rest = (let up = ltb-true slot report.slot t in let under = k.0 in absurd (omega (arith, up, under, low)))
      by false f rest = ap (λ b. b || names_above slot reports) f ∙ rest

  pub no_gap : (slot : ℕ) (r : ReplicaState) → next r ≤ slot → LeadsAlone r → must slot r.leader ≡ Gap → ⊥
  no_gap slot r low k e = by (chosen_value slot r.leader.reports) (names_above slot r.leader.reports) (none_above slot r.leader.reports (next r) low k.reports) e
    where
      by : (o : Option Command) (b : Bool) → b ≡ false → must_without b o ≡ Gap → ⊥
      by (Some value) b f q = cc
      by None true f q = true≢false f
      by None false f q = cc

  pub no_value : (slot : ℕ) (r : ReplicaState) (command : Command) → next r ≤ slot → LeadsAlone r → must slot r.leader ≡ MustBe command → ⊥
  no_value slot r command low k e = by (choice slot r.leader.reports) refl e
    where
      by : (o : Option (Report Command)) → choice slot r.leader.reports ≡ o → must_without (names_above slot r.leader.reports) (option_map (λ (report : Report Command). report.value) o) ≡ MustBe command → ⊥
      by (Some report) fact q =
          let found = choice_among slot r.leader.reports report fact in
          let under = Each-among (λ (x : Report Command). x.slot < next r) r.leader.reports report k.reports found.0 in
          let at = found.1 in
          omega (arith, under, at, low)
      by None fact q = cond_both (names_above slot r.leader.reports) Gap Open (λ x. x ≡ MustBe command → ⊥) (λ _ h. cc) (λ _ h. cc) q

  -- what is in flight or ready is the client's
  listed_mine : (o : Option Command) → Opt IsMine o → Each IsMine (listed o)
  listed_mine None k = tt
  listed_mine (Some command) k = (k, tt)

  pub flying_mine : (r : ReplicaState) (slot : ℕ) → LeadsAlone r → Opt IsMine (flying r slot)
  flying_mine r slot k = held.flying_held IsMine (record r { backlog = []; acts = []; leader = record r.leader { reports = [] }; ready = [] }) slot (tt, tt, k.flights, tt, tt)

  taken_mine : (r : ReplicaState) (slots : List ℕ) → LeadsAlone r → Each IsMine (taken_from r slots)
  taken_mine r [] k = tt
  taken_mine r (slot ∷ slots) k =
      Each-append IsMine (listed (taken_at r slot)) (taken_from r slots)
      (listed_mine (taken_at r slot) (opt_either IsMine (flying r slot) (at_slot r.ready slot) (flying_mine r slot k) (opt_slot IsMine r.ready slot k.ready))) (taken_mine r slots k)

module _ (client seq : ℕ) where
  -- another command than the request that the client waits for
  abbrev pub IsOther : Command → Type 0
  IsOther command = is_call client seq command ≡ false

  -- a reply to the request that the client waits for is under way
  pub record Replies (mails : List Mail) : Type 0 where
    pub mail : Mail
    pub among : Among mail mails
    pub to : mail.to ≡ client_actor client
    pub group : Draw
    pub reply : Reply
    pub body : mail.body ≡ Answer group seq (Value reply)

module _ (client first seq : ℕ) (early : Bool) (Elsewhere : Type 0) where
  abbrev Mine : Command → Type 0
  Mine command = IsMine client first command

  abbrev Other : Command → Type 0
  Other command = IsOther client seq command

  abbrev Alone : Place → Type 0
  Alone place = IsAlone client first place

  abbrev pub IsReplied : List Mail → Type 0
  IsReplied mails = Elsewhere ⊎ Replies client seq mails

  -- what is learnt or asked for: not the request; and nothing while it is early
  abbrev pub IsUnlearnt : MailBody → Type 0
  IsUnlearnt (Learn group slot command) = (early ≡ false) × Other command
  IsUnlearnt (Ask group from_slot) = early ≡ false
  IsUnlearnt _ = Unit {0}

  -- the request is in no log and no Learn, unless a reply to it is under way
  abbrev pub IsHidden : Place → Type 0
  IsHidden place = ((early ≡ false → Each Other place.0.log.entries) × Each (λ (mail : Mail). IsUnlearnt mail.body) place.1) ⊎ IsReplied place.1

  abbrev pub IsLonePlace : Place → Type 0
  IsLonePlace place = Alone place × IsHidden place

  -- ---- mails

  pub replied_more : (mails more : List Mail) → ((mail : Mail) → Among mail mails → Among mail more) → IsReplied mails → IsReplied more
  replied_more mails more grow (inl away) = inl away
  replied_more mails more grow (inr r) = inr (record { mail = r.mail; among = grow r.mail r.among; to = r.to; group = r.group; reply = r.reply; body = r.body })

  pub hidden_push : (r : ReplicaState) (mails : List Mail) (to : ℕ) (body : MailBody) → IsUnlearnt body → IsHidden (r, mails) → IsHidden (r, sent r.me to body mails)
  hidden_push r mails to body fine (inl h) = inl (h.0, Each-append (λ (mail : Mail). IsUnlearnt mail.body) mails (mail_of r.me to body ∷ []) h.1 (fine, tt))
  hidden_push r mails to body fine (inr t) = inr (replied_more mails (sent r.me to body mails) (λ mail a. among_push mails (mail_of r.me to body) mail a) t)

  pub pushed : (r : ReplicaState) (mails : List Mail) (to : ℕ) (body : MailBody) → IsLoneBody client first body → GoesToClient client first to body → IsUnlearnt body → IsLonePlace (r, mails) → IsLonePlace (r, sent r.me to body mails)
  pushed r mails to body lone goes fine k = (alone_push client first r mails to body lone goes k.0, hidden_push r mails to body fine k.1)

  -- ---- other parts of the replica

  -- with the same log
  pub hidden_same : (r after : ReplicaState) (mails : List Mail) → after.log ≡ r.log → IsHidden (r, mails) → IsHidden (after, mails)
  hidden_same r after mails same (inl h) = inl (subst (λ (l : LogState Command). early ≡ false → Each Other l.entries) (sym same) h.0, h.1)
  hidden_same r after mails same (inr t) = inr t

  pub with_leads : (r after : ReplicaState) (mails : List Mail) → after.log ≡ r.log → (after.running ≡ true → LeadsAlone client first after) → IsLonePlace (r, mails) → IsLonePlace (after, mails)
  with_leads r after mails same leads k = (record { leads = leads; said = k.0.said }, hidden_same r after mails same k.1)

  -- ---- what a leader says

  -- a command is offered
  pub offers_alone : (slot : ℕ) (set : List ℕ) (command : Command) (r : ReplicaState) (mails : List Mail) → r.running ≡ true → Mine command → IsLonePlace (r, mails) → IsLonePlace (offered slot set command (r, mails))
  unfolding offered
  offers_alone slot set command r mails on mine k =
      let body : MailBody = Accept (name_of r) r.leader.ballot slot command in
      let now : ReplicaState = record r { leader = with_flight_at slot command r.leader } in
      let leads = k.0.leads on in
      with_leads r now (sent_all r.me set body mails) refl
      (λ _. record { backlog = leads.backlog; flights = Each-append (λ (flight : Flight Command). Mine flight.value) r.leader.flights _ leads.flights (mine, tt); ready = leads.ready; reports = leads.reports })
      (all_sent r.me (λ ms. IsLonePlace (r, ms)) body (λ to ms q. pushed r ms to body mine tt tt q) set mails k)

  -- requests are answered
  pub answers_mine : (r : ReplicaState) (mails : List Mail) (name : Draw) (answer : AnswerBody) (command : Command) → Mine command → IsLonePlace (r, mails) → IsLonePlace (r, answered r.me name answer command mails)
  unfolding answered
  answers_mine r mails name answer (Call who number op) mine k = pushed r mails (client_actor who) (Answer name number answer) tt (ap client_actor mine.0) tt k
  answers_mine r mails name answer _ mine k = absurd mine

  answers_each : (r : ReplicaState) (name : Draw) (answer : AnswerBody) (commands : List Command) (mails : List Mail) → Each Mine commands → IsLonePlace (r, mails) → IsLonePlace (r, answered_all r.me name answer commands mails)
  unfolding answered_all
  answers_each r name answer [] mails mine k = k
  answers_each r name answer (command ∷ commands) mails mine k = answers_each r name answer commands (answered r.me name answer command mails) mine.1 (answers_mine r mails name answer command mine.0 k)

  dismisses_mine : (r : ReplicaState) (mails : List Mail) (name : Draw) (hint : Option ℕ) (answer : AnswerBody) (command : Command) → Mine command → IsLonePlace (r, mails) → IsLonePlace (r, dismissed r.me name hint answer command mails)
  unfolding dismissed
  dismisses_mine r mails name hint answer (Call who number op) mine k = pushed r mails (client_actor who) (Answer name number answer) tt (ap client_actor mine.0) tt k
  dismisses_mine r mails name hint answer _ mine k = absurd mine

  dismisses_each : (r : ReplicaState) (name : Draw) (hint : Option ℕ) (answer : AnswerBody) (commands : List Command) (mails : List Mail) → Each Mine commands → IsLonePlace (r, mails) → IsLonePlace (r, dismissed_all r.me name hint answer commands mails)
  unfolding dismissed_all
  dismisses_each r name hint answer [] mails mine k = k
  dismisses_each r name hint answer (command ∷ commands) mails mine k = dismisses_each r name hint answer commands (dismissed r.me name hint answer command mails) mine.1 (dismisses_mine r mails name hint answer command mine.0 k)

  -- one that stops answers
  pub stops_alone : (hint : Option ℕ) (r : ReplicaState) (mails : List Mail) → r.running ≡ true → IsLonePlace (r, mails) → IsLonePlace (stopped hint (r, mails))
  unfolding ended
  stops_alone hint r mails on k =
      let leads = k.0.leads on in
      with_leads r _ (dismissed_all r.me (name_of r) hint (NotLeader hint) r.backlog (answered_all r.me (name_of r) (NotLeader hint) (under_way r) mails)) refl (λ off. absurd (true≢false (sym off)))
      (dismisses_each r (name_of r) hint (NotLeader hint) r.backlog _ leads.backlog (answers_each r (name_of r) (NotLeader hint) (under_way r) mails (taken_mine client first r (open_slots r) leads) k))
