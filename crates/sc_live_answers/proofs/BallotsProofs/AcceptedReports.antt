-- What a row leaves of the reports that a replica has accepted or got: it accepts what it is asked to accept alone, and a leader that gets no reports has none.
use Rattle.std.proofs.Common.{◌≡◌, ℕ, ◌&&◌, not, nat_le, nat_lt, Bool, true, false, cond, List, [], ◌∷◌, ◌++◌, length, Option, Some, None, refl, sym, ◌∙◌, ap, subst}
use Rattle.sc_base.specs.Definitions.{Each, Drawer, same_ballot, is_majority, is_member}
use Rattle.sc_node_table.specs.Values.{Ballot, Draw, Command, Base, OrderLine, MailBody, Request, Answer, Prepare, Promise, Accept, Accepted, Nack, Learn, Ask, Install, TxPrepare, TxVote, TxOutcome, TxElsewhere, TxWatch, TxWatched, Told, Flight, Report, AcceptAnswer, Counted, PrepareAnswer}
use Rattle.sc_words.specs.declared.paxos.answers.AcceptAnswer.TheVariants as Asked
use Rattle.sc_words.specs.declared.paxos.answers.PrepareAnswer.TheVariants as Prepared
use Rattle.sc_words.specs.paxos.PaxosDefinitions.{accepted as accepted_by, AcceptorState, reports_from, may_promise, may_accept, after_promise, after_accept, below, LeaderState, flight_at, promise_counted, prepared, counted, vote_at, voters_after, kept_voters}
use Rattle.sc_words.proofs.PaxosProofs.PaxosLemmas.{Each-filter}
use Rattle.sc_node_table.specs.NodeDefinitions.{stopped, saw, named, install_to, ordered_row, ReplicaState, Place, forgotten, floor_of, installed_replica, mailed, made_by, slots_ahead, hinted, promise_to, promised, prepare_row, accepted_to, took, accept_row, nack_row}
use Rattle.sc_law_walks.specs.WalkDefinitions.{GoesOn}
use Rattle.sc_law_walks.proofs.WalkLemmas.{promised_place, either_way}
use Rattle.sc_live_steps.proofs.FollowingProofs.FollowingLemmas.{saw_either}
use Rattle.sc_live_journals.specs.mail.MailDefinitions.{IsPlainlyKept}
use Rattle.sc_live_journals.proofs.MailProofs.MailLemmas.{reports_more, takes_mail, orders, looks_up, PartWalk, Part, part, next_in, IsReported, Hears}

-- ---- what a leader counts leaves its reports

vote_reports : (from slot : ℕ) (set : List ℕ) (o : Option (Flight Command)) (l : LeaderState Command) → (vote_at from slot set o l).1.reports ≡ l.reports
vote_reports from slot set None l = refl
vote_reports from slot set (Some flight) l = either_way (λ (x : Counted Command × LeaderState Command). x.1.reports ≡ l.reports) (is_majority set (kept_voters (voters_after set from flight.voters))) _ _ refl refl

counted_reports : (from : ℕ) (ballot : Ballot) (slot : ℕ) (set : List ℕ) (l : LeaderState Command) → (counted from ballot slot set l).1.reports ≡ l.reports
counted_reports from ballot slot set l = either_way (λ (x : Counted Command × LeaderState Command). x.1.reports ≡ l.reports) (same_ballot ballot l.ballot) _ _ (vote_reports from slot set (flight_at slot l.flights) l) refl

-- a promise without reports leaves its reports
polled_reports : (from : ℕ) (ballot : Ballot) (l : LeaderState Command) → l.reports ≡ [] → (promise_counted from ballot [] l).1.reports ≡ []
polled_reports from ballot l none =
    either_way (λ (x : Bool × LeaderState Command). x.1.reports ≡ []) (same_ballot ballot l.ballot && not (is_member l.promisers from)) (true, record l { promisers = l.promisers ++ from ∷ []; reports = l.reports ++ [] }) (false, l)
    (ap (λ (rs : List (Report Command)). rs ++ []) none) none

module _ (P : Report Command → Type 0) where
  -- each report that it has accepted is such a one, and it has none that binds it
  abbrev Rests : Part → Type 0
  Rests p = Each P p.acceptor.accepted × (p.leader.reports ≡ [])

  abbrev None_ : Ballot → Type 0
  None_ ballot = ⊥

  abbrev Any : ℕ → Type 0
  Any slot = Unit {0}

  no_reports : (reports : List (Report Command)) → Each (IsReported None_ Any) reports → reports ≡ []
  no_reports [] e = refl
  no_reports (report ∷ reports) e = absurd e.0.0

  abbrev resting : ℕ → PartWalk
  resting who = record {
    me = who;
    Early = λ p. Rests p;
    Late = λ p. Rests p;
    Says = λ to body. Unit {0};
    Round = λ ballot. None_ ballot;
    Slot = λ slot. Any slot;
    State = λ slot base. Unit {0};
    Polled = λ ballot. Unit {0};
    Behind = λ slot. Unit {0};
    late = λ p k. k;
    again = λ p command e k. (k, tt);
    entered = λ command p low k. (Each-filter P (λ report. nat_lt (floor_of (next_in p)) report.slot) p.acceptor.accepted k.0, k.1);
    landed = λ slot p k. k;
    ended = λ p k. (k.0, refl);
    elected = λ p k. (k.0, refl);
    seen = λ ballot p good t k. k;
    promised = λ ballot p good k. k;
    accepted = λ report p good k. absurd good.0;
    jumped = λ slot base p good later k. (Each-filter P (λ report. nat_lt (floor_of slot) report.slot) p.acceptor.accepted k.0, k.1);
    readied = λ slot command p low k. k;
    polled = λ from ballot reports p good k. (k.0, subst (λ rs. (promise_counted from ballot rs p.leader).1.reports ≡ []) (sym (no_reports reports good)) (polled_reports from ballot p.leader k.1));
    counts = λ from ballot slot set p k. (k.0, counted_reports from ballot slot set p.leader ∙ k.1);
    flown = λ slot command p low k. k;
    tells = λ number result. tt;
    answers = λ client group seq answer. tt;
    asks = λ to slot command p low k. tt;
    polls = λ to p k. tt;
    repolls = λ to p k. tt;
    installs = λ to sets p k. tt;
    teaches = λ to slot command group low. tt;
    recalls = λ to slot command p e k. tt;
    wants = λ to slot p behind low k. tt;
    promises = λ to other from_slot p good polled k. tt;
    votes = λ to other slot group good low. tt;
    nacks = λ to p k. tt;
    offers = λ to tx offer own. tt;
    watches = λ to tx watch own. tt;
    casts = λ to tx coord part vote. tt;
    sees = λ to tx coord part vote. tt;
    ends = λ to tx part outcome. tt;
    sends_on = λ to tx coord hint. tt;
  }

  -- mail by which nothing is accepted, no ballot is seen, and no report comes
  abbrev pub IsPlainMail : MailBody → Type 0
  IsPlainMail (Prepare group other from_slot) = ⊥
  IsPlainMail (Accept group other slot command) = ⊥
  IsPlainMail (Nack group promised) = ⊥
  IsPlainMail (Promise group other reports) = reports ≡ []
  IsPlainMail (Accepted group other slot) = Unit {0}
  IsPlainMail (Learn group slot command) = Unit {0}
  IsPlainMail (Ask group from_slot) = Unit {0}
  IsPlainMail (Install group slot base sets) = Unit {0}
  IsPlainMail (Request group client seq op) = Unit {0}
  IsPlainMail (Answer group seq answer) = Unit {0}
  IsPlainMail (TxPrepare tx offer) = Unit {0}
  IsPlainMail (TxVote tx coord part vote) = Unit {0}
  IsPlainMail (TxOutcome tx part outcome) = Unit {0}
  IsPlainMail (TxElsewhere tx coord hint) = Unit {0}
  IsPlainMail (TxWatch tx watch) = Unit {0}
  IsPlainMail (TxWatched tx coord part vote) = Unit {0}
  IsPlainMail (Told order result) = Unit {0}

  heard : (who : ℕ) (body : MailBody) → IsPlainMail body → Hears (resting who) body
  heard who (Prepare group other from_slot) f = absurd f
  heard who (Accept group other slot command) f = absurd f
  heard who (Nack group promised) f = absurd f
  heard who (Promise group other reports) f = subst (Each (IsReported None_ Any)) (sym f) tt
  heard who (Learn group slot command) f = (tt, tt)
  heard who (Install group slot base sets) f = (tt, tt)
  heard who _ f = tt

  abbrev pub RestsAt : ReplicaState → Type 0
  RestsAt r = Each P r.acceptor.accepted × (r.leader.reports ≡ [])

  pub mail_rests : (who from : ℕ) (body : MailBody) (r : ReplicaState) → IsPlainlyKept who r → IsPlainMail body → RestsAt r → RestsAt (mailed from body (r, [])).0.0
  mail_rests who from body r kept plain k = (takes_mail (resting who) from body (r, []) (heard who body plain) ((kept, k), tt)).0.1

  pub order_rests : (who : ℕ) (drawer : Drawer) (line : OrderLine) (r : ReplicaState) → IsPlainlyKept who r → RestsAt r → RestsAt (ordered_row drawer line (r, [])).0
  order_rests who drawer line r kept k = (orders (resting who) drawer line (r, []) ((kept, k), tt)).0.1

  pub made_rests : (who from : ℕ) (group : Draw) (slot : ℕ) (base : Base) (sets : List (List ℕ)) → length sets ≡ slots_ahead → RestsAt (made_by who from group slot base sets).0
  unfolding made_by forgotten
  made_rests who from group slot base sets many = (looks_up (resting who) from (installed_replica who slot (named group base) sets, []) (((refl, many, (λ off. (refl, refl, refl), refl, tt, tt)), (tt, refl)), tt)).0.1

  -- ---- what it is asked, where no leader stops for the ballot: the greatest ballot that it saw is also such a one

  module _ (T : Ballot → Type 0) where
    abbrev pub StandsAt : ReplicaState → Type 0
    StandsAt r = RestsAt r × T r.top

    abbrev StandsIn : Place → Type 0
    StandsIn place = StandsAt place.0

    hinted_stands : (ballot : Ballot) (r : ReplicaState) → StandsAt r → StandsAt (hinted ballot r)
    hinted_stands ballot r k = either_way StandsAt r.running r (record r { hint = Some ballot.node }) k k

    sent_stands : (node : ℕ) (place : Place) → StandsIn place → StandsIn (install_to node place)
    unfolding install_to
    sent_stands node (r, mails) k = k

    accepted_stands : (from : ℕ) (report : Report Command) (r : ReplicaState) → P report → StandsAt r → StandsIn (accepted_to from report.ballot report.slot (accepted_by report r.acceptor) (r, []))
    accepted_stands from report r good k =
        either_way (λ (p : AcceptAnswer × AcceptorState Command). StandsIn (accepted_to from report.ballot report.slot p (r, []))) (may_accept r.acceptor report.ballot) (Asked.Accepted, after_accept report r.acceptor) (Asked.Ignored r.acceptor.promised, r.acceptor)
        (hinted_stands report.ballot (record r { acceptor = after_accept report r.acceptor }) ((reports_more P report r.acceptor.accepted good k.0.0, k.0.1), k.1)) k

    took_stands : (from : ℕ) (report : Report Command) (r : ReplicaState) → P report → StandsAt r → StandsIn (took from report (r, []))
    unfolding took
    took_stands from report r good k = either_way StandsIn (nat_le report.slot r.acceptor.floor) _ _ (sent_stands from (r, []) k) (accepted_stands from report r good k)

    accept_stands : (from : ℕ) (ballot : Ballot) (slot : ℕ) (command : Command) (r : ReplicaState) → GoesOn ballot r → T ballot → P (record { slot = slot; ballot = ballot; value = command }) → StandsAt r → StandsIn (accept_row from ballot slot command (r, []))
    unfolding accept_row
    accept_stands from ballot slot command r goes least good k =
        saw_either (λ p. StandsIn (took from (record { slot = slot; ballot = ballot; value = command }) p)) ballot r [] goes
        (took_stands from (record { slot = slot; ballot = ballot; value = command }) (record r { top = ballot }) good (k.0, least)) (took_stands from (record { slot = slot; ballot = ballot; value = command }) r good k)

    promise_stands : (from : ℕ) (ballot : Ballot) (from_slot : ℕ) (r : ReplicaState) → StandsAt r → StandsIn (promise_to from ballot (prepared ballot from_slot r.acceptor) (r, []))
    promise_stands from ballot from_slot r k =
        either_way (λ (p : PrepareAnswer Command × AcceptorState Command). StandsIn (promise_to from ballot p (r, []))) (may_promise r.acceptor ballot)
        (Prepared.Promise (reports_from from_slot r.acceptor.accepted), after_promise ballot r.acceptor) (Prepared.Ignored r.acceptor.promised, r.acceptor)
        (hinted_stands ballot (record r { acceptor = after_promise ballot r.acceptor }) k) k

    prepare_stands : (from : ℕ) (ballot : Ballot) (from_slot : ℕ) (r : ReplicaState) → GoesOn ballot r → T ballot → StandsAt r → StandsIn (prepare_row from ballot from_slot (r, []))
    unfolding prepare_row
    prepare_stands from ballot from_slot r goes least k =
        saw_either (λ p. StandsIn (promised from ballot from_slot p)) ballot r [] goes
        (promised_place StandsIn from ballot from_slot (record r { top = ballot }, []) (sent_stands from (record r { top = ballot }, []) (k.0, least)) (promise_stands from ballot from_slot (record r { top = ballot }) (k.0, least)))
        (promised_place StandsIn from ballot from_slot (r, []) (sent_stands from (r, []) k) (promise_stands from ballot from_slot r k))

    nack_stands : (ballot : Ballot) (r : ReplicaState) → GoesOn ballot r → T ballot → StandsAt r → StandsIn (nack_row ballot (r, []))
    unfolding nack_row
    nack_stands ballot r goes least k = saw_either StandsIn ballot r [] goes (k.0, least) k

    -- a ballot that is not later than the greatest that it saw changes nothing
    saw_none : (ballot : Ballot) (r : ReplicaState) → GoesOn ballot r → below r.top ballot ≡ false → saw ballot (r, []) ≡ (r, [])
    unfolding saw
    saw_none ballot r goes low =
        ap (λ b. cond {A = Place} (r.running && below r.leader.ballot ballot) (stopped (Some ballot.node) (cond b (record r { top = ballot }) r, [])) (cond b (record r { top = ballot }) r, [])) low
        ∙ ap (λ b. cond {A = Place} b (stopped (Some ballot.node) (r, [])) (r, [])) goes

    pub asked_low : (from : ℕ) (group : Draw) (ballot : Ballot) (slot : ℕ) (command : Command) (r : ReplicaState) → GoesOn ballot r → below r.top ballot ≡ false → P (record { slot = slot; ballot = ballot; value = command }) → StandsAt r
        → StandsIn (mailed from (Accept group ballot slot command) (r, [])).0
    unfolding mailed accept_row
    asked_low from group ballot slot command r goes low good k =
        subst (λ p. StandsIn (took from (record { slot = slot; ballot = ballot; value = command }) p)) (sym (saw_none ballot r goes low)) (took_stands from (record { slot = slot; ballot = ballot; value = command }) r good k)

    pub nacked_low : (from : ℕ) (group : Draw) (ballot : Ballot) (r : ReplicaState) → GoesOn ballot r → below r.top ballot ≡ false → StandsAt r → StandsIn (mailed from (Nack group ballot) (r, [])).0
    unfolding mailed nack_row
    nacked_low from group ballot r goes low k = subst StandsIn (sym (saw_none ballot r goes low)) k

    -- mail that asks, or says that it is refused
    pub asked_stands : (from : ℕ) (group : Draw) (ballot : Ballot) (slot : ℕ) (command : Command) (r : ReplicaState) → GoesOn ballot r → T ballot → P (record { slot = slot; ballot = ballot; value = command }) → StandsAt r
        → StandsIn (mailed from (Accept group ballot slot command) (r, [])).0
    unfolding mailed
    asked_stands from group ballot slot command r goes least good k = accept_stands from ballot slot command r goes least good k

    pub polled_stands : (from : ℕ) (group : Draw) (ballot : Ballot) (from_slot : ℕ) (r : ReplicaState) → GoesOn ballot r → T ballot → StandsAt r → StandsIn (mailed from (Prepare group ballot from_slot) (r, [])).0
    unfolding mailed
    polled_stands from group ballot from_slot r goes least k = prepare_stands from ballot from_slot r goes least k

    pub nacked_stands : (from : ℕ) (group : Draw) (ballot : Ballot) (r : ReplicaState) → GoesOn ballot r → T ballot → StandsAt r → StandsIn (mailed from (Nack group ballot) (r, [])).0
    unfolding mailed
    nacked_stands from group ballot r goes least k = nack_stands ballot r goes least k
