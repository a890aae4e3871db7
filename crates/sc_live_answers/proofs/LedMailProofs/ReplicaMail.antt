-- What a replica says in a row of its table, of a group with some name.
use Rattle.std.proofs.Common.{◌≡◌, ℕ, ◌<◌, ◌≤◌, cond, List, [], ◌∷◌, refl, sym, ◌∙◌, subst, length, arith}
use Rattle.std.proofs.lemmas.Bool.{lt-leb}
use Rattle.sc_base.specs.Definitions.{Each, Drawer}
use Rattle.sc_node_table.specs.Values.{Ballot, Draw, Command, Base, OrderLine, Mail, MailBody, Request, Answer, Prepare, Promise, Accept, Accepted, Nack, Learn, Ask, Install, TxPrepare, TxVote, TxOutcome, TxElsewhere, TxWatch, TxWatched, Told, Report, PrepareAnswer}
use Rattle.sc_law_entries.proofs.HistoryProofs.HistoryLemmas.{applied_same}
use Rattle.sc_words.specs.declared.paxos.answers.PrepareAnswer.TheVariants as Prepared
use Rattle.sc_words.specs.paxos.PaxosDefinitions.{AcceptorState, reports_from, may_promise, after_promise, IsAtLeast, prepared}
use Rattle.sc_words.proofs.PaxosProofs.PaxosLemmas.{Each-weaker}
use Rattle.sc_node_table.specs.NodeDefinitions.{named, install_to, ordered_row, ReplicaState, Place, name_of, next, first_ballot, forgotten, installed_replica, mailed, made_by, slots_ahead, promise_to, promised, prepare_row}
use Rattle.sc_law_walks.specs.WalkDefinitions.{GoesOn}
use Rattle.sc_law_walks.proofs.WalkLemmas.{either_way}
use Rattle.sc_live_steps.proofs.FollowingProofs.FollowingLemmas.{saw_either}
use Rattle.sc_live_journals.specs.mail.MailDefinitions.{IsPlainlyKept}
use Rattle.sc_live_journals.proofs.MailProofs.MailLemmas.{entered_up, installed_up, takes_mail, orders, looks_up, PartWalk, Part, part, next_in, named_in, entered_part, jumped_part, IsReported, Sends, AreSaid, Hears}
use Rattle.sc_live_answers.specs.AnswerDefinitions.{SaysWell, AreSaidWell}

-- the walk of one replica, and a group with this name; if it is the replica's own, it has promised no later ballot and executed these slots
module _ (name : Draw) (ballot : Ballot) (slots : ℕ) (Own : Type 0) where
  abbrev Well : Part → Type 0
  Well p = named_in p ≡ name → Own × IsAtLeast ballot p.acceptor.promised × (slots ≤ next_in p)

  entered_well : (command : Command) (p : Part) → Well p → Well (entered_part command p)
  entered_well command p k fact =
      let w = k (sym (applied_same p.group command).0 ∙ fact) in
      let up = entered_up command p in
      let low = w.2 in
      (w.0, w.1, omega (arith, up, low))

  jumped_well : (slot : ℕ) (base : Base) (p : Part) → next_in p ≤ slot → Well p → Well (jumped_part slot base p)
  jumped_well slot base p later k fact = (let w = k fact in let up = installed_up slot in let low = w.2 in (w.0, w.1, omega (arith, up, low, later)))

  abbrev talking : (Base → Type 0) → ℕ → PartWalk
  talking State who = record {
    me = who;
    Early = λ p. Well p;
    Late = λ p. Well p;
    Says = λ to body. SaysWell name ballot body;
    Round = λ other. Own → IsAtLeast ballot other;
    Slot = λ slot. Unit {0};
    State = λ slot base. State base;
    Polled = λ other. Own → ⊥;
    Behind = λ slot. Own → slot ≤ slots;
    late = λ p k. k;
    again = λ p command e k. (k, tt);
    entered = λ command p low k. entered_well command p k;
    landed = λ slot p k. k;
    ended = λ p k. k;
    elected = λ p k. k;
    seen = λ other p good t k. k;
    promised = λ other p good k fact. (let w = k fact in (w.0, good w.0, w.2));
    accepted = λ report p good k fact. (let w = k fact in (w.0, good.0 w.0, w.2));
    jumped = λ last base p good later k. jumped_well last base p later k;
    readied = λ slot command p low k. k;
    polled = λ from other reports p good k. k;
    counts = λ from other slot set p k. k;
    flown = λ slot command p low k. k;
    tells = λ number result. tt;
    answers = λ client group seq answer. tt;
    asks = λ to slot command p low k. tt;
    polls = λ to p k. tt;
    repolls = λ to p k. tt;
    installs = λ to sets p k. tt;
    teaches = λ to slot command group low. tt;
    recalls = λ to slot command p e k. tt;
    wants = λ to slot p behind low k fact. (let w = k fact in let most = behind w.0 in let least = w.2 in absurd (omega (arith, most, least, low)));
    promises = λ to other from_slot p good polled k fact. absurd (polled (k fact).0);
    votes = λ to other slot group good low. tt;
    nacks = λ to p k fact. (k fact).1;
    offers = λ to tx offer own. tt;
    watches = λ to tx watch own. tt;
    casts = λ to tx coord part vote. tt;
    sees = λ to tx coord part vote. tt;
    ends = λ to tx part outcome. tt;
    sends_on = λ to tx coord hint. tt;
  }

  -- what a mail must say to the group's own replica
  abbrev pub Fits : MailBody → Type 0
  Fits (Prepare group other from_slot) = ⊥
  Fits (Promise group other reports) = reports ≡ []
  Fits (Accept group other slot command) = IsAtLeast ballot other
  Fits (Accepted group other slot) = Unit {0}
  Fits (Nack group promised) = IsAtLeast ballot promised
  Fits (Learn group slot command) = slot ≤ slots
  Fits (Ask group from_slot) = Unit {0}
  Fits (Install group slot base sets) = Unit {0}
  Fits (Request group client seq op) = Unit {0}
  Fits (Answer group seq answer) = Unit {0}
  Fits (TxPrepare tx offer) = Unit {0}
  Fits (TxVote tx coord part vote) = Unit {0}
  Fits (TxOutcome tx part outcome) = Unit {0}
  Fits (TxElsewhere tx coord hint) = Unit {0}
  Fits (TxWatch tx watch) = Unit {0}
  Fits (TxWatched tx coord part vote) = Unit {0}
  Fits (Told order result) = Unit {0}

  abbrev Any : Base → Type 0
  Any base = Unit {0}

  reported : (reports : List (Report Command)) → (Own → reports ≡ []) → Each (IsReported (λ other. Own → IsAtLeast ballot other) (λ slot. Unit {0})) reports
  reported [] e = tt
  reported (report ∷ reports) e = ((λ o. absurd (let bad : report ∷ reports ≡ [] = e o in cc), tt), reported reports (λ o. absurd (let bad : report ∷ reports ≡ [] = e o in cc)))

  heard : (who : ℕ) (body : MailBody) → (Own → Fits body) → Hears (talking Any who) body
  heard who (Prepare group other from_slot) f = (λ o. absurd (f o), λ o. f o)
  heard who (Promise group other reports) f = reported reports f
  heard who (Accept group other slot command) f = (f, tt)
  heard who (Nack group promised) f = f
  heard who (Learn group slot command) f = (tt, f)
  heard who (Install group slot base sets) f = (tt, tt)
  heard who _ f = tt

  said : (State : Base → Type 0) (who : ℕ) (mails : List Mail) → AreSaid (talking State who) mails → AreSaidWell name ballot mails
  said State who mails k = Each-weaker (Sends (talking State who)) (λ (mail : Mail). SaysWell name ballot mail.body) (λ mail s. s.1) mails k

  -- a mail of its group that a replica takes, and an order
  pub mail_says : (who from : ℕ) (body : MailBody) (r : ReplicaState) → IsPlainlyKept who r → (name_of r ≡ name → Own × IsAtLeast ballot r.acceptor.promised × (slots ≤ next r)) → (Own → Fits body) → AreSaidWell name ballot (mailed from body (r, [])).0.1
  mail_says who from body r kept well fits = said Any who (mailed from body (r, [])).0.1 (takes_mail (talking Any who) from body (r, []) (heard who body fits) ((kept, well), tt)).1

  pub order_says : (who : ℕ) (drawer : Drawer) (line : OrderLine) (r : ReplicaState) → IsPlainlyKept who r → (name_of r ≡ name → Own × IsAtLeast ballot r.acceptor.promised × (slots ≤ next r)) → AreSaidWell name ballot (ordered_row drawer line (r, [])).1
  order_says who drawer line r kept well = said Any who (ordered_row drawer line (r, [])).1 (orders (talking Any who) drawer line (r, []) ((kept, well), tt)).1

  -- a replica that is made of a state
  pub made_says : (who from : ℕ) (group : Draw) (slot : ℕ) (base : Base) (sets : List (List ℕ)) → length sets ≡ slots_ahead → slots ≤ 1 → (group ≡ name → Own × IsAtLeast ballot (first_ballot base.core)) → AreSaidWell name ballot (made_by who from group slot base sets).1
  unfolding made_by forgotten
  made_says who from group slot base sets many few well =
      let up = installed_up slot in
      said Any who (made_by who from group slot base sets).1
      (looks_up (talking Any who) from (installed_replica who slot (named group base) sets, []) (((refl, many, (λ off. (refl, refl, refl), refl, tt, tt)), λ fact. (let w = well fact in (w.0, w.1, omega (arith, up, few)))), tt)).1

-- what a prepare is answered, where nothing is accepted from its slot on
module _ (name : Draw) (ballot : Ballot) where
  promise_says : (from : ℕ) (other : Ballot) (from_slot : ℕ) (r : ReplicaState) → reports_from from_slot r.acceptor.accepted ≡ [] → IsAtLeast ballot r.acceptor.promised → AreSaidWell name ballot (promise_to from other (prepared other from_slot r.acceptor) (r, [])).1
  promise_says from other from_slot r none most =
      either_way (λ (p : PrepareAnswer Command × AcceptorState Command). AreSaidWell name ballot (promise_to from other p (r, [])).1) (may_promise r.acceptor other)
      (Prepared.Promise (reports_from from_slot r.acceptor.accepted), after_promise other r.acceptor) (Prepared.Ignored r.acceptor.promised, r.acceptor) ((λ fact. none), tt) ((λ fact. most), tt)

  pub prepare_says : (from : ℕ) (other : Ballot) (from_slot : ℕ) (r : ReplicaState) → GoesOn other r → r.acceptor.floor < from_slot → reports_from from_slot r.acceptor.accepted ≡ [] → IsAtLeast ballot r.acceptor.promised
      → AreSaidWell name ballot (mailed from (Prepare (name_of r) other from_slot) (r, [])).0.1
  unfolding mailed prepare_row promised
  prepare_says from other from_slot r goes low none most =
      saw_either (λ p. AreSaidWell name ballot (promised from other from_slot p).1) other r [] goes (by (record r { top = other }) low none most) (by r low none most)
    where
      by : (q : ReplicaState) → q.acceptor.floor < from_slot → reports_from from_slot q.acceptor.accepted ≡ [] → IsAtLeast ballot q.acceptor.promised → AreSaidWell name ballot (promised from other from_slot (q, [])).1
      by q lower empty least =
          subst (λ b. AreSaidWell name ballot (cond {A = Place} b (install_to from (q, [])) (promise_to from other (prepared other from_slot q.acceptor) (q, []))).1) (sym (lt-leb from_slot q.acceptor.floor lower)) (promise_says from other from_slot q empty least)
