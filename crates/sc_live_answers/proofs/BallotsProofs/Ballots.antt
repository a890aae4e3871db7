-- What a leader saw after what it takes: no later ballot, unless it is its own then.
use Rattle.std.proofs.Common.{◌≡◌, ℕ, [], Some, None, ◌⊎◌, inl, inr, refl, sym, ◌∙◌, ap, subst}
use Rattle.sc_base.specs.Definitions.{Each, Drawer}
use Rattle.sc_node_table.specs.Values.{Ballot, Command, OrderLine, MailBody, Prepare, Promise, Accept, Nack, Learn, Install, Report}
use Rattle.sc_words.specs.paxos.PaxosDefinitions.{IsAtLeast}
use Rattle.sc_words.proofs.PaxosProofs.PaxosLemmas.{at_least_itself}
use Rattle.sc_node_table.specs.NodeDefinitions.{ordered_row, ReplicaState, mailed, at_slot}
use Rattle.sc_live_journals.specs.mail.MailDefinitions.{IsPlainlyKept}
use Rattle.sc_live_journals.proofs.MailProofs.MailLemmas.{takes_mail, orders, PartWalk, Part, next_in, IsReported, Hears}
use Rattle.sc_live_answers.proofs.BallotsProofs.AcceptedReports.{IsPlainMail}

abbrev pub All_ : Report Command → Type 0
All_ report = Unit {0}

module _ (most : Ballot) where
  -- it saw no later ballot than this, or it has elected itself with the greatest
  abbrev Low : Part → Type 0
  Low p = IsAtLeast most p.top

  abbrev Late_ : Part → Type 0
  Late_ p = Low p ⊎ ((p.ready ≡ []) × (p.leader.ballot ≡ p.top))

  abbrev None_ : Ballot → Type 0
  None_ ballot = ⊥

  abbrev Any : ℕ → Type 0
  Any slot = Unit {0}

  again_low : (p : Part) (command : Command) → at_slot p.ready (next_in p) ≡ Some command → Late_ p → Low p
  again_low p command e (inl low) = low
  again_low p command e (inr new) = (let bad : None ≡ Some command = ap (λ es. at_slot es (next_in p)) (sym new.0) ∙ e in cc)

  abbrev seeing : ℕ → PartWalk
  seeing who = record {
    me = who;
    Early = λ p. Low p;
    Late = λ p. Late_ p;
    Says = λ to body. Unit {0};
    Round = λ ballot. None_ ballot;
    Slot = λ slot. Any slot;
    State = λ slot base. Unit {0};
    Polled = λ ballot. Unit {0};
    Behind = λ slot. Unit {0};
    late = λ p k. inl k;
    again = λ p command e k. (again_low p command e k, tt);
    entered = λ command p low k. k;
    landed = λ slot p k. k;
    ended = λ p k. k;
    elected = λ p k. inr (refl, refl);
    seen = λ ballot p good t k. absurd good;
    promised = λ ballot p good k. k;
    accepted = λ report p good k. k;
    jumped = λ slot base p good later k. k;
    readied = λ slot command p low k. k;
    polled = λ from ballot reports p good k. k;
    counts = λ from ballot slot set p k. k;
    flown = λ slot command p low k. k;
    tells = λ number result. tt;
    answers = λ client group seq answer. tt;
    asks = λ to slot command p low k. tt;
    polls = λ to p k. tt;
    repolls = λ to p k. tt;
    installs = λ to sets p k. tt;
    teaches = λ to slot command group low. tt;
    recalls = λ to slot command p e k. tt;
    wants = λ to slot p behind low k. tt;
    promises = λ to other from_slot p good polled k. tt;
    votes = λ to other slot group good low. tt;
    nacks = λ to p k. tt;
    offers = λ to tx offer own. tt;
    watches = λ to tx watch own. tt;
    casts = λ to tx coord part vote. tt;
    sees = λ to tx coord part vote. tt;
    ends = λ to tx part outcome. tt;
    sends_on = λ to tx coord hint. tt;
  }

  heard : (who : ℕ) (body : MailBody) → IsPlainMail All_ body → Hears (seeing who) body
  heard who (Prepare group other from_slot) f = absurd f
  heard who (Accept group other slot command) f = absurd f
  heard who (Nack group promised) f = absurd f
  heard who (Promise group other reports) f = subst (Each (IsReported None_ Any)) (sym f) tt
  heard who (Learn group slot command) f = (tt, tt)
  heard who (Install group slot base sets) f = (tt, tt)
  heard who _ f = tt

-- it saw no later ballot than before, or it has elected itself
pub mail_sees : (who from : ℕ) (body : MailBody) (r : ReplicaState) → IsPlainlyKept who r → IsPlainMail All_ body → IsAtLeast r.top (mailed from body (r, [])).0.0.top ⊎ ((mailed from body (r, [])).0.0.leader.ballot ≡ (mailed from body (r, [])).0.0.top)
mail_sees who from body r kept plain = elim ((takes_mail (seeing r.top who) from body (r, []) (heard r.top who body plain) ((kept, at_least_itself r.top), tt)).0.1) [ inl low ↦ inl low | inr new ↦ inr new.1 ]

pub order_sees : (who : ℕ) (drawer : Drawer) (line : OrderLine) (r : ReplicaState) → IsPlainlyKept who r → IsAtLeast r.top (ordered_row drawer line (r, [])).0.top ⊎ ((ordered_row drawer line (r, [])).0.leader.ballot ≡ (ordered_row drawer line (r, [])).0.top)
order_sees who drawer line r kept = elim ((orders (seeing r.top who) drawer line (r, []) ((kept, at_least_itself r.top), tt)).0.1) [ inl low ↦ inl low | inr new ↦ inr new.1 ]
