-- A request at the leading replica of a plain group: it waits and is offered, or its client is sent on.
use Rattle.std.proofs.Common.{◌≡◌, ℕ, ◌+◌, ◌-◌, ◌≤◌, ◌&&◌, not, eqb, Bool, true, false, List, [], ◌∷◌, ◌++◌, Option, Some, None, ◌⊎◌, inl, inr, refl, sym, ◌∙◌, ap, subst, arith, append-nil}
use Rattle.std.specs.Prelude.{nat_le}
use Rattle.std.proofs.lemmas.Bool.{cond_both, cond-true, cond-false, eqb-true, leb-true, leb-false, cases_Bool, and_from, and_right}
use Rattle.sc_base.specs.Definitions.{Among, Each, client_actor}
use Rattle.sc_node_table.specs.Values.{Op, Command, Call, Core, Route, AnswerBody, Answer}
use Rattle.sc_words.specs.ideal.IdealDefinitions.{key_of, holds_key}
use Rattle.sc_mail.specs.declared.bodies.AnswerBody.TheVariants as Says
use Rattle.sc_words.proofs.PaxosProofs.PaxosLemmas.{Each-push}
use Rattle.sc_node_table.specs.NodeDefinitions.{admits_requests, pumped, queued_number, without_request, ReplicaState, Place, next, last_slot, request_refusal, queued, requested, request_row, numbers_from}
use Rattle.sc_live_plain.specs.PlainDefinitions.{Frame, IsFrame, Requests, IsPlainCommand, IsPlainCall, IsPlainLeader, IsPlainReplica, HasOffered}
use Rattle.sc_live_plain.proofs.LeadersProofs.LeadingReplicas.{early_taken, IsHeld, Leads}
use Rattle.sc_live_plain.proofs.LeadersProofs.LeaderExecutions.{IsRun, pumped_run}
use Rattle.sc_live_plain.proofs.PlainRowsProofs.RepeatedMail.{mail_of, among_push, last_among}
use Rattle.sc_live_plain.proofs.PlainRowsProofs.Lists.{some_is}
use Rattle.sc_law_groups.proofs.GroupProofs.WithoutOne.{Each-without_request as out_calls}

-- ---- the queued requests of a client

-- the queued request that is found stands in the queue
found_call : (backlog : List Command) (client seq : ℕ) → queued_number backlog client ≡ Some seq → (op : Op) × Among (Call client seq op) backlog
found_call [] client seq e = cc
found_call (Call c s op ∷ backlog) client seq e =
    cond_both (eqb c client) (Some s) (queued_number backlog client) (λ o. o ≡ Some seq → (x : Op) × Among (Call client seq x) (Call c s op ∷ backlog))
    (λ t k. (let who : c ≡ client = eqb-true c client t in let number : s ≡ seq = cc in (op, inl (ap (λ w. Call w s op) who ∙ ap (λ n. Call client n op) number))))
    (λ f k. (let rest = found_call backlog client seq k in (rest.0, inr rest.1))) e
found_call (_ ∷ backlog) client seq e = (let rest = found_call backlog client seq e in (rest.0, inr rest.1))

-- a queued request stays, or it is the one that is taken out
stays_call : (backlog : List Command) (client c n : ℕ) (op : Op) → Among (Call c n op) backlog → Among (Call c n op) (without_request backlog client) ⊎ ((c ≡ client) × (queued_number backlog client ≡ Some n))
stays_call [] client c n op a = absurd a
stays_call (x ∷ backlog) client c n op (inl same) = stays_first x backlog client c n op same
  where
    stays_first : (x : Command) (backlog : List Command) (client c n : ℕ) (op : Op) → x ≡ Call c n op → Among (Call c n op) (without_request (x ∷ backlog) client) ⊎ ((c ≡ client) × (queued_number (x ∷ backlog) client ≡ Some n))
    stays_first (Call d m p) backlog client c n op same =
        let who : d ≡ c = cc in
        let number : m ≡ n = cc in
        elim (cases_Bool (eqb d client)) [
          | inl t ↦ inr (sym who ∙ eqb-true d client t, cond-true (eqb d client) (Some m) (queued_number backlog client) t ∙ ap Some number)
          | inr f ↦ inl (subst (Among (Call c n op)) (sym (cond-false (eqb d client) backlog (Call d m p ∷ without_request backlog client) f)) (inl same))
        ]
    stays_first _ backlog client c n op same = inl (inl same)
stays_call (x ∷ backlog) client c n op (inr a) = stays_rest x backlog client c n op a (stays_call backlog client c n op a)
  where
    stays_rest : (x : Command) (backlog : List Command) (client c n : ℕ) (op : Op) → Among (Call c n op) backlog → Among (Call c n op) (without_request backlog client) ⊎ ((c ≡ client) × (queued_number backlog client ≡ Some n))
        → Among (Call c n op) (without_request (x ∷ backlog) client) ⊎ ((c ≡ client) × (queued_number (x ∷ backlog) client ≡ Some n))
    stays_rest (Call d m p) backlog client c n op a more =
        elim (cases_Bool (eqb d client)) [
          | inl t ↦ inl (subst (Among (Call c n op)) (sym (cond-true (eqb d client) backlog (Call d m p ∷ without_request backlog client) t)) a)
          | inr f ↦ elim more [
            | inl b ↦ inl (subst (Among (Call c n op)) (sym (cond-false (eqb d client) backlog (Call d m p ∷ without_request backlog client) f)) (inr b))
            | inr fact ↦ inr (fact.0, cond-false (eqb d client) (Some m) (queued_number backlog client) f ∙ fact.1)
          ]
        ]
    stays_rest _ backlog client c n op a more = elim more [ inl b ↦ inl (inr b) | inr fact ↦ inr fact ]

-- ---- why a request is not taken

refusal_none : (into : Option Route) (core : Core) (running : Bool) (hint : Option ℕ) (op : Op) → into ≡ None → running ≡ true → holds_key core.arc (key_of op) ≡ true → request_refusal into core running hint op ≡ None
refusal_none (Some route) core running hint op g t h = cc
refusal_none None core running hint op g t h =
    cond-false (not running) _ _ (ap not t)
    ∙ cond-false (admits_requests core.lock && not (holds_key core.arc (key_of op))) (Some (Says.NotMine core.arc core.succ)) None (ap (λ b. admits_requests core.lock && not b) h ∙ and_right (admits_requests core.lock) false refl)

refusal_key : (into : Option Route) (core : Core) (running : Bool) (hint : Option ℕ) (op : Op) → into ≡ None → running ≡ true → admits_requests core.lock ≡ true → holds_key core.arc (key_of op) ≡ false
    → request_refusal into core running hint op ≡ Some (Says.NotMine core.arc core.succ)
refusal_key (Some route) core running hint op g t s h = cc
refusal_key None core running hint op g t s h =
    cond-false (not running) _ _ (ap not t)
    ∙ cond-true (admits_requests core.lock && not (holds_key core.arc (key_of op))) (Some (Says.NotMine core.arc core.succ)) None (and_from (admits_requests core.lock) (not (holds_key core.arc (key_of op))) s (ap not h))

-- ---- the rows

module _ (begun : Requests) (frame : Frame) (fact : IsFrame frame) (taken : ℕ) (r : ReplicaState) (p : IsPlainReplica begun frame frame.lead r) (l : IsPlainLeader begun frame taken r) where
  -- how a row begins
  pub begins : (wanted : ℕ → ℕ → Type 0) → ((c n : ℕ) → wanted c n → IsHeld r c n) → Leads begun frame (next r) (next r + taken) r.leader.flights wanted taken (r, [])
  begins wanted holds =
      let none : 0 ≡ next r - next r = omega arith in
      record {
        plain = p;
        leader = l;
        low = omega arith;
        reached = omega arith;
        more = omega arith;
        begun_flights = [];
        flights_are = sym (append-nil r.leader.flights);
        new = tt;
        early = early_taken r taken l.slots;
        said = tt;
        learns = λ who m ne. ap (numbers_from (next r)) none;
        offers = λ slot who least high a. absurd (omega (arith, least, high));
        backlog = λ c n w. inl (holds c n w);
      }

  gone_none : r.group.core.gone ≡ None
  gone_none = ap (λ (core : Core). core.gone) p.group.core_is ∙ fact.stands

  held_is : (op : Op) → holds_key r.group.core.arc (key_of op) ≡ holds_key frame.core.arc (key_of op)
  held_is op = ap (λ (core : Core). holds_key core.arc (key_of op)) p.group.core_is

  -- a request whose key the arc does not hold: its client is sent on
  pub request_refused : (client seq : ℕ) (op : Op) → holds_key frame.core.arc (key_of op) ≡ false
      → request_row client seq op (r, []) ≡ (r, mail_of frame.lead (client_actor client) (Answer frame.core.id seq (Says.NotMine frame.core.arc frame.core.succ)) ∷ [])
  unfolding request_row requested
  request_refused client seq op h =
      ap (λ (o : Option AnswerBody). requested o client seq op (r, []))
      (refusal_key r.group.core.gone r.group.core r.running r.hint op gone_none l.running (ap (λ (core : Core). admits_requests core.lock) p.group.core_is ∙ ap admits_requests fact.free) (held_is op ∙ h))
      ∙ ap (λ (core : Core). (r, mail_of r.me (client_actor client) (Answer core.id seq (Says.NotMine core.arc core.succ)) ∷ [])) p.group.core_is
      ∙ ap (λ me. (r, mail_of me (client_actor client) (Answer frame.core.id seq (Says.NotMine frame.core.arc frame.core.succ)) ∷ [])) p.me_is

  module _ (d : HasOffered taken r) (room : next r + taken ≤ last_slot) (client seq : ℕ) (op : Op) (call : IsPlainCall begun frame client seq op) where
    -- the queued requests that are to be kept
    abbrev pub Wanted : ℕ → ℕ → Type 0
    Wanted c n = IsHeld r c n ⊎ ((c ≡ client) × (n ≤ seq))

    abbrev Run : Place → Type 0
    Run place = IsRun begun frame fact (next r) (next r + taken) r.leader.flights Wanted place

    -- with such requests queued
    with_calls : (backlog : List Command) → Each (IsPlainCommand begun frame) backlog → ((c n : ℕ) → Wanted c n → IsHeld (record r { backlog = backlog }) c n) → Run (pumped (record r { backlog = backlog }, []))
    with_calls backlog e holds =
        let after : ReplicaState = record r { backlog = backlog } in
        let none : 0 ≡ next r - next r = omega arith in
        pumped_run begun frame fact (next r) (next r + taken) r.leader.flights Wanted room taken (record r { backlog = backlog }, []) d.executed (record {
          plain = record {
            me_is = p.me_is;
            group = p.group;
            hint_is = p.hint_is;
            top_low = p.top_low;
            promised_low = p.promised_low;
            floor_low = p.floor_low;
            begins = p.begins;
            sets_are = p.sets_are;
            acts = p.acts;
            waits = p.waits;
          };
          leader = record { running = l.running; ballot_is = l.ballot_is; may = l.may; open_ = l.open_; backlog = e; flights = l.flights; ready = l.ready; slots = record { most = l.slots.most; once = l.slots.once } };
          low = omega arith;
          reached = omega arith;
          more = omega arith;
          begun_flights = [];
          flights_are = sym (append-nil r.leader.flights);
          new = tt;
          early = early_taken (record r { backlog = backlog }) taken (record { most = l.slots.most; once = l.slots.once });
          said = tt;
          learns = λ who m ne. ap (numbers_from (next r)) none;
          offers = λ slot who least high a. absurd (omega (arith, least, high));
          backlog = λ c n w. inl (holds c n w);
        })

    -- behind all others
    last_call : (c n : ℕ) (backlog : List Command) → (c ≡ client) × (n ≤ seq) → IsHeld (record r { backlog = backlog ++ Call client seq op ∷ [] }) c n
    last_call c n backlog w =
        let same : Call client seq op ≡ Call c seq op = ap (λ who. Call who seq op) (sym w.0) in
        record { number = seq; op = op; later = w.1; where_ = inl (subst (λ (x : Command). Among x (backlog ++ Call client seq op ∷ [])) same (last_among backlog (Call client seq op))) }

    queued_run : (o : Option ℕ) → queued_number r.backlog client ≡ o → Run (queued o client seq op (r, []))
    unfolding queued
    queued_run None e =
        with_calls (r.backlog ++ Call client seq op ∷ []) (Each-push (IsPlainCommand begun frame) r.backlog (Call client seq op) l.backlog call)
        (λ c n w. elim w [
          | inr mine ↦ last_call c n r.backlog mine
          | inl h ↦ record {
            number = h.number;
            op = h.op;
            later = h.later;
            where_ = elim (h.where_) [ inl a ↦ inl (among_push r.backlog (Call client seq op) (Call c h.number h.op) a) | inr other ↦ inr other ];
          }
        ])
    queued_run (Some other) e =
        cond_both (nat_le seq other) (r, []) (pumped (record r { backlog = without_request r.backlog client ++ Call client seq op ∷ [] }, [])) Run
        (λ t. record {
          taken = taken;
          leads = begins Wanted (λ c n w. elim w [
            | inl h ↦ h
            | inr mine ↦ (
                let found = found_call r.backlog client other e in
                let low = leb-true seq other t in
                let under = mine.1 in
                record { number = other; op = found.0; later = omega (arith, low, under); where_ = inl (subst (λ who. Among (Call who other found.0) r.backlog) (sym mine.0) found.1) })
          ]);
          done = d;
        })
        (λ f. with_calls (without_request r.backlog client ++ Call client seq op ∷ [])
        (Each-push (IsPlainCommand begun frame) (without_request r.backlog client) (Call client seq op) (out_calls (IsPlainCommand begun frame) r.backlog client l.backlog) call)
        (λ c n w. elim w [
          | inr mine ↦ last_call c n (without_request r.backlog client) mine
          | inl h ↦ elim (h.where_) [
            | inr place ↦ record { number = h.number; op = h.op; later = h.later; where_ = inr place }
            | inl a ↦ elim (stays_call r.backlog client c h.number h.op a) [
              | inl b ↦ record { number = h.number; op = h.op; later = h.later; where_ = inl (among_push (without_request r.backlog client) (Call client seq op) (Call c h.number h.op) b) }
              | inr gone_ ↦ (
                  let number : other ≡ h.number = some_is (sym e ∙ gone_.1) in
                  let low = leb-false seq other f in
                  let later = h.later in
                  last_call c n (without_request r.backlog client) (gone_.0, omega (arith, number, low, later)))
            ]
          ]
        ]))

    pub request_run : Run (request_row client seq op (r, []))
    unfolding request_row requested
    request_run =
        subst (λ (o : Option AnswerBody). Run (requested o client seq op (r, []))) (sym (refusal_none r.group.core.gone r.group.core r.running r.hint op gone_none l.running (held_is op ∙ call.held)))
        (queued_run (queued_number r.backlog client) refl)
