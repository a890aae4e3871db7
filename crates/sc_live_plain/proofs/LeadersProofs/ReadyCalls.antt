-- What the leading replica of a plain group executes: the ready call of its next slot.
use Rattle.std.proofs.Common.{◌≡◌, ℕ, ◌+◌, ◌-◌, ◌<◌, ◌≤◌, eqb, true, List, [], ◌∷◌, ◌++◌, length, Some, ◌⊎◌, inl, inr, refl, sym, ◌∙◌, ap, subst, arith, append-nil}
use Rattle.std.proofs.lemmas.Bool.{cond_both, cases_eq, eq-eqb, ne_eqb}
use Rattle.sc_base.specs.Definitions.{Among, Each, client_actor, is_member, IsRoster}
use Rattle.sc_node_table.specs.Values.{Op, Command, Call, Core, Mail, Answer, Learn, Flight}
use Rattle.sc_words.specs.paxos.PaxosDefinitions.{without_flight}
use Rattle.sc_words.proofs.PaxosProofs.PaxosLemmas.{Each-among, Each-push, Each-weaker}
use Rattle.sc_group_table.specs.machine.MachineDefinitions.{applied}
use Rattle.sc_node_table.specs.NodeDefinitions.{entered, executed_one, answer_to, sent_others, ReplicaState, Place, name_of, next, members, forgotten, at_slot, without_slot, numbers_from, slots_ahead}
use Rattle.sc_law_walks.proofs.WalkLemmas.{cleared, entered_next}
use Rattle.sc_paxos_law.proofs.Lemmas.{among-member}
use Rattle.sc_live_plain.specs.PlainDefinitions.{Frame, IsFrame, Requests, IsPlainCommand, IsPlainCall, takers, IsPlainFlight, IsPlainLeader, IsPlainReplica}
use Rattle.sc_live_plain.proofs.PlainRowsProofs.SlotCounts.{one_if, one_yes, one_no, entries_at, out_none, out_length, out_here, out_other, out_each, out_among, at_found, at_only}
use Rattle.sc_live_plain.proofs.LeadersProofs.PlainEntries.{entered_plain, recorded_after, counted_call}
use Rattle.sc_live_plain.proofs.LeadersProofs.LeadingReplicas.{in_range, range_yes, range_less, flights_at, IsHeld, IsReportedOf, IsSaid, later_row, Leads}
use Rattle.sc_live_plain.proofs.PlainRowsProofs.RepeatedMail.{learns_to, mail_of, learns_push, last_among, others_each, others_kept, learns_one, numbers_push, roster_rises, among_push}
use Rattle.sc_live_plain.proofs.LeadersProofs.ExecutedCalls.{IsServed, call_plain, entered_frame}

module _ (begun : Requests) (frame : Frame) (fact : IsFrame frame) (first free : ℕ) (held : List (Flight Command)) (wanted : ℕ → ℕ → Type 0) where
  abbrev L : ℕ → Place → Type 0
  L taken place = Leads begun frame first free held wanted taken place

  -- the members are a set
  members_roster : IsRoster frame.core.members
  members_roster = subst IsRoster (fact.later (frame.from + slots_ahead) (omega arith)) (fact.rosters (frame.from + slots_ahead))

  -- ---- the ready call of the next slot

  module _ (taken : ℕ) (r : ReplicaState) (mails : List Mail) (client seq : ℕ) (op : Op) (end : next r + (taken + 1) ≡ free) (ready : at_slot r.ready (next r) ≡ Some (Call client seq op)) (k : L (taken + 1) (r, mails)) where
    abbrev after : ReplicaState
    after = (cleared (next r) (entered (Call client seq op) r, mails)).0

    is_ready : (1 ≤ entries_at (next r) r.ready) × Among (next r, Call client seq op) r.ready
    is_ready = at_found r.ready (next r) (Call client seq op) ready

    is_call : IsPlainCall begun frame client seq op
    is_call = Each-among (λ (entry : ℕ × Command). IsPlainCommand begun frame entry.1) r.ready (next r, Call client seq op) k.leader.ready is_ready.1

    serves : IsServed begun frame client seq op (applied r.group (Call client seq op))
    serves = call_plain begun frame fact client seq op r.group is_call k.plain.group

    one_taker : takers r (next r) ≡ 1
    one_taker = (let once = k.leader.slots.once (next r) in let one = one_yes (in_range (next r) (taken + 1) (next r)) (range_yes (next r) (taken + 1) (next r) (omega arith) (omega arith)) in omega (arith, once, one))

    no_flight : flights_at (next r) r.leader.flights ≡ 0
    no_flight = (let one = one_taker in let some = is_ready.0 in omega (arith, one, some))

    one_entry : entries_at (next r) r.ready ≡ 1
    one_entry = (let one = one_taker in let none = no_flight in omega (arith, one, none))

    flights_stay : without_flight (next r) r.leader.flights ≡ r.leader.flights
    flights_stay = out_none (λ (f : Flight Command). f.slot) (λ s fs. without_flight s fs) (λ s. refl) (λ s f fs. refl) (next r) r.leader.flights no_flight

    entries_less : length (without_slot r.ready (next r)) + 1 ≡ length r.ready
    entries_less = out_length (λ (entry : ℕ × Command). entry.0) (λ s es. without_slot es s) (λ s. refl) (λ s x es. refl) (next r) r.ready is_ready.0

    -- ---- what is sent

    said_mails : List Mail
    said_mails = sent_others frame.lead frame.core.members (Learn frame.core.id (next r) (Call client seq op)) (answer_to frame.lead frame.core.id client seq serves.answer mails)

    me_after : (entered (Call client seq op) r).me ≡ frame.lead
    unfolding entered forgotten
    me_after = k.plain.me_is

    runs_after : (entered (Call client seq op) r).running ≡ true
    unfolding entered forgotten
    runs_after = k.leader.running

    taught_is : recorded_after r (entered (Call client seq op) r) client seq op serves.answer mails ≡ said_mails
    unfolding said_mails
    taught_is =
        ap (λ me. sent_others me (members r) (Learn (name_of (entered (Call client seq op) r)) (next r) (Call client seq op)) (answer_to me (name_of (entered (Call client seq op) r)) client seq serves.answer mails)) me_after
        ∙ ap (λ (core : Core). sent_others frame.lead (members r) (Learn core.id (next r) (Call client seq op)) (answer_to frame.lead core.id client seq serves.answer mails)) (entered_frame begun frame client seq op r serves)
        ∙ ap (λ (core : Core). sent_others frame.lead core.members (Learn frame.core.id (next r) (Call client seq op)) (answer_to frame.lead frame.core.id client seq serves.answer mails)) k.plain.group.core_is

    leads_here : is_member (members (entered (Call client seq op) r)) (entered (Call client seq op) r).me ≡ true
    leads_here = ap (λ (core : Core). is_member core.members (entered (Call client seq op) r).me) (entered_frame begun frame client seq op r serves) ∙ ap (is_member frame.core.members) me_after ∙ fact.leads

    place_is : executed_one true (Call client seq op) (r, mails) ≡ (after, said_mails)
    place_is =
        counted_call client seq op serves.answer r mails serves.answer_is (ap (λ (core : Core). core.members) ((entered_frame begun frame client seq op r serves) ∙ sym k.plain.group.core_is)) runs_after (ap (λ (core : Core). core.gone) (entered_frame begun frame client seq op r serves) ∙ fact.stands) leads_here
        ∙ ap (λ l. (after, l)) taught_is

    -- ---- what holds after it

    next_after : next after ≡ next r + 1
    next_after = entered_next (Call client seq op) r

    flights_after : after.leader.flights ≡ r.leader.flights
    unfolding entered forgotten
    flights_after = flights_stay

    ready_after : after.ready ≡ without_slot r.ready (next r)
    unfolding entered forgotten
    ready_after = refl

    once_after : (s : ℕ) → takers after s ≡ one_if (in_range (next after) taken s)
    once_after s =
        let flights : flights_at s after.leader.flights ≡ flights_at s r.leader.flights = ap (flights_at s) flights_after in
        let entries : entries_at s after.ready ≡ entries_at s (without_slot r.ready (next r)) = ap (λ (es : List (ℕ × Command)). entries_at s es) ready_after in
        let range : one_if (in_range (next after) taken s) ≡ one_if (in_range (next r + 1) taken s) = ap (λ m. one_if (in_range m taken s)) next_after in
        let before = k.leader.slots.once s in
        let less = range_less (next r) taken s in
        elim (cases_eq (next r) s) [
          | inl here ↦ (
              let out = out_here (λ (entry : ℕ × Command). entry.0) (λ m es. without_slot es m) (λ m. refl) (λ m x es. refl) (next r) r.ready is_ready.0 in
              let at : entries_at s (without_slot r.ready (next r)) ≡ entries_at (next r) (without_slot r.ready (next r)) = ap (λ m. entries_at m (without_slot r.ready (next r))) (sym here) in
              let was : entries_at s r.ready ≡ entries_at (next r) r.ready = ap (λ m. entries_at m r.ready) (sym here) in
              let yes_ = one_yes (eqb (next r) s) (eq-eqb (next r) s here) in
              omega (arith, flights, entries, range, before, less, out, at, was, yes_))
          | inr past ↦ (
              let out = out_other (λ (entry : ℕ × Command). entry.0) (λ m es. without_slot es m) (λ m. refl) (λ m x es. refl) (next r) s r.ready past in
              let no_ = one_no (eqb (next r) s) (ne_eqb (next r) s past) in
              omega (arith, flights, entries, range, before, less, out, no_))
        ]

    plain_after : IsPlainReplica begun frame frame.lead after
    unfolding entered forgotten
    plain_after = (let p = entered_plain begun frame fact frame.lead (Call client seq op) r serves.group k.plain in record {
      me_is = p.me_is;
      group = p.group;
      hint_is = p.hint_is;
      top_low = p.top_low;
      promised_low = p.promised_low;
      floor_low = p.floor_low;
      begins = p.begins;
      sets_are = p.sets_are;
      acts = p.acts;
      waits = p.waits;
    })

    leader_after : IsPlainLeader begun frame taken after
    unfolding entered forgotten
    leader_after =
        let l = k.leader in
        let most = l.slots.most in
        let up = next_after in
        record {
          running = l.running;
          ballot_is = l.ballot_is;
          may = l.may;
          open_ = λ slot low. l.open_ slot (omega (arith, up, low));
          backlog = l.backlog;
          flights = out_each (λ (f : Flight Command). f.slot) (λ s fs. without_flight s fs) (λ s. refl) (λ s f fs. refl) (IsPlainFlight begun frame) (next r) r.leader.flights l.flights;
          ready = out_each (λ (entry : ℕ × Command). entry.0) (λ s es. without_slot es s) (λ s. refl) (λ s x es. refl) (λ (entry : ℕ × Command). IsPlainCommand begun frame entry.1) (next r) r.ready l.ready;
          slots = record { most = omega (arith, most); once = once_after };
        }

    said_after : Each (IsSaid begun frame first free (next after) (next after + taken)) said_mails
    unfolding said_mails
    said_after =
        let up = next_after in
        let low = k.low in
        others_each frame.lead (Learn frame.core.id (next r) (Call client seq op)) (IsSaid begun frame first free (next after) (next after + taken)) frame.core.members (answer_to frame.lead frame.core.id client seq serves.answer mails)
        (Each-push (IsSaid begun frame first free (next after) (next after + taken)) mails (mail_of frame.lead (client_actor client) (Answer frame.core.id seq serves.answer))
        (Each-weaker (IsSaid begun frame first free (next r) (next r + (taken + 1))) (IsSaid begun frame first free (next after) (next after + taken))
        (λ mail s. record { plain = s.plain; in_row = later_row first free (next r) (next r + (taken + 1)) (next after) (next after + taken) mail.body (omega (arith, up)) (omega (arith, up)) s.in_row }) mails k.said)
        (record { plain = (refl, record { client = client; op = op; from_is = refl; to_is = refl; is_begun = is_call.is_begun; says = serves.says }); in_row = tt }))
        (λ node a ne. record {
          plain = (refl, record { from_is = refl; to_in = among-member frame.core.members node a; other = ne; is_call = is_call });
          in_row = (low, omega (arith, up));
        })

    learns_after : (who : ℕ) → is_member frame.core.members who ≡ true → (who ≡ frame.lead → ⊥) → learns_to frame.core.id who said_mails ≡ numbers_from first (next after - first)
    unfolding said_mails
    learns_after who m ne =
        let up = next_after in
        let low = k.low in
        let count : next r - first + 1 ≡ next after - first = omega (arith, up, low) in
        let last : first + (next r - first) ≡ next r = omega (arith, low) in
        learns_one frame.lead frame.core.id (next r) (Call client seq op) who ne frame.core.members (answer_to frame.lead frame.core.id client seq serves.answer mails) (roster_rises frame.core.members members_roster) m
        ∙ ap (λ l. l ++ next r ∷ [])
        (learns_push frame.core.id who mails (mail_of frame.lead (client_actor client) (Answer frame.core.id seq serves.answer))
        ∙ ap (λ l. learns_to frame.core.id who mails ++ l) (cond_both (eqb (client_actor client) who) [] [] (λ l. l ≡ []) (λ _. refl) (λ _. refl)) ∙ append-nil (learns_to frame.core.id who mails) ∙ k.learns who m ne)
        ∙ ap (λ s. numbers_from first (next r - first) ++ s ∷ []) (sym last) ∙ sym (numbers_push first (next r - first)) ∙ ap (numbers_from first) count

    kept_mail : (mail : Mail) → Among mail mails → Among mail said_mails
    unfolding said_mails
    kept_mail mail a =
        others_kept frame.lead (Learn frame.core.id (next r) (Call client seq op)) frame.core.members (answer_to frame.lead frame.core.id client seq serves.answer mails) mail
        (among_push mails (mail_of frame.lead (client_actor client) (Answer frame.core.id seq serves.answer)) mail a)

    taught_it : Among (mail_of frame.lead (client_actor client) (Answer frame.core.id seq serves.answer)) said_mails
    unfolding said_mails
    taught_it =
        others_kept frame.lead (Learn frame.core.id (next r) (Call client seq op)) frame.core.members (answer_to frame.lead frame.core.id client seq serves.answer mails) (mail_of frame.lead (client_actor client) (Answer frame.core.id seq serves.answer))
        (last_among mails (mail_of frame.lead (client_actor client) (Answer frame.core.id seq serves.answer)))

    held_after : (c s : ℕ) → IsHeld r c s → IsHeld after c s ⊎ IsReportedOf frame said_mails c s
    unfolding entered forgotten
    held_after c s h =
        elim (h.where_) [
          | inl a ↦ inl (record { number = h.number; op = h.op; later = h.later; where_ = inl a })
          | inr o ↦ elim o [
            | inl f ↦ inl (record { number = h.number; op = h.op; later = h.later; where_ = inr (inl (f.0, subst (Among f.0) (sym flights_stay) f.1, f.2)) })
            | inr entry ↦ elim (cases_eq entry.0 (next r)) [
              | inl here ↦ (
                  let same : Call client seq op ≡ Call c h.number h.op = at_only r.ready (next r) (Call client seq op) (Call c h.number h.op) one_entry ready (subst (λ m. Among (m, Call c h.number h.op) r.ready) here entry.1) in
                  let who : client ≡ c = cc in
                  let number : seq ≡ h.number = cc in
                  inr (record {
                    number = h.number;
                    answer = serves.answer;
                    later = h.later;
                    taught_slots = subst (λ m. Among (mail_of frame.lead (client_actor c) (Answer frame.core.id m serves.answer)) said_mails) number
                        (subst (λ m. Among (mail_of frame.lead (client_actor m) (Answer frame.core.id seq serves.answer)) said_mails) who taught_it);
                  }))
              | inr past ↦ inl (record {
                number = h.number;
                op = h.op;
                later = h.later;
                where_ = inr (inr (entry.0, out_among (λ (x : ℕ × Command). x.0) (λ m es. without_slot es m) (λ m. refl) (λ m x es. refl) (next r) r.ready (entry.0, Call c h.number h.op) entry.1 past));
              })
            ]
          ]
        ]

    calls_kept : (c s : ℕ) → wanted c s → IsHeld after c s ⊎ IsReportedOf frame said_mails c s
    calls_kept c s w =
        elim (k.backlog c s w) [
          | inl h ↦ held_after c s h
          | inr taught_slots ↦ inr (record { number = taught_slots.number; answer = taught_slots.answer; later = taught_slots.later; taught_slots = kept_mail _ taught_slots.taught_slots })
        ]

    after_leads : L taken (after, said_mails)
    after_leads =
        let up = next_after in
        let low = k.low in
        record {
          plain = plain_after;
          leader = leader_after;
          low = omega (arith, up, low);
          reached = omega (arith, up, end);
          more = omega (arith, up, end);
          begun_flights = k.begun_flights;
          flights_are = flights_after ∙ k.flights_are;
          new = k.new;
          early = subst (Each (λ (entry : ℕ × Command). entry.0 < free)) (sym ready_after)
              (out_each (λ (entry : ℕ × Command). entry.0) (λ s es. without_slot es s) (λ s. refl) (λ s x es. refl) (λ (entry : ℕ × Command). entry.0 < free) (next r) r.ready k.early);
          said = said_after;
          learns = learns_after;
          offers = λ s who least high a. absurd (omega (arith, up, end, least, high));
          backlog = calls_kept;
        }

    pub one_leads : L taken (executed_one true (Call client seq op) (r, mails))
    one_leads = subst (L taken) (sym place_is) after_leads

    pub one_next : next (executed_one true (Call client seq op) (r, mails)).0 ≡ next r + 1
    one_next = ap (λ (p : Place). next p.0) place_is ∙ next_after

    pub one_less : length (executed_one true (Call client seq op) (r, mails)).0.ready + 1 ≡ length r.ready
    one_less = (let shorter = ap (λ (p : Place). length p.0.ready) place_is in let same = ap length ready_after in let less = entries_less in omega (arith, shorter, same, less))
