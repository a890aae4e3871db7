-- What the leading replica of a plain group offers: its queued requests, at the slots that are free, in their order.
use Rattle.std.proofs.Common.{◌≡◌, ℕ, zero, suc, ◌+◌, ◌<◌, ◌≤◌, ◌&&◌, not, leb, Bool, true, List, [], ◌∷◌, ◌++◌, map, Option, Some, None, ◌⊎◌, inl, inr, refl, sym, ◌∙◌, ap, subst, arith, append_assoc}
use Rattle.std.specs.Prelude.{is_some, nat_le}
use Rattle.std.proofs.lemmas.Bool.{cond_both, cond-true, cond-false, cases_lt, cases_eq, le-leb, and_from, both_ways}
use Rattle.sc_base.specs.Definitions.{Among, Each, votes_of}
use Rattle.sc_node_table.specs.Values.{Ballot, Draw, Op, Command, Call, Core, Lock, Free, Route, AnswerBody, Mail, MailBody, Accept, Must, Flight}
use Rattle.sc_words.specs.ideal.IdealDefinitions.{key_of, holds_key}
use Rattle.sc_words.proofs.PaxosProofs.PaxosLemmas.{Each-push, Each-weaker}
use Rattle.sc_node_table.specs.NodeDefinitions.{sent_all, answered, Found, admits_requests, waits, refused_by, turned_down, next_queued, from_backlog, found_by, found_for, offered, pumped_from, pumped, ReplicaState, Place, name_of, next, first_set, settled, may_offer, taken_at, is_idle, last_slot, numbers_from, slots_ahead}
use Rattle.sc_paxos_law.proofs.Lemmas.{among-member}
use Rattle.sc_live_plain.specs.PlainDefinitions.{Frame, IsFrame, Requests, IsPlainCommand, IsPlainCall, IsPlainFlight, IsPlainLeader, IsPlainReplica}
use Rattle.sc_live_plain.proofs.PlainRowsProofs.SlotCounts.{one_yes, one_no}
use Rattle.sc_live_plain.proofs.LeadersProofs.LeadingReplicas.{in_range, range_yes, range_behind, takes, takes_not, plain_acts, requests_only, offer_taken, IsHeld, IsReportedOf, IsSaid, IsNew, later_row, Leads}
use Rattle.sc_live_plain.proofs.PlainRowsProofs.RepeatedMail.{mail_of, all_each, all_learns, all_kept, all_reached, among_push, last_among}
use Rattle.sc_live_steps.proofs.FollowingProofs.LeastMembers.{none_decided}

-- ---- what is found in the queue

found_turn : (o : Option AnswerBody) (me : ℕ) (idle : Bool) (core : Core) (command : Command) (backlog : List Command) (mails : List Mail) → o ≡ None
    → ◌≡◌ {A = Option Command × List Command × List Mail} (elim o [ None ↦ (Some command, backlog, mails) | Some answer ↦ next_queued me idle core backlog (answered me core.id answer command mails) ]) (Some command, backlog, mails)
found_turn None me idle core command backlog mails e = refl
found_turn (Some answer) me idle core command backlog mails e = cc

served_key : (into : Option Route) (core : Core) (op : Op) → into ≡ None → holds_key core.arc (key_of op) ≡ true → refused_by into core op ≡ None
served_key None core op e h = cond-true (holds_key core.arc (key_of op)) None _ h
served_key (Some into) core op e h = cc

pub call_found : (me : ℕ) (idle : Bool) (core : Core) (client seq : ℕ) (op : Op) (backlog : List Command) (mails : List Mail) → core.lock ≡ Free → core.gone ≡ None → holds_key core.arc (key_of op) ≡ true
    → next_queued me idle core (Call client seq op ∷ backlog) mails ≡ (Some (Call client seq op), backlog, mails)
unfolding next_queued
call_found me idle core client seq op backlog mails f g h =
    cond-false (waits idle core.lock (Call client seq op)) _ _ (ap (λ (lock : Lock). not (admits_requests lock)) f)
    ∙ found_turn (turned_down core (Call client seq op)) me idle core (Call client seq op) backlog mails (served_key core.gone core op g h)

pub none_found : (me : ℕ) (idle : Bool) (core : Core) (mails : List Mail) → next_queued me idle core [] mails ≡ (None, [], mails)
unfolding next_queued
none_found me idle core mails = refl

-- what is found goes on
pub by_found : (P : Place → Type 0) (slot : ℕ) (set : List ℕ) (sets : List (List ℕ)) (found : Found) (command : Command) (place : Place) → found ≡ (Some command, place) → P (pumped_from (slot + 1) sets (offered slot set command place))
    → P (elim (found.0) [ None ↦ found.1 | Some c ↦ pumped_from (slot + 1) sets (offered slot set c found.1) ])
by_found P slot set sets found command place e p =
    subst (λ (f : Found). P (elim (f.0) [ None ↦ f.1 | Some c ↦ pumped_from (slot + 1) sets (offered slot set c f.1) ])) (sym e) p

pub by_nothing : (P : Place → Type 0) (slot : ℕ) (set : List ℕ) (sets : List (List ℕ)) (found : Found) (place : Place) → found ≡ (None, place) → P place
    → P (elim (found.0) [ None ↦ found.1 | Some c ↦ pumped_from (slot + 1) sets (offered slot set c found.1) ])
by_nothing P slot set sets found place e p =
    subst (λ (f : Found). P (elim (f.0) [ None ↦ f.1 | Some c ↦ pumped_from (slot + 1) sets (offered slot set c f.1) ])) (sym e) p

-- no votes are no majority
no_votes : (members : List ℕ) → votes_of members [] ≡ 0
no_votes [] = refl
no_votes (x ∷ xs) = no_votes xs

module _ (begun : Requests) (frame : Frame) (fact : IsFrame frame) (first free : ℕ) (held : List (Flight Command)) (wanted : ℕ → ℕ → Type 0) where
  abbrev pub L : ℕ → Place → Type 0
  L taken place = Leads begun frame first free held wanted taken place

  module _ (slot taken : ℕ) (r : ReplicaState) (mails : List Mail) (k : L taken (r, mails)) (low : next r ≤ slot) where
    found_calls : found_for slot (r, mails) ≡ from_backlog (r, mails)
    unfolding found_for
    found_calls = ap (λ (what : Must Command). found_by what (r, mails)) (k.leader.open_ slot low)
        ∙ requests_only (IsPlainCommand begun frame) (plain_acts begun frame) r (Each-weaker (IsPlainFlight begun frame) (λ (flight : Flight Command). IsPlainCommand begun frame flight.value) (λ flight p. p.is_call) r.leader.flights k.leader.flights) k.leader.ready mails k.plain.acts

    find_call : (client seq : ℕ) (op : Op) (rest : List Command) → r.backlog ≡ Call client seq op ∷ rest → IsPlainCall begun frame client seq op
        → found_for slot (r, mails) ≡ (Some (Call client seq op), (record r { backlog = rest }, mails))
    unfolding from_backlog
    find_call client seq op rest e c =
        found_calls
        ∙ ap (λ (found : Option Command × List Command × List Mail). (found.0, (record r { backlog = found.1 }, found.2)))
        (ap (λ backlog. next_queued r.me (is_idle r) r.group.core backlog mails) e
        ∙ call_found r.me (is_idle r) r.group.core client seq op rest mails (ap (λ (core : Core). core.lock) k.plain.group.core_is ∙ fact.free) (ap (λ (core : Core). core.gone) k.plain.group.core_is ∙ fact.stands)
        (ap (λ (core : Core). holds_key core.arc (key_of op)) k.plain.group.core_is ∙ c.held))

    find_nothing : r.backlog ≡ [] → found_for slot (r, mails) ≡ (None, (record r { backlog = [] }, mails))
    unfolding from_backlog
    find_nothing e =
        found_calls
        ∙ ap (λ (found : Option Command × List Command × List Mail). (found.0, (record r { backlog = found.1 }, found.2)))
        (ap (λ backlog. next_queued r.me (is_idle r) r.group.core backlog mails) e ∙ none_found r.me (is_idle r) r.group.core mails)

  -- ---- a call is offered

  module _ (slot taken : ℕ) (r : ReplicaState) (mails : List Mail) (client seq : ℕ) (op : Op) (rest : List Command) (at : slot ≡ next r + taken) (room : taken < slots_ahead) (e : r.backlog ≡ Call client seq op ∷ rest) (k : L taken (r, mails)) where
    command : Command
    command = Call client seq op

    body : MailBody
    body = Accept (name_of r) r.leader.ballot slot (Call client seq op)

    after : Place
    after = offered slot (frame.at slot) (Call client seq op) (record r { backlog = rest }, mails)

    calls_plain : Each (IsPlainCommand begun frame) (Call client seq op ∷ rest)
    calls_plain = subst (Each (IsPlainCommand begun frame)) e k.leader.backlog

    name_is : name_of r ≡ frame.core.id
    name_is = ap (λ (core : Core). core.id) k.plain.group.core_is

    offered_plain : IsPlainReplica begun frame frame.lead after.0
    unfolding after offered
    offered_plain = (let p = k.plain in record {
      me_is = p.me_is;
      group = p.group;
      hint_is = p.hint_is;
      top_low = p.top_low;
      promised_low = p.promised_low;
      floor_low = p.floor_low;
      begins = p.begins;
      sets_are = p.sets_are;
      acts = p.acts;
      waits = p.waits;
    })

    offered_leader : IsPlainLeader begun frame (taken + 1) after.0
    unfolding after offered
    offered_leader = (let l = k.leader in record {
      running = l.running;
      ballot_is = l.ballot_is;
      may = l.may;
      open_ = l.open_;
      backlog = calls_plain.1;
      flights = Each-push (IsPlainFlight begun frame) r.leader.flights (record { slot = slot; value = Call client seq op; voters = None }) l.flights
          (record { is_call = calls_plain.0; voters_are = omega arith; undecided = none_decided (frame.at slot) });
      ready = l.ready;
      slots = record { most = omega (arith, room); once = offer_taken slot taken (frame.at slot) (Call client seq op) (record r { backlog = rest }) mails at k.leader.slots.once };
    })

    accept_is : (who : ℕ) → mail_of r.me who (Accept (name_of r) r.leader.ballot slot (Call client seq op)) ≡ mail_of frame.lead who (Accept frame.core.id frame.ballot slot (Call client seq op))
    accept_is who =
        ap (λ me. mail_of me who (Accept (name_of r) r.leader.ballot slot (Call client seq op))) k.plain.me_is
        ∙ ap (λ (name : Draw). mail_of frame.lead who (Accept name r.leader.ballot slot (Call client seq op))) name_is
        ∙ ap (λ (ballot : Ballot). mail_of frame.lead who (Accept frame.core.id ballot slot (Call client seq op))) k.leader.ballot_is

    offered_said : Each (IsSaid begun frame first free (next r) (next r + (taken + 1))) after.1
    unfolding after offered
    offered_said =
        let more = k.more in
        all_each r.me (Accept (name_of r) r.leader.ballot slot (Call client seq op)) (IsSaid begun frame first free (next r) (next r + (taken + 1))) (frame.at slot) mails
        (Each-weaker (IsSaid begun frame first free (next r) (next r + taken)) (IsSaid begun frame first free (next r) (next r + (taken + 1)))
        (λ mail s. record { plain = s.plain; in_row = later_row first free (next r) (next r + taken) (next r) (next r + (taken + 1)) mail.body (omega arith) (omega arith) s.in_row }) mails k.said)
        (λ node a. record {
          plain = (name_is, k.leader.ballot_is, record { from_is = k.plain.me_is; to_in = among-member (frame.at slot) node a; is_call = calls_plain.0 });
          in_row = (omega (arith, at, more), omega (arith, at));
        })

    offered_offers : (s who : ℕ) → free ≤ s → s < next r + (taken + 1) → Among who (frame.at s) → (c : Command) × Among (mail_of frame.lead who (Accept frame.core.id frame.ballot s c)) after.1
    unfolding after offered
    offered_offers s who low high a =
        elim (cases_eq s slot) [
          | inl same ↦ (
              let here : Among who (frame.at slot) = subst (λ n. Among who (frame.at n)) same a in
              let sent = all_reached r.me (Accept (name_of r) r.leader.ballot slot (Call client seq op)) (frame.at slot) mails who here in
              let now : List Mail = sent_all r.me (frame.at slot) (Accept (name_of r) r.leader.ballot slot (Call client seq op)) mails in
              (Call client seq op, subst (λ n. Among (mail_of frame.lead who (Accept frame.core.id frame.ballot n (Call client seq op))) now) (sym same) (subst (λ (m : Mail). Among m now) (accept_is who) sent)))
          | inr past ↦ (
              let old = k.offers s who low (omega (arith, high, past, at)) a in
              (old.0, all_kept r.me (Accept (name_of r) r.leader.ballot slot (Call client seq op)) (frame.at slot) mails (mail_of frame.lead who (Accept frame.core.id frame.ballot s old.0)) old.1))
        ]

    offered_calls : (c n : ℕ) → wanted c n → IsHeld after.0 c n ⊎ IsReportedOf frame after.1 c n
    unfolding after offered
    offered_calls c n w =
        elim (k.backlog c n w) [
          | inr taught_slots ↦ inr (record {
            number = taught_slots.number;
            answer = taught_slots.answer;
            later = taught_slots.later;
            taught_slots = all_kept r.me (Accept (name_of r) r.leader.ballot slot (Call client seq op)) (frame.at slot) mails _ taught_slots.taught_slots;
          })
          | inl is_held ↦ inl (record {
            number = is_held.number;
            op = is_held.op;
            later = is_held.later;
            where_ = elim (is_held.where_) [
              | inl a ↦ elim (subst (Among (Call c is_held.number is_held.op)) e a) [
                | inl same ↦ inr (inl (record { slot = slot; value = Call client seq op; voters = None }, last_among r.leader.flights (record { slot = slot; value = Call client seq op; voters = None }), same))
                | inr b ↦ inl b
              ]
              | inr o ↦ elim o [
                | inl f ↦ inr (inl (f.0, among_push r.leader.flights (record { slot = slot; value = Call client seq op; voters = None }) f.0 f.1, f.2))
                | inr entry ↦ inr (inr entry)
              ]
            ];
          })
        ]

    offered_leads : L (taken + 1) after
    unfolding after offered
    offered_leads =
        let more = k.more in record {
          plain = offered_plain;
          leader = offered_leader;
          low = k.low;
          reached = k.reached;
          more = omega (arith, more);
          begun_flights = k.begun_flights ++ (record { slot = slot; value = Call client seq op; voters = None }) ∷ [];
          flights_are = ap (λ l. l ++ (record { slot = slot; value = Call client seq op; voters = None }) ∷ []) k.flights_are ∙ append_assoc held k.begun_flights ((record { slot = slot; value = Call client seq op; voters = None }) ∷ []);
          new = Each-push (IsNew free) k.begun_flights (record { slot = slot; value = Call client seq op; voters = None }) k.new (record { late = omega (arith, more, at); unvoted = refl });
          early = k.early;
          said = offered_said;
          learns = λ who m ne. all_learns r.me (Accept (name_of r) r.leader.ballot slot (Call client seq op)) frame.core.id who (frame.at slot) mails refl ∙ k.learns who m ne;
          offers = offered_offers;
          backlog = offered_calls;
        }

  -- ---- the open slots, one after another

  -- what the pump leaves
  pub record IsPumped (before after : Place) : Type 0 where
    pub taken : ℕ
    pub leads : L taken after
    pub offered_all : (after.0.backlog ≡ []) ⊎ (taken ≡ slots_ahead)
    pub same_next : next after.0 ≡ next before.0
    pub same_ready : after.0.ready ≡ before.0.ready

  -- an empty queue is what is left of it
  emptied : (taken : ℕ) (r : ReplicaState) (mails : List Mail) → r.backlog ≡ [] → L taken (r, mails) → L taken (record r { backlog = [] }, mails)
  emptied taken r mails e k = subst (λ backlog. L taken (record r { backlog = backlog }, mails)) e k

  -- what is under way here is a call
  pub call_is : (command : Command) → IsPlainCommand begun frame command → (client : ℕ) × (seq : ℕ) × (op : Op) × (command ≡ Call client seq op)
  call_is (Call client seq op) p = (client, seq, op, refl)
  call_is _ p = absurd p

  turned : (slot taken : ℕ) (sets : List (List ℕ)) (r : ReplicaState) (mails : List Mail) (client seq : ℕ) (op : Op) (rest : List Command) → slot ≡ next r + taken → taken < slots_ahead → r.backlog ≡ Call client seq op ∷ rest → L taken (r, mails)
      → ((place : Place) → next place.0 ≡ next r → L (taken + 1) place → IsPumped place (pumped_from (slot + 1) sets place))
      → IsPumped (r, mails) (pumped_from (slot + 1) sets (offered slot (frame.at slot) (Call client seq op) (record r { backlog = rest }, mails)))
  unfolding after offered
  turned slot taken sets r mails client seq op rest at room e k more =
      let q = more (after slot taken r mails client seq op rest at room e k) refl (offered_leads slot taken r mails client seq op rest at room e k) in
      record { taken = q.taken; leads = q.leads; offered_all = q.offered_all; same_next = q.same_next; same_ready = q.same_ready }

  -- the slot behind those that are taken: the next queued request is offered there, if there is one
  turn : (slot taken : ℕ) (sets : List (List ℕ)) (r : ReplicaState) (mails : List Mail) (backlog : List Command) → r.backlog ≡ backlog → slot ≡ next r + taken → taken < slots_ahead → L taken (r, mails)
      → ((place : Place) → next place.0 ≡ next r → L (taken + 1) place → IsPumped place (pumped_from (slot + 1) sets place))
      → IsPumped (r, mails) (elim ((found_for slot (r, mails)).0) [ None ↦ (found_for slot (r, mails)).1 | Some c ↦ pumped_from (slot + 1) sets (offered slot (frame.at slot) c (found_for slot (r, mails)).1) ])
  turn slot taken sets r mails [] e at room k more =
      let low : next r ≤ slot = omega (arith, at) in
      by_nothing (IsPumped (r, mails)) slot (frame.at slot) sets (found_for slot (r, mails)) (record r { backlog = [] }, mails) (find_nothing slot taken r mails k low e)
      (record { taken = taken; leads = emptied taken r mails e k; offered_all = inl refl; same_next = refl; same_ready = refl })
  turn slot taken sets r mails (command ∷ rest) e at room k more =
      let low : next r ≤ slot = omega (arith, at) in
      let plain : Each (IsPlainCommand begun frame) (command ∷ rest) = subst (Each (IsPlainCommand begun frame)) e k.leader.backlog in
      let c = call_is command plain.0 in
      let is_call : IsPlainCall begun frame c.0 c.1 c.2 = subst (IsPlainCommand begun frame) c.3 plain.0 in
      let here : r.backlog ≡ Call c.0 c.1 c.2 ∷ rest = e ∙ ap (λ (x : Command). x ∷ rest) c.3 in
      by_found (IsPumped (r, mails)) slot (frame.at slot) sets (found_for slot (r, mails)) (Call c.0 c.1 c.2) (record r { backlog = rest }, mails) (find_call slot taken r mails k low c.0 c.1 c.2 rest here is_call)
      (turned slot taken sets r mails c.0 c.1 c.2 rest at room here k more)

  pump_all : (count slot taken : ℕ) (place : Place) → slot + count ≡ next place.0 + slots_ahead → next place.0 ≤ slot → slot ≤ next place.0 + taken → L taken place → IsPumped place (pumped_from slot (map frame.at (numbers_from slot count)) place)
  unfolding pumped_from
  pump_all zero slot taken (r, mails) end low high k =
      let most = k.leader.slots.most in
      record { taken = taken; leads = k; offered_all = inr (omega (arith, most, end, high)); same_next = refl; same_ready = refl }
  pump_all (suc count) slot taken (r, mails) end low high k =
      cond_both (is_some (taken_at r slot)) _ _ (IsPumped (r, mails))
      (λ t. elim (cases_lt slot (next r + taken)) [
        | inl under ↦ pump_all count (slot + 1) taken (r, mails) (omega (arith, end)) (omega (arith, low)) (omega (arith, under)) k
        | inr over ↦ (
            let none = k.leader.slots.once slot in
            let out = one_no (in_range (next r) taken slot) (range_behind (next r) taken slot over) in
            absurd (both_ways (is_some (taken_at r slot)) (takes_not r slot (omega (arith, none, out))) t))
      ])
      (λ f. elim (cases_lt slot (next r + taken)) [
        | inl under ↦ (
            let one = k.leader.slots.once slot in
            let within = one_yes (in_range (next r) taken slot) (range_yes (next r) taken slot low under) in
            absurd (both_ways (is_some (taken_at r slot)) f (takes r slot (omega (arith, one, within)))))
        | inr over ↦ cond_both (may_offer r (frame.at slot)) _ _ (IsPumped (r, mails))
            (λ _. turn slot taken (map frame.at (numbers_from (slot + 1) count)) r mails r.backlog refl (omega (arith, over, high)) (omega (arith, end, high, over)) k
            (λ place same l. (let n = same in pump_all count (slot + 1) (taken + 1) place (omega (arith, end, n)) (omega (arith, low, n)) (omega (arith, high, n)) l)))
            (λ no. absurd (both_ways (may_offer r (frame.at slot)) no (k.leader.may slot)))
      ])

  -- the whole pump
  pub pumped_leads : (taken : ℕ) (place : Place) → free ≤ last_slot → L taken place → IsPumped place (pumped place)
  unfolding pumped
  pumped_leads taken (r, mails) room k =
      let reached = k.reached in
      let sets = k.plain.sets_are in
      cond_both (settled r && nat_le (next r) last_slot) (pumped_from (next r) r.sets (r, mails)) (r, mails) (IsPumped (r, mails))
      (λ _. subst (λ (l : List (List ℕ)). IsPumped (r, mails) (pumped_from (next r) l (r, mails))) (sym sets) (pump_all slots_ahead (next r) taken (r, mails) refl (omega arith) (omega arith) k))
      (λ no. absurd (both_ways (settled r && nat_le (next r) last_slot) no
      (and_from (settled r) (leb (next r) last_slot)
      (and_from r.running (may_offer r (first_set r.sets)) k.leader.running (ap (λ (l : List (List ℕ)). may_offer r (first_set l)) sets ∙ k.leader.may (next r)))
      (le-leb (next r) last_slot (omega (arith, reached, room))))))
