-- What the pump leaves of a replica that runs, where its group is not reshaped: all open slots are taken, or nothing is queued and each report is of a slot that is taken.
use Rattle.std.proofs.Common.{◌≡◌, ℕ, zero, suc, ◌+◌, ◌<◌, ◌≤◌, ◌&&◌, Bool, true, false, List, [], ◌∷◌, replicate, Option, Some, None, inl, inr, refl, sym, ◌∙◌, ap, subst, arith}
use Rattle.std.specs.Prelude.{is_some, nat_le, nat_lt}
use Rattle.std.specs.Option.{option_map}
use Rattle.std.proofs.lemmas.Bool.{cond_both, cases_lt, ltb-false, and_parts, and_from, both_ways, le-leb, leb-true, or_parts, cases_eq}
use Rattle.sc_base.specs.Definitions.{Among, Each}
use Rattle.sc_node_table.specs.Values.{Ballot, Op, Base, Command, Noop, Call, Core, Free, Mail, Accept, Must, Gap, Flight, Report}
use Rattle.sc_words.specs.declared.paxos.answers.Must.TheVariants.{Value, Free as Open}
use Rattle.sc_words.specs.ideal.IdealDefinitions.{key_of, holds_key}
use Rattle.sc_words.specs.paxos.PaxosDefinitions.{must, must_without, choice, names_above}
use Rattle.sc_words.proofs.PaxosProofs.PaxosLemmas.{Each-push, Each-weaker, Each-among, Each-from, choice_among, choice_best}
use Rattle.sc_node_table.specs.NodeDefinitions.{sent_all, next_queued, from_backlog, found_by, found_for, offered, pumped_from, pumped, ReplicaState, Place, name_of, next, first_set, settled, may_offer, taken_at, is_idle, last_slot, slots_ahead}
use Rattle.sc_live_plain.proofs.PlainLemmas.{requests_only, offer_taken, takes, takes_not, all_kept, all_reached, call_found, none_found, by_found, by_nothing, mail_of, in_range, range_yes, range_behind, one_yes, one_no}
use Rattle.sc_live_steps.proofs.FollowingProofs.LeastMembers.{none_decided}
use Rattle.sc_law_groups.proofs.GroupProofs.Offering.{must_value}
use Rattle.sc_live_healed.specs.HealedDefinitions.{IsFixedCommand, IsFixedRequest, IsUndecided, HasOfferedAll}
use Rattle.sc_live_healed.proofs.ServingReplicas.{IsServing, IsUnderWay, IsAsked, grown, fixed_acts}

-- ---- what a leader must propose

-- nothing is reported where anything may be proposed
must_open : (above : Bool) (o : Option (Report Command)) → must_without above (option_map (λ (report : Report Command). report.value) o) ≡ Open → (above ≡ false) × (o ≡ None)
must_open above (Some best) e = cc
must_open true None e = cc
must_open false None e = (refl, refl)

-- what names a slot above another is found
names_up : (slot : ℕ) (reports : List (Report Command)) → names_above slot reports ≡ false → Each (λ (report : Report Command). report.slot ≤ slot) reports
names_up slot [] e = tt
names_up slot (report ∷ reports) e =
    let parts = or_parts (nat_lt slot report.slot) (names_above slot reports) e in (ltb-false slot report.slot parts.0, names_up slot reports parts.1)

-- where anything may be proposed, each report is of a slot below
below_open : (slot : ℕ) (reports : List (Report Command)) → (names_above slot reports ≡ false) × (choice slot reports ≡ None) → Each (λ (report : Report Command). report.slot < slot) reports
below_open slot reports e =
    Each-from (λ (report : Report Command). report.slot < slot) reports (λ report a. (
    let low = Each-among (λ (x : Report Command). x.slot ≤ slot) reports report (names_up slot reports e.0) a in
    elim (cases_eq report.slot slot) [
      | inl here ↦ (let best = choice_best slot reports report a here in cc (best.1, e.1))
      | inr other ↦ omega (arith, low, other)
    ]))

module _ (base : Base) (me : ℕ) (ballot : Ballot) (Held : Flight Command → Type 0) (free : base.core.lock ≡ Free) (stands : base.core.gone ≡ None) where
  abbrev S : ℕ → Place → Type 0
  S taken place = IsServing base me ballot Held taken place

  -- ---- what is found in the queue

  module _ (slot taken : ℕ) (r : ReplicaState) (mails : List Mail) (k : S taken (r, mails)) where
    queue_found : must slot r.leader ≡ Open → found_for slot (r, mails) ≡ from_backlog (r, mails)
    unfolding found_for
    queue_found open_ = ap (λ (what : Must Command). found_by what (r, mails)) open_
        ∙ requests_only (IsFixedCommand base) (fixed_acts base) r (Each-weaker (IsUnderWay base me ballot Held mails) (λ (flight : Flight Command). IsFixedCommand base flight.value) (λ flight u. u.value) r.leader.flights k.flights) k.ready mails k.acts

    find_call : must slot r.leader ≡ Open → (client seq : ℕ) (op : Op) (rest : List Command) → r.backlog ≡ Call client seq op ∷ rest → IsFixedRequest base (Call client seq op)
        → found_for slot (r, mails) ≡ (Some (Call client seq op), (record r { backlog = rest }, mails))
    unfolding from_backlog
    find_call open_ client seq op rest e holds =
        queue_found open_
        ∙ ap (λ (found : Option Command × List Command × List Mail). (found.0, (record r { backlog = found.1 }, found.2)))
        (ap (λ backlog. next_queued r.me (is_idle r) r.group.core backlog mails) e
        ∙ call_found r.me (is_idle r) r.group.core client seq op rest mails (ap (λ (core : Core). core.lock) k.core ∙ free) (ap (λ (core : Core). core.gone) k.core ∙ stands)
        (ap (λ (core : Core). holds_key core.arc (key_of op)) k.core ∙ holds))

    find_nothing : must slot r.leader ≡ Open → r.backlog ≡ [] → found_for slot (r, mails) ≡ (None, (record r { backlog = [] }, mails))
    unfolding from_backlog
    find_nothing open_ e =
        queue_found open_
        ∙ ap (λ (found : Option Command × List Command × List Mail). (found.0, (record r { backlog = found.1 }, found.2)))
        (ap (λ backlog. next_queued r.me (is_idle r) r.group.core backlog mails) e ∙ none_found r.me (is_idle r) r.group.core mails)

    find_value : (command : Command) → must slot r.leader ≡ Value command → found_for slot (r, mails) ≡ (Some command, (r, mails))
    unfolding found_for
    find_value command e = ap (λ (what : Must Command). found_by what (r, mails)) e

    find_gap : must slot r.leader ≡ Gap → found_for slot (r, mails) ≡ (Some Noop, (r, mails))
    unfolding found_for
    find_gap e = ap (λ (what : Must Command). found_by what (r, mails)) e

  -- ---- a command is offered

  module _ (slot taken : ℕ) (command : Command) (r : ReplicaState) (mails : List Mail) (fixed : IsFixedCommand base command) (at : slot ≡ next r + taken) (few : taken < slots_ahead) (low : next r ≤ last_slot) (k : S taken (r, mails)) where
    flight : Flight Command
    flight = record { slot = slot; value = command; voters = None }

    abbrev after : Place
    after = offered slot base.core.members command (r, mails)

    asked : IsAsked base me ballot (sent_all r.me base.core.members (Accept (name_of r) r.leader.ballot slot command) mails) (record { slot = slot; value = command; voters = None })
    asked member a =
        inr (
          command,
          subst (λ (m : Mail). Among m (sent_all r.me base.core.members (Accept (name_of r) r.leader.ballot slot command) mails))
              (ap (λ n. mail_of n member (Accept (name_of r) r.leader.ballot slot command)) k.me_is
              ∙ ap (λ (core : Core). mail_of me member (Accept core.id r.leader.ballot slot command)) k.core
              ∙ ap (λ b. mail_of me member (Accept base.core.id b slot command)) k.ballot_is)
              (all_reached r.me (Accept (name_of r) r.leader.ballot slot command) base.core.members mails member a),
        )

    none_voted : IsUndecided base (record { slot = slot; value = command; voters = None })
    none_voted = record { voters = omega arith; undecided = none_decided base.core.members }

    pub offered_serves : S (taken + 1) after
    unfolding offered
    offered_serves =
        let mails1 : List Mail = sent_all r.me base.core.members (Accept (name_of r) r.leader.ballot slot command) mails in
        let old = grown base me ballot Held taken r mails mails1 (λ mail a. all_kept r.me (Accept (name_of r) r.leader.ballot slot command) base.core.members mails mail a) k in
        record {
          running = k.running;
          me_is = k.me_is;
          ballot_is = k.ballot_is;
          core = k.core;
          sets = k.sets;
          acts = k.acts;
          backlog = k.backlog;
          flights = Each-push (IsUnderWay base me ballot Held mails1) r.leader.flights (record { slot = slot; value = command; voters = None }) old.flights
              (record { value = fixed; undecided = none_voted; from = inr asked });
          ready = k.ready;
          reports = k.reports;
          slots = record { most = omega (arith, few); once = offer_taken slot taken base.core.members command r mails at k.slots.once };
          room = inr (omega (arith, few, low));
        }

  -- ---- the open slots, one after another

  -- what the pump leaves
  pub record IsPumped (before after : Place) : Type 0 where
    pub taken : ℕ
    pub serves : S taken after
    pub offered_all : HasOfferedAll taken after.0
    pub same_next : next after.0 ≡ next before.0
    pub same_ready : after.0.ready ≡ before.0.ready
    pub same_settled : settled after.0 ≡ settled before.0

  -- another queue of requests
  pub requeued : (taken : ℕ) (r : ReplicaState) (mails : List Mail) (backlog : List Command) → Each (IsFixedRequest base) backlog → S taken (r, mails) → S taken (record r { backlog = backlog }, mails)
  requeued taken r mails backlog fixed k = record {
    running = k.running;
    me_is = k.me_is;
    ballot_is = k.ballot_is;
    core = k.core;
    sets = k.sets;
    acts = k.acts;
    backlog = fixed;
    flights = k.flights;
    ready = k.ready;
    reports = k.reports;
    slots = record { most = k.slots.most; once = k.slots.once };
    room = k.room;
  }

  -- what is queued is a call
  call_is : (command : Command) → IsFixedRequest base command → (client : ℕ) × (seq : ℕ) × (op : Op) × (command ≡ Call client seq op)
  call_is (Call client seq op) p = (client, seq, op, refl)
  call_is _ p = absurd p

  module _ (slot taken : ℕ) (sets : List (List ℕ)) (r : ReplicaState) (mails : List Mail) (at : slot ≡ next r + taken) (few : taken < slots_ahead) (low : next r ≤ last_slot) (k : S taken (r, mails))
      (more : (place : Place) → next place.0 ≡ next r → may_offer place.0 base.core.members ≡ may_offer r base.core.members → S (taken + 1) place → IsPumped place (pumped_from (slot + 1) sets place)) where
    -- the slot gets this command, and the queue is this one
    turned : (command : Command) (backlog : List Command) → IsFixedCommand base command → Each (IsFixedRequest base) backlog
        → IsPumped (r, mails) (pumped_from (slot + 1) sets (offered slot base.core.members command (record r { backlog = backlog }, mails)))
    unfolding offered
    turned command backlog fixed queue =
        let place : Place = offered slot base.core.members command (record r { backlog = backlog }, mails) in
        let q = more place refl refl (offered_serves slot taken command (record r { backlog = backlog }) mails fixed at few low (requeued taken r mails backlog queue k)) in
        record { taken = q.taken; serves = q.serves; offered_all = q.offered_all; same_next = q.same_next; same_ready = q.same_ready; same_settled = q.same_settled }

    -- what the turn of the slot leaves
    Turn : Type 0
    Turn = IsPumped (r, mails) (elim ((found_for slot (r, mails)).0) [ None ↦ (found_for slot (r, mails)).1 | Some c ↦ pumped_from (slot + 1) sets (offered slot base.core.members c (found_for slot (r, mails)).1) ])

    turn_open : must slot r.leader ≡ Open → (backlog : List Command) → r.backlog ≡ backlog → Turn
    unfolding Turn
    turn_open open_ [] e =
        let free_slot = must_open (names_above slot r.leader.reports) (choice slot r.leader.reports) open_ in
        let done = below_open slot r.leader.reports free_slot in
        by_nothing (IsPumped (r, mails)) slot base.core.members sets (found_for slot (r, mails)) (record r { backlog = [] }, mails) (find_nothing slot taken r mails k open_ e)
        (record {
          taken = taken;
          serves = requeued taken r mails [] tt k;
          offered_all = inr (refl, subst (λ n. Each (λ (report : Report Command). report.slot < n) r.leader.reports) at done);
          same_next = refl;
          same_ready = refl;
          same_settled = refl;
        })
    turn_open open_ (command ∷ rest) e =
        let fixed : Each (IsFixedRequest base) (command ∷ rest) = subst (Each (IsFixedRequest base)) e k.backlog in
        let c = call_is command fixed.0 in
        let here : r.backlog ≡ Call c.0 c.1 c.2 ∷ rest = e ∙ ap (λ (x : Command). x ∷ rest) c.3 in
        let call : IsFixedRequest base (Call c.0 c.1 c.2) = subst (IsFixedRequest base) c.3 fixed.0 in
        by_found (IsPumped (r, mails)) slot base.core.members sets (found_for slot (r, mails)) (Call c.0 c.1 c.2) (record r { backlog = rest }, mails)
        (find_call slot taken r mails k open_ c.0 c.1 c.2 rest here call) (turned (Call c.0 c.1 c.2) rest (inl call) fixed.1)

    turn : (what : Must Command) → must slot r.leader ≡ what → Turn
    unfolding Turn
    turn (Value command) e =
        let best = must_value (names_above slot r.leader.reports) (choice slot r.leader.reports) command e in
        let there = choice_among slot r.leader.reports best.0 best.1 in
        let fixed : IsFixedCommand base command = subst (IsFixedCommand base) best.2 (Each-among (λ (x : Report Command). IsFixedCommand base x.value) r.leader.reports best.0 k.reports there.0) in
        by_found (IsPumped (r, mails)) slot base.core.members sets (found_for slot (r, mails)) command (r, mails) (find_value slot taken r mails k command e) (turned command r.backlog fixed k.backlog)
    turn Gap e =
        by_found (IsPumped (r, mails)) slot base.core.members sets (found_for slot (r, mails)) Noop (r, mails) (find_gap slot taken r mails k e) (turned Noop r.backlog (inr refl) k.backlog)
    turn Open e = turn_open e r.backlog refl

  pump_all : (count slot taken : ℕ) (place : Place) → slot + count ≡ next place.0 + slots_ahead → next place.0 ≤ slot → slot ≤ next place.0 + taken → next place.0 ≤ last_slot → may_offer place.0 base.core.members ≡ true → S taken place
      → IsPumped place (pumped_from slot (replicate count base.core.members) place)
  unfolding pumped_from Turn
  pump_all zero slot taken (r, mails) end from high low may k =
      let most = k.slots.most in
      record { taken = taken; serves = k; offered_all = inl (omega (arith, most, end, high)); same_next = refl; same_ready = refl; same_settled = refl }
  pump_all (suc count) slot taken (r, mails) end from high low may k =
      cond_both (is_some (taken_at r slot)) _ _ (IsPumped (r, mails))
      (λ t. elim (cases_lt slot (next r + taken)) [
        | inl under ↦ pump_all count (slot + 1) taken (r, mails) (omega (arith, end)) (omega (arith, from)) (omega (arith, under)) low may k
        | inr over ↦ (
            let none = k.slots.once slot in
            let out = one_no (in_range (next r) taken slot) (range_behind (next r) taken slot over) in
            absurd (both_ways (is_some (taken_at r slot)) (takes_not r slot (omega (arith, none, out))) t))
      ])
      (λ f. elim (cases_lt slot (next r + taken)) [
        | inl under ↦ (
            let one = k.slots.once slot in
            let within = one_yes (in_range (next r) taken slot) (range_yes (next r) taken slot from under) in
            absurd (both_ways (is_some (taken_at r slot)) f (takes r slot (omega (arith, one, within)))))
        | inr over ↦ cond_both (may_offer r base.core.members) _ _ (IsPumped (r, mails))
            (λ _. turn slot taken (replicate count base.core.members) r mails (omega (arith, over, high)) (omega (arith, end, high, over)) low k
            (λ place same may_still l. (let n = same in pump_all count (slot + 1) (taken + 1) place (omega (arith, end, n)) (omega (arith, from, n)) (omega (arith, high, n)) (omega (arith, low, n)) (may_still ∙ may) l)) (must slot r.leader) refl)
            (λ no. absurd (both_ways (may_offer r base.core.members) no may))
      ])

  -- ---- the whole pump

  -- what the pump leaves, whether it offers or not
  pub record IsTried (before after : Place) : Type 0 where
    pub taken : ℕ
    pub serves : S taken after
    pub offered : settled after.0 ≡ true → next after.0 ≤ last_slot → HasOfferedAll taken after.0
    pub same_next : next after.0 ≡ next before.0
    pub same_ready : after.0.ready ≡ before.0.ready

  pub pumped_serves : (taken : ℕ) (place : Place) → S taken place → IsTried place (pumped place)
  unfolding pumped
  pumped_serves taken (r, mails) k =
      cond_both (settled r && nat_le (next r) last_slot) (pumped_from (next r) r.sets (r, mails)) (r, mails) (IsTried (r, mails))
      (λ t. (
      let both = and_parts (settled r) (nat_le (next r) last_slot) t in
      let may : may_offer r base.core.members ≡ true = ap (λ (sets : List (List ℕ)). may_offer r (first_set sets)) (sym k.sets) ∙ (and_parts r.running (may_offer r (first_set r.sets)) both.0).1 in
      let low = leb-true (next r) last_slot both.1 in
      let p : IsPumped (r, mails) (pumped_from (next r) r.sets (r, mails)) = subst (λ (sets : List (List ℕ)). IsPumped (r, mails) (pumped_from (next r) sets (r, mails))) (sym k.sets) (pump_all slots_ahead (next r) taken (r, mails) refl (omega arith) (omega arith) low may k) in
      record { taken = p.taken; serves = p.serves; offered = λ on near. p.offered_all; same_next = p.same_next; same_ready = p.same_ready }))
      (λ f. record {
        taken = taken;
        serves = k;
        offered = λ on near. absurd (both_ways (settled r && nat_le (next r) last_slot) f (and_from (settled r) (nat_le (next r) last_slot) on (le-leb (next r) last_slot near)));
        same_next = refl;
        same_ready = refl;
      })
