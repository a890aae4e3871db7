-- A tick leaves a replica of a group that is not reshaped with its slots taken as they should be: each member whose vote is not counted is asked again, and an election finds nothing in flight.
use Rattle.std.proofs.Common.{◌≡◌, ℕ, zero, suc, ◌+◌, ◌-◌, ◌^◌, ◌<◌, ◌≤◌, ◌||◌, not, eqb, Bool, true, false, true≢false, List, [], ◌∷◌, ◌++◌, length, replicate, Option, Some, None, inl, inr, refl, sym, ◌∙◌, ap, subst, arith}
use Rattle.std.specs.Prelude.{is_some}
use Rattle.std.specs.Option.{option_map}
use Rattle.std.proofs.lemmas.Bool.{cond_both, cond-false, cases_lt, cases_eq, cases_Bool, and_parts, and_right, eqb-true, both_ways}
use Rattle.sc_base.specs.Definitions.{Among, Each, Drawer, is_member, is_majority}
use Rattle.sc_node_table.specs.Values.{Base, Command, Core, Lock, Free, Route, Mail, Accept, Flight}
use Rattle.sc_words.specs.paxos.PaxosDefinitions.{below, flight_at, has_counted, entry_at, new_leader}
use Rattle.sc_words.specs.paxos.Votes.{voters_at}
use Rattle.sc_words.proofs.PaxosProofs.PaxosLemmas.{Each-among, Each-from, Each-weaker, Among-filter}
use Rattle.sc_node_table.specs.NodeDefinitions.{elected, sent_all, wishing, pumped, waited_in, reminders, reminded, ReplicaState, Place, name_of, next, members, settled, may_offer, first_set, flying, taken_at, listed, taken_from, under_way, is_idle, numbers_from, slots_ahead, asked_again, last_entry_sent, uncounted, tick_row}
use Rattle.sc_live_plain.proofs.PlainLemmas.{find_some, one_if_most, flights_at, range_before, takes, all_kept, all_reached, only_flight, mail_of, in_range, range_behind, one_no}
use Rattle.sc_live_steps.proofs.FollowingProofs.LeastMembers.{none_decided}
use Rattle.sc_live_plain.proofs.PlainLemmas.{flight_stands}
use Rattle.sc_live_healed.specs.HealedDefinitions.{IsFixedCommand, IsFixedReplica, IsUndecided, TakesSlots}
use Rattle.sc_live_healed.proofs.ServingReplicas.{Grows, IsAsked, IsUnderWay}
use Rattle.sc_live_healed.proofs.ReadySlots.{HasServed, served_takes, pump_serves}
use Rattle.sc_live_healed.proofs.MailedSlots.{empty_takes}

-- ---- what is asked again

-- what was said is said still
again_kept : (r : ReplicaState) (slot : ℕ) (sets : List (List ℕ)) (mails : List Mail) → Grows mails (asked_again r slot sets mails)
unfolding asked_again
again_kept r slot [] mails mail a = a
again_kept r slot (set ∷ sets) mails mail a = by (flying r slot) (λ more b. again_kept r (slot + 1) sets more mail b)
  where
    by : (o : Option Command) → ((more : List Mail) → Among mail more → Among mail (asked_again r (slot + 1) sets more)) → Among mail (elim o [ None ↦ asked_again r (slot + 1) sets mails | Some command ↦ asked_again r (slot + 1) sets (sent_all r.me (uncounted r slot set) (Accept (name_of r) r.leader.ballot slot command) mails) ])
    by None rest = rest mails a
    by (Some command) rest =
        rest (sent_all r.me (uncounted r slot set) (Accept (name_of r) r.leader.ballot slot command) mails)
        (all_kept r.me (Accept (name_of r) r.leader.ballot slot command) (uncounted r slot set) mails mail a)

-- who was not counted at a slot with a command in flight is asked
again_asks : (r : ReplicaState) (set : List ℕ) (count slot s node : ℕ) (command : Command) (mails : List Mail) → slot ≤ s → s < slot + count → flying r s ≡ Some command → Among node (uncounted r s set)
    → Among (mail_of r.me node (Accept (name_of r) r.leader.ballot s command)) (asked_again r slot (replicate count set) mails)
unfolding asked_again
again_asks r set zero slot s node command mails low high e a = absurd (omega (arith, low, high))
again_asks r set (suc count) slot s node command mails low high e a =
    elim (cases_eq slot s) [
      | inl here ↦ (
          let at : flying r slot ≡ Some command = ap (flying r) here ∙ e in
          let more : List Mail = sent_all r.me (uncounted r slot set) (Accept (name_of r) r.leader.ballot slot command) mails in
          let sent = all_reached r.me (Accept (name_of r) r.leader.ballot slot command) (uncounted r slot set) mails node (subst (λ n. Among node (uncounted r n set)) (sym here) a) in
          subst (λ (o : Option Command). Among (mail_of r.me node (Accept (name_of r) r.leader.ballot s command)) (elim o [ None ↦ asked_again r (slot + 1) (replicate count set) mails | Some c ↦ asked_again r (slot + 1) (replicate count set) (sent_all r.me (uncounted r slot set) (Accept (name_of r) r.leader.ballot slot c) mails) ])) (sym at)
          (again_kept r (slot + 1) (replicate count set) more _ (subst (λ n. Among (mail_of r.me node (Accept (name_of r) r.leader.ballot n command)) more) here sent)))
      | inr past ↦ by (flying r slot) (λ more. again_asks r set count (slot + 1) s node command more (omega (arith, low, past)) (omega (arith, high)) e a)
    ]
  where
    by : (o : Option Command) → ((more : List Mail) → Among (mail_of r.me node (Accept (name_of r) r.leader.ballot s command)) (asked_again r (slot + 1) (replicate count set) more)) → Among (mail_of r.me node (Accept (name_of r) r.leader.ballot s command))
        (elim o [ None ↦ asked_again r (slot + 1) (replicate count set) mails | Some c ↦ asked_again r (slot + 1) (replicate count set) (sent_all r.me (uncounted r slot set) (Accept (name_of r) r.leader.ballot slot c) mails) ])
    by None rest = rest mails
    by (Some c) rest = rest (sent_all r.me (uncounted r slot set) (Accept (name_of r) r.leader.ballot slot c) mails)

-- ---- nothing is under way where a replica is idle

some_way : (r : ReplicaState) (count from s : ℕ) → from ≤ s → s < from + count → is_some (taken_at r s) ≡ true → 1 ≤ length (taken_from r (numbers_from from count))
some_way r zero from s low high t = absurd (omega (arith, low, high))
some_way r (suc count) from s low high t = by (taken_at r from) refl (λ past. some_way r count (from + 1) s (omega (arith, low, past)) (omega (arith, high)) t)
  where
    by : (o : Option Command) → taken_at r from ≡ o → ((from ≡ s → ⊥) → 1 ≤ length (taken_from r (numbers_from (from + 1) count))) → 1 ≤ length (listed o ++ taken_from r (numbers_from (from + 1) count))
    by (Some command) e rest = omega arith
    by None e rest = elim (cases_eq from s) [
      | inl here ↦ (let none : taken_at r s ≡ None = ap (taken_at r) (sym here) ∙ e in absurd (both_ways (is_some (taken_at r s)) (ap is_some none) t))
      | inr past ↦ rest past
    ]

-- ---- reminders and wishes

quiet_lock : (P : Place → Type 0) (lock : Lock) (r : ReplicaState) (mails : List Mail) → lock ≡ Free → P (r, mails) → P (waited_in lock r, reminders lock r.me r.group mails)
quiet_lock P lock r mails e p = subst (λ (l : Lock). P (waited_in l r, reminders l r.me r.group mails)) (sym e) p

not_so : (b : Bool) → not b ≡ false → b ≡ true
not_so true e = refl
not_so false e = cc

so_not : (b : Bool) → not b ≡ true → b ≡ false
so_not true e = cc
so_not false e = refl

-- each member's vote for what is in flight at a place is counted, or the place's mails ask it
abbrev pub AskAll : Base → Place → Type 0
AskAll base place = Each (IsAsked base place.0.me place.0.leader.ballot place.1) place.0.leader.flights

module _ (base : Base) (free : base.core.lock ≡ Free) (stands : base.core.gone ≡ None) (r : ReplicaState) (member : is_member base.core.members r.me ≡ true) (fixed : IsFixedReplica base r) (takes_slots : TakesSlots base r) where
  abbrev None_ : Flight Command → Type 0
  None_ flight = ⊥

  -- what a tick leaves
  pub record HasTicked (place : Place) : Type 0 where
    pub takes : TakesSlots base place.0
    pub asked : (r.top.round ≡ 2 ^ 32 - 1 → ⊥) → AskAll base place

  module _ (flight : Flight Command) (a : Among flight r.leader.flights) where
    one_flight : 1 ≤ flights_at flight.slot r.leader.flights
    one_flight = flight_stands flight.slot r.leader.flights flight a refl

    pub in_open : (next r ≤ flight.slot) × (flight.slot < next r + slots_ahead)
    in_open =
        let one = one_flight in
        let once = takes_slots.slots.once flight.slot in
        let most = takes_slots.slots.most in
        elim (cases_lt flight.slot (next r)) [
          | inl low ↦ (let none = one_no (in_range (next r) takes_slots.taken flight.slot) (range_before (next r) takes_slots.taken flight.slot low) in absurd (omega (arith, one, once, none)))
          | inr up ↦ elim (cases_lt flight.slot (next r + takes_slots.taken)) [
            | inl high ↦ (up, omega (arith, high, most))
            | inr past ↦ (let none = one_no (in_range (next r) takes_slots.taken flight.slot) (range_behind (next r) takes_slots.taken flight.slot past) in absurd (omega (arith, one, once, none)))
          ]
        ]

    only_one : flights_at flight.slot r.leader.flights ≡ 1
    only_one = (let one = one_flight in let once = takes_slots.slots.once flight.slot in let most = one_if_most (in_range (next r) takes_slots.taken flight.slot) in omega (arith, one, once, most))

    found : flight_at flight.slot r.leader.flights ≡ Some flight
    found =
        let some = find_some (λ (f : Flight Command). eqb f.slot flight.slot) r.leader.flights one_flight in
        some.1 ∙ ap Some (only_flight flight.slot r.leader.flights some.0 flight only_one some.1 a refl)

    -- it is asked for again
    flight_asked : (mails : List Mail) → IsAsked base r.me r.leader.ballot (asked_again r (next r) r.sets mails) flight
    flight_asked mails node n =
        elim (cases_Bool (has_counted flight.slot node r.leader)) [
          | inl t ↦ inl (ap (λ (o : Option (Flight Command)). is_member (voters_at o) node) (sym found) ∙ t)
          | inr f ↦ (
              let open_ = in_open in
              let out : Among node (uncounted r flight.slot base.core.members) = Among-filter (λ x. not (has_counted flight.slot x r.leader)) base.core.members node n (ap not f) in
              let flies : flying r flight.slot ≡ Some flight.value = ap (option_map (λ (f : Flight Command). f.value)) found in
              let sent = again_asks r base.core.members slots_ahead (next r) flight.slot node flight.value mails open_.0 open_.1 flies out in
              inr (
                flight.value,
                subst (λ (l : List (List ℕ)). Among (mail_of r.me node (Accept base.core.id r.leader.ballot flight.slot flight.value)) (asked_again r (next r) l mails)) (sym fixed.sets)
                    (subst (λ (core : Core). Among (mail_of r.me node (Accept core.id r.leader.ballot flight.slot flight.value)) (asked_again r (next r) (replicate slots_ahead base.core.members) mails)) fixed.group sent),
              ))
        ]

    -- an idle replica has nothing in flight
    not_idle : is_idle r ≡ true → ⊥
    not_idle t =
        let open_ = in_open in
        let one = one_flight in
        let many = ap length fixed.sets in
        let some = some_way r slots_ahead (next r) flight.slot open_.0 open_.1 (takes r flight.slot (omega (arith, one))) in
        let none = eqb-true (length (under_way r)) 0 t in
        let same : length (under_way r) ≡ length (taken_from r (numbers_from (next r) slots_ahead)) = ap (λ n. length (taken_from r (numbers_from (next r) n))) many in
        omega (arith, some, none, same)

  -- where each that is not counted is asked, the pump is tried
  asked_pumps : r.running ≡ true → (mails : List Mail) → ((flight : Flight Command) → Among flight r.leader.flights → IsAsked base r.me r.leader.ballot mails flight) → HasTicked (pumped (r, mails))
  asked_pumps on mails asked =
      let served : HasServed base r.me r.leader.ballot None_ (pumped (r, mails)) = pump_serves base r.me r.leader.ballot None_ free stands member takes_slots.taken (r, mails) takes_slots.executed (record {
        running = on;
        me_is = refl;
        ballot_is = refl;
        core = fixed.group;
        sets = fixed.sets;
        acts = fixed.acts;
        backlog = fixed.backlog;
        flights = Each-from (IsUnderWay base r.me r.leader.ballot None_ mails) r.leader.flights (λ flight a. record {
          value = Each-among (λ (x : Flight Command). IsFixedCommand base x.value) r.leader.flights flight fixed.flights a;
          undecided = Each-among (IsUndecided base) r.leader.flights flight takes_slots.undecided a;
          from = inr (asked flight a);
        });
        ready = fixed.ready;
        reports = fixed.reports;
        slots = takes_slots.slots;
        room = takes_slots.room;
      }) in
      let place : Place = pumped (r, mails) in
      record {
        takes = served_takes base r.me r.leader.ballot None_ place served;
        asked = λ low. Each-weaker (IsUnderWay base r.me r.leader.ballot None_ place.1) (IsAsked base place.0.me place.0.leader.ballot place.1)
            (λ flight u. elim (u.from) [
              | inl no_ ↦ absurd no_
              | inr one ↦ subst (λ me. IsAsked base me place.0.leader.ballot place.1 flight) (sym served.serves.me_is) (subst (λ b. IsAsked base r.me b place.1 flight) (sym served.serves.ballot_is) one)
            ]) place.0.leader.flights served.serves.flights;
      }

  -- a settled replica's tick
  again_ticks : r.running ≡ true → (drawer : Drawer) (mails : List Mail) → ((flight : Flight Command) → Among flight r.leader.flights → IsAsked base r.me r.leader.ballot mails flight) → HasTicked (pumped (wishing false drawer (reminded (r, mails))))
  unfolding wishing reminded
  again_ticks on drawer mails asked =
      quiet_lock (λ (place : Place). HasTicked (pumped (wishing false drawer place))) r.group.core.lock r mails (ap (λ (core : Core). core.lock) fixed.group ∙ free) (asked_pumps on mails asked)

  -- an election
  elects : settled r ≡ false → (mails : List Mail) → HasTicked (elected (r, mails))
  unfolding elected
  elects off mails =
      cond_both (eqb r.top.round (2 ^ 32 - 1)) (r, mails) _ HasTicked
      (λ t. record { takes = takes_slots; asked = λ low. absurd (low (eqb-true r.top.round (2 ^ 32 - 1) t)) })
      (λ _. record {
        takes = empty_takes base (record r { top = record { round = r.top.round + 1; node = r.me }; hint = Some r.me; running = true; leader = new_leader (record { round = r.top.round + 1; node = r.me }) (next r); ready = []; waits = 0 }) refl refl
            (λ t. absurd (true≢false (sym t ∙ and_right (not (below (record { round = r.top.round + 1; node = r.me }) r.acceptor.promised)) (is_majority (first_set r.sets) []) (none_decided (first_set r.sets)))));
        asked = λ low. tt;
      })

  -- a tick
  pub tick_takes : (drawer : Drawer) (mails : List Mail) → HasTicked (tick_row false drawer (r, mails))
  unfolding tick_row
  tick_takes drawer mails =
      let here : (is_some r.group.core.gone || not (is_member (members r) r.me)) ≡ false =
      ap (λ (core : Core). is_some core.gone || not (is_member core.members r.me)) fixed.group ∙ ap (λ (o : Option Route). is_some o || not (is_member base.core.members r.me)) stands ∙ ap not member in
      subst HasTicked (sym (cond-false (is_some r.group.core.gone || not (is_member (members r) r.me)) (r, mails) _ here))
      (cond_both (not (settled r)) (elected (r, mails)) _ HasTicked (λ off. elects (so_not (settled r) off) mails)
      (λ f. (
      let on : r.running ≡ true = (and_parts r.running (may_offer r (first_set r.sets)) (not_so (settled r) f)).0 in
      cond_both (is_idle r) _ _ HasTicked
      (λ t. again_ticks on drawer (last_entry_sent (entry_at (next r - 1) r.log) r mails) (λ flight a. absurd (not_idle flight a t)))
      (λ _. again_ticks on drawer (asked_again r (next r) r.sets mails) (λ flight a. flight_asked flight a mails)))))
