-- A leader of a well led group may count a vote, while an order is under way.
use Rattle.std.proofs.Common.{◌≡◌, ℕ, ◌+◌, ◌≤◌, ◌&&◌, eqb, cond, true, true≢false, List, [], ◌∷◌, ◌++◌, length, Option, Some, None, inl, inr, refl, sym, ◌∙◌, ap, subst, arith}
use Rattle.std.specs.Prelude.{is_some, option_map}
use Rattle.std.proofs.lemmas.Bool.{eqb-true, eq-eqb, and_from, cases_lt, cond-true, lt-ltb}
use Rattle.sc_base.specs.Definitions.{Among, Each, IsRoster}
use Rattle.sc_node_table.specs.Values.{Base, Command, Flight, Seat}
use Rattle.sc_words.specs.paxos.PaxosDefinitions.{flight_at}
use Rattle.sc_words.proofs.PaxosProofs.PaxosLemmas.{find_found, Each-among}
use Rattle.sc_group_table.specs.machine.MachineDefinitions.{applied}
use Rattle.sc_node_table.specs.NodeDefinitions.{has_room, ReplicaState, next, last_slot, flying, either, listed, at_slot, slots_ahead}
use Rattle.sc_meaning.specs.sound.SoundDefinitions.{Player}
use Rattle.sc_live_steps.specs.calm.CalmDefinitions.{IsServedCall, MayCount, MayPump, Rows}
use Rattle.sc_live_steps.specs.following.FollowingDefinitions.{Course, Sets, SlotLeaders, IsLeadOf}
use Rattle.sc_live_journals.specs.rows.RowDefinitions.{view_at, progress_at}
use Rattle.sc_live_journals.specs.groups.GroupDefinitions.{Ends, IsWellLed, IsSlotKept}
use Rattle.sc_live_steps.specs.orders.OrderDefinitions.{Work, works, works_in, works_flying, works_ready, work_by, FliesLone, IsUnderWay}
use Rattle.sc_live_steps.proofs.OrderStepsProofs.OrderStepLemmas.{among-left, among-right}
use Rattle.sc_live_journals.specs.scenes.SceneDefinitions.{IsWork, WorksFlyLone, scene_at, LeadsAlone, ScenesDescribe}
use Rattle.sc_live_steps.specs.entries.StageEntries.{IsEntry, OrderEntriesCount}
use Rattle.sc_live_answers.proofs.LedMailProofs.FollowerRows.{nines_at}
use Rattle.sc_live_answers.specs.AnswerDefinitions.{WellLedLeadAlone, StagesLeaveOneWork, CountsEntries}

-- ---- lists

pub work_flies : (flights : List (Flight Command)) (flight : Flight Command) (work : Work) → Among flight flights → work_by flight.value ≡ Some work → Among work (works_flying flights)
work_flies [] flight work a e = absurd a
work_flies (other ∷ flights) flight work (inl fact) e = among-left work (listed (work_by other.value)) (works_flying flights) (subst (λ o. Among work (listed o)) (sym (ap (λ (f : Flight Command). work_by f.value) fact ∙ e)) (inl refl))
work_flies (other ∷ flights) flight work (inr more) e = among-right work (listed (work_by other.value)) (works_flying flights) (work_flies flights flight work more e)

pub only_work : (o : Option Work) (work : Work) → Among work (listed o) → listed o ≡ work ∷ []
only_work None work a = absurd a
only_work (Some x) work (inl fact) = ap (λ w. w ∷ []) fact
only_work (Some x) work (inr none) = absurd none

-- nothing flies from a slot on where nothing is taken
none_flies : (flights : List (Flight Command)) (from : ℕ) → Each (λ (flight : Flight Command). from ≤ flight.slot) flights → ((slot : ℕ) → from ≤ slot → flight_at slot flights ≡ None) → flights ≡ []
none_flies [] from low none = refl
none_flies (flight ∷ flights) from low none =
    let e : flight_at flight.slot (flight ∷ flights) ≡ Some flight = ap (λ b. cond b (Some flight) (flight_at flight.slot flights)) (eq-eqb flight.slot flight.slot refl) in
    let bad : None ≡ Some flight = sym (none flight.slot low.0) ∙ e in cc

none_ready : (ready : List (ℕ × Command)) (from : ℕ) → Each (λ (entry : ℕ × Command). from ≤ entry.0) ready → ((slot : ℕ) → from ≤ slot → at_slot ready slot ≡ None) → ready ≡ []
none_ready [] from low none = refl
none_ready (entry ∷ ready) from low none =
    let e : at_slot (entry ∷ ready) entry.0 ≡ Some entry.1 = ap (λ b. cond b (Some entry.1) (at_slot ready entry.0)) (eq-eqb entry.0 entry.0 refl) in
    let bad : None ≡ Some entry.1 = sym (none entry.0 low.0) ∙ e in cc

-- what is taken flies, or is ready
flies_or : (o p : Option Command) → is_some (either o p) ≡ true → p ≡ None → is_some o ≡ true
flies_or (Some c) p some none = refl
flies_or None p some none = absurd (true≢false (sym some ∙ ap is_some none))

neither_flies : (o p : Option Command) → either o p ≡ None → (o ≡ None) × (p ≡ None)
neither_flies (Some c) p e = cc
neither_flies None p e = (refl, e)

flight_there : (o : Option (Flight Command)) → is_some (option_map (λ (f : Flight Command). f.value) o) ≡ true → (flight : Flight Command) × (o ≡ Some flight)
flight_there (Some flight) e = (flight, refl)
flight_there None e = cc

no_value : (o : Option (Flight Command)) → option_map (λ (f : Flight Command). f.value) o ≡ None → o ≡ None
no_value None e = refl
no_value (Some flight) e = cc

-- ---- the leader

module _ (lone_fly : WorksFlyLone) (entries_count : OrderEntriesCount) (leave_one : StagesLeaveOneWork) (tell : ScenesDescribe) (lead_alone : WellLedLeadAlone) (at : Sets) (over : Ends) (by : SlotLeaders) (words : ℕ → ℕ → ℕ × ℕ) (births : List (Seat Player)) (rows : Rows) (base : Base) (course : Course)
    (led : IsWellLed at over by words births rows base course) (rosters : (slot : ℕ) → IsRoster (at slot)) (who : ℕ) (r : ReplicaState) (here : view_at births rows base.core.id who ≡ Some r) (runs : r.running ≡ true) (kept : IsSlotKept r) (room : next r + slots_ahead ≤ last_slot)
    (counts : CountsEntries r) (under : IsUnderWay (scene_at births rows)) where
  lead : IsLeadOf at (progress_at births rows base course) r
  lead = (led.followed.given.gives who r here runs).0

  alone : LeadsAlone births rows base.core.id who r
  alone = (lead_alone.alone at over by words births rows base course who r led here runs).0

  may : MayPump r
  may = record {
    unbound = (lead_alone.alone at over by words births rows base course who r led here runs).1;
    few = nines_at at rosters (next r) r.sets lead.led.may.sets;
  }

  nothing_next : at_slot r.ready (next r) ≡ None
  nothing_next =
      let long = lead.led.ahead in
      let roomy : has_room r ≡ true = lt-ltb (next r) (last_slot + length r.sets) (omega (arith, room, long)) in
      sym (cond-true (r.running && has_room r) (at_slot r.ready (next r)) None (and_from r.running (has_room r) runs roomy)) ∙ kept.1

  -- one flies at the next slot, alone
  one_flies : (flight : Flight Command) → flight_at (next r) r.leader.flights ≡ Some flight → (slot : ℕ) → MayCount slot r
  one_flies flight e slot =
      let f = find_found (λ (x : Flight Command). eqb x.slot (next r)) r.leader.flights flight e in
      let work : IsWork flight.value = Each-among (λ (x : Flight Command). IsWork x.value) r.leader.flights flight counts.alone.flights f.0 in
      let reported = tell.led births rows base.core.id who r alone in
      let one = leave_one (scene_at births rows) base.core.id under in
      let works_are : works r ≡ listed one.0 = sym reported.1.1 ∙ one.1 in
      let some : Among work.0 (works r) =
      among-right work.0 (works_in r.acts) (works_in r.backlog ++ (works_flying r.leader.flights ++ works_ready r.ready))
      (among-right work.0 (works_in r.backlog) (works_flying r.leader.flights ++ works_ready r.ready)
      (among-left work.0 (works_flying r.leader.flights) (works_ready r.ready) (work_flies r.leader.flights flight work.0 f.0 work.1))) in
      let only : works r ≡ work.0 ∷ [] = works_are ∙ only_work one.0 work.0 (subst (Among work.0) works_are some) in
      let flies : FliesLone flight r = lone_fly work.0 flight r runs may.unbound only counts.alone.flights counts.alone.ready f.0 (eqb-true flight.slot (next r) f.1) in
      let entry = Each-among (λ (x : Flight Command). IsEntry x.value r × (length (applied r.group x.value).0.core.members ≤ 9)) r.leader.flights flight counts.entries f.0 in
      entries_count slot flight r flies (counts.backlog (λ none. absurd (subst (Among flight) none f.0))) may lead.led.roster.most entry.1 lead.led.member lead.led.stands entry.0

  pub may_count : (slot : ℕ) → MayCount slot r
  may_count slot = elim (cases_lt (next r) course.bound) [
    | inl low ↦ (
        let taken = lead.led.may.taken (next r) (omega arith) low in
        let flight = flight_there (flight_at (next r) r.leader.flights) (flies_or (flying r (next r)) (at_slot r.ready (next r)) taken nothing_next) in
        one_flies flight.0 flight.1 slot)
    | inr high ↦ (
        let free = λ (s : ℕ) (low : next r ≤ s). neither_flies (flying r s) (at_slot r.ready s) (lead.led.may.free s (omega (arith, low, high))) in
        let flights : r.leader.flights ≡ [] = none_flies r.leader.flights (next r) kept.0.0.0 (λ s low. no_value (flight_at s r.leader.flights) (free s low).0) in
        let ready : r.ready ≡ [] = none_ready r.ready (next r) kept.0.1.0 (λ s low. (free s low).1) in
        inr (inl (record {
          running = runs;
          few = lead.led.roster.most;
          mine = lead.led.member;
          may = may;
          flights = subst (Each (λ (flight : Flight Command). IsServedCall r.group.core flight.value)) (sym flights) tt;
          ready = subst (Each (λ (entry : ℕ × Command). IsServedCall r.group.core entry.1)) (sym ready) tt;
        })))
  ]
