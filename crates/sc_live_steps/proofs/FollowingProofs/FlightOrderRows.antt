-- What a leader has in flight and ready stays one command at a slot, and acts alone, by each of its rows.
use Rattle.std.proofs.Common.{◌≡◌, ℕ, ◌+◌, ◌<◌, ◌≤◌, eqb, Bool, true, false, true≢false, cond, List, [], ◌∷◌, ◌++◌, Option, Some, None, inl, inr, refl, sym, ◌∙◌, ap, subst, arith, append-nil}
use Rattle.std.specs.Prelude.{is_some}
use Rattle.std.specs.Option.{option_map}
use Rattle.std.proofs.lemmas.Bool.{cases_lt, or_left}
use Rattle.std.proofs.lemmas.List.Folds.{list_any-append}
use Rattle.sc_node_table.specs.Values.{Ballot, Command, Mail, Flight}
use Rattle.sc_base.specs.Definitions.{is_member}
use Rattle.sc_words.specs.paxos.PaxosDefinitions.{LeaderState, flight_at, promise_counted}
use Rattle.sc_node_table.specs.NodeDefinitions.{executed_one, next_child, next_ready, ending, executed_ready, executed, pumped, ReplicaState, Place, Executed, childless, next, either, taken_at, flying, mailed, at_slot, leads, promise_row}
use Rattle.sc_law_walks.specs.WalkDefinitions.{IfThere}
use Rattle.sc_law_walks.proofs.WalkLemmas.{idle_ready, idle_pump}
use Rattle.sc_live_steps.specs.following.FollowingDefinitions.{Course, Progress, Sets, IsLed, IsNext, IsOn, LeadsPast, AreNext, LeadsBy, IsLeadOf, ActsAlone, MayOffer, AreApart, HasBallot, IsOrderly, OrderIsKept}
use Rattle.sc_live_steps.proofs.FollowingProofs.QueueingRows.{aside_is, order_is}
use Rattle.sc_live_steps.proofs.FollowingProofs.CountedEntries.{entries_lead}
use Rattle.sc_live_steps.proofs.FollowingProofs.ExecutedEntries.{on_leads, on_next, on_ready, ready_of, ready_leads}
use Rattle.sc_live_steps.proofs.FollowingProofs.FlightSlots.{flight_out}
use Rattle.sc_live_steps.proofs.FollowingProofs.FlightOrder.{apart_without, IsBounded, pump_orderly}
use Rattle.sc_live_steps.proofs.FollowingProofs.TakenVotes.{vote_row}

-- ---- where it leads

-- nothing is taken behind the open slots
led_bounded : (at : Sets) (course : Course) (r : ReplicaState) → MayOffer at course r → IsBounded r
led_bounded at course r m slot past = m.free slot (let high = m.high in omega (arith, past, high))

orderly_alone : (at : Sets) (course : Course) (r : ReplicaState) → IsLed at course r → IsOrderly r → ActsAlone course r
orderly_alone at course r led o slot command from there act =
    let taken : taken_at r slot ≡ Some command = elim there [
      | inl f ↦ ap (λ x. either x (at_slot r.ready slot)) f
      | inr s ↦ ap (λ (x : Option (Flight Command)). either (option_map (λ (f : Flight Command). f.value) x) (at_slot r.ready slot)) (o.single slot from (ap is_some s)) ∙ s
    ] in
    let within : slot < course.bound = elim (cases_lt slot course.bound) [ inl lt ↦ lt | inr ge ↦ absurd (true≢false (sym (ap is_some taken) ∙ ap is_some (led.may.free slot ge))) ] in
    let first : next r ≡ slot = o.alone slot (next r) command from taken act (omega arith) (led.may.taken (next r) (omega arith) (omega (arith, from, within))) in
    elim (cases_lt (next r + 1) course.bound) [
      | inl lt ↦ (let second : next r + 1 ≡ slot = o.alone slot (next r + 1) command from taken act (omega arith) (led.may.taken (next r + 1) (omega arith) lt) in absurd (omega (arith, first, second)))
      | inr ge ↦ omega (arith, first, within, ge)
    ]

-- ---- an entry

module _ (at : Sets) (course : Course) (command : Command) (place : Place) (led : IsLed at course place.0) (ready : at_slot place.0.ready (next place.0) ≡ Some command) (is_next : IsNext at command place.0) (o : IsOrderly place.0) where
  abbrev mid : Place
  mid = executed_one true command place

  past : LeadsPast at course command place mid
  past = entries_lead at course command place led is_next

  on_orderly : IsOn command place.0 mid.0 → IsOrderly mid.0
  on_orderly on = record {
    apart = subst (λ (q : ReplicaState). AreApart q.leader.flights) (sym on.fact) (apart_without (next place.0) place.0.leader.flights o.apart);
    single = λ s from some. flights_same s (ne s from) ∙ o.single s (above s from) (ap is_some (sym (on_ready command place.0 mid.0 on s (ne s from))) ∙ some);
    alone = λ s other c from e act from_other some. o.alone s other c (above s from) (sym (same s (ne s from)) ∙ e) act (above other from_other) (ap is_some (sym (same other (ne other from_other))) ∙ some);
    plain = ap (λ (q : ReplicaState). q.leader.reports) on.fact ∙ o.plain;
    asked = λ s from some. subst HasBallot (sym on.fact) (o.asked s (above s from) (ap is_some (sym (same s (ne s from))) ∙ some));
  }
    where
      above : (s : ℕ) → next mid.0 ≤ s → next place.0 ≤ s
      above s from = (let up = on_next command place.0 mid.0 on in omega (arith, from, up))

      ne : (s : ℕ) → next mid.0 ≤ s → s ≡ next place.0 → ⊥
      ne s from fact = (let up = on_next command place.0 mid.0 on in omega (arith, from, up, fact))

      flights_same : (s : ℕ) → (s ≡ next place.0 → ⊥) → flight_at s mid.0.leader.flights ≡ flight_at s place.0.leader.flights
      flights_same s apart = ap (λ (q : ReplicaState). flight_at s q.leader.flights) on.fact ∙ flight_out (next place.0) s place.0.leader.flights apart

      same : (s : ℕ) → (s ≡ next place.0 → ⊥) → taken_at mid.0 s ≡ taken_at place.0 s
      same s apart =
          ap (λ (x : Option (Flight Command)). either (option_map (λ (f : Flight Command). f.value) x) (at_slot mid.0.ready s)) (flights_same s apart)
          ∙ ap (λ x. either (flying place.0 s) x) (on_ready command place.0 mid.0 on s apart)

  -- where it runs still, its part is orderly
  abbrev Orderly : Place → Type 0
  Orderly p = p.0.running ≡ true → IsOrderly p.0

  step_orderly : (es : List (ℕ × Command)) → AreNext at es mid → (IsLed at course mid.0 → IsOrderly mid.0 → Orderly (executed_ready es mid).0) → Orderly (pumped (executed_ready es mid).0)
  step_orderly es are rest = elim (past.state) [
    | inl on ↦ (let b : LeadsBy at course mid (executed_ready es mid).0 = ready_leads at course es mid (on_leads at course command place.0 led ready is_next mid.0 on) are in
        elim (b.state) [
          | inl still ↦ λ _. pump_orderly (executed_ready es mid).0.0 (executed_ready es mid).0.1 (rest (on_leads at course command place.0 led ready is_next mid.0 on) (on_orderly on) still.led.running) (led_bounded at _ (executed_ready es mid).0.0 still.led.may)
          | inr stopped ↦ λ goes. absurd (true≢false (sym goes ∙ (ap (λ (p : Place). p.0.running) (idle_pump (executed_ready es mid).0 stopped.0.running) ∙ stopped.0.running)))
        ])
    | inr off ↦ (let still : mid.0.running ≡ false = ap (λ (q : ReplicaState). q.running) off.fact in
        subst (λ (s : Executed). Orderly (pumped s.0)) (sym (idle_ready es mid still)) (subst Orderly (sym (idle_pump mid still)) (λ goes. absurd (true≢false (sym goes ∙ still)))))
  ]

ready_orderly : (at : Sets) (course : Course) (es : List (ℕ × Command)) (place : Place) → IsLed at course place.0 → AreNext at es place → IsOrderly place.0 → (executed_ready es place).0.0.running ≡ true → IsOrderly (executed_ready es place).0.0
unfolding executed_ready
ready_orderly at course [] place led are o = λ goes. o
ready_orderly at course (e ∷ es) place led are o = by (next_ready place.0) refl are (λ q l a p. ready_orderly at course es q l a p)
  where
    Goes : Executed → Type 0
    Goes s = s.0.0.running ≡ true → IsOrderly s.0.0

    by : (x : Option Command) → next_ready place.0 ≡ x → IfThere (λ command. IsNext at command place.0 × AreNext at es (executed_one true command place)) (Unit {0}) x
        → ((q : Place) → IsLed at course q.0 → AreNext at es q → IsOrderly q.0 → Goes (executed_ready es q))
        → Goes (elim x [ None ↦ childless place | Some command ↦ ending (next_child command place.0) (executed_ready es (executed_one true command place)) ])
    by None i one more = λ goes. o
    by (Some command) i one more = step_orderly at course command place led (ready_of command place.0 i) one.0 o es one.1 (λ l p. more (executed_one true command place) l one.1 p)

executed_orderly : (at : Sets) (course : Course) (command : Command) (place : Place) → IsLed at course place.0 → at_slot place.0.ready (next place.0) ≡ Some command → IsNext at command place.0
    → AreNext at (executed_one true command place).0.ready (executed_one true command place) → IsOrderly place.0 → (executed true command place).0.0.running ≡ true → IsOrderly (executed true command place).0.0
unfolding executed
executed_orderly at course command place led ready is_next are o =
    let then : Place = executed_one true command place in
    step_orderly at course command place led ready is_next o then.0.ready are (λ l p. ready_orderly at course then.0.ready then l are p)

-- ---- rows

-- a promise without reports
promise_orderly : (at : Sets) (now : Progress) (from : ℕ) (ballot : Ballot) (r : ReplicaState) → IsLeadOf at now r → IsOrderly r → IsOrderly (promise_row from ballot [] (r, [])).0
unfolding promise_row
promise_orderly at now from ballot r was o = by (leads ballot r)
  where
    m : MayOffer at now.course r
    m = was.led.may

    counted : (b : Bool) → IsOrderly (pumped (record r { leader = (cond {A = Bool × LeaderState Command} b (true, record r.leader { promisers = r.leader.promisers ++ from ∷ []; reports = r.leader.reports ++ [] }) (false, r.leader)).1 }, [])).0
    counted true = pump_orderly _ [] (record { apart = o.apart; single = o.single; alone = o.alone; plain = append-nil r.leader.reports ∙ o.plain; asked = λ s from_ some. elim (o.asked s from_ some) [ inl f ↦ inl f | inr w ↦ inr (w.0, list_any-append (λ x. eqb x w.0) r.leader.promisers (from ∷ []) ∙ or_left (is_member r.leader.promisers w.0) (is_member (from ∷ []) w.0) w.1) ] }) (led_bounded at now.course r m)
    counted false = pump_orderly r [] o (led_bounded at now.course r m)

    by : (b : Bool) → IsOrderly (cond b (pumped (record r { leader = (promise_counted from ballot [] r.leader).1 }, [])) (r, [])).0
    by true = counted _
    by false = o

module _ (at : Sets) (now : Progress) (r : ReplicaState) (was : IsLeadOf at now r) (o : IsOrderly r) where
  abbrev Kept : Place → Type 0
  Kept p = IsOrderly p.0

  quiet : (top : Ballot) (acts backlog : List Command) (more : List Mail) → Kept (record r { top = top; acts = acts; backlog = backlog }, more)
  quiet top acts backlog more = record { apart = o.apart; single = o.single; alone = o.alone; plain = o.plain; asked = o.asked }

  offers : (acts backlog : List Command) → Kept (pumped (record r { acts = acts; backlog = backlog }, []))
  offers acts backlog = pump_orderly (record r { acts = acts; backlog = backlog }) [] (record { apart = o.apart; single = o.single; alone = o.alone; plain = o.plain; asked = o.asked }) (led_bounded at now.course r was.led.may)

-- What a leader has in flight and ready stays one command at a slot, and anything but a call or a filler alone, by each of its rows after which it leads on, where promises have no reports.
pub order_is_kept : OrderIsKept
unfolding mailed
order_is_kept = record {
  alone = orderly_alone;
  votes = λ at now from ballot slot r rosters was decides o.
      vote_row at now from ballot slot r rosters was decides (λ e. e.0.0.running ≡ true → IsOrderly e.0.0) (λ mid c keeps goes. keeps o)
      (λ command mid c ready entries before keeps. executed_orderly at now.course command (mid, []) c.led ready entries.0 entries.1 (keeps o));
  promises = λ at now from ballot r was o. promise_orderly at now from ballot r was o;
  asides = λ at now from body r was aside o. aside_is (λ p. IsOrderly p.0) r was.led.running (λ top acts backlog more none. quiet at now r was o top acts backlog more) (offers at now r was o) from body aside;
  orders = λ at now on drawer line r was o. order_is (λ p. IsOrderly p.0) r was.led.running (λ top acts backlog more none. quiet at now r was o top acts backlog more) (offers at now r was o) on drawer line;
}
