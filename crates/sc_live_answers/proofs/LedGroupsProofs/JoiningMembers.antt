-- By a vote a leader executes what adds a member alone, and keeps its ballot.
use Rattle.std.proofs.Common.{◌≡◌, ℕ, ◌+◌, ◌≤◌, true, false, true≢false, List, [], ◌∷◌, Option, Some, None, ◌⊎◌, inl, inr, refl, sym, ◌∙◌, ap, subst, arith}
use Rattle.std.proofs.lemmas.Bool.{cases_eq, cases_lt}
use Rattle.sc_node_table.specs.Values.{Ballot, Command, Noop, Call, Core, Route, Accepted}
use Rattle.sc_base.specs.Definitions.{IsRoster, is_member}
use Rattle.sc_node_table.specs.NodeDefinitions.{entered, executed_one, next_child, next_ready, ending, executed_ready, executed, is_act, pumped, ReplicaState, Place, Executed, childless, name_of, next, flying, mailed, at_slot}
use Rattle.sc_law_walks.specs.WalkDefinitions.{IfThere}
use Rattle.sc_law_walks.proofs.WalkLemmas.{entered_next, idle_ready, idle_pump}
use Rattle.sc_live_steps.specs.following.FollowingDefinitions.{Course, Progress, Sets, members_at, IsLed, IsNext, IsOn, IsOff, LeadsPast, AreNext, LeadsBy, IsLeadOf, DecidesNext, ActsAlone}
use Rattle.sc_live_steps.proofs.FollowingProofs.FollowingLemmas.{ReadyAlone, alone_on, on_leads, on_next, entries_lead, ready_of, ready_leads, slot_out, pumps_offer, vote_row, entered_core}
use Rattle.sc_live_answers.proofs.BallotsProofs.PrepareSlots.{MovesLast}
use Rattle.sc_live_answers.proofs.ReplicasProofs.Cores.{called_core}

-- ---- calls and fillers leave a group's core as it is

-- so what changes it is an act
pub acts_or_same : (command : Command) (r : ReplicaState) → (is_act command ≡ true) ⊎ ((entered command r).group.core ≡ r.group.core)
acts_or_same Noop r = inr (entered_core Noop r)
acts_or_same (Call client seq op) r = inr (entered_core (Call client seq op) r ∙ called_core r.group.core.gone r.group.core.lock r.group client seq op)
acts_or_same _ r = inl refl

-- ---- what is executed at once

-- an act is in flight or ready at a replica, from its next slot on
abbrev pub HasAct : ReplicaState → Type 0
HasAct r = (slot : ℕ) × (command : Command) × (next r ≤ slot) × ((flying r slot ≡ Some command) ⊎ (at_slot r.ready slot ≡ Some command)) × (is_act command ≡ true)

-- whatever act is ready says so
abbrev ReadyActs : Type 0 → ReplicaState → Type 0
ReadyActs X r = (slot : ℕ) (command : Command) → next r ≤ slot → at_slot r.ready slot ≡ Some command → is_act command ≡ true → X

-- members come and go by what is executed from a slot on by the last alone that is offered, the leader keeps its ballot, and it stops by an act alone
abbrev pub GoesFrom : Type 0 → Sets → Course → ℕ → ReplicaState → Type 0
GoesFrom X at course from after = MovesLast at course from (next after) × (after.leader.ballot ≡ course.ballot) × (after.running ≡ false → X)

-- one that stops by an entry does so by an act
stops_by : (at : Sets) (course : Course) (command : Command) (r after : ReplicaState) → IsLed at course r → IsOff command r after → is_act command ≡ true
stops_by at course command r after led off = elim (acts_or_same command r) [
  | inl act ↦ act
  | inr same ↦ elim (off.over) [
    | inl went ↦ absurd (let bad : None ≡ Some went.0 = sym led.stands ∙ (ap (λ (c : Core). c.gone) (sym same) ∙ went.1) in none_some went.0 bad)
    | inr left ↦ absurd (true≢false (sym led.member ∙ (ap (λ (c : Core). is_member c.members r.me) (sym same) ∙ left.1)))
  ]
]
  where
    none_some : (into : Route) → None ≡ Some into → ⊥
    none_some into e = cc

module _ (at : Sets) (course : Course) (command : Command) (place : Place) (led : IsLed at course place.0) (ready : at_slot place.0.ready (next place.0) ≡ Some command) (is_next : IsNext at command place.0) (alone : ReadyAlone course place.0) (X : Type 0) (acts : ReadyActs X place.0) where
  abbrev mid : Place
  mid = executed_one true command place

  past : LeadsPast at course command place mid
  past = entries_lead at course command place led is_next

  on_acts : IsOn command place.0 mid.0 → ReadyActs X mid.0
  on_acts on slot other least e act =
      let up = on_next command place.0 mid.0 on in
      acts slot other (omega (arith, least, up)) (sym (ap (λ (q : ReplicaState). at_slot q.ready slot) on.fact ∙ slot_out (next place.0) slot place.0.ready (λ fact. omega (arith, least, up, fact))) ∙ e) act

  -- by this entry members come and go if it is alone
  moves_alone : (course.bound ≤ next place.0 + 1) ⊎ (members_at at (next place.0 + 1) ≡ members_at at (next place.0))
  moves_alone = elim (acts_or_same command place.0) [
    | inl act ↦ (let bound = alone (next place.0) command (omega arith) ready act in inl (omega (arith, bound)))
    | inr same ↦ inr (is_next.fact ∙ (ap (λ (c : Core). c.members) same ∙ sym led.was))
  ]

  -- by this entry and those behind it members come and go by the last alone
  joins : (after : ReplicaState) → MovesLast at course (next place.0 + 1) (next after) → MovesLast at course (next place.0) (next after)
  joins after rest slot least most = elim (cases_eq slot (next place.0)) [
    | inl fact ↦ subst (λ s. (course.bound ≤ s + 1) ⊎ (members_at at (s + 1) ≡ members_at at s)) (sym fact) moves_alone
    | inr ne ↦ rest slot (past_it ne) most
  ]
    where
      past_it : (slot ≡ next place.0 → ⊥) → next place.0 + 1 ≤ slot
      past_it ne = elim (cases_lt (next place.0) slot) [ inl lt ↦ omega (arith, lt) | inr ge ↦ absurd (ne (omega (arith, least, ge))) ]

  -- the last one
  last_one : next mid.0 ≡ next place.0 + 1 → MovesLast at course (next place.0) (next mid.0)
  last_one up = joins mid.0 (λ slot least most. absurd (omega (arith, least, most, up)))

  ballot_off : IsOff command place.0 mid.0 → mid.0.leader.ballot ≡ course.ballot
  ballot_off off = ap (λ (q : ReplicaState). q.leader.ballot) off.fact ∙ led.may.ballot

  -- an entry, those that are ready behind it, and a pump
  step_goes : (es : List (ℕ × Command)) → AreNext at es mid → (IsLed at course mid.0 → ReadyAlone course mid.0 → ReadyActs X mid.0 → GoesFrom X at course (next mid.0) (executed_ready es mid).0.0)
      → GoesFrom X at course (next place.0) (pumped (executed_ready es mid).0).0
  step_goes es are rest = elim (past.state) [
    | inl on ↦ (let b : LeadsBy at course mid (executed_ready es mid).0 = ready_leads at course es mid (on_leads at course command place.0 led ready is_next mid.0 on) are in
        let up = on_next command place.0 mid.0 on in
        let goes = rest (on_leads at course command place.0 led ready is_next mid.0 on) (alone_on at course command place.0 mid.0 led on alone) (on_acts on) in
        let all : GoesFrom X at course (next place.0) (executed_ready es mid).0.0 = (joins (executed_ready es mid).0.0 (subst (λ n. MovesLast at course n (next (executed_ready es mid).0.0)) up goes.0), goes.1, goes.2) in
        elim (b.state) [
          | inl still ↦ subst (GoesFrom X at course (next place.0)) (sym (pumps_offer at _ (executed_ready es mid).0 still.led.may).fact) all
          | inr stopped ↦ subst (λ (p : Place). GoesFrom X at course (next place.0) p.0) (sym (idle_pump (executed_ready es mid).0 stopped.0.running)) all
        ])
    | inr off ↦ (let still : mid.0.running ≡ false = ap (λ (q : ReplicaState). q.running) off.fact in
        subst (λ (s : Executed). GoesFrom X at course (next place.0) (pumped s.0).0) (sym (idle_ready es mid still)) (subst (λ (p : Place). GoesFrom X at course (next place.0) p.0) (sym (idle_pump mid still))
        (last_one (ap next off.fact ∙ entered_next command place.0), ballot_off off, λ _. acts (next place.0) command (omega arith) ready (stops_by at course command place.0 mid.0 led off))))
  ]

ready_goes : (X : Type 0) (at : Sets) (course : Course) (es : List (ℕ × Command)) (place : Place) → IsLed at course place.0 → AreNext at es place → ReadyAlone course place.0 → ReadyActs X place.0 → GoesFrom X at course (next place.0) (executed_ready es place).0.0
unfolding executed_ready
ready_goes X at course [] place led are alone acts = (λ slot least most. absurd (omega (arith, least, most)), led.may.ballot, λ off. absurd (true≢false (sym led.running ∙ off)))
ready_goes X at course (e ∷ es) place led are alone acts = by (next_ready place.0) refl are (λ q l a o x. ready_goes X at course es q l a o x)
  where
    Goes : Executed → Type 0
    Goes s = GoesFrom X at course (next place.0) s.0.0

    by : (o : Option Command) → next_ready place.0 ≡ o → IfThere (λ command. IsNext at command place.0 × AreNext at es (executed_one true command place)) (Unit {0}) o
        → ((q : Place) → IsLed at course q.0 → AreNext at es q → ReadyAlone course q.0 → ReadyActs X q.0 → GoesFrom X at course (next q.0) (executed_ready es q).0.0)
        → Goes (elim o [ None ↦ childless place | Some command ↦ ending (next_child command place.0) (executed_ready es (executed_one true command place)) ])
    by None i one more = (λ slot least most. absurd (omega (arith, least, most)), led.may.ballot, λ off. absurd (true≢false (sym led.running ∙ off)))
    by (Some command) i one more = step_goes at course command place led (ready_of command place.0 i) one.0 alone X acts es one.1 (λ l o x. more (executed_one true command place) l one.1 o x)

executed_goes : (X : Type 0) (at : Sets) (course : Course) (command : Command) (place : Place) → IsLed at course place.0 → at_slot place.0.ready (next place.0) ≡ Some command → IsNext at command place.0
    → AreNext at (executed_one true command place).0.ready (executed_one true command place) → ReadyAlone course place.0 → ReadyActs X place.0 → GoesFrom X at course (next place.0) (executed true command place).0.0
unfolding executed
executed_goes X at course command place led ready is_next are alone acts =
    let then : Place = executed_one true command place in
    step_goes at course command place led ready is_next alone X acts then.0.ready are (λ l o x. ready_goes X at course then.0.ready then l are o x)

pub votes_go : (at : Sets) (now : Progress) (from : ℕ) (ballot : Ballot) (slot : ℕ) (r : ReplicaState) → ((s : ℕ) → IsRoster (at s)) → IsLeadOf at now r → DecidesNext at from ballot slot r → ActsAlone now.course r
    → GoesFrom (HasAct r) at now.course (next r) (mailed from (Accepted (name_of r) ballot slot) (r, [])).0.0
unfolding mailed
votes_go at now from ballot slot r rosters was decides alone =
    vote_row at now from ballot slot r rosters was decides (λ e. GoesFrom (HasAct r) at now.course (next r) e.0.0)
    (λ mid c keeps. (λ s least most. (let same = c.same_next in absurd (omega (arith, least, most, same))), c.led.may.ballot, λ off. absurd (true≢false (sym c.led.running ∙ off))))
    (λ command mid c ready entries before keeps. subst (λ n. GoesFrom (HasAct r) at now.course n (executed true command (mid, [])).0.0) c.same_next
    (executed_goes (HasAct r) at now.course command (mid, []) c.led ready entries.0 entries.1
    (λ s other least e act. (let same = c.same_next in let bound = alone s other (omega (arith, least, same)) (before s other e) act in omega (arith, bound, same)))
    (λ s other least e act. (let same = c.same_next in (s, other, omega (arith, least, same), before s other e, act)))))
