-- A leader stops by what is offered alone, and so has executed all that it offered.
use Rattle.std.proofs.Common.{◌≡◌, ℕ, ◌+◌, ◌≤◌, true, false, true≢false, List, [], ◌∷◌, Option, Some, None, inl, inr, refl, sym, ◌∙◌, ap, subst, arith}
use Rattle.sc_node_table.specs.Values.{Command, Noop, Call, Core}
use Rattle.sc_group_table.specs.machine.MachineDefinitions.{applied}
use Rattle.sc_base.specs.Definitions.{is_member}
use Rattle.sc_node_table.specs.NodeDefinitions.{entered, executed_one, next_child, next_ready, ending, executed_ready, executed, is_act, pumped, ReplicaState, Place, Executed, childless, next, forgotten, mailed, at_slot}
use Rattle.sc_law_walks.specs.WalkDefinitions.{IfThere}
use Rattle.sc_law_walks.proofs.WalkLemmas.{entered_next, idle_ready, idle_pump}
use Rattle.sc_live_steps.specs.following.FollowingDefinitions.{Course, Sets, IsLed, IsNext, IsOn, IsOff, LeadsPast, AreNext, LeadsBy, StopsAlone, ActsStopAlone}
use Rattle.sc_live_steps.proofs.FollowingProofs.CountedEntries.{entries_lead}
use Rattle.sc_live_steps.proofs.FollowingProofs.ExecutedEntries.{on_leads, on_next, on_ready, ready_of, ready_leads}
use Rattle.sc_live_steps.proofs.FollowingProofs.LeaderTables.{none_taken}
use Rattle.sc_live_steps.proofs.FollowingProofs.Offers.{pumps_offer}
use Rattle.sc_live_steps.proofs.FollowingProofs.TakenVotes.{vote_row}
pub use Rattle.sc_law_walks.proofs.CoreWalks.{noted_core as note_core, served_core, called_core}

-- ---- calls and fillers leave a group's core as it is

pub entered_core : (command : Command) (r : ReplicaState) → (entered command r).group.core ≡ (applied r.group command).0.core
unfolding entered forgotten
entered_core command r = refl

-- so one that stops after an entry stops by an act
module _ (at : Sets) (course : Course) (r after : ReplicaState) (led : IsLed at course r) where
  same_goes_on : (command : Command) → (applied r.group command).0.core ≡ r.group.core → IsOff command r after → ⊥
  same_goes_on command same off = elim (off.over) [
    | inl went ↦ (let bad : None ≡ Some went.0 = sym led.stands ∙ (ap (λ (c : Core). c.gone) (sym core) ∙ went.1) in cc)
    | inr left ↦ true≢false (sym led.member ∙ (ap (λ (c : Core). is_member c.members r.me) (sym core) ∙ left.1))
  ]
    where
      core : (entered command r).group.core ≡ r.group.core
      core = entered_core command r ∙ same

  off_acts : (command : Command) → IsOff command r after → is_act command ≡ true
  off_acts Noop off = absurd (same_goes_on Noop refl off)
  off_acts (Call client seq op) off = absurd (same_goes_on (Call client seq op) (called_core r.group.core.gone r.group.core.lock r.group client seq op) off)
  off_acts _ off = refl

-- ---- what is executed at once

-- an act that is ready is all that is in flight or ready
abbrev pub ReadyAlone : Course → ReplicaState → Type 0
ReadyAlone course r = (slot : ℕ) (command : Command) → next r ≤ slot → at_slot r.ready slot ≡ Some command → is_act command ≡ true → course.bound ≡ next r + 1

pub alone_on : (at : Sets) (course : Course) (command : Command) (r after : ReplicaState) → IsLed at course r → IsOn command r after → ReadyAlone course r → ReadyAlone course after
alone_on at course command r after led on alone slot other least e act =
    let up = on_next command r after on in
    let old : at_slot r.ready slot ≡ Some other = sym (on_ready command r after on slot (λ fact. omega (arith, least, up, fact))) ∙ e in
    let bound = alone slot other (omega (arith, least, up)) old act in
    let none : None ≡ Some other = sym (none_taken r slot (led.may.free slot (omega (arith, bound, least, up)))).1 ∙ old in
    cc

module _ (at : Sets) (course : Course) (command : Command) (place : Place) (led : IsLed at course place.0) (ready : at_slot place.0.ready (next place.0) ≡ Some command) (is_next : IsNext at command place.0) (alone : ReadyAlone course place.0) where
  abbrev mid : Place
  mid = executed_one true command place

  past : LeadsPast at course command place mid
  past = entries_lead at course command place led is_next

  off_bound : IsOff command place.0 mid.0 → next mid.0 ≡ course.bound
  off_bound off = (let bound = alone (next place.0) command (omega arith) ready (off_acts at course place.0 mid.0 led command off) in
      let up : next mid.0 ≡ next place.0 + 1 = ap next off.fact ∙ entered_next command place.0 in
      omega (arith, bound, up))

  -- an entry, those that are ready behind it, and a pump
  step_alone : (es : List (ℕ × Command)) → AreNext at es mid → (IsLed at course mid.0 → ReadyAlone course mid.0 → StopsAlone course (executed_ready es mid).0.0) → StopsAlone course (pumped (executed_ready es mid).0).0
  step_alone es are rest = elim (past.state) [
    | inl on ↦ (let b : LeadsBy at course mid (executed_ready es mid).0 = ready_leads at course es mid (on_leads at course command place.0 led ready is_next mid.0 on) are in
        elim (b.state) [
          | inl still ↦ λ off. absurd (true≢false (sym (ap (λ (q : ReplicaState). q.running) (pumps_offer at _ (executed_ready es mid).0 still.led.may).fact ∙ still.led.running) ∙ off))
          | inr stopped ↦ subst (λ (p : Place). StopsAlone course p.0) (sym (idle_pump (executed_ready es mid).0 stopped.0.running)) (rest (on_leads at course command place.0 led ready is_next mid.0 on) (alone_on at course command place.0 mid.0 led on alone))
        ])
    | inr off ↦ (let still : mid.0.running ≡ false = ap (λ (q : ReplicaState). q.running) off.fact in
        subst (λ (s : Executed). StopsAlone course (pumped s.0).0) (sym (idle_ready es mid still)) (subst (λ (p : Place). StopsAlone course p.0) (sym (idle_pump mid still)) (λ _. off_bound off)))
  ]

ready_alone : (at : Sets) (course : Course) (es : List (ℕ × Command)) (place : Place) → IsLed at course place.0 → AreNext at es place → ReadyAlone course place.0 → StopsAlone course (executed_ready es place).0.0
unfolding executed_ready
ready_alone at course [] place led are alone = λ off. absurd (true≢false (sym led.running ∙ off))
ready_alone at course (e ∷ es) place led are alone = by (next_ready place.0) refl are (λ q l a o. ready_alone at course es q l a o)
  where
    Goes : Executed → Type 0
    Goes s = StopsAlone course s.0.0

    by : (o : Option Command) → next_ready place.0 ≡ o → IfThere (λ command. IsNext at command place.0 × AreNext at es (executed_one true command place)) (Unit {0}) o
        → ((q : Place) → IsLed at course q.0 → AreNext at es q → ReadyAlone course q.0 → StopsAlone course (executed_ready es q).0.0)
        → Goes (elim o [ None ↦ childless place | Some command ↦ ending (next_child command place.0) (executed_ready es (executed_one true command place)) ])
    by None i one more = λ off. absurd (true≢false (sym led.running ∙ off))
    by (Some command) i one more = step_alone at course command place led (ready_of command place.0 i) one.0 alone es one.1 (λ l o. more (executed_one true command place) l one.1 o)

executed_alone : (at : Sets) (course : Course) (command : Command) (place : Place) → IsLed at course place.0 → at_slot place.0.ready (next place.0) ≡ Some command → IsNext at command place.0
    → AreNext at (executed_one true command place).0.ready (executed_one true command place) → ReadyAlone course place.0 → StopsAlone course (executed true command place).0.0
unfolding executed
executed_alone at course command place led ready is_next are alone =
    let then : Place = executed_one true command place in
    step_alone at course command place led ready is_next alone then.0.ready are (λ l o. ready_alone at course then.0.ready then l are o)

-- ---- the whole

-- Where anything but a call or a filler is in flight or ready only alone, a leader that stops by a vote has executed all that it offered.
pub acts_stop_alone : ActsStopAlone
unfolding mailed
acts_stop_alone at now from ballot slot r rosters was decides alone =
    vote_row at now from ballot slot r rosters was decides (λ e. StopsAlone now.course e.0.0) (λ mid c keeps off. absurd (true≢false (sym c.led.running ∙ off)))
    (λ command mid c ready entries before keeps. executed_alone at now.course command (mid, []) c.led ready entries.0 entries.1
    (λ s other least e act. (let same = c.same_next in let bound = alone s other (omega (arith, least, same)) (before s other e) act in omega (arith, bound, same))))
