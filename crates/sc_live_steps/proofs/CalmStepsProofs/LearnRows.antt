-- The row of a Learn at a replica that does not run: the entry, and the pump where it is elected by it.
use Rattle.std.proofs.Common.{◌≡◌, ℕ, ◌+◌, ◌-◌, ◌^◌, ◌≤◌, eqb, ltb, Bool, true, false, cond, List, [], ◌∷◌, Some, ◌⊎◌, inl, inr, refl, sym, ◌∙◌, ap, subst, arith}
use Rattle.std.proofs.lemmas.Bool.{ltb-true, eqb-true}
use Rattle.sc_node_table.specs.Values.{Command, Mail, Ask, Report}
use Rattle.sc_words.specs.declared.paxos.answers.Must.TheVariants.{Free as Open}
use Rattle.sc_words.specs.paxos.PaxosDefinitions.{LeaderState, must}
use Rattle.sc_node_table.specs.NodeDefinitions.{elected, looked, executed_one, executed_ready, all_ready, executed, sent, pumped, ReplicaState, Place, Executed, childless, name_of, next, last_slot, learn_row}
use Rattle.sc_law_walks.proofs.WalkLemmas.{idle_ready, idle_pump, either_way}
use Rattle.sc_live_steps.specs.calm.CalmDefinitions.{AreNines, Follows, Ways, place_owes}
use Rattle.sc_live_steps.proofs.ExecutionParts.{looks_from}
use Rattle.sc_live_steps.proofs.CalmStepsProofs.PumpPotential.{pump_owes}
use Rattle.sc_live_steps.proofs.CalmStepsProofs.LearntPotential.{learnt_ends, learnt_owes}

-- one that does not run, or was just elected
abbrev pub IsFresh : Place → Type 0
IsFresh place = (place.0.running ≡ false) ⊎ ((place.0.ready ≡ []) × (place.0.leader.reports ≡ []) × AreNines place.0.sets)

elected_fresh : (r : ReplicaState) (mails : List Mail) → r.running ≡ false → AreNines r.sets → IsFresh (elected (r, mails))
unfolding elected
elected_fresh r mails stopped few = either_way IsFresh (eqb r.top.round (2 ^ 32 - 1)) (r, mails) _ (inl stopped) (inr (refl, refl, few))

pub looked_fresh : (r : ReplicaState) (mails : List Mail) → r.running ≡ false → AreNines r.sets → IsFresh (looked (r, mails))
looked_fresh r mails stopped few = looks_from IsFresh r mails (λ hint. inl stopped) (elected_fresh (record r { hint = Some r.me }) mails stopped few)

-- ---- what follows the entry

ready_none : (es : List (ℕ × Command)) (place : Place) → es ≡ [] → executed_ready es place ≡ childless place
unfolding executed_ready
ready_none [] place e = refl
ready_none (x ∷ es) place e = cc

pub unbound_new : (leader : LeaderState Command) → leader.reports ≡ [] → (slot : ℕ) → must slot leader ≡ Open
unbound_new leader none slot = ap (λ (reports : List (Report Command)). must slot (record leader { reports = reports })) none

module _ (ways : Ways) where
  fresh_owes : (place : Place) → IsFresh place → place_owes ways (pumped (all_ready place).0) ≤ place_owes ways place
  fresh_owes place (inl stopped) =
      let same = ap (λ (step : Executed). pumped step.0) (idle_ready place.0.ready place stopped) ∙ idle_pump place stopped in
      let owes = ap (place_owes ways) same in
      omega (arith, owes)
  fresh_owes place (inr new) =
      let same = ap (λ (step : Executed). place_owes ways (pumped step.0)) (ready_none place.0.ready place new.0) in
      let le = pump_owes ways place (λ slot at. unbound_new place.0.leader new.1 slot) new.2 in
      omega (arith, same, le)

  learnt_fresh : (command : Command) (place : Place) → Follows command place.0 → IsFresh (executed_one false command place)
  learnt_fresh command place f =
      learnt_ends ways IsFresh command place f.stopped f.flights (λ r mails learns. looked_fresh r mails learns.stopped (subst AreNines (sym learns.sets) f.few))

  entry_owes : (command : Command) (place : Place) → Follows command place.0 → place_owes ways (executed false command place).0 ≤ place_owes ways place
  unfolding executed
  entry_owes command place f =
      let one = learnt_owes ways command place f.stopped f.stands f.flights in
      let more = fresh_owes (executed_one false command place) (learnt_fresh command place f) in
      omega (arith, one, more)

  pub learn_lowers : (from slot : ℕ) (command : Command) (place : Place) → Follows command place.0 → slot ≤ next place.0 → place_owes ways (learn_row from slot command place).0 + 1 ≤ place_owes ways place + 1
  unfolding learn_row
  learn_lowers from slot command (r, mails) f low = by (ltb last_slot slot) (eqb slot (next r)) (ltb (next r) slot) refl (entry_owes command (r, mails) f)
    where
      by : (a b c : Bool) → ltb (next r) slot ≡ c → place_owes ways (executed false command (r, mails)).0 ≤ place_owes ways (r, mails) →
          place_owes ways (cond {A = Executed} a (childless (r, mails)) (cond b (executed false command (r, mails)) (cond c (childless (r, sent r.me from (Ask (name_of r) (next r)) mails)) (childless (r, mails))))).0 + 1 ≤ place_owes ways (r, mails) + 1
      by true b c e le = omega arith
      by false true c e le = omega (arith, le)
      by false false false e le = omega arith
      by false false true e le = absurd (let above = ltb-true (next r) slot e in omega (arith, above, low))

  -- one of a slot that is executed changes nothing
  pub old_lowers : (from slot : ℕ) (command : Command) (place : Place) → slot + 1 ≤ next place.0 → place_owes ways (learn_row from slot command place).0 + 1 ≤ place_owes ways place + 1
  unfolding learn_row
  old_lowers from slot command (r, mails) old = by (ltb last_slot slot) (eqb slot (next r)) (ltb (next r) slot) refl refl
    where
      by : (a b c : Bool) → eqb slot (next r) ≡ b → ltb (next r) slot ≡ c →
          place_owes ways (cond {A = Executed} a (childless (r, mails)) (cond b (executed false command (r, mails)) (cond c (childless (r, sent r.me from (Ask (name_of r) (next r)) mails)) (childless (r, mails))))).0 + 1 ≤ place_owes ways (r, mails) + 1
      by true b c same later = omega arith
      by false true c same later = absurd (let fact = eqb-true slot (next r) same in omega (arith, fact, old))
      by false false false same later = omega arith
      by false false true same later = absurd (let above = ltb-true (next r) slot later in omega (arith, above, old))
