-- A replica of whose group another leads or is gone: what it learns lowers what is owed but for what its group owes.
use Rattle.std.proofs.Common.{◌≡◌, ℕ, ◌+◌, ◌-◌, ◌^◌, ◌≤◌, eqb, ltb, Bool, true, false, true≢false, cond, List, [], Some, refl, ◌∙◌, ap, arith}
use Rattle.std.proofs.lemmas.Bool.{ltb-true}
use Rattle.sc_node_table.specs.Values.{Command, Mail, Ask}
use Rattle.sc_node_table.specs.NodeDefinitions.{elected, looked, executed_one, executed, sent, pumped, ReplicaState, Place, Executed, childless, name_of, next, last_slot, learn_row, mailed}
use Rattle.sc_live_steps.specs.calm.CalmDefinitions.{led_owes, StaysBehind, LearnsLed, LedLearnsLower, Ways}
use Rattle.sc_law_walks.proofs.WalkLemmas.{idle_ready, idle_pump, either_way}
use Rattle.sc_live_steps.proofs.ExecutionParts.{looks_from}
use Rattle.sc_live_steps.proofs.CalmStepsProofs.LearntPotential.{learnt_ends}

module _ (ways : Ways) where
  -- ---- one that looks for a leader and does not lead

  elected_led : (r : ReplicaState) (mails : List Mail) → (elected (r, mails)).0.running ≡ false → led_owes ways (elected (r, mails)) ≤ led_owes ways (r, mails)
  unfolding elected
  elected_led r mails = either_way (λ (p : Place). p.0.running ≡ false → led_owes ways p ≤ led_owes ways (r, mails)) (eqb r.top.round (2 ^ 32 - 1)) (r, mails) _ (λ off. omega arith) (λ off. absurd (true≢false off))

  pub looked_led : (r : ReplicaState) (mails : List Mail) → (looked (r, mails)).0.running ≡ false → led_owes ways (looked (r, mails)) ≤ led_owes ways (r, mails)
  looked_led r mails = looks_from (λ (p : Place). p.0.running ≡ false → led_owes ways p ≤ led_owes ways (r, mails)) r mails (λ hint off. omega arith) (elected_led (record r { hint = Some r.me }) mails)

  -- ---- the entry

  entry_led : (command : Command) (r : ReplicaState) → r.running ≡ false → r.leader.flights ≡ [] → StaysBehind command r → led_owes ways (executed_one false command (r, [])) ≤ led_owes ways (r, [])
  entry_led command r off none =
      learnt_ends ways (λ p. p.0.running ≡ false → led_owes ways p ≤ led_owes ways (r, [])) command (r, []) off none
      (λ q more learns behind.
      let le = looked_led q more behind in
      let low = learns.owes in
      let sent = learns.sent in
      omega (arith, le, low, sent))

  executed_led : (command : Command) (r : ReplicaState) → r.running ≡ false → r.leader.flights ≡ [] → StaysBehind command r → led_owes ways (executed false command (r, [])).0 ≤ led_owes ways (r, [])
  unfolding executed
  executed_led command r off none behind =
      let place = executed_one false command (r, []) in
      let same = ap (λ (step : Executed). pumped step.0) (idle_ready place.0.ready place behind) ∙ idle_pump place behind in
      let owes = ap (led_owes ways) same in
      let le = entry_led command r off none behind in
      omega (arith, owes, le)

  learn_led : (from slot : ℕ) (command : Command) (r : ReplicaState) → LearnsLed slot command r → led_owes ways (learn_row from slot command (r, [])).0 + 1 ≤ led_owes ways (r, []) + 1
  unfolding learn_row
  learn_led from slot command r fact = by (ltb last_slot slot) (eqb slot (next r)) (ltb (next r) slot) refl (executed_led command r fact.stopped fact.flights fact.behind)
    where
      by : (a b c : Bool) → ltb (next r) slot ≡ c → led_owes ways (executed false command (r, [])).0 ≤ led_owes ways (r, []) →
          led_owes ways (cond {A = Executed} a (childless (r, [])) (cond b (executed false command (r, [])) (cond c (childless (r, sent r.me from (Ask (name_of r) (next r)) [])) (childless (r, []))))).0 + 1 ≤ led_owes ways (r, []) + 1
      by true b c e le = omega arith
      by false true c e le = omega (arith, le)
      by false false false e le = omega arith
      by false false true e le = absurd (let above = ltb-true (next r) slot e in let low = fact.low in omega (arith, above, low))

-- A replica that learns an entry and does not lead by it owes less by itself, whatever its group owes: also where its group is gone by the entry.
pub led_learns : LedLearnsLower
unfolding mailed
led_learns = λ ways from group slot command r fact. learn_led ways from slot command r fact
