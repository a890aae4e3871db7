-- Rows of an Install at one that does not run, and of a mail that sends a coordinator elsewhere.
use Rattle.std.proofs.Common.{◌≡◌, ℕ, ◌+◌, ◌≤◌, ◌||◌, not, Bool, true, false, cond, List, length, sum_by, Option, Some, None, refl, ◌∙◌, ap, arith}
use Rattle.std.specs.Prelude.{nat_lt, ◌==◌}
use Rattle.sc_node_table.specs.Values.{Draw, Body, Base, Lock, Free, Coordinating, Promised, Watching, Heard, Mail}
use Rattle.sc_base.proofs.Lemmas.{draw_is}
use Rattle.sc_base.specs.Definitions.{same_draw, is_member}
use Rattle.sc_node_table.specs.NodeDefinitions.{stopped, looked, jumped, question, asked_node, ReplicaState, Place, next, members, settled, last_slot, forgotten, looked_up, took_over, install_row, asked_next, elsewhere_row}
use Rattle.sc_live_steps.specs.calm.CalmDefinitions.{AsksAs, Ways, body_owes, asked_owes, mail_owes, replica_owes, idle_owes, election, place_owes}
use Rattle.sc_live_steps.proofs.CalmStepsProofs.PotentialSums.{sent_owes, idle_most}
use Rattle.sc_live_steps.proofs.CalmStepsProofs.LearntPotential.{looked_owes}

-- a state that is taken over leaves what waits
jumped_owes : (most slot : ℕ) (base : Base) (sets : List (List ℕ)) (r : ReplicaState) → (replica_owes most (jumped slot base sets r) ≡ replica_owes most r) × ((jumped slot base sets r).running ≡ r.running)
unfolding jumped forgotten
jumped_owes most slot base sets r = (refl, refl)

module _ (ways : Ways) where
  pub looks_up : (from : ℕ) (r : ReplicaState) (mails : List Mail) → r.running ≡ false → place_owes ways (looked_up from (r, mails)) ≤ replica_owes ways.most r + election + sum_by (mail_owes ways) mails
  unfolding looked_up
  looks_up from r mails off = by (is_member (members r) from) (looked_owes ways r mails off)
    where
      by : (b : Bool) → place_owes ways (looked (r, mails)) ≤ replica_owes ways.most r + election + sum_by (mail_owes ways) mails →
          place_owes ways (cond {A = Place} b (record r { hint = Some from }, mails) (looked (r, mails))) ≤ replica_owes ways.most r + election + sum_by (mail_owes ways) mails
      by true le = let low = idle_most r.running r.group.core.gone in omega (arith, low)
      by false le = le

  takes_over : (from slot : ℕ) (base : Base) (sets : List (List ℕ)) (r : ReplicaState) (mails : List Mail) → r.running ≡ false → place_owes ways (took_over from slot base sets (r, mails)) ≤ replica_owes ways.most r + election + sum_by (mail_owes ways) mails
  unfolding took_over
  takes_over from slot base sets r mails off =
      let place1 : Place = cond r.running (stopped (Some from) (r, mails)) (r, mails) in
      let same : place1 ≡ (r, mails) = ap (λ b. cond {A = Place} b (stopped (Some from) (r, mails)) (r, mails)) off in
      let whole = ap (λ (p : Place). place_owes ways (looked_up from (jumped slot base sets p.0, p.1))) same in
      let j = jumped_owes ways.most slot base sets r in
      let le = looks_up from (jumped slot base sets r) mails (j.1 ∙ off) in
      let owes = j.0 in
      omega (arith, whole, le, owes)

  pub install_lowers : (from slot : ℕ) (base : Base) (sets : List (List ℕ)) (place : Place) → place.0.running ≡ false → place.0.group.core.gone ≡ None → place_owes ways (install_row from slot base sets place) + 1 ≤ place_owes ways place + 1
  unfolding install_row
  install_lowers from slot base sets (r, mails) off stands = by (not (length sets == length r.sets) || (nat_lt last_slot slot || nat_lt slot (next r))) (takes_over from slot base sets r mails off)
    where
      by : (b : Bool) → place_owes ways (took_over from slot base sets (r, mails)) ≤ replica_owes ways.most r + election + sum_by (mail_owes ways) mails →
          place_owes ways (cond {A = Place} b (r, mails) (took_over from slot base sets (r, mails))) + 1 ≤ place_owes ways (r, mails) + 1
      by true le = omega arith
      by false le =
          let idle : idle_owes r.running r.group.core.gone ≡ election = ap (λ b. idle_owes b r.group.core.gone) off ∙ ap (idle_owes false) stands in
          omega (arith, le, idle)

  -- ---- asked again

  asks_again : (lock : Lock) (r : ReplicaState) (from : ℕ) (tx : Draw) (node : ℕ) (mails : List Mail) → ((body : Body) (heard : Option Heard) → (order : ℕ) → lock ≡ Coordinating tx body order heard → body_owes ways node (question r.me r.group.core tx body heard) ≤ asked_owes ways node (ways.asked_group tx))
      → ((locked : Draw) (body : Body) (order : ℕ) (heard : Option Heard) → lock ≡ Coordinating locked body order heard → same_draw locked tx ≡ true → locked ≡ tx)
      → sum_by (mail_owes ways) (asked_next lock r.me r.group.core from tx (Some node) mails) ≤ sum_by (mail_owes ways) mails + asked_owes ways node (ways.asked_group tx)
  asks_again Free r from tx node mails asks name = omega arith
  asks_again (Promised locked offer) r from tx node mails asks name = omega arith
  asks_again (Watching locked watch) r from tx node mails asks name = omega arith
  asks_again (Coordinating locked body order heard) r from tx node mails asks name = by (same_draw locked tx) refl
    where
      by : (b : Bool) → same_draw locked tx ≡ b → sum_by (mail_owes ways) (cond b (asked_node r.me r.group.core tx body heard node mails) mails) ≤ sum_by (mail_owes ways) mails + asked_owes ways node (ways.asked_group tx)
      by false e = omega arith
      by true e =
          let s = sent_owes ways r.me node (question r.me r.group.core tx body heard) mails in
          let le = asks body heard order (ap (λ (x : Draw). Coordinating x body order heard) (name locked body order heard refl e)) in
          omega (arith, s, le)

  pub elsewhere_lowers : (from : ℕ) (tx : Draw) (node : ℕ) (place : Place) → AsksAs ways tx node place.0 → place_owes ways (elsewhere_row from tx (Some node) place) + 1 ≤ place_owes ways place + (1 + asked_owes ways node (ways.asked_group tx))
  unfolding elsewhere_row
  elsewhere_lowers from tx node (r, mails) asks = by (settled r) (asks_again r.group.core.lock r from tx node mails (λ body heard order fact. asks body heard order fact) (λ locked body order heard fact same. draw_is locked tx same))
    where
      by : (b : Bool) → sum_by (mail_owes ways) (asked_next r.group.core.lock r.me r.group.core from tx (Some node) mails) ≤ sum_by (mail_owes ways) mails + asked_owes ways node (ways.asked_group tx) →
          place_owes ways (cond {A = Place} b (r, asked_next r.group.core.lock r.me r.group.core from tx (Some node) mails) (r, mails)) + 1 ≤ place_owes ways (r, mails) + (1 + asked_owes ways node (ways.asked_group tx))
      by true le = omega (arith, le)
      by false le = omega arith
