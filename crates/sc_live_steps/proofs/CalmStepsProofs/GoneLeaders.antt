-- A leader whose group is gone after a counted entry: its waiting calls are sent on, each for no more than it owed.
use Rattle.std.proofs.Common.{◌≡◌, ℕ, ◌+◌, ◌*◌, ◌≤◌, true, false, cond, List, [], ◌∷◌, length, sum_by, Option, Some, None, refl, ◌∙◌, ap, arith}
use Rattle.std.proofs.lemmas.List.Sums.{sum_by-cons}
use Rattle.sc_base.specs.Definitions.{client_actor}
use Rattle.sc_node_table.specs.Values.{Draw, Command, Call, Route, Refused, Mail, Answer}
use Rattle.sc_words.specs.declared.commands.orders.OrderRefusal.TheVariants.{NotLeader}
use Rattle.sc_mail.specs.declared.bodies.AnswerBody.TheVariants as Says
use Rattle.sc_group_table.specs.machine.MachineDefinitions.{Group}
use Rattle.sc_node_table.specs.NodeDefinitions.{ended, entered, left_gone, left, looked_for, looked, executed_one, answered_all, dismissed, dismissed_all, order_number, order_reported, ReplicaState, Place, name_of, open_slots}
use Rattle.sc_live_steps.specs.calm.CalmDefinitions.{EndsAfter, ArePaid, said_place, newcomers, Ways, command_owes, offered_owes, mail_owes, idle_owes, place_owes}
use Rattle.sc_live_steps.proofs.CalmStepsProofs.PotentialSums.{sent_owes}
use Rattle.sc_live_steps.proofs.CalmStepsProofs.LearntPotential.{desk_owes}
use Rattle.sc_live_steps.proofs.CalmStepsProofs.CountedPotential.{counted_ends, taken_none}
use Rattle.sc_live_steps.proofs.CalmStepsProofs.StoppedReplicas.{idle_paid}

module _ (ways : Ways) where
  abbrev sum : List Mail → ℕ
  sum mails = sum_by (mail_owes ways) mails

  module _ (me : ℕ) (group : Draw) (hint : Option ℕ) (into : Route) where
    desk : (command : Command) (mails : List Mail) → dismissed me group hint (Says.Gone into) command mails ≡ order_reported me (order_number command) (Refused (NotLeader hint)) mails →
        sum (dismissed me group hint (Says.Gone into) command mails) ≤ sum mails + command_owes ways.most command
    desk command mails e =
        let d = desk_owes ways me (order_number command) (Refused (NotLeader hint)) mails in
        let s = ap sum e in
        omega (arith, d, s)

    dismissed_most : (command : Command) (mails : List Mail) → sum (dismissed me group hint (Says.Gone into) command mails) ≤ sum mails + command_owes ways.most command
    unfolding dismissed
    dismissed_most (Call client seq op) mails = let s = sent_owes ways me (client_actor client) (Answer group seq (Says.Gone into)) mails in omega (arith, s)
    dismissed_most command mails = desk command mails refl

    all_most : (backlog : List Command) (mails : List Mail) → sum (dismissed_all me group hint (Says.Gone into) backlog mails) ≤ sum mails + sum_by (command_owes ways.most) backlog
    unfolding dismissed_all
    all_most [] mails = omega arith
    all_most (command ∷ backlog) mails =
        let one = dismissed_most command mails in
        let more = all_most backlog (dismissed me group hint (Says.Gone into) command mails) in
        let s = sum_by-cons (command_owes ways.most) command backlog in
        omega (arith, one, more, s)

  -- ---- it ends

  ended_off : (into : Route) (r : ReplicaState) (mails : List Mail) → ((ended None (Says.Gone into) (r, mails)).0.running ≡ false) × ((ended None (Says.Gone into) (r, mails)).0.group ≡ r.group)
  unfolding ended
  ended_off into r mails = (refl, refl)

  ended_owes : (into : Route) (r : ReplicaState) (mails : List Mail) → r.group.core.gone ≡ Some into → r.leader.flights ≡ [] → r.ready ≡ [] → place_owes ways (ended None (Says.Gone into) (r, mails)) ≤ sum mails + sum_by (command_owes ways.most) r.backlog
  unfolding ended answered_all
  ended_owes into r mails gone f e =
      let none = taken_none r (open_slots r) f e in
      let same = ap (λ (commands : List Command). sum (dismissed_all r.me (name_of r) None (Says.Gone into) r.backlog (answered_all r.me (name_of r) (Says.Gone into) commands mails))) none in
      let le = all_most r.me (name_of r) None into r.backlog mails in
      let idle : idle_owes false r.group.core.gone ≡ 0 = ap (idle_owes false) gone in
      omega (arith, same, le, idle)

  pub looked_gone : (into : Route) (r : ReplicaState) (mails : List Mail) → r.running ≡ false → r.group.core.gone ≡ Some into → looked (r, mails) ≡ (r, mails)
  unfolding looked
  looked_gone into r mails off gone =
      ap (λ b. cond {A = Place} b (r, mails) (looked_for r.group.core.gone (r, mails))) off ∙ ap (λ (g : Option Route). looked_for g (r, mails)) gone

  left_ends : (into : Route) (r : ReplicaState) (mails : List Mail) → r.running ≡ true → r.group.core.gone ≡ Some into → left (r, mails) ≡ ended None (Says.Gone into) (r, mails)
  unfolding left
  left_ends into r mails runs gone =
      ap (λ b. cond b (left_gone r.group.core.gone (r, mails)) (r, mails)) runs ∙ ap (λ (g : Option Route). left_gone g (r, mails)) gone

  -- it looks for nobody then
  all_ends : (into : Route) (r : ReplicaState) (mails : List Mail) → r.running ≡ true → r.group.core.gone ≡ Some into → looked (left (r, mails)) ≡ ended None (Says.Gone into) (r, mails)
  all_ends into r mails runs gone =
      let place = ended None (Says.Gone into) (r, mails) in
      let off = ended_off into r mails in
      ap looked (left_ends into r mails runs gone) ∙ looked_gone into place.0 place.1 off.0 (ap (λ (g : Group). g.core.gone) off.1 ∙ gone)

  -- ---- the whole

  pub ending_owes : (command : Command) (place : Place) (said : ℕ) → EndsAfter command place.0 → (said_place command place).0 ≡ entered command place.0 → sum (said_place command place).1 ≤ sum place.1 + said
      → 8 + said + 3 * length (newcomers command place.0) ≤ offered_owes ways.most command → place_owes ways (executed_one true command place) ≤ place_owes ways place
  ending_owes command (r, mails) said ends state reported paid =
      counted_ends ways (λ p. place_owes ways p ≤ place_owes ways (r, mails)) command (r, mails) said ends.counting state reported
      (λ q more counts.
      let gone = ap (λ (g : Group). g.core.gone) counts.group_is ∙ ends.goes in
      let same = ap (place_owes ways) (all_ends ends.into q more counts.running gone) in
      let last = ended_owes ends.into q more gone (counts.flights ∙ ends.flights) (counts.ready ∙ ends.alone) in
      let low = counts.owes in
      let sent = counts.sent in
      omega (arith, same, last, low, sent, paid))

  pub ends_paid : (command : Command) (place : Place) (said : ℕ) → EndsAfter command place.0 → (said_place command place).0 ≡ entered command place.0 → sum (said_place command place).1 ≤ sum place.1 + said
      → ArePaid (executed_one true command place).0.ready (executed_one true command place)
  ends_paid command (r, mails) said ends state reported =
      counted_ends ways (λ p. ArePaid p.0.ready p) command (r, mails) said ends.counting state reported
      (λ q more counts.
      let gone = ap (λ (g : Group). g.core.gone) counts.group_is ∙ ends.goes in
      let end = looked (left (q, more)) in
      idle_paid end.0.ready end (ap (λ (p : Place). p.0.running) (all_ends ends.into q more counts.running gone) ∙ (ended_off ends.into q more).0))
