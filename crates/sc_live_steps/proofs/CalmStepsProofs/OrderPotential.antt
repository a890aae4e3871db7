-- An order raises what is owed by at most so much.
use Rattle.std.proofs.Common.{ℕ, ◌+◌, ◌*◌, ◌≤◌, List, Option, Some, None, arith}
use Rattle.std.proofs.lemmas.List.Sums.{sum_by_push}
use Rattle.sc_base.specs.Definitions.{Drawer, next_name}
use Rattle.sc_node_table.specs.Values.{Draw, Command, Order, OrderLine, OrderRefusal, Refused, Mail, Told}
use Rattle.sc_words.specs.declared.commands.orders.Order.TheVariants as An
use Rattle.sc_node_table.specs.NodeDefinitions.{ordered_command, untaken, queued_or_refused, ordered_row, with_order_queued, ReplicaState, Place}
use Rattle.sc_live_steps.specs.calm.CalmDefinitions.{MayPump, Ways, command_owes, place_owes}
use Rattle.sc_live_steps.proofs.CalmStepsProofs.PotentialSums.{sent_owes}
use Rattle.sc_live_steps.proofs.CalmStepsProofs.PumpPotential.{pump_owes}

order_most : (most : ℕ) (name : Draw) (number : ℕ) (order : Order) → command_owes most (ordered_command name number order) ≤ 242 + 4 * most
order_most most name number (An.Join node group) = omega arith
order_most most name number _ = omega arith

module _ (ways : Ways) where
  taken : (o : Option OrderRefusal) (number : ℕ) (command : Command) (r : ReplicaState) (mails : List Mail) → MayPump r → place_owes ways (queued_or_refused o number command (r, mails)) ≤ place_owes ways (r, mails) + command_owes ways.most command
  taken (Some why) number command r mails may = let s = sent_owes ways r.me 0 (Told number (Refused why)) mails in omega (arith, s)
  taken None number command r mails may =
      let le = pump_owes ways (with_order_queued command r, mails) may.unbound may.few in
      let s = sum_by_push (command_owes ways.most) r.backlog command in
      omega (arith, le, s)

  pub order_raises : (drawer : Drawer) (line : OrderLine) (place : Place) → MayPump place.0 → place_owes ways (ordered_row drawer line place) ≤ place_owes ways place + (242 + 4 * ways.most)
  unfolding ordered_row
  order_raises drawer line (r, mails) may =
      let le = taken (untaken drawer line r) line.number (ordered_command (next_name drawer) line.number line.order) r mails may in
      let most = order_most ways.most (next_name drawer) line.number line.order in
      omega (arith, le, most)
