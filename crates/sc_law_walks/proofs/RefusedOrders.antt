-- An order that is not taken is refused, and nothing else.
use Rattle.std.proofs.Common.{◌≡◌, [], Option, Some, ap}
use Rattle.sc_base.specs.Definitions.{Drawer, next_name}
use Rattle.sc_node_table.specs.Values.{OrderLine, OrderRefusal, Refused}
use Rattle.sc_node_table.specs.NodeDefinitions.{ReplicaState, ordered_command, ordered_row, queued_or_refused, result_sent, untaken}

pub order_refused : (drawer : Drawer) (line : OrderLine) (r : ReplicaState) (why : OrderRefusal) → untaken drawer line r ≡ Some why → ordered_row drawer line (r, []) ≡ (r, result_sent r.me line.number (Refused why) [])
unfolding ordered_row
order_refused drawer line r why e = ap (λ (o : Option OrderRefusal). queued_or_refused o line.number (ordered_command (next_name drawer) line.number line.order) (r, [])) e
