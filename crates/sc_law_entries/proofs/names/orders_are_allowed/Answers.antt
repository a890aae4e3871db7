use Rattle.sc_law_entries.proofs.NamesProofs.Ordered.{orders_are_allowed, wishes_are_allowed, orders_are_queued}
use Rattle.sc_law_entries.proofs.NamesProofs.Wished.{wishes_at_positions}
use Rattle.sc_law_entries.proofs.names.orders_are_allowed.Goals as goal

pub returns : goal.returns
returns c = record { allowed = orders_are_allowed; wishes = wishes_are_allowed; positions = wishes_at_positions; queued = orders_are_queued }
