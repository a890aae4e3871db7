use Rattle.std.proofs.Common.{◌∙◌}
use Rattle.sc_node_parts.proofs.ReplicaProofs.SlotMaps.{found-at_slot}
use Rattle.sc_node_parts.proofs.replica.ready.ready_at.Goals as goal

pub returns : goal.returns
returns c = c.get.ensures.value ∙ found-at_slot c.args.ready.now.entries c.args.slot
