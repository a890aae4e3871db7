use Rattle.std.proofs.Common.{◌∙◌}
use Rattle.sc_node_parts.proofs.ReplicaProofs.SlotMaps.{removed-without_slot}
use Rattle.sc_node_parts.proofs.replica.ready.drop_ready.Goals as goal

pub returns : goal.returns
returns c = c.remove-old.ensures.entries ∙ removed-without_slot c.args.ready.now.entries c.args.slot
