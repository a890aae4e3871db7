use Rattle.std.proofs.Common.{◌∙◌}
use Rattle.sc_node_parts.proofs.ReplicaProofs.SlotMaps.{put-with_slot}
use Rattle.sc_node_parts.proofs.replica.ready.put_ready.Goals as goal

pub returns : goal.returns
returns c = c.in_ok-_old.ensures.entries ∙ put-with_slot c.args.ready.now.entries c.args.slot c.args.command
