use Rattle.crossbeam_queue.specs.Passes.{view, ruled_capacity}
use Rattle.sc_thread_work.proofs.QueueProofs.KeptQueueRule.{puts, rooms, no_room}
use Rattle.sc_thread_work.proofs.queue.hands.put.Goals as goal

pub push_as-requires-clause-rule : goal.push_as-requires-clause-rule
push_as-requires-clause-rule g c = (puts _ _ _ _ c.requires.puts c.requires.next, rooms _ _)

pub unreachable-requires : goal.unreachable-requires
unreachable-requires g c = no_room (view c.args.pass.now) (ruled_capacity c.args.bench.now) c.args.place c.requires.puts c.requires.next c.requires.room c.in-Err.ensures.rule.2
