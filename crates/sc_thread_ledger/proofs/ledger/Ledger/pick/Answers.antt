use Rattle.std.proofs.Common.{◌∙◌, length, ap, arith}
use Rattle.sc_actor.specs.Definitions.{numbers}
use Rattle.sc_thread_ledger.specs.LedgerDefinitions.{counts_for, copies_in}
use Rattle.sc_thread_ledger.proofs.Holding.{held, queue_all}
use Rattle.sc_thread_ledger.proofs.OneCopy.{picked_at}
use Rattle.sc_thread_ledger.proofs.ledger.Ledger.pick.Goals as goal

pub returns-then-actors-self-clause-spot : goal.returns-then-actors-self-clause-spot
returns-then-actors-self-clause-spot g c = let s = c.args.self.now in
    let h = held s.queues c.in-Some.queues s.actors s.crashed.items s.receivers.items s.counts.items c.in-Some.is s.queued in
    picked_at c.as_slice-receivers.result.now s.receivers.items (copies_in c.in-Some.queues.all.items) (numbers (counts_for c.args.actors s.crashed.items 0) 1 s.receivers.items s.counts.items) c.args.whos.now c.args.word c.picked.result
    c.as_slice-receivers.ensures.value (queue_all c.in-Some.queues s.actors s.crashed.items s.receivers.items s.counts.items h c.args.actors c.if-actors-self.true) c.picked.ensures.spot

pub returns-clause-spot : goal.returns-clause-spot
returns-clause-spot g c = let s = c.args.self.now in
    picked_at c.as_slice-receivers.result.now s.receivers.items c.as_slice.result.now (numbers (counts_for c.args.actors s.crashed.items 0) 1 s.receivers.items s.counts.items) c.args.whos.now c.args.word c.picked_of.result
    c.as_slice-receivers.ensures.value (c.as_slice.ensures.value ∙ c.in_ok-numbers.ensures) c.picked_of.ensures

pub returns-then-actors-self-clause-queued : goal.returns-then-actors-self-clause-queued
returns-then-actors-self-clause-queued g c = let s = c.args.self.now in
    λ some same few.
    (let h = held s.queues c.in-Some.queues s.actors s.crashed.items s.receivers.items s.counts.items c.in-Some.is s.queued in
    let all = ap length (queue_all c.in-Some.queues s.actors s.crashed.items s.receivers.items s.counts.items h c.args.actors c.if-actors-self.true) in
    c.picked.ensures.fits (omega (arith, all, few)))
