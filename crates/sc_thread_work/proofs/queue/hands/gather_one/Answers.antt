use Rattle.sc_thread_work.proofs.QueueProofs.KeptQueueRule.{merges, gathers_more}
use Rattle.crossbeam_queue.specs.Passes.{view}
use Rattle.sc_thread_work.proofs.queue.hands.gather_one.Goals as goal

pub absorb-requires-clause-rule : goal.absorb-requires-clause-rule
absorb-requires-clause-rule g c = merges _ _ _ _ c.requires.part

pub returns-clause-more : goal.returns-clause-more
returns-clause-more g c = λ parts passes put a.
    gathers_more g.F.Fn c.args.f.now parts passes put (view c.args.pass.now) (view c.args.done.pass) (view c.absorb.new.pass) c.args.kept.now.items c.args.done.kept.items c.append.new.self.items a c.requires.done.1 c.absorb.ensures.rule c.in_ok-append.ensures.items
