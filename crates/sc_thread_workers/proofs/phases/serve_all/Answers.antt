use Rattle.sc_thread_workers.proofs.phases.serve_all.Goals as goal

pub returns-clause-each : goal.returns-clause-each
returns-clause-each g c = λ k d e lt. (c.in_ok-all.ensures.each k d e lt).met
