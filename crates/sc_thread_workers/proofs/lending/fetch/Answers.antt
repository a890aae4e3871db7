use Rattle.sc_thread_workers.proofs.lending.fetch.Goals as goal

pub collect-requires-clause-leaves : goal.collect-requires-clause-leaves
collect-requires-clause-leaves g c = λ x y r. r.met
