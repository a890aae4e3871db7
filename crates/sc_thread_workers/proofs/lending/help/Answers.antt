use Rattle.sc_thread_workers.proofs.lending.help.Goals as goal

pub help_all-requires-clause-leaves : goal.help_all-requires-clause-leaves
help_all-requires-clause-leaves g c κs within = λ x y r. r.met
