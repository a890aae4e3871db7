use Rattle.sc_thread_workers.proofs.lending.run_turns.Goals as goal

pub returns : goal.returns
returns g c = record { len = c.turns_of.ensures.len; took = c.turns_of.ensures.took }
