use Rattle.std.proofs.Common.{◌-◌, ◌++◌, ◌∷◌, [], arith}
use Rattle.sc_thread_ledger.proofs.Entries.{changed_one}
use Rattle.sc_thread_ledger.proofs.queues.Queues.add_copy.Goals as goal

pub returns-clause-each : goal.returns-clause-each
returns-clause-each c =
    changed_one (λ m. m.items) c.add_last-2.result (λ es. es ++ (c.args.number, 1) ∷ []) c.args.self.now.each.items (c.args.receiver - 1) c.index_mut-own.result.now c.add_last-2.new.copies [] (omega arith) c.index_mut-own.ensures.value c.add_last-2.ensures
