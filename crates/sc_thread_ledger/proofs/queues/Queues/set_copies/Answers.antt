use Rattle.std.proofs.Common.{◌-◌, [], arith}
use Rattle.sc_thread_ledger.specs.LedgerDefinitions.{recounted}
use Rattle.sc_thread_ledger.proofs.Entries.{changed_one}
use Rattle.sc_thread_ledger.proofs.queues.Queues.set_copies.Goals as goal

pub returns-clause-each : goal.returns-clause-each
returns-clause-each c =
    changed_one (λ m. m.items) c.recount-2.result (λ es. recounted es c.args.number c.args.back c.args.count) c.args.self.now.each.items (c.args.receiver - 1) c.index_mut-own.result.now c.recount-2.new.copies [] (omega arith) c.index_mut-own.ensures.value c.recount-2.ensures
