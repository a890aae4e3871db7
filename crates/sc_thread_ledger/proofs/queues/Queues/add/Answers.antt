use Rattle.std.proofs.Common.{rules, ◌≡◌, true, false}
use Rattle.sc_thread_ledger.specs.LedgerDefinitions.{runs}
use Rattle.sc_thread_ledger.proofs.Holding.{holds_new_not, add_done}
use Rattle.sc_thread_ledger.proofs.queues.Queues.add.Goals as goal

pub returns-then-not-runs : goal.returns-then-not-runs
returns-then-not-runs c =
    let gone : runs c.args.actors c.args.crashed.now c.args.receiver ≡ false = search rules in
    λ rs cs h same is. holds_new_not c.args.actors c.args.crashed.now c.args.self.now rs cs h c.args.receiver same gone

pub returns : goal.returns
returns c =
    let ok : runs c.args.actors c.args.crashed.now c.args.receiver ≡ true = search rules in
    add_done c.args.actors c.args.crashed.now c.args.self.now c.add_copy.new.self c.add_copy.result c.args.number c.args.receiver ok c.add_copy.ensures.all c.add_copy.ensures.each
