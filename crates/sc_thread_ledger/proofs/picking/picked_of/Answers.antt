use Rattle.std.proofs.Common.{◌∙◌, refl, ap}
use Rattle.sc_thread_ledger.specs.LedgerDefinitions.{copies_in}
use Rattle.sc_thread_ledger.proofs.OneCopy.{picked_at}
use Rattle.sc_thread_ledger.proofs.picking.picked_of.Goals as goal

pub returns : goal.returns
returns c =
    picked_at c.args.receivers.now c.args.receivers.now (copies_in c.as_slice.result.now) c.args.numbers.now c.args.whos.now c.args.word c.picked.result
    refl (ap copies_in c.as_slice.ensures.value ∙ c.in_ok-copies.ensures) c.picked.ensures.spot
