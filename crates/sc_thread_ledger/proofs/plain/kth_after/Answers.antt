use Rattle.std.proofs.Common.{take, map, arith, ap, ◌∙◌}
use Rattle.sc_actor.specs.Definitions.{mails, copies}
use Rattle.sc_thread_ledger.specs.LedgerDefinitions.{crashed_in}
use Rattle.sc_thread_ledger.proofs.MailPlaces.{take_row, take_whole, few_taken}
use Rattle.sc_thread_ledger.proofs.Kept.{small_taken, kept_counts, kept_receivers, kept_crashed}
use Rattle.sc_thread_ledger.proofs.Open.{kth_is}
use Rattle.sc_thread_ledger.proofs.plain.kth_after.Goals as goal

pub count_row-requires : goal.count_row-requires
count_row-requires g c =
    small_taken c.args.rows.now (take c.loop-row.row-index c.args.rows.now) c.loop-row.counts.items c.loop-row.invariant.0 (few_taken c.args.rows.now c.loop-row.row-index) c.requires.rows

pub loop-row-preserved : goal.loop-row-preserved
loop-row-preserved g c =
    let rows = c.args.rows.now in let i = c.loop-row.row-index in let row = c.row-item.result in let inv = c.loop-row.invariant in
    let is = take_row rows i row (omega arith) c.row-item.is in (
      kept_counts (take i rows) _ row is c.loop-row.counts.items _ inv.0 c.in_ok-count_row.ensures.counts,
      kept_receivers (take i rows) _ row is g.M.Parcel.receiver c.loop-row.receivers.items _ inv.1 c.in_ok-count_row.ensures.receivers,
      kept_crashed (take i rows) _ row is c.loop-row.crashed.items _ inv.2 c.in_ok-count_row.ensures.crashed,
    )

pub returns : goal.returns
returns g c =
    let whole = take_whole c.args.rows.now c.loop-row.row-index (omega arith) in let inv = c.loop-row.invariant in
    kth_is g.M.Parcel.receiver c.args.actors c.args.rows.now c.args.who c.args.k c.kth_open.result c.as_slice-3.result.now c.as_slice.result.now c.as_slice-2.result.now c.kth_open.ensures
    (c.as_slice-3.ensures.value ∙ (inv.2 ∙ ap crashed_in whole)) (c.as_slice.ensures.value ∙ (inv.1 ∙ ap (λ l. map g.M.Parcel.receiver (mails l)) whole)) (c.as_slice-2.ensures.value ∙ (inv.0 ∙ ap copies whole))
