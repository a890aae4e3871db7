use Rattle.std.proofs.Common.{◌∙◌, length, ltb, count_by, arith, ap}
use Rattle.std.proofs.lemmas.Bool.{cond-true}
use Rattle.std.proofs.lemmas.List.{get_or_default}
use Rattle.std.specs.List.{insert}
use Rattle.std.specs.Result.{is_ok}
use Rattle.sc_paxos.proofs.Placing.{replaced, inserted}
use Rattle.sc_paxos.proofs.acceptor.put.Goals as goal
use Rattle.sc_paxos.proofs.acceptor.put.Goals.{else-at-len-via-then-at-len+else-index-report, else-at-len-via-else-at-len}

pub returns-then-index-report-clause-items : goal.returns-then-index-report-clause-items
returns-then-index-report-clause-items g c =
    let long = ap length c.as_slice.ensures.value in
    replaced c.args.report c.args.accepted.now.items c.count_below-at.result c.index.result.now c.requires.by_slot
    (c.count_below-at.ensures ∙ ap (count_by (λ r. ltb r.slot c.args.report.slot)) c.as_slice.ensures.value)
    (omega (arith, c.as_slice.ensures.len, c.len.ensures, c.if-at-len.true)) c.index.ensures c.if-index-report.true

pub returns-else-at-len-clause-items : goal.returns-else-at-len-clause-items
returns-else-at-len-clause-items g c =
    let long = ap length c.as_slice.ensures.value in
    c.insert.ensures.items
    ∙ cond-true (is_ok c.insert.result) (insert c.args.accepted.now.items c.count_below-at.result c.args.report) c.args.accepted.now.items (c.insert.ensures.succeeds c.requires.room)
    ∙ inserted c.args.report c.args.accepted.now.items c.count_below-at.result c.requires.by_slot
    (c.count_below-at.ensures ∙ ap (count_by (λ r. ltb r.slot c.args.report.slot)) c.as_slice.ensures.value)
    (λ d within same. elim c.else-at-len.branch [
      | else-at-len-via-then-at-len+else-index-report w ↦ w.if-index-report.false (ap (λ r. r.slot) (w.index.ensures ∙ get_or_default c.args.accepted.now.items c.count_below-at.result w.index.result.now d within) ∙ same)
      | else-at-len-via-else-at-len w ↦ absurd (omega (arith, c.as_slice.ensures.len, c.len.ensures, w.if-at-len.false))
    ])
