use Rattle.std.proofs.Common.{◌+◌, ◌++◌, List, map, take, drop, ap, ◌∙◌, arith}
use Rattle.sc_meaning.specs.declared.entries.LogEntry.{LogEntry}
use Rattle.sc_mail.specs.declared.bodies.Mail.{Mail}
use Rattle.sc_meaning.specs.sound.GroupsOf.{entries_by_row}
use Rattle.sc_meaning.specs.sound.Players.{as_nodes}
use Rattle.sc_world_entries.specs.decided.Deciding.{deciding_from}
use Rattle.sc_world_entries.specs.declared.decided.deciding.DecidingRow.{DecidingRow}
use Rattle.sc_world_entries.proofs.DecidedProofs.OneMore.{adds_next, next_row, mails_next}
use Rattle.sc_world_entries.proofs.DecidedProofs.RowByRow.{row_next, rows_end}
use Rattle.sc_world_entries.proofs.decided.deciding.deciding_rows.Goals as goal

pub loop-i-preserved : goal.loop-i-preserved
loop-i-preserved c =
    let rows = c.args.rows.now in
    let i = c.loop-i.i in
    let row = c.index-rows-i.result in
    let next = next_row rows i row (omega (arith, c.loop-i-test.true)) c.index-rows-i.is in
    let adds = adds_next rows i row (map (λ mail. mail.now) c.as_slice-mails.result.now) c.in_ok-accepted.accepted next (ap (map (λ mail. mail.now)) c.as_slice-mails.ensures.value ∙ c.loop-i.invariant.sent) c.in_ok-accepted.ensures.accepted in
    let heard = c.in_ok-hear.ensures.heard (take i rows) (take (i + 1) rows) adds c.loop-i.invariant.heard in
    let done = c.in_ok-next.ensures.entries row next adds heard c.loop-i.invariant.groups in
    record {
      groups = done.0;
      heard = heard;
      deciding =
          ap (λ (found : List DecidingRow). found ++ deciding_from as_nodes c.args.bases.now (take (i + 1) rows) (drop (i + 1) rows)) c.in_ok-add_row.ensures.deciding
          ∙ row_next c.args.bases.now rows i row c.loop-i.deciding.items c.after_row.new.entries.items (omega (arith, c.loop-i-test.true)) c.index-rows-i.is next
          (done.1 ∙ ap (λ (entries : List LogEntry). entries ++ entries_by_row as_nodes c.args.bases.now (take i rows) row) c.new-entries.ensures.items)
          ∙ c.loop-i.invariant.deciding;
      sent = mails_next rows i row (map (λ mail. mail.now) c.loop-i.sent.items) (map (λ mail. mail.now) c.add_mails.new.sent.items) next c.loop-i.invariant.sent
          (c.in_ok-add_mails.ensures.sent ∙ ap (λ (ms : List Mail). map (λ mail. mail.now) c.loop-i.sent.items ++ ms) c.as_slice-more.ensures);
    }

pub returns-clause-deciding : goal.returns-clause-deciding
returns-clause-deciding c = rows_end c.args.bases.now c.args.rows.now c.loop-i.i c.loop-i.deciding.items (omega (arith, c.loop-i-test.false)) c.loop-i.invariant.deciding
