use Rattle.std.proofs.Common.{◌+◌, ◌++◌, List, map, take, sym, ap, ◌∙◌, arith}
use Rattle.sc_meaning.specs.declared.entries.LogEntry.{LogEntry}
use Rattle.sc_mail.specs.declared.bodies.Mail.{Mail}
use Rattle.sc_meaning.specs.sound.Players.{as_nodes}
use Rattle.sc_meaning.specs.sound.GroupsOf.{entries_at, entries_by_row}
use Rattle.sc_meaning.proofs.SoundProofs.EntryRows.{entries-push}
use Rattle.sc_world_entries.proofs.DecidedProofs.OneMore.{adds_next, next_row, mails_next}
use Rattle.sc_world_entries.proofs.decided.entries.entries_of.Goals as goal

pub loop-i-preserved : goal.loop-i-preserved
loop-i-preserved c =
    let rows = c.args.rows.now in
    let i = c.loop-i.i in
    let row = c.index-rows-i.result in
    let next = next_row rows i row (omega (arith, c.loop-i-test.true)) c.index-rows-i.is in
    let adds = adds_next rows i row (map (λ mail. mail.now) c.as_slice-mails.result.now) c.in_ok-accepted.accepted next (ap (map (λ mail. mail.now)) c.as_slice-mails.ensures.value ∙ c.loop-i.invariant.sent) c.in_ok-accepted.ensures.accepted in
    let heard = c.in_ok-hear.ensures.heard (take i rows) (take (i + 1) rows) adds c.loop-i.invariant.heard in
    let done = c.in_ok-next.ensures.entries row next adds heard c.loop-i.invariant.groups in
    record {
      groups = done.0;
      heard = heard;
      entries =
          done.1 ∙ ap (λ (entries : List LogEntry). entries ++ entries_by_row as_nodes c.args.bases.now (take i rows) row) c.loop-i.invariant.entries
          ∙ sym (ap (entries_at as_nodes c.args.bases.now) next ∙ entries-push as_nodes c.args.bases.now (take i rows) row);
      sent = mails_next rows i row (map (λ mail. mail.now) c.loop-i.sent.items) (map (λ mail. mail.now) c.add_mails.new.sent.items) next c.loop-i.invariant.sent
          (c.in_ok-add_mails.ensures.sent ∙ ap (λ (ms : List Mail). map (λ mail. mail.now) c.loop-i.sent.items ++ ms) c.as_slice-more.ensures);
    }
