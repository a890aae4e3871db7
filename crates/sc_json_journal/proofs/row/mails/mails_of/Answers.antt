use Rattle.std.proofs.Common.{◌∙◌}
use Rattle.sc_json_text.specs.rows.Mails.{mail_json, FitsMail}
use Rattle.sc_json_read.proofs.Arrays.{all_seen, item_at, one_more, seen_more, values_full}
use Rattle.sc_json_read.proofs.Finding.{failed_as}
use Rattle.sc_json_journal.proofs.row.mails.mails_of.Goals as goal

pub returns-in_err-mail-clause-finds : goal.returns-in_err-mail-clause-finds
returns-in_err-mail-clause-finds c mails fits same =
    let at = item_at mail_json FitsMail c.args.list.now mails c.loop-json.json-index c.json-item.result c.loop-json-test.true c.json-item.is fits same in
    failed_as c.from_residual.result (λ found. found.items) mails c.in_err-mail.field-0.0 c.from_residual.ensures (c.in_err-mail.ensures.finds at.0 at.1.0 at.1.1)

pub loop-json-preserved : goal.loop-json-preserved
loop-json-preserved c = (
  (λ mails fits same. let at = item_at mail_json FitsMail c.args.list.now mails c.loop-json.json-index c.json-item.result c.loop-json-test.true c.json-item.is fits same in one_more mails c.loop-json.json-index c.in_ok-mail.mail at.0 c.loop-json.mails.items c.push.new.self.items (c.loop-json.invariant.0 mails fits same) c.in_ok-push.ensures.items (c.in_ok-mail.ensures.finds at.0 at.1.0 at.1.1) at.1.2),
  seen_more mail_json c.args.list.now c.loop-json.json-index c.json-item.result c.in_ok-mail.mail c.loop-json.mails.items c.push.new.self.items c.loop-json-test.true c.json-item.is c.in_ok-mail.ensures.exact c.in_ok-push.ensures.items c.loop-json.invariant.1,
)

pub returns-clause-finds : goal.returns-clause-finds
returns-clause-finds c mails fits same = c.loop-json.invariant.0 mails fits same ∙ values_full mail_json c.args.list.now mails c.loop-json.json-index c.loop-json-test.false same

pub returns-clause-exact : goal.returns-clause-exact
returns-clause-exact c = all_seen mail_json c.args.list.now c.loop-json.mails.items c.loop-json.json-index c.loop-json-test.false c.loop-json.invariant.1
