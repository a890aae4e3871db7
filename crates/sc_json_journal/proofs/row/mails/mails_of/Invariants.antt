use Rattle.std.proofs.Common.{◌≡◌, List, map, take}
use Rattle.serde_json.specs.View.{view, items_view}
use Rattle.sc_base.specs.Among.{Each}
use Rattle.sc_mail.specs.declared.bodies.Mail.{Mail}
use Rattle.sc_json_text.specs.rows.Mails.{mail_json, FitsMail}
use Rattle.sc_json_text.specs.rows.Shapes.{items_json}
use Rattle.sc_json_journal.proofs.row.mails.mails_of.Given as goal

abbrev pub invariant-loop-json : goal.invariant-loop-json
invariant-loop-json l = ((mails : List Mail) → Each FitsMail mails → items_view l.list ≡ items_json mail_json mails → l.mails.items ≡ take l.json-index mails) × (map view (take l.json-index l.list) ≡ map mail_json l.mails.items)
