-- Reports, and the promises that have them, at the beginning of a text.
use Rattle.std.proofs.Common.{◌≡◌, ℕ, List, ◌++◌, codes, refl, ap₂, ◌∙◌, append_assoc}
use Rattle.json.specs.Print.{escape_byte}
use Rattle.serde_json.specs.Written.{compact_text}
use Rattle.sc_base.specs.Among.{Each}
use Rattle.sc_base.specs.declared.names.Ballot.{Ballot}
use Rattle.sc_base.specs.declared.names.Draw.{Draw}
use Rattle.sc_words.specs.declared.commands.commands.Command.{Command}
use Rattle.sc_words.specs.declared.paxos.reports.Report.{Report}
use Rattle.sc_mail.specs.declared.bodies.MailBody.{MailBody}
use Rattle.sc_mail.specs.declared.bodies.MailBody.TheVariants as TheMailBody
use Rattle.sc_json_text.specs.rows.Shapes.{number_json, list_json}
use Rattle.sc_json_text.specs.rows.Held.{FitsU32}
use Rattle.sc_json_text.specs.rows.Names.{draw_json, FitsDraw, ballot_json, FitsBallot}
use Rattle.sc_json_text.specs.rows.Commands.{command_json, FitsCommand, report_json, FitsReport}
use Rattle.sc_json_text.specs.rows.Mails.{mail_body_json, FitsMailBody}
use Rattle.sc_json_text.proofs.RowsProofs.Apart.{variants_apart}
use Rattle.sc_json_fast.specs.Prefixes.{IsOnly, TextBegins}

report_only : (report other : Report Command) → IsOnly ballot_json FitsBallot report.ballot → IsOnly number_json FitsU32 report.slot → IsOnly command_json FitsCommand report.value → FitsReport other → report_json other ≡ report_json report → other ≡ report
unfolding report_json FitsReport
report_only report other ballot_known slot_known value_known held same =
    let ballot : other.ballot ≡ report.ballot = ballot_known.only other.ballot held.0 (cc) in
    let slot : other.slot ≡ report.slot = slot_known.only other.slot held.1 (cc) in
    let value : other.value ≡ report.value = value_known.only other.value held.2 (cc) in
    ap₂ (λ f v. f v) (ap₂ (λ s b. let make : Command → Report Command = λ v. record { slot = s; ballot = b; value = v } in make) slot ballot) value

pub report_begins : (bytes rest : List ℕ) (slot : ℕ) (ballot : Ballot) (value : Command) → IsOnly ballot_json FitsBallot ballot → IsOnly number_json FitsU32 slot → IsOnly command_json FitsCommand value → bytes ≡ codes "{\"ballot\":" ++ (compact_text (ballot_json ballot) ++ (codes ",\"slot\":" ++ (compact_text (number_json slot) ++ (codes ",\"value\":" ++ (compact_text (command_json value) ++ (codes "}" ++ rest)))))) → TextBegins report_json FitsReport bytes (record { slot = slot; ballot = ballot; value = value }) rest
unfolding report_json FitsReport escape_byte
report_begins bytes rest slot ballot value ballot_known slot_known value_known text = record {
  text = text ∙ simp append_assoc;
  known = record { fits = (ballot_known.fits, slot_known.fits, value_known.fits); only = λ other held same. report_only (record { slot = slot; ballot = ballot; value = value }) other ballot_known slot_known value_known held same };
}

promise_only : (group : Draw) (ballot : Ballot) (reports : List (Report Command)) → IsOnly ballot_json FitsBallot ballot → IsOnly draw_json FitsDraw group → IsOnly (list_json report_json) (Each FitsReport) reports → (other : MailBody) → FitsMailBody other → mail_body_json other ≡ mail_body_json (TheMailBody.Promise group ballot reports) → other ≡ (TheMailBody.Promise group ballot reports)
unfolding mail_body_json FitsMailBody
promise_only group ballot reports ballot_known group_known reports_known (TheMailBody.Promise other_group other_ballot other_reports) held same =
    let ballot_same : other_ballot ≡ ballot = ballot_known.only other_ballot held.0 (cc) in
    let group_same : other_group ≡ group = group_known.only other_group held.1 (cc) in
    let reports_same : other_reports ≡ reports = reports_known.only other_reports held.2 (cc) in
    cc
promise_only group ballot reports ballot_known group_known reports_known _ held same = absurd (variants_apart _ _ same refl)

pub promise_begins : (bytes rest : List ℕ) (group : Draw) (ballot : Ballot) (reports : List (Report Command)) → IsOnly ballot_json FitsBallot ballot → IsOnly draw_json FitsDraw group → IsOnly (list_json report_json) (Each FitsReport) reports → bytes ≡ codes "{\"Promise\":{\"ballot\":" ++ (compact_text (ballot_json ballot) ++ (codes ",\"group\":" ++ (compact_text (draw_json group) ++ (codes ",\"reports\":" ++ (compact_text (list_json report_json reports) ++ (codes "}}" ++ rest)))))) → TextBegins mail_body_json FitsMailBody bytes (TheMailBody.Promise group ballot reports) rest
unfolding mail_body_json FitsMailBody escape_byte
promise_begins bytes rest group ballot reports ballot_known group_known reports_known text = record {
  text = text ∙ simp append_assoc;
  known = record { fits = (ballot_known.fits, group_known.fits, reports_known.fits); only = promise_only group ballot reports ballot_known group_known reports_known };
}
