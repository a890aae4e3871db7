-- What mails say, at the beginning of a text.
use Rattle.std.proofs.Common.{◌≡◌, ℕ, List, ◌++◌, codes, refl, ◌∙◌, append_assoc}
use Rattle.json.specs.Print.{escape_byte}
use Rattle.serde_json.specs.Written.{compact_text}
use Rattle.sc_json_text.specs.rows.Shapes.{number_json}
use Rattle.sc_json_text.specs.rows.Held.{FitsU16, FitsU32}
use Rattle.sc_json_fast.specs.Prefixes.{IsOnly, TextBegins}
use Rattle.sc_json_text.proofs.RowsProofs.Apart.{variants_apart}
use Rattle.sc_base.specs.declared.names.Ballot.{Ballot}
use Rattle.sc_base.specs.declared.names.Draw.{Draw}
use Rattle.sc_base.specs.declared.ops.Op.{Op}
use Rattle.sc_words.specs.declared.commands.commands.Command.{Command}
use Rattle.sc_mail.specs.declared.bodies.AnswerBody.{AnswerBody}
use Rattle.sc_mail.specs.declared.bodies.MailBody.{MailBody}
use Rattle.sc_mail.specs.declared.bodies.MailBody.TheVariants as TheMailBody
use Rattle.sc_json_text.specs.rows.Names.{draw_json, FitsDraw, ballot_json, FitsBallot}
use Rattle.sc_json_text.specs.rows.Ops.{op_json, FitsOp}
use Rattle.sc_json_text.specs.rows.Commands.{command_json, FitsCommand}
use Rattle.sc_json_text.specs.rows.Answers.{answer_body_json, FitsAnswerBody}
use Rattle.sc_json_text.specs.rows.Mails.{mail_body_json, FitsMailBody}

request_only : (group : Draw) (client : ℕ) (seq : ℕ) (op : Op) → IsOnly number_json FitsU16 client → IsOnly draw_json FitsDraw group → IsOnly op_json FitsOp op → IsOnly number_json FitsU32 seq → (other : MailBody) → FitsMailBody other → mail_body_json other ≡ mail_body_json (TheMailBody.Request group client seq op) → other ≡ (TheMailBody.Request group client seq op)
unfolding mail_body_json FitsMailBody
request_only group client seq op client_known group_known op_known seq_known (TheMailBody.Request other_group other_client other_seq other_op) held same =
    let client_same : other_client ≡ client = client_known.only other_client held.0 (cc) in
    let group_same : other_group ≡ group = group_known.only other_group held.1 (cc) in
    let op_same : other_op ≡ op = op_known.only other_op held.2 (cc) in
    let seq_same : other_seq ≡ seq = seq_known.only other_seq held.3 (cc) in
    cc
request_only group client seq op client_known group_known op_known seq_known _ held same = absurd (variants_apart _ _ same refl)

pub request_begins : (bytes rest : List ℕ) (group : Draw) (client : ℕ) (seq : ℕ) (op : Op) → IsOnly number_json FitsU16 client → IsOnly draw_json FitsDraw group → IsOnly op_json FitsOp op → IsOnly number_json FitsU32 seq → bytes ≡ codes "{\"Request\":{\"client\":" ++ (compact_text (number_json client) ++ (codes ",\"group\":" ++ (compact_text (draw_json group) ++ (codes ",\"op\":" ++ (compact_text (op_json op) ++ (codes ",\"seq\":" ++ (compact_text (number_json seq) ++ (codes "}}" ++ rest)))))))) → TextBegins mail_body_json FitsMailBody bytes (TheMailBody.Request group client seq op) rest
unfolding mail_body_json FitsMailBody escape_byte
request_begins bytes rest group client seq op client_known group_known op_known seq_known text = record {
  text = text ∙ simp append_assoc;
  known = record { fits = (client_known.fits, group_known.fits, op_known.fits, seq_known.fits); only = request_only group client seq op client_known group_known op_known seq_known };
}

answer_only : (group : Draw) (seq : ℕ) (answer : AnswerBody) → IsOnly answer_body_json FitsAnswerBody answer → IsOnly draw_json FitsDraw group → IsOnly number_json FitsU32 seq → (other : MailBody) → FitsMailBody other → mail_body_json other ≡ mail_body_json (TheMailBody.Answer group seq answer) → other ≡ (TheMailBody.Answer group seq answer)
unfolding mail_body_json FitsMailBody
answer_only group seq answer answer_known group_known seq_known (TheMailBody.Answer other_group other_seq other_answer) held same =
    let answer_same : other_answer ≡ answer = answer_known.only other_answer held.0 (cc) in
    let group_same : other_group ≡ group = group_known.only other_group held.1 (cc) in
    let seq_same : other_seq ≡ seq = seq_known.only other_seq held.2 (cc) in
    cc
answer_only group seq answer answer_known group_known seq_known _ held same = absurd (variants_apart _ _ same refl)

pub answer_begins : (bytes rest : List ℕ) (group : Draw) (seq : ℕ) (answer : AnswerBody) → IsOnly answer_body_json FitsAnswerBody answer → IsOnly draw_json FitsDraw group → IsOnly number_json FitsU32 seq → bytes ≡ codes "{\"Answer\":{\"answer\":" ++ (compact_text (answer_body_json answer) ++ (codes ",\"group\":" ++ (compact_text (draw_json group) ++ (codes ",\"seq\":" ++ (compact_text (number_json seq) ++ (codes "}}" ++ rest)))))) → TextBegins mail_body_json FitsMailBody bytes (TheMailBody.Answer group seq answer) rest
unfolding mail_body_json FitsMailBody escape_byte
answer_begins bytes rest group seq answer answer_known group_known seq_known text = record {
  text = text ∙ simp append_assoc;
  known = record { fits = (answer_known.fits, group_known.fits, seq_known.fits); only = answer_only group seq answer answer_known group_known seq_known };
}

prepare_only : (group : Draw) (ballot : Ballot) (from_slot : ℕ) → IsOnly ballot_json FitsBallot ballot → IsOnly number_json FitsU32 from_slot → IsOnly draw_json FitsDraw group → (other : MailBody) → FitsMailBody other → mail_body_json other ≡ mail_body_json (TheMailBody.Prepare group ballot from_slot) → other ≡ (TheMailBody.Prepare group ballot from_slot)
unfolding mail_body_json FitsMailBody
prepare_only group ballot from_slot ballot_known from_slot_known group_known (TheMailBody.Prepare other_group other_ballot other_from_slot) held same =
    let ballot_same : other_ballot ≡ ballot = ballot_known.only other_ballot held.0 (cc) in
    let from_slot_same : other_from_slot ≡ from_slot = from_slot_known.only other_from_slot held.1 (cc) in
    let group_same : other_group ≡ group = group_known.only other_group held.2 (cc) in
    cc
prepare_only group ballot from_slot ballot_known from_slot_known group_known _ held same = absurd (variants_apart _ _ same refl)

pub prepare_begins : (bytes rest : List ℕ) (group : Draw) (ballot : Ballot) (from_slot : ℕ) → IsOnly ballot_json FitsBallot ballot → IsOnly number_json FitsU32 from_slot → IsOnly draw_json FitsDraw group → bytes ≡ codes "{\"Prepare\":{\"ballot\":" ++ (compact_text (ballot_json ballot) ++ (codes ",\"from_slot\":" ++ (compact_text (number_json from_slot) ++ (codes ",\"group\":" ++ (compact_text (draw_json group) ++ (codes "}}" ++ rest)))))) → TextBegins mail_body_json FitsMailBody bytes (TheMailBody.Prepare group ballot from_slot) rest
unfolding mail_body_json FitsMailBody escape_byte
prepare_begins bytes rest group ballot from_slot ballot_known from_slot_known group_known text = record {
  text = text ∙ simp append_assoc;
  known = record { fits = (ballot_known.fits, from_slot_known.fits, group_known.fits); only = prepare_only group ballot from_slot ballot_known from_slot_known group_known };
}

accept_only : (group : Draw) (ballot : Ballot) (slot : ℕ) (command : Command) → IsOnly ballot_json FitsBallot ballot → IsOnly command_json FitsCommand command → IsOnly draw_json FitsDraw group → IsOnly number_json FitsU32 slot → (other : MailBody) → FitsMailBody other → mail_body_json other ≡ mail_body_json (TheMailBody.Accept group ballot slot command) → other ≡ (TheMailBody.Accept group ballot slot command)
unfolding mail_body_json FitsMailBody
accept_only group ballot slot command ballot_known command_known group_known slot_known (TheMailBody.Accept other_group other_ballot other_slot other_command) held same =
    let ballot_same : other_ballot ≡ ballot = ballot_known.only other_ballot held.0 (cc) in
    let command_same : other_command ≡ command = command_known.only other_command held.1 (cc) in
    let group_same : other_group ≡ group = group_known.only other_group held.2 (cc) in
    let slot_same : other_slot ≡ slot = slot_known.only other_slot held.3 (cc) in
    cc
accept_only group ballot slot command ballot_known command_known group_known slot_known _ held same = absurd (variants_apart _ _ same refl)

pub accept_begins : (bytes rest : List ℕ) (group : Draw) (ballot : Ballot) (slot : ℕ) (command : Command) → IsOnly ballot_json FitsBallot ballot → IsOnly command_json FitsCommand command → IsOnly draw_json FitsDraw group → IsOnly number_json FitsU32 slot → bytes ≡ codes "{\"Accept\":{\"ballot\":" ++ (compact_text (ballot_json ballot) ++ (codes ",\"command\":" ++ (compact_text (command_json command) ++ (codes ",\"group\":" ++ (compact_text (draw_json group) ++ (codes ",\"slot\":" ++ (compact_text (number_json slot) ++ (codes "}}" ++ rest)))))))) → TextBegins mail_body_json FitsMailBody bytes (TheMailBody.Accept group ballot slot command) rest
unfolding mail_body_json FitsMailBody escape_byte
accept_begins bytes rest group ballot slot command ballot_known command_known group_known slot_known text = record {
  text = text ∙ simp append_assoc;
  known = record { fits = (ballot_known.fits, command_known.fits, group_known.fits, slot_known.fits); only = accept_only group ballot slot command ballot_known command_known group_known slot_known };
}

accepted_only : (group : Draw) (ballot : Ballot) (slot : ℕ) → IsOnly ballot_json FitsBallot ballot → IsOnly draw_json FitsDraw group → IsOnly number_json FitsU32 slot → (other : MailBody) → FitsMailBody other → mail_body_json other ≡ mail_body_json (TheMailBody.Accepted group ballot slot) → other ≡ (TheMailBody.Accepted group ballot slot)
unfolding mail_body_json FitsMailBody
accepted_only group ballot slot ballot_known group_known slot_known (TheMailBody.Accepted other_group other_ballot other_slot) held same =
    let ballot_same : other_ballot ≡ ballot = ballot_known.only other_ballot held.0 (cc) in
    let group_same : other_group ≡ group = group_known.only other_group held.1 (cc) in
    let slot_same : other_slot ≡ slot = slot_known.only other_slot held.2 (cc) in
    cc
accepted_only group ballot slot ballot_known group_known slot_known _ held same = absurd (variants_apart _ _ same refl)

pub accepted_begins : (bytes rest : List ℕ) (group : Draw) (ballot : Ballot) (slot : ℕ) → IsOnly ballot_json FitsBallot ballot → IsOnly draw_json FitsDraw group → IsOnly number_json FitsU32 slot → bytes ≡ codes "{\"Accepted\":{\"ballot\":" ++ (compact_text (ballot_json ballot) ++ (codes ",\"group\":" ++ (compact_text (draw_json group) ++ (codes ",\"slot\":" ++ (compact_text (number_json slot) ++ (codes "}}" ++ rest)))))) → TextBegins mail_body_json FitsMailBody bytes (TheMailBody.Accepted group ballot slot) rest
unfolding mail_body_json FitsMailBody escape_byte
accepted_begins bytes rest group ballot slot ballot_known group_known slot_known text = record {
  text = text ∙ simp append_assoc;
  known = record { fits = (ballot_known.fits, group_known.fits, slot_known.fits); only = accepted_only group ballot slot ballot_known group_known slot_known };
}

nack_only : (group : Draw) (promised : Ballot) → IsOnly draw_json FitsDraw group → IsOnly ballot_json FitsBallot promised → (other : MailBody) → FitsMailBody other → mail_body_json other ≡ mail_body_json (TheMailBody.Nack group promised) → other ≡ (TheMailBody.Nack group promised)
unfolding mail_body_json FitsMailBody
nack_only group promised group_known promised_known (TheMailBody.Nack other_group other_promised) held same =
    let group_same : other_group ≡ group = group_known.only other_group held.0 (cc) in
    let promised_same : other_promised ≡ promised = promised_known.only other_promised held.1 (cc) in
    cc
nack_only group promised group_known promised_known _ held same = absurd (variants_apart _ _ same refl)

pub nack_begins : (bytes rest : List ℕ) (group : Draw) (promised : Ballot) → IsOnly draw_json FitsDraw group → IsOnly ballot_json FitsBallot promised → bytes ≡ codes "{\"Nack\":{\"group\":" ++ (compact_text (draw_json group) ++ (codes ",\"promised\":" ++ (compact_text (ballot_json promised) ++ (codes "}}" ++ rest)))) → TextBegins mail_body_json FitsMailBody bytes (TheMailBody.Nack group promised) rest
unfolding mail_body_json FitsMailBody escape_byte
nack_begins bytes rest group promised group_known promised_known text = record {
  text = text ∙ simp append_assoc;
  known = record { fits = (group_known.fits, promised_known.fits); only = nack_only group promised group_known promised_known };
}

learn_only : (group : Draw) (slot : ℕ) (command : Command) → IsOnly command_json FitsCommand command → IsOnly draw_json FitsDraw group → IsOnly number_json FitsU32 slot → (other : MailBody) → FitsMailBody other → mail_body_json other ≡ mail_body_json (TheMailBody.Learn group slot command) → other ≡ (TheMailBody.Learn group slot command)
unfolding mail_body_json FitsMailBody
learn_only group slot command command_known group_known slot_known (TheMailBody.Learn other_group other_slot other_command) held same =
    let command_same : other_command ≡ command = command_known.only other_command held.0 (cc) in
    let group_same : other_group ≡ group = group_known.only other_group held.1 (cc) in
    let slot_same : other_slot ≡ slot = slot_known.only other_slot held.2 (cc) in
    cc
learn_only group slot command command_known group_known slot_known _ held same = absurd (variants_apart _ _ same refl)

pub learn_begins : (bytes rest : List ℕ) (group : Draw) (slot : ℕ) (command : Command) → IsOnly command_json FitsCommand command → IsOnly draw_json FitsDraw group → IsOnly number_json FitsU32 slot → bytes ≡ codes "{\"Learn\":{\"command\":" ++ (compact_text (command_json command) ++ (codes ",\"group\":" ++ (compact_text (draw_json group) ++ (codes ",\"slot\":" ++ (compact_text (number_json slot) ++ (codes "}}" ++ rest)))))) → TextBegins mail_body_json FitsMailBody bytes (TheMailBody.Learn group slot command) rest
unfolding mail_body_json FitsMailBody escape_byte
learn_begins bytes rest group slot command command_known group_known slot_known text = record {
  text = text ∙ simp append_assoc;
  known = record { fits = (command_known.fits, group_known.fits, slot_known.fits); only = learn_only group slot command command_known group_known slot_known };
}

ask_only : (group : Draw) (from_slot : ℕ) → IsOnly number_json FitsU32 from_slot → IsOnly draw_json FitsDraw group → (other : MailBody) → FitsMailBody other → mail_body_json other ≡ mail_body_json (TheMailBody.Ask group from_slot) → other ≡ (TheMailBody.Ask group from_slot)
unfolding mail_body_json FitsMailBody
ask_only group from_slot from_slot_known group_known (TheMailBody.Ask other_group other_from_slot) held same =
    let from_slot_same : other_from_slot ≡ from_slot = from_slot_known.only other_from_slot held.0 (cc) in
    let group_same : other_group ≡ group = group_known.only other_group held.1 (cc) in
    cc
ask_only group from_slot from_slot_known group_known _ held same = absurd (variants_apart _ _ same refl)

pub ask_begins : (bytes rest : List ℕ) (group : Draw) (from_slot : ℕ) → IsOnly number_json FitsU32 from_slot → IsOnly draw_json FitsDraw group → bytes ≡ codes "{\"Ask\":{\"from_slot\":" ++ (compact_text (number_json from_slot) ++ (codes ",\"group\":" ++ (compact_text (draw_json group) ++ (codes "}}" ++ rest)))) → TextBegins mail_body_json FitsMailBody bytes (TheMailBody.Ask group from_slot) rest
unfolding mail_body_json FitsMailBody escape_byte
ask_begins bytes rest group from_slot from_slot_known group_known text = record {
  text = text ∙ simp append_assoc;
  known = record { fits = (from_slot_known.fits, group_known.fits); only = ask_only group from_slot from_slot_known group_known };
}
