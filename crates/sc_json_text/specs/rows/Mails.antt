-- Mails as JSON.
use Rattle.std.specs.Prelude.{[], ◌∷◌, codes}
use Rattle.serde_json.specs.Data.{Data}
use Rattle.sc_base.specs.Definitions.{Each}
use Rattle.sc_mail.specs.declared.bodies.MailBody.{MailBody}
use Rattle.sc_mail.specs.declared.bodies.MailBody.TheVariants as TheMailBody
use Rattle.sc_mail.specs.declared.bodies.Mail.{Mail}
use Rattle.sc_json_text.specs.rows.Shapes.{number_json, list_json, option_json, fields, variant}
use Rattle.sc_json_text.specs.rows.Held.{FitsU16, FitsU32, OptionFits, FitsMembers}
use Rattle.sc_json_text.specs.rows.Ops.{op_json, FitsOp}
use Rattle.sc_json_text.specs.rows.Bodies.{offer_json, FitsOffer, watch_json, FitsWatch}
use Rattle.sc_json_text.specs.rows.Votes.{vote_json, FitsVote, past_json, FitsPast}
use Rattle.sc_json_text.specs.rows.Outcomes.{outcome_json, FitsOutcome}
use Rattle.sc_json_text.specs.rows.Cores.{base_json, FitsBase}
use Rattle.sc_json_text.specs.rows.Commands.{command_json, FitsCommand, report_json, FitsReport}
use Rattle.sc_json_text.specs.rows.Orders.{order_result_json, FitsOrderResult}
use Rattle.sc_json_text.specs.rows.Answers.{answer_body_json, FitsAnswerBody}
use Rattle.sc_json_text.specs.rows.Names.{draw_json, FitsDraw, ballot_json, FitsBallot}
use Rattle.sc_json_text.specs.rows.Sets.{nodes_json}

-- The JSON of a mail's body: the variant that it is, with its content.
unfoldable pub mail_body_json : MailBody → Data
mail_body_json (TheMailBody.Request group client seq op) = variant (codes "Request") (fields ((codes "client", number_json client) ∷ (codes "group", draw_json group) ∷ (codes "op", op_json op) ∷ (codes "seq", number_json seq) ∷ []))
mail_body_json (TheMailBody.Answer group seq answer) = variant (codes "Answer") (fields ((codes "answer", answer_body_json answer) ∷ (codes "group", draw_json group) ∷ (codes "seq", number_json seq) ∷ []))
mail_body_json (TheMailBody.Prepare group ballot from_slot) = variant (codes "Prepare") (fields ((codes "ballot", ballot_json ballot) ∷ (codes "from_slot", number_json from_slot) ∷ (codes "group", draw_json group) ∷ []))
mail_body_json (TheMailBody.Promise group ballot reports) = variant (codes "Promise") (fields ((codes "ballot", ballot_json ballot) ∷ (codes "group", draw_json group) ∷ (codes "reports", list_json report_json reports) ∷ []))
mail_body_json (TheMailBody.Accept group ballot slot command) = variant (codes "Accept") (fields ((codes "ballot", ballot_json ballot) ∷ (codes "command", command_json command) ∷ (codes "group", draw_json group) ∷ (codes "slot", number_json slot) ∷ []))
mail_body_json (TheMailBody.Accepted group ballot slot) = variant (codes "Accepted") (fields ((codes "ballot", ballot_json ballot) ∷ (codes "group", draw_json group) ∷ (codes "slot", number_json slot) ∷ []))
mail_body_json (TheMailBody.Nack group promised) = variant (codes "Nack") (fields ((codes "group", draw_json group) ∷ (codes "promised", ballot_json promised) ∷ []))
mail_body_json (TheMailBody.Learn group slot command) = variant (codes "Learn") (fields ((codes "command", command_json command) ∷ (codes "group", draw_json group) ∷ (codes "slot", number_json slot) ∷ []))
mail_body_json (TheMailBody.Ask group from_slot) = variant (codes "Ask") (fields ((codes "from_slot", number_json from_slot) ∷ (codes "group", draw_json group) ∷ []))
mail_body_json (TheMailBody.Install group slot base sets) = variant (codes "Install") (fields ((codes "base", base_json base) ∷ (codes "group", draw_json group) ∷ (codes "sets", list_json nodes_json sets) ∷ (codes "slot", number_json slot) ∷ []))
mail_body_json (TheMailBody.TxPrepare tx offer) = variant (codes "TxPrepare") (fields ((codes "offer", offer_json offer) ∷ (codes "tx", draw_json tx) ∷ []))
mail_body_json (TheMailBody.TxVote tx coord part vote) = variant (codes "TxVote") (fields ((codes "coord", draw_json coord) ∷ (codes "part", draw_json part) ∷ (codes "tx", draw_json tx) ∷ (codes "vote", vote_json vote) ∷ []))
mail_body_json (TheMailBody.TxOutcome tx part outcome) = variant (codes "TxOutcome") (fields ((codes "outcome", outcome_json outcome) ∷ (codes "part", draw_json part) ∷ (codes "tx", draw_json tx) ∷ []))
mail_body_json (TheMailBody.TxElsewhere tx coord hint) = variant (codes "TxElsewhere") (fields ((codes "coord", draw_json coord) ∷ (codes "hint", option_json number_json hint) ∷ (codes "tx", draw_json tx) ∷ []))
mail_body_json (TheMailBody.TxWatch tx watch) = variant (codes "TxWatch") (fields ((codes "tx", draw_json tx) ∷ (codes "watch", watch_json watch) ∷ []))
mail_body_json (TheMailBody.TxWatched tx coord part vote) = variant (codes "TxWatched") (fields ((codes "coord", draw_json coord) ∷ (codes "part", draw_json part) ∷ (codes "tx", draw_json tx) ∷ (codes "vote", past_json vote) ∷ []))
mail_body_json (TheMailBody.Told order result) = variant (codes "Told") (fields ((codes "order", number_json order) ∷ (codes "result", order_result_json result) ∷ []))

-- The body of a mail that the program's type can hold: each of its parts is valid.
unfoldable pub FitsMailBody : MailBody → Type 0
FitsMailBody (TheMailBody.Request group client seq op) = FitsU16 client × FitsDraw group × FitsOp op × FitsU32 seq
FitsMailBody (TheMailBody.Answer group seq answer) = FitsAnswerBody answer × FitsDraw group × FitsU32 seq
FitsMailBody (TheMailBody.Prepare group ballot from_slot) = FitsBallot ballot × FitsU32 from_slot × FitsDraw group
FitsMailBody (TheMailBody.Promise group ballot reports) = FitsBallot ballot × FitsDraw group × Each FitsReport reports
FitsMailBody (TheMailBody.Accept group ballot slot command) = FitsBallot ballot × FitsCommand command × FitsDraw group × FitsU32 slot
FitsMailBody (TheMailBody.Accepted group ballot slot) = FitsBallot ballot × FitsDraw group × FitsU32 slot
FitsMailBody (TheMailBody.Nack group promised) = FitsDraw group × FitsBallot promised
FitsMailBody (TheMailBody.Learn group slot command) = FitsCommand command × FitsDraw group × FitsU32 slot
FitsMailBody (TheMailBody.Ask group from_slot) = FitsU32 from_slot × FitsDraw group
FitsMailBody (TheMailBody.Install group slot base sets) = FitsBase base × FitsDraw group × Each FitsMembers sets × FitsU32 slot
FitsMailBody (TheMailBody.TxPrepare tx offer) = FitsOffer offer × FitsDraw tx
FitsMailBody (TheMailBody.TxVote tx coord part vote) = FitsDraw coord × FitsDraw part × FitsDraw tx × FitsVote vote
FitsMailBody (TheMailBody.TxOutcome tx part outcome) = FitsOutcome outcome × FitsDraw part × FitsDraw tx
FitsMailBody (TheMailBody.TxElsewhere tx coord hint) = FitsDraw coord × OptionFits FitsU16 hint × FitsDraw tx
FitsMailBody (TheMailBody.TxWatch tx watch) = FitsDraw tx × FitsWatch watch
FitsMailBody (TheMailBody.TxWatched tx coord part vote) = FitsDraw coord × FitsDraw part × FitsDraw tx × FitsPast vote
FitsMailBody (TheMailBody.Told order result) = FitsU32 order × FitsOrderResult result

-- The JSON of a mail: its body, its sender and its receiver.
unfoldable pub mail_json : Mail → Data
mail_json mail = fields
    ((codes "body", mail_body_json mail.body)
    ∷ (codes "from", number_json mail.from)
    ∷ (codes "to", number_json mail.to)
    ∷ [])

-- A mail that the program's type can hold: each of its parts is valid.
unfoldable pub FitsMail : Mail → Type 0
FitsMail mail = FitsMailBody mail.body × FitsU32 mail.from × FitsU32 mail.to
