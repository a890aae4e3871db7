-- Commands of the logs, and acceptors' reports of them, as JSON.
use Rattle.std.specs.Prelude.{[], ◌∷◌, codes, ⊤}
use Rattle.serde_json.specs.Data.{Data, string}
use Rattle.sc_words.specs.declared.commands.commands.Command.{Command}
use Rattle.sc_words.specs.declared.commands.commands.Command.TheVariants as TheCommand
use Rattle.sc_words.specs.declared.paxos.reports.Report.{Report}
use Rattle.sc_json_text.specs.rows.Shapes.{number_json, fields, variant}
use Rattle.sc_json_text.specs.rows.Held.{FitsU16, FitsU32}
use Rattle.sc_json_text.specs.rows.Ops.{op_json, FitsOp}
use Rattle.sc_json_text.specs.rows.Bodies.{body_json, FitsBody, offer_json, FitsOffer, watch_json, FitsWatch}
use Rattle.sc_json_text.specs.rows.Votes.{vote_json, FitsVote, past_json, FitsPast}
use Rattle.sc_json_text.specs.rows.Outcomes.{outcome_json, FitsOutcome}
use Rattle.sc_json_text.specs.rows.Names.{draw_json, FitsDraw, ballot_json, FitsBallot}

-- The JSON of a command: the variant that it is, with its content.
unfoldable pub command_json : Command → Data
command_json TheCommand.Noop = string (codes "Noop")
command_json (TheCommand.Call client seq op) = variant (codes "Call") (fields ((codes "client", number_json client) ∷ (codes "op", op_json op) ∷ (codes "seq", number_json seq) ∷ []))
command_json (TheCommand.Join node order) = variant (codes "Join") (fields ((codes "node", number_json node) ∷ (codes "order", number_json order) ∷ []))
command_json (TheCommand.Leave node order) = variant (codes "Leave") (fields ((codes "node", number_json node) ∷ (codes "order", number_json order) ∷ []))
command_json (TheCommand.Split at child order) = variant (codes "Split") (fields ((codes "at", number_json at) ∷ (codes "child", draw_json child) ∷ (codes "order", number_json order) ∷ []))
command_json (TheCommand.Begin tx body order) = variant (codes "Begin") (fields ((codes "body", body_json body) ∷ (codes "order", number_json order) ∷ (codes "tx", draw_json tx) ∷ []))
command_json (TheCommand.Prepared tx offer) = variant (codes "Prepared") (fields ((codes "offer", offer_json offer) ∷ (codes "tx", draw_json tx) ∷ []))
command_json (TheCommand.RecordVote tx vote by) = variant (codes "RecordVote") (fields ((codes "by", number_json by) ∷ (codes "tx", draw_json tx) ∷ (codes "vote", vote_json vote) ∷ []))
command_json (TheCommand.GiveUp tx) = variant (codes "GiveUp") (fields ((codes "tx", draw_json tx) ∷ []))
command_json (TheCommand.Finish tx outcome) = variant (codes "Finish") (fields ((codes "outcome", outcome_json outcome) ∷ (codes "tx", draw_json tx) ∷ []))
command_json (TheCommand.Watched tx watch) = variant (codes "Watched") (fields ((codes "tx", draw_json tx) ∷ (codes "watch", watch_json watch) ∷ []))
command_json (TheCommand.RecordWatch tx vote by) = variant (codes "RecordWatch") (fields ((codes "by", number_json by) ∷ (codes "tx", draw_json tx) ∷ (codes "vote", past_json vote) ∷ []))

-- A command that the program's type can hold: each of its parts is valid.
unfoldable pub FitsCommand : Command → Type 0
FitsCommand TheCommand.Noop = ⊤
FitsCommand (TheCommand.Call client seq op) = FitsU16 client × FitsOp op × FitsU32 seq
FitsCommand (TheCommand.Join node order) = FitsU16 node × FitsU32 order
FitsCommand (TheCommand.Leave node order) = FitsU16 node × FitsU32 order
FitsCommand (TheCommand.Split at child order) = FitsU32 at × FitsDraw child × FitsU32 order
FitsCommand (TheCommand.Begin tx body order) = FitsBody body × FitsU32 order × FitsDraw tx
FitsCommand (TheCommand.Prepared tx offer) = FitsOffer offer × FitsDraw tx
FitsCommand (TheCommand.RecordVote tx vote by) = FitsU16 by × FitsDraw tx × FitsVote vote
FitsCommand (TheCommand.GiveUp tx) = FitsDraw tx
FitsCommand (TheCommand.Finish tx outcome) = FitsOutcome outcome × FitsDraw tx
FitsCommand (TheCommand.Watched tx watch) = FitsDraw tx × FitsWatch watch
FitsCommand (TheCommand.RecordWatch tx vote by) = FitsU16 by × FitsDraw tx × FitsPast vote

-- The JSON of an acceptor's report of a slot: the ballot, the slot and the command.
unfoldable pub report_json : Report Command → Data
report_json report = fields
    ((codes "ballot", ballot_json report.ballot)
    ∷ (codes "slot", number_json report.slot)
    ∷ (codes "value", command_json report.value)
    ∷ [])

-- A report that the program's type can hold: each of its parts is valid.
unfoldable pub FitsReport : Report Command → Type 0
FitsReport report = FitsBallot report.ballot × FitsU32 report.slot × FitsCommand report.value
