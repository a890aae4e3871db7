-- Commands and reports of them are plain JSON.
use Rattle.std.proofs.Common.{◌≡◌, ℕ, suc, refl}
use Rattle.sc_words.specs.declared.commands.commands.Command.{Command}
use Rattle.sc_words.specs.declared.commands.commands.Command.TheVariants as TheCommand
use Rattle.sc_words.specs.declared.paxos.reports.Report.{Report}
use Rattle.sc_json_text.specs.plain.Plain.{IsPlain}
use Rattle.sc_json_text.specs.rows.Definitions.{command_json, FitsCommand, report_json, FitsReport}
use Rattle.sc_json_text.proofs.RowsProofs.NamesPlain.{ballot_plain, draw_plain}
use Rattle.sc_json_text.proofs.RowsProofs.BodiesPlain.{body_plain, offer_plain, watch_plain}
use Rattle.sc_json_text.proofs.RowsProofs.OpsPlain.{op_plain}
use Rattle.sc_json_text.proofs.RowsProofs.OutcomesPlain.{outcome_plain}
use Rattle.sc_json_text.proofs.RowsProofs.VotesPlain.{past_plain, vote_plain}
use Rattle.sc_json_text.proofs.RowsProofs.ShapesPlain.{u16_plain, u32_plain}

pub command_plain : (room : ℕ) (command : Command) → FitsCommand command → IsPlain (suc (suc (suc (suc (suc (suc (suc (suc room)))))))) (command_json command)
unfolding command_json FitsCommand
command_plain room TheCommand.Noop fits = refl
command_plain room (TheCommand.Call client seq op) fits = (refl, (refl, (u16_plain client fits.0), refl, (refl, (op_plain (suc (suc (suc (suc room)))) op fits.1), refl, (refl, (u32_plain seq fits.2), tt, tt))), tt, tt)
command_plain room (TheCommand.Join node order) fits = (refl, (refl, (u16_plain node fits.0), refl, (refl, (u32_plain order fits.1), tt, tt)), tt, tt)
command_plain room (TheCommand.Leave node order) fits = (refl, (refl, (u16_plain node fits.0), refl, (refl, (u32_plain order fits.1), tt, tt)), tt, tt)
command_plain room (TheCommand.Split at child order) fits = (refl, (refl, (u32_plain at fits.0), refl, (refl, (draw_plain (suc (suc (suc (suc (suc (suc room)))))) child fits.1), refl, (refl, (u32_plain order fits.2), tt, tt))), tt, tt)
command_plain room (TheCommand.Begin tx body order) fits = (refl, (refl, (body_plain (suc (suc (suc (suc room)))) body fits.0), refl, (refl, (u32_plain order fits.1), refl, (refl, (draw_plain (suc (suc (suc (suc (suc (suc room)))))) tx fits.2), tt, tt))), tt, tt)
command_plain room (TheCommand.Prepared tx offer) fits = (refl, (refl, (offer_plain (suc (suc (suc room))) offer fits.0), refl, (refl, (draw_plain (suc (suc (suc (suc (suc (suc room)))))) tx fits.1), tt, tt)), tt, tt)
command_plain room (TheCommand.RecordVote tx vote by) fits = (refl, (refl, (u16_plain by fits.0), refl, (refl, (draw_plain (suc (suc (suc (suc (suc (suc room)))))) tx fits.1), refl, (refl, (vote_plain (suc room) vote fits.2), tt, tt))), tt, tt)
command_plain room (TheCommand.GiveUp tx) fits = (refl, (refl, (draw_plain (suc (suc (suc (suc (suc (suc room)))))) tx fits), tt, tt), tt, tt)
command_plain room (TheCommand.Finish tx outcome) fits = (refl, (refl, (outcome_plain room outcome fits.0), refl, (refl, (draw_plain (suc (suc (suc (suc (suc (suc room)))))) tx fits.1), tt, tt)), tt, tt)
command_plain room (TheCommand.Watched tx watch) fits = (refl, (refl, (draw_plain (suc (suc (suc (suc (suc (suc room)))))) tx fits.0), refl, (refl, (watch_plain (suc (suc (suc room))) watch fits.1), tt, tt)), tt, tt)
command_plain room (TheCommand.RecordWatch tx vote by) fits = (refl, (refl, (u16_plain by fits.0), refl, (refl, (draw_plain (suc (suc (suc (suc (suc (suc room)))))) tx fits.1), refl, (refl, (past_plain (suc (suc (suc room))) vote fits.2), tt, tt))), tt, tt)

pub report_plain : (room : ℕ) (report : Report Command) → FitsReport report → IsPlain (suc (suc (suc (suc (suc (suc (suc (suc (suc room))))))))) (report_json report)
unfolding report_json FitsReport
report_plain room report fits = (refl, (ballot_plain (suc (suc (suc (suc (suc (suc (suc room))))))) report.ballot fits.0), refl, (refl, (u32_plain report.slot fits.1), refl, (refl, (command_plain room report.value fits.2), tt, tt)))
