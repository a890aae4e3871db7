-- The JSON of each type, by the definitions of `sc_json_text`, under one name.
pub use Rattle.sc_json_text.specs.rows.Names.{draw_json, FitsDraw, ballot_json, FitsBallot}
pub use Rattle.sc_json_text.specs.rows.Ops.{op_json, FitsOp, reply_json, FitsReply}
pub use Rattle.sc_json_text.specs.rows.Sets.{arc_json, nodes_json, pairs_json, FitsPairs, client_json, FitsNoted, clients_json, FitsClients}
pub use Rattle.sc_json_text.specs.rows.Links.{link_json, FitsLink, route_json, FitsRoute}
pub use Rattle.sc_json_text.specs.rows.Bodies.{body_json, FitsBody, offer_json, FitsOffer, watch_json, FitsWatch}
pub use Rattle.sc_json_text.specs.rows.Votes.{no_json, FitsNo, frozen_json, FitsFrozen, heard_json, FitsHeard, vote_json, FitsVote, past_json, FitsPast}
pub use Rattle.sc_json_text.specs.rows.Outcomes.{gift_json, FitsGift, outcome_json, FitsOutcome}
pub use Rattle.sc_json_text.specs.rows.Cores.{lock_json, FitsLock, core_json, FitsCore, base_json, FitsBase}
pub use Rattle.sc_json_text.specs.rows.Commands.{command_json, FitsCommand, report_json, FitsReport}
pub use Rattle.sc_json_text.specs.rows.Orders.{order_json, FitsOrder, order_line_json, FitsOrderLine, order_refusal_json, FitsOrderRefusal, order_result_json, FitsOrderResult}
pub use Rattle.sc_json_text.specs.rows.Answers.{answer_body_json, FitsAnswerBody}
pub use Rattle.sc_json_text.specs.rows.Mails.{mail_body_json, FitsMailBody, mail_json, FitsMail}
pub use Rattle.sc_json_text.specs.rows.Rows.{event_json, FitsEvent, row_json, FitsRow}
