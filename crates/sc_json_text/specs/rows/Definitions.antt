-- The definitions of this crate that other crates cite, under one name.
pub use Rattle.sc_json_text.specs.rows.Shapes.{items_json, variant, variant_name, first_name, number_json, option_json, list_json, fields, pair_json, members_json}
pub use Rattle.sc_json_text.specs.rows.Held.{FitsU16, PairFits, FitsArc, FitsMembers, FitsU32, OptionFits, FitsKey, FitsValue, FitsU8}
unfoldable pub use Rattle.sc_json_text.specs.rows.Names.{draw_json, FitsDraw, ballot_json, FitsBallot}
unfoldable pub use Rattle.sc_json_text.specs.rows.Ops.{reply_json, op_json, FitsOp, FitsReply}
unfoldable pub use Rattle.sc_json_text.specs.rows.Sets.{client_json, FitsNoted, arc_json, nodes_json, pairs_json, FitsPairs, clients_json, FitsClients}
unfoldable pub use Rattle.sc_json_text.specs.rows.Links.{link_json, FitsLink, route_json, FitsRoute}
unfoldable pub use Rattle.sc_json_text.specs.rows.Bodies.{body_json, FitsBody, offer_json, FitsOffer, watch_json, FitsWatch}
unfoldable pub use Rattle.sc_json_text.specs.rows.Votes.{no_json, frozen_json, FitsFrozen, heard_json, FitsHeard, FitsNo, past_json, FitsPast, vote_json, FitsVote}
unfoldable pub use Rattle.sc_json_text.specs.rows.Outcomes.{gift_json, FitsGift, outcome_json, FitsOutcome}
unfoldable pub use Rattle.sc_json_text.specs.rows.Cores.{base_json, FitsBase, core_json, FitsCore, lock_json, FitsLock}
unfoldable pub use Rattle.sc_json_text.specs.rows.Commands.{command_json, FitsCommand, report_json, FitsReport}
unfoldable pub use Rattle.sc_json_text.specs.rows.Orders.{order_refusal_json, order_line_json, order_json, FitsOrder, FitsOrderLine, FitsOrderRefusal, order_result_json, FitsOrderResult}
unfoldable pub use Rattle.sc_json_text.specs.rows.Answers.{answer_body_json, FitsAnswerBody}
unfoldable pub use Rattle.sc_json_text.specs.rows.Mails.{mail_body_json, FitsMailBody, mail_json, FitsMail}
unfoldable pub use Rattle.sc_json_text.specs.rows.Rows.{event_json, FitsEvent, row_json, FitsRow}
unfoldable pub use Rattle.sc_json_text.specs.rows.RowText.{text_of, IsHeld}
