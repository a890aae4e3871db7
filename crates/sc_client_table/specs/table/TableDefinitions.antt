-- The definitions of this crate that others cite, under one name.
pub use Rattle.sc_client_table.specs.table.Client.{Client, waiting_request, born_client, request_at}
pub use Rattle.sc_client_table.specs.table.Table.{ClientStep, table, asked_of, sent_where, chosen_for, request_sent, started, waits_for, was_asked, redirected, answer_taken, got, sent_to, request_of, client_ticked, turned_on}
pub use Rattle.sc_client_table.specs.table.Turns.{InTurn, SendsWaiting, SendsInTurn, Waits, Begins, TakesReply, IsReplyTo}
