use Rattle.sc_client_table.proofs.TableProofs.TurnLemmas.{sends_in_turn}
use Rattle.sc_client_table.proofs.table.clients_send_in_turn.Goals as goal

pub returns : goal.returns
returns c = sends_in_turn
