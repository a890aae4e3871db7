use Rattle.sc_group_parts.proofs.TransactionsProofs.Moves.{giving_keeps, taking_keeps}
use Rattle.sc_group_parts.proofs.transactions.repart_laws.reparts_keep_the_total.Goals as goal

pub returns : goal.returns
returns c = record { gives = giving_keeps; takes = taking_keeps }
