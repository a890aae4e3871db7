use Rattle.sc_group_parts.proofs.TransactionsProofs.Totals.{merges_keep}
use Rattle.sc_group_parts.proofs.transactions.split_laws.merges_keep_the_total.Goals as goal

pub returns : goal.returns
returns c = merges_keep
