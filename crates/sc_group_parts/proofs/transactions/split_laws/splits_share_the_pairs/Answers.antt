use Rattle.sc_group_parts.proofs.TransactionsProofs.Totals.{splits_share}
use Rattle.sc_group_parts.proofs.transactions.split_laws.splits_share_the_pairs.Goals as goal

pub returns : goal.returns
returns c = splits_share
