use Rattle.sc_group_parts.proofs.TransactionsProofs.Movers.{moves_keep}
use Rattle.sc_group_parts.proofs.transactions.migration_laws.migrations_keep_all.Goals as goal

pub returns : goal.returns
returns c = moves_keep
