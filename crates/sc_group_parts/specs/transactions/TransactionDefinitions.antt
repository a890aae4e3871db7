-- The definitions of this crate that others cite, under one name.
pub use Rattle.sc_group_parts.specs.transactions.MigrationLaws.{MigrationsKeepAll}
pub use Rattle.sc_group_parts.specs.transactions.RepartLaws.{GivesArc, GivingKeepsTheTotal, TakesArc, TakingKeepsTheTotal}
pub use Rattle.sc_group_parts.specs.transactions.SplitLaws.{Merges, SplitsShareThePairs, MergesKeepTheTotal}
