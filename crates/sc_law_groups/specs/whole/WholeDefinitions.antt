-- Re-exports of the definitions of this part of the crate that others cite.
pub use Rattle.sc_law_groups.specs.whole.Begins.{BeginsWell, section_op, IsReady, IsFresh, HasSeats, AsksAre, op_or_get}
pub use Rattle.sc_law_groups.specs.whole.WholeJournalLaws.{MembersStayRosters, LawfulJournalsDecideInTurn, LawfulJournalsAreSound, LawfulJournalsHoldBeside}
pub use Rattle.sc_law_groups.specs.whole.Orders.{OrdersAreAllowed, QueuedOrdersAreAllowed, WishedAreAllowed}
pub use Rattle.sc_law_groups.specs.whole.Parameters.{MayQueue, IsHeardAt, stories_at, IsIssuedCall, IsHeard}
pub use Rattle.sc_law_groups.specs.whole.Parties.{PartiesAreApart, MergesFit}
pub use Rattle.sc_law_groups.specs.whole.SplitExample.{split_scenario, split_example}
pub use Rattle.sc_law_groups.specs.whole.StartLaws.{ValidScenariosBeginWell}
pub use Rattle.sc_law_groups.specs.whole.Texts.{election_text, join_text, two_text, split_text}
pub use Rattle.sc_law_groups.specs.whole.TwoGroups.{two_scenario, two_example}
pub use Rattle.sc_law_groups.specs.whole.Valid.{ValidJournalsAreSound, ValidEntriesAreLogs}
pub use Rattle.sc_law_groups.specs.whole.WellFormed.{IsWellFormed, GivesBoundedOrder, BoundedScenariosAreWellFormed, WellFormedJournalsAreSound}
