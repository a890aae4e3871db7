-- The definitions of this crate that other crates cite, in one module.
pub use Rattle.sc_live_orderly.specs.OrderedRows.{rest, is_born, IsTidy, IsOrderly, IsInOrder, mail_for, taken, deliveries, IsPlainLine, IsCalmEvent, is_told, orders, mail_with, IsCalmRow, goes, IsCalmLine}
pub use Rattle.sc_live_orderly.specs.Potential.{owed_at_birth, Owing, owed, owed_by, HasRoom, SendsToActors, under_way, Lowers}
pub use Rattle.sc_live_orderly.specs.OrdersInQuiet.{Said, Nothing, Goes, AnOrder, MayGo, MayOrder, AreSpaced, AreInTime, IsMeasure, orders_given, LinesGiveAllowedOrders, gives_order, ComesInTime, IsClear, GiveAllowedOrders, GivesAllowedOrder, LineGivesAllowedOrder}
pub use Rattle.sc_live_orderly.specs.Turns.{Kick, Ticks, Starts, Turn, kick_line, turn_lines, pending_mail, AreDelivered, IsTurn, HasTurns, TakesLowest}
