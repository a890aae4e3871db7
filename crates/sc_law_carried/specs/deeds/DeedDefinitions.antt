-- The definitions of this part of the crate that others cite, under one name.
pub use Rattle.sc_law_carried.specs.deeds.Deeds.{Came, Deed, sent_in, input_got, actor_after, is_start, has_begun, event_of}
pub use Rattle.sc_law_carried.specs.deeds.Carriers.{MayCome, IsCarried, AreCarriedAfter, AreCarried}
pub use Rattle.sc_law_carried.specs.deeds.CarriedRows.{deed_row, repeat_before, with_deed, rows_of, is_repeat}
pub use Rattle.sc_law_carried.specs.deeds.DeedLaws.{RowsAreDeeds, CarriedDeedsAreLawful, CarriedDeedsAreSound}
pub use Rattle.sc_law_carried.specs.deeds.HeldReplies.{IsPrinted, client_now, PrintedRepliesAreDecided, PrintedRepliesComeFirst}
