-- The definitions of this crate that others cite, under one name.
pub use Rattle.sc_history.specs.Histories.{is_conditional, CanEnd, MayAskAfter, last_act, MayFollow, AreInTurn, IsHistory}
pub use Rattle.sc_history.specs.Reasons.{reason_text}
pub use Rattle.sc_history.specs.Grammar.{most_history_bytes, history_of, HasVerdict, TextsAreHistories, FirstBytesDecide}
