-- The definitions of this crate that others cite, under one name.
pub use Rattle.sc_linear_law.specs.Game.{Move, without, joined, Takes, CanPass, AllFit}
pub use Rattle.sc_linear_law.specs.Requests.{Ending, ended_by, with_act, requests_of, answer_line, is_before, is_refused, fits, value_after, is_on, of_key, known_by, until_line, up_to}
pub use Rattle.sc_linear_law.specs.Registers.{HasRegisterReplies}
pub use Rattle.sc_linear_law.specs.Orders.{entry_of, EachPair, AreTwo, MayFollow, IsOrder, is_done, IsLinearization, IsLinearizable}
pub use Rattle.sc_linear_law.specs.Places.{begun_before, is_done_before, taken_of, Place, IsPlace, HasMorePlaces}
