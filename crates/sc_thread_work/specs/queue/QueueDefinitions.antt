-- The definitions of this crate that other crates cite, under one name.
pub use Rattle.sc_thread_work.specs.queue.Hands.{with_all, weigh, hand, opener, taker, idle, less, joined, with_put, with_taken, numbered, works, AllPlaced, Fits, Kept, HasRoom, KnowsWhole, all_parts, IsWorkedOff, known}
pub use Rattle.sc_thread_work.specs.queue.TakenItems.{AllWorked, AllInside, Did, Gathers, filled, AllGiven, IsRight, AllFree, AllThere}
