-- The definitions of this crate that other crates cite, under one name.
pub use Rattle.sc_thread_ledger.specs.Pending.{kth_pending, upto, pending_of, may_have, may_repeat, is_pending, whose}
pub use Rattle.sc_thread_ledger.specs.Kept.{runs, counts_for, crashed_in}
pub use Rattle.sc_thread_ledger.specs.Homes.{homes_from, firsts_from}
pub use Rattle.sc_thread_ledger.specs.PostErrors.{IsCause}
pub use Rattle.sc_thread_ledger.specs.Spots.{spot_after, spots_of, copies_for, picked_spot, AreCounted, IsNext, spots_from, is_one_of, spot_behind}
pub use Rattle.sc_thread_ledger.specs.Queues.{open_entries, copies_in, lower, recounted, queue_of, kept, Holds}
