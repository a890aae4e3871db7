-- The lemmas of this crate that others cite, under one name.
pub use Rattle.sc_actor.proofs.ReplayLemmas.{value-snoc, mails-snoc, mails-append, copies-snoc}
pub use Rattle.sc_actor.proofs.WalkLemmas.{lawful-prefix, lawful-last, Stands, Stands-row, Stands-over, Stands-next, Stands-begin, Stands-whole, onward-rows, place_after-rows, Stands-at, Stands-allows, Stands-ended, lawful-snoc}
pub use Rattle.sc_actor.proofs.PendingLemmas.{waiting_one, waiting_any, wide_none, some_waits, first_is, pending_sound, first_own, get_left, waiting_at}
pub use Rattle.sc_actor.proofs.Induction.{lawful-induction, find-who, MayAdd-step, unless-some}
pub use Rattle.sc_actor.proofs.CountLemmas.{counted, length-counts_at}
pub use Rattle.sc_actor.proofs.BoundLemmas.{mails_count, journal_counts, journal_bytes-snoc, copies_bounded}
pub use Rattle.sc_actor.proofs.Numbers.{get_at, kth-here, kth-past, kth-later, kth-found, numbers-end, kth-none, numbers-drop, open_first, list_any-map}
pub use Rattle.sc_actor.proofs.TaskLemmas.{steps_left, split, one_of}
