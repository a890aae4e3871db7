-- The lemmas of this part of the crate that others cite, under one name.
pub use Rattle.sc_live_steps.proofs.EntriesProofs.OrderEntryVotes.{order-entries-count as order_entries_count}
pub use Rattle.sc_live_steps.proofs.EntriesProofs.EntryMembers.{any_kept, StandsAs, join-stands, leave-stands, split-stands, vote-waits, watch-stands}
pub use Rattle.sc_live_steps.proofs.EntriesProofs.CoordinatorQuestions.{bonds-ask as bonds_ask}
