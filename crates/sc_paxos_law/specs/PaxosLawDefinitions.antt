-- The definitions of this crate that others cite, under one name.
pub use Rattle.sc_paxos_law.specs.Chosen.{needed, IsLog, members_of, Rule, IsChosenAfter, IsChosen}
pub use Rattle.sc_paxos_law.specs.Decided.{voters_of, lesser_of, found_in, chosen_at, top_slot, with_next_entries, log_of}
pub use Rattle.sc_paxos_law.specs.Example.{first, second, three, example_steps}
pub use Rattle.sc_paxos_law.specs.Lawful.{IsLawfulHistory, CountedPromise, MayOffer, IsLawfulStep, IsElected}
pub use Rattle.sc_paxos_law.specs.Steps.{Accepted, Step, Offered, Prepared, Promised, Cut, state_of}
