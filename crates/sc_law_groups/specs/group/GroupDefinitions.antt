-- Re-exports of the definitions of this part of the crate that others cite.
pub use Rattle.sc_law_groups.specs.group.ElectionExample.{election_scenario, election_example}
pub use Rattle.sc_law_groups.specs.group.JoinExample.{join_scenario, join_example}
pub use Rattle.sc_law_groups.specs.group.PaxosSteps.{proposer_steps, asked_in, promises_at, steps, promised_by, promises_of, promises_got, steps_at, steps_from}
