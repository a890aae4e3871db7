-- The lemmas of this crate that others cite, under one name.
pub use Rattle.sc_paxos_law.proofs.Among.{Among-right, from_map, member-among, Among-left, Among-either, place_among, among-member, shared_member, Among-flat_map, from_flat_map, get_pushed}
pub use Rattle.sc_paxos_law.proofs.Decided.{later_logs, log_of-longest, log_grows, prefix_of_log}
pub use Rattle.sc_paxos_law.proofs.History.{was_offered, one_offer, report_accepted}
pub use Rattle.sc_paxos_law.proofs.Law.{earlier, longer_log, later_log, later_chosen, agree_members, logs_agree, later_elected, one_value_per_slot, chosen_by}
pub use Rattle.sc_paxos_law.proofs.Leading.{elected_by}
