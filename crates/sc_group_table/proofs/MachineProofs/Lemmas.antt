-- The lemmas of this crate that others cite, under one name.
pub use Rattle.sc_group_table.proofs.MachineProofs.Parts.{group_again, clients_again, part_within, first_inside, second_inside, parts_turned, pairs_again, second_or}
pub use Rattle.sc_group_table.proofs.MachineProofs.LogLemmas.{state_push, done_push}
