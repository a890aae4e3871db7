-- The lemmas of this part of the crate that others cite, under one name.
pub use Rattle.sc_law_entries.proofs.NamesProofs.Counters.{others_are_free as names_have_one_owner_others, nodes_have_names as counters_part_names}
pub use Rattle.sc_law_entries.proofs.NamesProofs.Wished.{wishes_at_positions as orders_are_allowed_positions}
pub use Rattle.sc_law_entries.proofs.NamesProofs.Ordered.{orders_are_allowed as orders_are_allowed_allowed, wishes_are_allowed as orders_are_allowed_wishes}
pub use Rattle.sc_law_entries.proofs.NamesProofs.EachFound.{Each-drop, opt_find, opt_map, opt_either, opt_slot, slot_without, flight_without, slot_with, voters_with, opt_choice}
pub use Rattle.sc_law_entries.proofs.NamesProofs.Fresh.{names_are_drawn as drawn_names_are_new_drawn, drawn_are_new}
