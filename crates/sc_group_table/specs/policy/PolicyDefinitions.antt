-- The definitions of this crate that others cite, under one name.
pub use Rattle.sc_group_table.specs.policy.Wishes.{wished, order_of, wished_order, is_reported, has_neighbour, is_small, middle_of, positions_from, middle_key, wants_split, wants_repart, wished_of_two, positions}
pub use Rattle.sc_group_table.specs.policy.Laws.{far_from, KeysRiseFromTheStart}
