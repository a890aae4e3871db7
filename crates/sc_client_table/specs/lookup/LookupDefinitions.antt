-- The definitions of this crate that others cite, under one name.
pub use Rattle.sc_client_table.specs.lookup.Choice.{IsNearest, ChoosesNearest}
pub use Rattle.sc_client_table.specs.lookup.Known.{target_in, preferring, passed_on, learnt_from_not_mine, learnt_from_gone, KnownGroups, way_to, nearer, better, chosen, changed, starting, group_learnt}
pub use Rattle.sc_client_table.specs.lookup.Ways.{new_way, far, target_of, next_target}
