-- The definitions of this crate that others cite, under one name.
pub use Rattle.sc_base.specs.Among.{Among, Each}
pub use Rattle.sc_base.specs.Arc.{offset, Arc, end_of, holds, IsArc, before, from, CanCut, CanJoin, joined}
pub use Rattle.sc_base.specs.ArcLaws.{CutsJoin, JoinsHold, PartsJoin}
pub use Rattle.sc_base.specs.Ascending.{IsAscending, EndsBelow}
pub use Rattle.sc_base.specs.Drawing.{Drawer, drawn_by, Apart, next_name, drawn_on}
pub use Rattle.sc_base.specs.Errors.{add_error, remove_error}
pub use Rattle.sc_base.specs.Limits.{client_actor, most_clients, most_requests, most_nodes, longest_key, longest_value}
pub use Rattle.sc_base.specs.Majority.{IsMajority, is_majority, votes_of}
pub use Rattle.sc_base.specs.MajorityLaws.{SharesMember}
pub use Rattle.sc_base.specs.Number.{value_from, is_numeral, number_of}
pub use Rattle.sc_base.specs.Operation.{key_of}
pub use Rattle.sc_base.specs.Refusal.{Refuses}
pub use Rattle.sc_base.specs.Roster.{is_member, with_member, IsRoster, without_member, least_of, next_after}
pub use Rattle.sc_base.specs.Same.{same_draw, same_ballot}
pub use Rattle.sc_base.specs.Text.{IsText, is_visible, pos_of}
pub use Rattle.sc_base.specs.TextErrors.{text_error}
pub use Rattle.sc_base.specs.Union.{with_any, united}
