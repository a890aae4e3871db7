-- The definitions of this crate that others cite, under one name.
pub use Rattle.sc_scenario.specs.scenario.Orders.{name_in, last_position, order_in}
pub use Rattle.sc_scenario.specs.scenario.Schedules.{most_deliveries, is_client, most_mails, most_workers, last_storm, actor_in, line_in}
pub use Rattle.sc_scenario.specs.scenario.Groups.{base_at, bases_up_to, group_at, name_at, place_right, way, arc_at, lone_name, lone_group, nodes_with, joined_by, joined_by_all, has_repeat, set_of, place_left, bases_of}
pub use Rattle.sc_scenario.specs.scenario.Statements.{group_in, statement_in}
pub use Rattle.sc_scenario.specs.scenario.Places.{is_in_place, phase_so_far, may_follow}
pub use Rattle.sc_scenario.specs.scenario.Taking.{taken_outside, taken_within, client_place, is_actor, is_order_known, is_line_known, has_stranger, is_above, most_groups, most_members, with_group_line, group_taken, with_client, with_op, client_taken, request_taken, with_sched_line, line_of_order, with_order, line_taken, order_line_taken}
pub use Rattle.sc_scenario.specs.scenario.Grammar.{verdict_of, HasVerdict, said, line_read, going_on, lines_read, begun, are_two, header_read, words_read, is_fresh, scenario_by, reading_ended, text_ended, bad, scenario_of}
pub use Rattle.sc_scenario.specs.scenario.Made.{made_op, made_scenario, made_key, made_value, made_groups}
unfoldable pub use Rattle.sc_scenario.specs.scenario.Made.{made_ops, made_clients, made_goes}
pub use Rattle.sc_scenario.specs.scenario.Valid.{ValidScenariosAreBounded, IsBounded, IsBoundedClient, IsBoundedGroup, IsUpTo, IsShortOp, IsBoundedLine, IsValid, IsBoundedOrder, FirstBytesDecide, IsActor, IsWritten}
