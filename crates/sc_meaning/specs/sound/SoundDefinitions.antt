-- Re-exports of the definitions of this crate that others cite.
pub use Rattle.sc_meaning.specs.sound.Accepts.{is_accepted, accepts_of, accepts_got, accepts_at, accepts_from, accepts}
pub use Rattle.sc_meaning.specs.sound.Example.{alone, put_it, get_it, ballot, mail, row, example_rows, put_get_scenario, four, example_history}
pub use Rattle.sc_meaning.specs.sound.GroupsOf.{entries_at, groups_at, children_of, birth_at, is_birth_of, world_at, log_at, history_at, children_by, with_birth, with_next_children, with_descendants, log_by, entries_from, entries_after, entries_by_row, AreNamedApart, entries_by_rows, state_at, entries_gained, ring_at}
pub use Rattle.sc_meaning.specs.sound.Histories.{history, newly_decided, history_from}
pub use Rattle.sc_meaning.specs.sound.Logs.{decided_state, decided_log, rule_of, IsChosenIn}
pub use Rattle.sc_meaning.specs.sound.Players.{player_table, node_seat, route_of, system_of, as_nodes, Player, client_seat, births, client_seats, line_of, schedule, replies_of, Lawful, Whole, Ahead, receiver_of, parties, most_actor, AreFew}
pub use Rattle.sc_meaning.specs.sound.Requests.{kept_replies, asks_for, issues, issue_row, issued_from, IsRequest, kept_reply, answer_row, answered_from}
pub use Rattle.sc_meaning.specs.sound.Soundness.{IsOneMap, HasRun, Continues, IsSound, AllHaveRun, row_of_entry_from, AnswersRequests, row_of_entry, IsTimely, KeepsRealTime, IsSoundThroughout}
pub use Rattle.sc_meaning.specs.sound.Summary.{asked_from, asked_by}
