-- The definitions of this crate that others cite, under one name.
pub use Rattle.sc_words.specs.paxos.Accepting.{accepted}
pub use Rattle.sc_words.specs.paxos.Acceptors.{AcceptorState, may_accept, after_accept, reports_from, may_promise, after_promise, with_report, born_acceptor, after_cut, IsBySlot, IsWholeAcceptor, last_at}
pub use Rattle.sc_words.specs.paxos.Ballots.{below, IsAtLeast}
pub use Rattle.sc_words.specs.paxos.Choice.{names_above, chosen_value, choice, is_better, better_of, beats}
pub use Rattle.sc_words.specs.paxos.BallotLaws.{IsFirstHighest}
pub use Rattle.sc_words.specs.paxos.Leaders.{flight_at, without_flight, LeaderState, without_flight_at, must, promise_counted, must_without, new_leader, with_flight_at, first_leader, Obeys, is_settled}
pub use Rattle.sc_words.specs.paxos.Logs.{entry_at, LogState, next_of, installed, log_cut, empty_log, learnt}
pub use Rattle.sc_words.specs.paxos.Preparing.{prepared}
pub use Rattle.sc_words.specs.paxos.Votes.{kept_voters, add_voter, voters_after, with_voters, vote_at, counted, tallied, has_counted}
