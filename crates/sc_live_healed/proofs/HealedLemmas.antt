-- The lemmas of this crate that others cite, under one name.
pub use Rattle.sc_live_healed.proofs.FixedWalks.{IsFresh, IsMember, IsSaid, IsFixedPlace, FixedWalk, FixedTickParts}
pub use Rattle.sc_live_healed.proofs.FixedPlaces.{mailed_fixed, ticked_fixed}
pub use Rattle.sc_live_healed.proofs.FixedBesides.{FixedFacts, FixedStates, FixedTickStates, both_walk, both_ticks}
pub use Rattle.sc_live_healed.proofs.FixedNodes.{AreFresh, MayTake, IsOne, steps_fixed}
pub use Rattle.sc_live_healed.proofs.FixedBirths.{groups_fresh}
pub use Rattle.sc_live_healed.proofs.FixedClients.{client_fixed}
pub use Rattle.sc_live_healed.proofs.FixedJournals.{Rows, IsFixedPlayer, IsOf, IsFixedJournal, AreWithoutOrders, journal_fixed}
pub use Rattle.sc_live_healed.proofs.HarmlessRows.{Harm, IsHarmless, rows_harmless}
pub use Rattle.sc_live_healed.proofs.RowsWithoutOrders.{IsWithoutOrders, rows_untold, Spares, rows_spare}
pub use Rattle.sc_live_healed.proofs.MovedReplicas.{AsksWithin, Brings, Moves, HasMoved, mailed_moves, pumped_moves, ticked_moves}
pub use Rattle.sc_live_healed.proofs.PollAnswers.{Answered, polls_are_answered, refusals_stop, states_stop, mail_keeps_settled, majorities_settle, answers_count}
pub use Rattle.sc_live_healed.proofs.SettledTicks.{tick_keeps_settled}
pub use Rattle.sc_live_healed.proofs.NodeViews.{TakesMail, PassesMail, mail_view}
pub use Rattle.sc_live_healed.proofs.PollTurns.{Replicas, IsOfGroup, IsTaken, IsPassed, IsDelivered, Polls, FirstRound, SecondRound, first_begins, first_step, second_begins, second_step, polls_end_settled}
pub use Rattle.sc_live_healed.proofs.DeliveredViews.{view, alive, delivered_view}
pub use Rattle.sc_live_healed.proofs.PollsEnd.{FitsSlots, Progress, Course, polls_end}
pub use Rattle.sc_live_healed.proofs.PollBegins.{next_ballot, elected_at_tick, members_are_asked}
pub use Rattle.sc_live_healed.proofs.GrowingJournals.{Growth, PlayerGrown, IsGrownJournal, journal_grown}
pub use Rattle.sc_live_healed.proofs.NearRounds.{NamesRound, rounds_grow}
pub use Rattle.sc_live_healed.proofs.NodeTicks.{NoneNamed, OneNamed, TicksOne, one_of_all_ticks}
pub use Rattle.sc_live_healed.proofs.ActorRows.{View, HasOne, Rises, AsksSo, PlayerRow, player_rows}
pub use Rattle.sc_live_healed.proofs.FreshBallots.{AsksSeen, HasFreshBallots, ballots_fresh}
pub use Rattle.sc_live_healed.proofs.OwnTicks.{OwnTick, own_tick}
pub use Rattle.sc_live_healed.proofs.SettledTurns.{IsSettledAfter, HasTicked, turn_settles, turns_settle}
pub use Rattle.sc_live_healed.proofs.ShorterSchedules.{WholePrefix, whole_prefix}
pub use Rattle.sc_live_healed.proofs.HealedLines.{turns_of, lines_to, lines_are_turns, lines_go_on, healed_untold, living_spared}
pub use Rattle.sc_live_healed.proofs.LivingSeats.{node_found, node_is_found, living_bounds, living_node, living_gets, living_majority}
pub use Rattle.sc_live_healed.proofs.HealedIdle.{store_idle, healed_stores_stay_idle}
pub use Rattle.sc_live_healed.proofs.AskingJournals.{IsAskingAt, IsAskingJournal, journal_asking}
pub use Rattle.sc_live_healed.proofs.FewJournals.{HasSentFew, IsFewJournal, journal_few}
pub use Rattle.sc_live_healed.proofs.LoneRequestRows.{lone_walk}
pub use Rattle.sc_live_healed.proofs.HeldRequestRows.{held_walk}
pub use Rattle.sc_live_healed.proofs.LoneTurnRows.{all_delivered}
pub use Rattle.sc_live_healed.proofs.AnsweredTurns.{turn_answers}
pub use Rattle.sc_live_healed.proofs.AnsweredStores.{healed_stores_answer}
