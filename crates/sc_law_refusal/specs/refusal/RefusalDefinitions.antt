-- Re-exports of the definitions of this part of the crate that others cite.
pub use Rattle.sc_law_refusal.specs.refusal.Causes.{HasCauseAtEntry, RefusesCall, answers_in, effect_answers, entry_answers, log_with, log_after, IsBroughtBy, StepHasCauses, StepsHaveCauses, IsNotLeader, RunningReplicasTakeRequests, at_node, ends_queued, is_answer, taught_by, MayGiveUp, IsImpatient, IfAnswer, LacksKey, IsHeldOrBrought, LeadsNoMore, HasCauseAfter, AnswersCall, AnswersInTurn, IsTakenOver, taught}
pub use Rattle.sc_law_refusal.specs.refusal.ClientTurns.{KeepsTurn, number_in, Starts, GoesOn}
pub use Rattle.sc_law_refusal.specs.refusal.RowCauses.{Rows, Acts, ticks_in, RowHasCauses, coordinates, node_coordinates, is_tick, is_counted, ticks_from}
pub use Rattle.sc_law_refusal.specs.refusal.Journals.{RefusesWithCause, ValidJournalsRefuseWithCause}
pub use Rattle.sc_law_refusal.specs.refusal.NodeCauses.{AnswersHaveCauses, ActsHaveCauses, NodeHasCauses, TakesRequests, counted_ticks, AreSentBy, IsSentBy, MayGiveUpAt, NodesHaveCauses, replica_for, takers, TurnsAway}
