-- The definitions of this crate that others cite, under one name.
pub use Rattle.sc_live_healed.specs.FixedMembers.{IsFixedCommand, IsFixedRequest, IsFixedGroup, IsFixedReplica, RunsInOwnBallot, IsFollower, KeepsBallots, IsOfMembers, IsFixedBase, IsFixedAnswer, IsFixedBody, IsFixedMail, IsFixedNode, KnowsFixed, IsFixedClient}
pub use Rattle.sc_live_healed.specs.TakenSlots.{IsUndecided, HasOfferedAll, TakesSlots, AllTakeSlots}
pub use Rattle.sc_live_healed.specs.VotesUnderWay.{HasVoted, Counts, IsCarried, mail_between, IsAnswered, Accepts, Refuses, Installs, IsVoteUnderWay, Counted, Asked, Answered, VotesAreUnderWay, IsInBounds}
pub use Rattle.sc_live_healed.specs.IdleReplicas.{LivingMajority, IsIdle}
pub use Rattle.sc_live_healed.specs.Polls.{IsSettledOrStopped, AnswersPoll, IsAnswerKind}
pub use Rattle.sc_live_healed.specs.HealedSchedules.{crashes, is_order, lives, HasLivingMajorities, NodeTurn, ClientTurn, node_lines, client_line, client_lines, IsHealed}
pub use Rattle.sc_live_healed.specs.HealedStores.{IsIdleLeader, IsIdleStore, HasReplies, AskedACrashedNode, IsKicked, IsAtEnd, StaysIdle, AnswersTurns, AnswersAll, Heals, HealedStoresAnswer}
pub use Rattle.sc_live_healed.specs.AskingClients.{IsAskingOn, IsAskingClient}
