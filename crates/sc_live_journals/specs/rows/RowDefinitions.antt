-- The definitions of this part of the crate that others cite, in one module.
pub use Rattle.sc_live_journals.specs.rows.NonPaxosMail.{IsUnmoved, AsidesStayStill}
pub use Rattle.sc_live_journals.specs.rows.GroupBirths.{ScenariosBeginFollowing, ChildrenBeginFollowing}
pub use Rattle.sc_live_journals.specs.rows.Elections.{IsNextLead, IsPast, ElectionsKeepFollowing, LearntEntriesAreExecuted}
pub use Rattle.sc_live_journals.specs.rows.EvenGroups.{IsEvenAt, QuietGroupsRest}
pub use Rattle.sc_live_journals.specs.rows.Groups.{view_at, mark_in, taken_mark, promise_in, progress_at, replica_in, replicas_of, marks_at, next_in, IsLedBy, begun_course, IsCourseOf, IsFollowedAt, FollowsOn}
pub use Rattle.sc_live_journals.specs.rows.FollowingRows.{LeavesLead, RowsKeepFollowing, OthersKeepFollowing, LeadsStay}
pub use Rattle.sc_live_journals.specs.rows.MailRows.{TakesMail, HoldsReplica, IsScene, FollowsAfter, NodesKeepFollowing, LeadsKeepFollowing}
pub use Rattle.sc_live_journals.specs.rows.Senders.{IsOwnMail, IsOwnAsking, PlaysAlone, AreOwn, RunsAlone, BallotsAreOwn, BirthsPlayAlone}
pub use Rattle.sc_live_journals.specs.rows.ReplicaSteps.{led_course, LedBy, elected_course, WaitsStill, StepsLead, StepsTake, StatesTake, UncountedPass, IsToLead, StepsElect, StillIdle}
pub use Rattle.sc_live_journals.specs.rows.FollowedJournals.{EventsKeep, GroupsFollowThrough}
pub use Rattle.sc_live_journals.specs.rows.PlayerRows.{with_event, IsSeat, IsReplicasRow, made_children, AreAsBegun, IsBornOr, LeavesAlone, LeavesOrCreates, IsIdleIn, IsKind, IsWholeState, NamesStay, OthersHearNothing, RowsAreOfGroups, OthersRowsAreIdle, RowsAreReplicas}
pub use Rattle.sc_live_journals.specs.rows.ReplicaInvariant.{IsWellKept, IsWellKeptNode, NodesStayWellKept, NodesAreBornWellKept}
