-- The definitions of this part of the crate that others cite, in one module.
pub use Rattle.sc_live_journals.specs.logs.GroupLogs.{logged_sets, IsGroupOf, HasReplica, SlotsHaveRosters, ViewsAreReplicas, ReplicasAreLogged, CommandsComeNext, StatesAreLogged, IsLogged, IsLoggedState}
pub use Rattle.sc_live_journals.specs.logs.Nodes.{MembersAreNodes, BringsNodes, HasNodes, SaysNodes, EntriesBringNodes, AreNodes, MovesNode, HandsNodes, HeardNodes, LockNodes}
