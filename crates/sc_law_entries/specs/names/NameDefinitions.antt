-- Re-exports of the definitions of this part of the crate that others cite.
pub use Rattle.sc_law_entries.specs.names.Owners.{owner_in, owned_by, drawn_for, names_drawn, is_node_of, drawn_at, Rows, Owned, waited, wished_at, drawn_wishing, drawn_ticking, owner_by, owner_from}
pub use Rattle.sc_law_entries.specs.names.Names.{PlayerNames, ReplicaNames, CoreNames, OutcomeNames, PastNames, Opt, CommandNames, EffectNames, AnswerNames, ResultNames, LockNames, MailNames, NodeNames, ClientNames, BodyNames, BodiesNames, OfferNames, WatchNames, NoNames, VoteNames, HeardNames, RefusalNames, ReportsNames}
pub use Rattle.sc_law_entries.specs.names.NameLaws.{OtherNamesAreFree, TakenOrdersAreAllowed, TakenWishesAreAllowed, WishesAreAtPositions, NodesHaveNames, HasNames, DrawnNamesAreOwned, RowsDrawOnce, OwnedNamesAreOfNodes, IsAtPosition, TakesOrder, TakesWish, OrdersAreQueued, IsDrawn, OwnersStay, OwnedNamesAreDrawn}
pub use Rattle.sc_law_entries.specs.names.Fresh.{BeginsUndrawn, AllNames, IsUsed, NamesAreDrawn, AllDecided, DrawnNamesAreNew}
pub use Rattle.sc_law_entries.specs.names.NameExample.{example_name, second_name, third_name, drawing_scenario, drawing_rows}
pub use Rattle.sc_law_entries.specs.names.Naming.{AllowedNamesAreDrawn, LoggedNamesAreDrawn, MoreOwnersAllow}
