-- The definitions of this crate that others cite, under one name.
pub use Rattle.sc_words.specs.ideal.Clients.{ClientTable, later, joined_with, is_later, with_later}
pub use Rattle.sc_words.specs.ideal.History.{HasStoreReplies, contents_after, HasEntry, Legal, AreApart, example_entries}
pub use Rattle.sc_words.specs.ideal.IdealStore.{key_of, holds_key, Contents, reply_of, after, was, part_of, with_pairs}
pub use Rattle.sc_words.specs.ideal.StoreLaws.{ServesApart, MapPartsJoin, JoinedByNumber, JoinedInAnyOrder, Agree, noted_number}
