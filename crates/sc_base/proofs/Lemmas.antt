-- The lemmas of this crate that others cite, under one name.
pub use Rattle.sc_base.proofs.ArcLemmas.{cuts_join, joins_hold}
pub use Rattle.sc_base.proofs.AscendingLemmas.{and_both, is_less, and_left, and_right}
pub use Rattle.sc_base.proofs.CommonLemmas.{and_then-some, map-some, cond-same}
pub use Rattle.sc_base.proofs.EqualityLemmas.{Exact, lists, options, numbers, struct, no_field, last, ◌and◌, enum, ◌or◌, no_variant}
pub use Rattle.sc_base.proofs.Exact.{bytes, arc, draw, op, noted, ballot, reply}
pub use Rattle.sc_base.proofs.NameLemmas.{draw_is, same_name, ballot_itself, ballot_is, ballots_equal}
pub use Rattle.sc_base.proofs.Pairs.{AllPairs-head, AllPairs-tail}
pub use Rattle.sc_base.proofs.Rising.{roster_with, roster_without, Below}
pub use Rattle.sc_base.proofs.TextLemmas.{no_error}
pub use Rattle.sc_base.proofs.UnionLemmas.{count_united, grows}
pub use Rattle.sc_base.proofs.Meeting.{length_with, at_most_one}
