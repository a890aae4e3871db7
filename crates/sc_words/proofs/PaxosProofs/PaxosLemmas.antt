-- The lemmas of this crate that others cite, under one name.
pub use Rattle.sc_words.proofs.PaxosProofs.AcceptorLemmas.{whole_by_cut, whole_by_accept, whole_by_promise, may_is}
pub use Rattle.sc_words.proofs.PaxosProofs.BallotLemmas.{at_least_itself, not_below_parts, at_least_trans, at_least_from_below, same_from_at_least, at_least_below, below_from, not_both, cases_below, below_parts}
pub use Rattle.sc_words.proofs.PaxosProofs.ChoiceLemmas.{choice_among, choice_best}
pub use Rattle.sc_words.proofs.PaxosProofs.ListLemmas.{Each-push, Each-among, find_found, Each-weaker, Each-append, Each-filter, Each-from_All, one_of_name, Each-split, Each-from, Among-filter, from_filter, Each-passes, find_nothing, find_within, find_filter}
