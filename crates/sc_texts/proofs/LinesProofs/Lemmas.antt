-- The lemmas of this crate that others cite, under one name.
pub use Rattle.sc_texts.proofs.LinesProofs.Choices.{counted, chosen, is_up_to}
pub use Rattle.sc_texts.proofs.LinesProofs.Cuts.{lines_first, lines_none, lines_last, lines_all, lines_cut, lines_some}
