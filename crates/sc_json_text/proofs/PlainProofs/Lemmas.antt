-- The lemmas of this crate that others cite, under one name.
pub use Rattle.sc_json_text.proofs.PlainProofs.ReadBack.{plain_has_no_float, plain_read_back}
pub use Rattle.sc_json_text.proofs.PlainProofs.OneLine.{plain_text_utf8, plain_text_on_one_line}
pub use Rattle.sc_json_text.proofs.PlainProofs.Lengths.{items_counted, members_parts}
