-- The definitions of this crate that others cite, under one name.
pub use Rattle.sc_texts.specs.lines.Reasons.{reason_text, or_reason, then_on}
pub use Rattle.sc_texts.specs.lines.Words.{same, nth, count_in, is_empty, key_in, value_in, words_of, pieces}
pub use Rattle.sc_texts.specs.lines.Lines.{most_bytes, lines_in, most_lines, is_too_long, lines_of, trimmed, lines_in_parts, ended_parts, is_skipped, has_bad_byte}
pub use Rattle.sc_texts.specs.lines.Kinds.{request_kind, kind_of, phase_of, is_inner, has_count}
pub use Rattle.sc_texts.specs.lines.Requests.{with_value, request_in}
