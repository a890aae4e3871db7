use Rattle.sc_json_text.proofs.PlainProofs.ReadBack.{plain_has_no_float, plain_read_back}
use Rattle.sc_json_text.proofs.PlainProofs.OneLine.{plain_text_utf8, plain_text_on_one_line}
use Rattle.sc_json_text.proofs.PlainProofs.Lengths.{items_counted, items_parts, members_parts}
use Rattle.sc_json_text.proofs.plain.plain_values_read_back.Goals as goal

pub returns : goal.returns
returns c = record {
  whole = plain_has_no_float 127;
  back = plain_read_back;
  utf8 = plain_text_utf8 127;
  one_line = plain_text_on_one_line 127;
  items = items_counted;
  item_parts = items_parts;
  member_parts = members_parts;
}
