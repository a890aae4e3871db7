use Rattle.sc_json_text.proofs.RowsProofs.Texts.{no_float, reads_back, text_utf8}
use Rattle.sc_json_text.proofs.rows.row_texts_read_back.Goals as goal

pub returns-clause-whole : goal.returns-clause-whole
returns-clause-whole c = no_float

pub returns-clause-back : goal.returns-clause-back
returns-clause-back c = reads_back

pub returns-clause-utf8 : goal.returns-clause-utf8
returns-clause-utf8 c = text_utf8
