use Rattle.sc_json_fast.proofs.RowTexts.{ended_row, held_row, only_row}
use Rattle.sc_json_fast.proofs.rows.common_row.Goals as goal

pub returns-then-is_empty-clause-text : goal.returns-then-is_empty-clause-text
returns-then-is_empty-clause-text c = ended_row _ _ _ _ c.in_ok-row.ensures c.is_empty.ensures c.if-is_empty.true

pub returns-then-is_empty-clause-held : goal.returns-then-is_empty-clause-held
returns-then-is_empty-clause-held c = held_row _ _ _ c.in_ok-row.ensures

pub returns-then-is_empty-clause-only : goal.returns-then-is_empty-clause-only
returns-then-is_empty-clause-only c = λ other held same.
    only_row _ _ _ other c.row_texts_read_back.ensures.back c.in_ok-row.ensures
    (ended_row _ _ _ _ c.in_ok-row.ensures c.is_empty.ensures c.if-is_empty.true) held same
