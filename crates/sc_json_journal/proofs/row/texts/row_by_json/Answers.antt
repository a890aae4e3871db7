use Rattle.std.proofs.Common.{ap, sym, ◌∙◌}
use Rattle.sc_json_text.specs.rows.RowText.{text_of}
use Rattle.sc_json_journal.proofs.RowProofs.Found.{fits_of, found, short, differ}
use Rattle.sc_json_journal.proofs.row.texts.row_by_json.Goals as goal

pub returns-in_err-row-clause-none : goal.returns-in_err-row-clause-none
returns-in_err-row-clause-none c = λ none row held is.
    short _ _ c.from_residual-in_err-row.ensures (c.in_err-row.ensures.finds row (fits_of row held) (found _ _ row c.row_texts_read_back.ensures.back c.in_ok-json.ensures held is)) none

pub returns-then-eq-clause-only : goal.returns-then-eq-clause-only
returns-then-eq-clause-only c = λ other held is.
    sym (c.in_ok-row.ensures.finds other (fits_of other held) (found _ _ other c.row_texts_read_back.ensures.back c.in_ok-json.ensures held is))

pub returns-clause-none : goal.returns-clause-none
returns-clause-none c = λ none row held is.
    let same = c.in_ok-row.ensures.finds row (fits_of row held) (found _ _ row c.row_texts_read_back.ensures.back c.in_ok-json.ensures held is) in
    differ _ _ (sym c.eq.ensures ∙ c.if-eq.false) (c.as_slice.ensures.value ∙ (c.in_ok-row_text.ensures.text ∙ (ap text_of same ∙ is)))
