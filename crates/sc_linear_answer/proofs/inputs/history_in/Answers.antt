use Rattle.std.proofs.Common.{◌≡◌, subst}
use Rattle.std.specs.Prelude.{Ok, Err}
use Rattle.sc_history.specs.Definitions.{history_of, HasVerdict}
use Rattle.sc_linear_answer.proofs.HistoryReadings.{answers_error, bad_history, read_whole}
use Rattle.sc_linear_answer.proofs.inputs.history_in.Goals as goal

pub returns-in_err-read_history-clause-read : goal.returns-in_err-read_history-clause-read
returns-in_err-read_history-clause-read g c =
    let error = c.in_err-read_history.field-0.0 in
    answers_error c.from_residual-in_err-read_history.result _ _ _ c.from_residual-in_err-read_history.ensures.1
    (bad_history c.first_history_bytes_decide.ensures _ c.in_ok-bytes.bytes.items error c.in_ok-bytes.ensures.taken.bytes (subst (λ bytes. HasVerdict (history_of bytes) (Err error)) c.deref.ensures.value c.in_err-read_history.ensures.verdict))

pub returns-clause-read : goal.returns-clause-read
returns-clause-read g c =
    let events = c.in_ok-read_history.field-0 in
    record {
      history = c.in_ok-read_history.ensures.history;
      read = read_whole c.first_history_bytes_decide.ensures _ c.in_ok-bytes.bytes.items (Ok events) c.in_ok-bytes.ensures.taken.bytes (subst (λ bytes. history_of bytes ≡ Ok events) c.deref.ensures.value c.in_ok-read_history.ensures.verdict);
    }
