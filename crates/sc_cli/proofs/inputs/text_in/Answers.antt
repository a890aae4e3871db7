use Rattle.std.proofs.Common.{◌≡◌, subst}
use Rattle.std.specs.Prelude.{Ok, Err}
use Rattle.sc_scenario.specs.scenario.Grammar.{verdict_of, HasVerdict}
use Rattle.sc_cli.proofs.Readings.{answers_error, bad_text, reads_text}
use Rattle.sc_cli.proofs.inputs.text_in.Goals as goal

pub returns-in_err-scenario-clause-read : goal.returns-in_err-scenario-clause-read
returns-in_err-scenario-clause-read g c =
    let error = c.in_err-scenario.field-0.0 in
    answers_error c.from_residual-in_err-scenario.result _ _ _ c.from_residual-in_err-scenario.ensures.1
    (bad_text c.first_bytes_decide.ensures _ c.in_ok-bytes.bytes.items error c.in_ok-bytes.ensures.taken.bytes (subst (λ bytes. HasVerdict (verdict_of bytes) (Err error)) c.deref.ensures.value c.in_err-scenario.ensures))

pub returns-clause-read : goal.returns-clause-read
returns-clause-read g c =
    let scenario = c.in_ok-scenario.scenario in
    reads_text c.scenarios_are_short.ensures _ c.in_ok-bytes.bytes.items scenario c.in_ok-bytes.ensures.taken.bytes (subst (λ bytes. verdict_of bytes ≡ Ok scenario) c.deref.ensures.value c.in_ok-scenario.ensures)
