use Rattle.std.proofs.Common.{◌≡◌, ℕ, List, ap, ◌∙◌}
use Rattle.serde_json.specs.View.{view}
use Rattle.sc_base.specs.Limits.{longest_key}
use Rattle.sc_base.specs.Text.{IsText}
use Rattle.sc_base.specs.TextErrors.{text_error}
use Rattle.sc_base.specs.declared.texts.KeyError.TheVariants.{OutOfMemory}
use Rattle.sc_json_read.proofs.Finding.{failed_for}
use Rattle.sc_base.proofs.TextLemmas.{no_error}
use Rattle.sc_json_read.proofs.TextSteps.{short_of, text_is}
use Rattle.sc_json_read.proofs.texts.KeyFromJson.from_json.Goals as goal

pub returns-in_err-try_new-in-Some-clause-finds : goal.returns-in_err-try_new-in-Some-clause-finds
returns-in_err-try_new-in-Some-clause-finds c value fits same =
    let bytes = c.as_bytes.result.now in
    let text : bytes ≡ value = c.as_bytes.ensures.value ∙ text_is (view c.args.json.now) c.in-Some.text.now value c.in-Some.ensures same in
    let none = ap (text_error longest_key) text ∙ no_error longest_key value fits in
    let why = c.in_err-try_new-in-Some.field-0.0 in
    let short = short_of (text_error longest_key bytes) OutOfMemory why (λ (kept : List ℕ). (kept ≡ bytes) × IsText longest_key kept) none c.in_err-try_new-in-Some.ensures in
    failed_for c.from_residual.result value (why ≡ OutOfMemory) c.from_residual.ensures short
