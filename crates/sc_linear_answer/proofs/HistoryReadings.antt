-- What was read of a source is the whole of it, or too long either way.
use Rattle.std.proofs.Common.{◌≡◌, ◌⊎◌, ℕ, ◌+◌, List, take, Option, None, Some, sym, ◌∙◌, ap, inl, inr, subst}
use Rattle.std.specs.Prelude.{IfSome, MatchResult, Result, Ok, Err}
use Rattle.std.specs.Result.{IsErrAnd}
use Rattle.sc_texts.specs.edges.Uses.{SourceUse}
use Rattle.sc_history.specs.Definitions.{history_of, most_history_bytes, FirstBytesDecide}
use Rattle.sc_history.specs.declared.events.Event.{Event}
use Rattle.sc_history.specs.declared.reasons.HistoryError.{HistoryError}
use Rattle.sc_history.specs.declared.reasons.HistoryError.TheVariants.{Bad, OutOfMemory}
use Rattle.sc_linear_answer.specs.Inputs.{HasHistoryError, of_history}
use Rattle.sc_linear_answer.specs.declared.inputs.InputError.{InputError}

-- what was read of a source comes out as the whole
pub read_whole : FirstBytesDecide → (left : Option (List ℕ)) (bytes : List ℕ) (verdict : Result (List Event) HistoryError) → IfSome left (λ input. bytes ≡ take (most_history_bytes + 1) input) → history_of bytes ≡ verdict → IfSome left (λ input. history_of input ≡ verdict)
read_whole decide None bytes verdict taken is = tt
read_whole decide (Some input) bytes verdict taken is = sym (decide input) ∙ ap history_of (sym taken) ∙ is

-- the bytes that were read of a source are no history, and neither is the whole of it
pub bad_history : FirstBytesDecide → (source : SourceUse) (bytes : List ℕ) (error : HistoryError) → IfSome source.left (λ input. bytes ≡ take (most_history_bytes + 1) input) → (error ≡ OutOfMemory) ⊎ (history_of bytes ≡ Err error) → HasHistoryError source (of_history error)
bad_history decide source bytes (Bad line why) taken (inl short) = absurd (let same : Bad line why ≡ OutOfMemory = short in cc)
bad_history decide source bytes (Bad line why) taken (inr is) = read_whole decide source.left bytes (Err (Bad line why)) taken is
bad_history decide source bytes OutOfMemory taken is = tt

-- an error that went on is the answer
pub answers_error : {T : Type 0} (answer : Result T InputError) (P : T → Type 0) (Q : InputError → Type 0) (error : InputError) → IsErrAnd answer (λ e. e ≡ error) → Q error → MatchResult answer P Q
answers_error (Ok x) P Q error is holds = absurd is
answers_error (Err e) P Q error is holds = subst Q (sym is) holds
