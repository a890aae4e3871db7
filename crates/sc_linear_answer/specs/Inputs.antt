-- Which history an input is, and why it is none.
use Rattle.std.specs.Prelude.{◌≡◌, ⊤, ℕ, List, ◌++◌, Option, IfSome, Ok, Err, codes}
use Rattle.std.specs.Fmt.{decimal}
use Rattle.sc_texts.specs.edges.Causes.{Rose}
use Rattle.sc_texts.specs.edges.Uses.{SourceUse}
use Rattle.sc_texts.specs.declared.edges.reading.ReadError.{ReadError}
use Rattle.sc_texts.specs.declared.edges.reading.ReadError.TheVariants as read
use Rattle.sc_history.specs.Definitions.{history_of, reason_text, IsHistory}
use Rattle.sc_history.specs.declared.events.Event.{Event}
use Rattle.sc_history.specs.declared.reasons.HistoryError.{HistoryError}
use Rattle.sc_history.specs.declared.reasons.HistoryError.TheVariants as history
use Rattle.sc_history.specs.declared.reasons.HistoryReason.{HistoryReason}
use Rattle.sc_linear_answer.specs.declared.inputs.InputError.{InputError}
use Rattle.sc_linear_answer.specs.declared.inputs.InputError.TheVariants.{Failed, Bad, OutOfMemory}

-- the text about a bad line: `line L: REASON`
abbrev pub error_text : ℕ → HistoryReason → List ℕ
error_text line why = (codes "line " ++ decimal line ++ codes ": ") ++ reason_text why

-- why an input is no history, where reading it failed like this
abbrev pub of_read : ReadError → InputError
of_read read.Failed = Failed
of_read read.OutOfMemory = OutOfMemory

-- why an input is no history, where its text is none for this reason
abbrev pub of_history : HistoryError → InputError
of_history (history.Bad line why) = Bad line why
of_history history.OutOfMemory = OutOfMemory

-- bytes are no history, and this is their first bad line and the reason
abbrev pub IsBadHistory : List ℕ → ℕ → HistoryReason → Type 0
IsBadHistory bytes line why = history_of bytes ≡ Err (history.Bad line why)

-- Why an input is no history: the source's count of read errors rose, or all of the input, where the source's bytes are known, has this bad line. Out of memory says nothing.
abbrev pub HasHistoryError : SourceUse → InputError → Type 0
HasHistoryError source Failed = Rose source.errors_before source.errors_after
HasHistoryError source (Bad line why) = IfSome source.left (λ input. IsBadHistory input line why)
HasHistoryError source OutOfMemory = ⊤

-- All of the input, where the source's bytes are known, is the text of this history.
pub record ReadsHistory (left : Option (List ℕ)) (events : List Event) : Type 0 where
  pub history : IsHistory events
  pub read : IfSome left (λ input. history_of input ≡ Ok events)
