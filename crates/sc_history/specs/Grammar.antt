-- The grammar: which texts are a history, and which events they have; of any other text, the first bad line and the reason.
use Rattle.std.specs.Prelude.{◌≡◌, ◌⊎◌, ℕ, ◌+◌, ◌==◌, ◌&&◌, nat_lt, Bool, List, [], ◌∷◌, ◌++◌, length, take, codes, false, Option, Some, None, Result, Ok, Err, MatchResult, if◌then◌else◌}
use Rattle.std.specs.Option.{option_map}
use Rattle.sc_texts.specs.lines.Definitions.{same, nth, words_of, lines_in, trimmed, is_skipped}
use Rattle.sc_history.specs.Histories.{last_act, IsHistory}
use Rattle.sc_history.specs.Kinds.{statement_in}
use Rattle.sc_history.specs.Reasons.{then_on}
use Rattle.sc_history.specs.Turns.{turn_after, turn_error}
use Rattle.sc_history.specs.declared.events.Act.{Act}
use Rattle.sc_history.specs.declared.events.Event.{Event}
use Rattle.sc_history.specs.declared.reasons.HistoryReason.{HistoryReason}
use Rattle.sc_history.specs.declared.reasons.HistoryReason.TheVariants.{MissingHeader, TooLarge}
use Rattle.sc_history.specs.declared.reasons.HistoryError.{HistoryError}
use Rattle.sc_history.specs.declared.reasons.HistoryError.TheVariants.{Bad, OutOfMemory}

-- the most bytes of a text
abbrev pub most_history_bytes : ℕ
most_history_bytes = 268435456

-- ---- one line

-- the events and one more, unless there is a reason against it
abbrev pub unless : Option HistoryReason → List Event → Result (List Event) HistoryReason
unless (Some reason) events = Err reason
unless None events = Ok events

-- the events with one more, which must be in the turn of its process
abbrev pub with_event : List Event → Event → Result (List Event) HistoryReason
with_event events event = unless (turn_error (option_map turn_after (last_act event.process events)) event.act) (events ++ event ∷ [])

-- the events after one more line, or the reason why the line is bad; comments and lines without words are skipped
abbrev pub line_read : List Event → ℕ → List ℕ → Result (List Event) HistoryReason
line_read events number line =
    if is_skipped line then Ok events
    else then_on (statement_in (words_of line)) (λ statement. with_event events (record { line = number; process = statement.0; act = statement.1 }))

-- ---- all lines

-- the error of a bad line with this number
abbrev pub bad : ℕ → HistoryReason → Result (List Event) HistoryError
bad number reason = Err (Bad number reason)

-- the parser goes on with the events after a good line; a bad line ends it
abbrev pub going_on : ℕ → (List Event → Result (List Event) HistoryError) → Result (List Event) HistoryReason → Result (List Event) HistoryError
going_on number onward (Ok more) = onward more
going_on number onward (Err reason) = bad number reason

-- the result of these lines, of which the first has this number: the first bad line counts
abbrev pub lines_read : List Event → ℕ → List (List ℕ) → Result (List Event) HistoryError
lines_read events number [] = Ok events
lines_read events number (line ∷ lines) = going_on number (λ more. lines_read more (number + 1) lines) (line_read events number (trimmed line))

-- whether a line is the header, `scatter history 1`
abbrev pub is_header : List (List ℕ) → Bool
is_header words = (length words == 3) && same (nth words 0) (codes "scatter") && same (nth words 1) (codes "history") && same (nth words 2) (codes "1")

-- the result of all lines, of which the first must be the header
abbrev pub text_read : List (List ℕ) → Result (List Event) HistoryError
text_read [] = bad 1 MissingHeader
text_read (line ∷ lines) = if is_header (words_of (trimmed line)) then lines_read [] 2 lines else bad 1 MissingHeader

-- the parser's result for a text: its events, or the first bad line and the reason; a text with too many bytes is bad at line 0
abbrev pub history_of : List ℕ → Result (List Event) HistoryError
history_of text = if nat_lt most_history_bytes (length text) then bad 0 TooLarge else text_read (lines_in false text)

-- a call returns the parser's result for a text, or that it is out of memory
abbrev pub HasVerdict : Result (List Event) HistoryError → Result (List Event) HistoryError → Type 0
HasVerdict verdict result = MatchResult result (λ events. verdict ≡ Ok events) (λ error. (error ≡ OutOfMemory) ⊎ (verdict ≡ Err error))

-- ---- laws

-- the events of every text that the parser accepts are a history
abbrev pub TextsAreHistories : Type 0
TextsAreHistories = (text : List ℕ) (events : List Event) → history_of text ≡ Ok events → IsHistory events

-- the parser's result for a text is that for its first bytes, one more than the most that a text may have
abbrev pub FirstBytesDecide : Type 0
FirstBytesDecide = (text : List ℕ) → history_of (take (most_history_bytes + 1) text) ≡ history_of text
