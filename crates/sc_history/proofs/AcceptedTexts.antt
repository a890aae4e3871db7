-- The events of a text that is accepted are a history.
use Rattle.std.proofs.Common.{◌≡◌, ◌<◌, ℕ, ◌+◌, Bool, true, false, not, List, [], ◌∷◌, ◌++◌, length, Option, Some, None, if◌then◌else◌, nat_lt, refl, sym, ap, subst, ◌∙◌, arith, append_assoc}
use Rattle.std.specs.Prelude.{Result, Ok, Err, IfOk}
use Rattle.std.specs.List.{All, AllPairs}
use Rattle.std.specs.Option.{option_map}
use Rattle.std.proofs.lemmas.List.{append-nil}
use Rattle.std.proofs.lemmas.List.Elements.{All-nil, All-push}
use Rattle.std.proofs.lemmas.List.Quantifiers.{all_pairs_push}
use Rattle.std.proofs.lemmas.Option.{none-some}
use Rattle.std.proofs.lemmas.Result.{MatchResult-weaker}
use Rattle.sc_base.specs.declared.ops.Op.{Op}
use Rattle.sc_texts.specs.lines.Definitions.{words_of, trimmed, is_skipped, lines_in}
use Rattle.sc_history.specs.Grammar.{bad, unless, with_event, line_read, going_on, lines_read, is_header, text_read, history_of, most_history_bytes, HasVerdict, TextsAreHistories}
use Rattle.sc_history.specs.Histories.{is_conditional, last_act, MayFollow, CanEnd, AreInTurn, IsHistory}
use Rattle.sc_history.specs.Kinds.{statement_in}
use Rattle.sc_history.specs.Reasons.{then_on}
use Rattle.sc_history.specs.Turns.{turn_after, turn_error, end_error}
use Rattle.sc_history.specs.declared.events.Act.{Act}
use Rattle.sc_history.specs.declared.events.Act.TheVariants.{Begin, End}
use Rattle.sc_history.specs.declared.events.End as end
use Rattle.sc_history.specs.declared.events.End.TheVariants.{Absent, Value, Done, No, Fail, Lost}
use Rattle.sc_history.specs.declared.events.Event.{Event}
use Rattle.sc_history.specs.declared.reasons.HistoryReason.{HistoryReason}
use Rattle.sc_history.specs.declared.reasons.HistoryReason.TheVariants.{MissingHeader, UnknownLine, HasRequest, HasNone, IsLost, TooLarge}
use Rattle.sc_history.specs.declared.reasons.HistoryError.{HistoryError}
use Rattle.sc_history.specs.declared.turns.Turn.TheVariants.{Waits}
use Rattle.sc_history.proofs.Results.{err_ok, same_Ok, after_ok}

-- ---- one event

reason : {P : Type 0} (why : HistoryReason) → Some why ≡ None → P
reason why e = absurd (none-some why (sym e))

conditional : (b : Bool) → (if not b then Some UnknownLine else None) ≡ None → b ≡ true
conditional true e = refl
conditional false e = reason UnknownLine e

ends : (op : Op) (told : end.End) → end_error (Some (Waits (is_conditional op))) told ≡ None → CanEnd op told
ends op Absent e = tt
ends op (Value value) e = tt
ends op Done e = tt
ends op No e = conditional (is_conditional op) e
ends op Fail e = tt
ends op Lost e = tt

follows_end : (told : end.End) (act : Act) → turn_error (Some (turn_after (End told))) act ≡ None → MayFollow (Some (End told)) act
follows_end Absent (Begin op) e = tt
follows_end (Value value) (Begin op) e = tt
follows_end Done (Begin op) e = tt
follows_end No (Begin op) e = tt
follows_end Fail (Begin op) e = tt
follows_end Lost (Begin op) e = reason IsLost e
follows_end Absent (End told) e = reason HasNone e
follows_end (Value value) (End told) e = reason HasNone e
follows_end Done (End told) e = reason HasNone e
follows_end No (End told) e = reason HasNone e
follows_end Fail (End told) e = reason HasNone e
follows_end Lost (End told) e = reason IsLost e

-- an act that is not refused may follow the last one
follows : (last : Option Act) (act : Act) → turn_error (option_map turn_after last) act ≡ None → MayFollow last act
follows None (Begin op) e = tt
follows None (End told) e = reason HasNone e
follows (Some (Begin op)) (Begin next) e = reason HasRequest e
follows (Some (Begin op)) (End told) e = ends op told e
follows (Some (End told)) act e = follows_end told act e

in_turn_push : (before events : List Event) (event : Event) → AreInTurn before events → MayFollow (last_act event.process (before ++ events)) event.act → AreInTurn before (events ++ event ∷ [])
in_turn_push before [] event turns may = (subst (λ all. MayFollow (last_act event.process all) event.act) (append-nil before) may, tt)
in_turn_push before (first ∷ events) event turns may =
    (turns.0, in_turn_push (before ++ first ∷ []) events event turns.1 (subst (λ all. MayFollow (last_act event.process all) event.act) (sym (append_assoc before (first ∷ []) events)) may))

-- ---- what was read so far

abbrev IsBelow : ℕ → Event → Type 0
IsBelow number event = event.line < number

abbrev Rises : Event → Event → Type 0
Rises one other = one.line < other.line

record AreRead (events : List Event) (number : ℕ) : Type 0 where
  history : IsHistory events
  below : All (IsBelow number) events

none_read : (number : ℕ) → AreRead [] number
none_read number = record { history = record { ascending = λ i j d lt within. absurd (omega (arith, within)); in_turn = tt }; below = All-nil (IsBelow number) }

read_on : (events : List Event) (number : ℕ) → AreRead events number → AreRead events (number + 1)
read_on events number are = record { history = are.history; below = λ k d within. omega (arith, are.below k d within) }

more_read : (events : List Event) (event : Event) → AreRead events event.line → MayFollow (last_act event.process events) event.act → AreRead (events ++ event ∷ []) (event.line + 1)
more_read events event are may = record {
  history = record {
    ascending = all_pairs_push Rises events event are.history.ascending are.below;
    in_turn = in_turn_push [] events event are.history.in_turn may;
  };
  below = All-push (IsBelow (event.line + 1)) events event (read_on events event.line are).below (omega arith);
}

unless_ok : (error : Option HistoryReason) (events more : List Event) → unless error events ≡ Ok more → (error ≡ None) × (events ≡ more)
unless_ok None events more e = (refl, same_Ok events more e)
unless_ok (Some why) events more e = absurd (err_ok why more e)

event_read : (events : List Event) (event : Event) (more : List Event) → AreRead events event.line → with_event events event ≡ Ok more → AreRead more (event.line + 1)
event_read events event more are e =
    let passed = unless_ok (turn_error (option_map turn_after (last_act event.process events)) event.act) (events ++ event ∷ []) more e in
    subst (λ read. AreRead read (event.line + 1)) passed.1 (more_read events event are (follows (last_act event.process events) event.act passed.0))

line_by : (b : Bool) (events : List Event) (number : ℕ) (r : Result (List Event) HistoryReason) (more : List Event) → (r ≡ Ok more → AreRead more (number + 1)) → AreRead events number → (if b then Ok events else r) ≡ Ok more → AreRead more (number + 1)
line_by true events number r more onward are e = subst (λ read. AreRead read (number + 1)) (same_Ok events more e) (read_on events number are)
line_by false events number r more onward are e = onward e

line_fine : (events : List Event) (number : ℕ) (line : List ℕ) (more : List Event) → AreRead events number → line_read events number line ≡ Ok more → AreRead more (number + 1)
line_fine events number line more are e =
    line_by (is_skipped line) events number (then_on (statement_in (words_of line)) (λ statement. with_event events (record { line = number; process = statement.0; act = statement.1 }))) more
    (λ read.
    let said = after_ok (statement_in (words_of line)) (λ statement. with_event events (record { line = number; process = statement.0; act = statement.1 })) more read in
    event_read events (record { line = number; process = said.0.0; act = said.0.1 }) more are said.2)
    are e

-- ---- all lines

went : (number : ℕ) (onward : List Event → Result (List Event) HistoryError) (r : Result (List Event) HistoryReason) (all : List Event) → going_on number onward r ≡ Ok all → (more : List Event) × (r ≡ Ok more) × (onward more ≡ Ok all)
went number onward (Ok more) all e = (more, refl, e)
went number onward (Err why) all e = absurd (err_ok _ all e)

lines_fine : (lines : List (List ℕ)) (events : List Event) (number : ℕ) (all : List Event) → AreRead events number → lines_read events number lines ≡ Ok all → IsHistory all
lines_fine [] events number all are e = subst IsHistory (same_Ok events all e) are.history
lines_fine (line ∷ lines) events number all are e =
    let step = went number (λ more. lines_read more (number + 1) lines) (line_read events number (trimmed line)) all e in
    lines_fine lines step.0 (number + 1) all (line_fine events number (trimmed line) step.0 are step.1) step.2

chosen : (b : Bool) (r : Result (List Event) HistoryError) (error : HistoryError) (all : List Event) → (if b then r else Err error) ≡ Ok all → r ≡ Ok all
chosen true r error all e = e
chosen false r error all e = absurd (err_ok error all e)

passed : (b : Bool) (r : Result (List Event) HistoryError) (error : HistoryError) (all : List Event) → (if b then Err error else r) ≡ Ok all → r ≡ Ok all
passed true r error all e = absurd (err_ok error all e)
passed false r error all e = e

text_fine : (lines : List (List ℕ)) (all : List Event) → text_read lines ≡ Ok all → IsHistory all
text_fine [] all e = absurd (err_ok _ all e)
text_fine (line ∷ lines) all e = lines_fine lines [] 2 all (none_read 2) (chosen (is_header (words_of (trimmed line))) (lines_read [] 2 lines) _ all e)

-- what the parser returned for the lines
pub read_fine : (lines : List (List ℕ)) (result : Result (List Event) HistoryError) → HasVerdict (text_read lines) result → IfOk result IsHistory
read_fine lines result has = MatchResult-weaker result has (λ all e. text_fine lines all e) (λ error _. tt)

pub texts_fine : TextsAreHistories
texts_fine text all e = text_fine (lines_in false text) all (passed (nat_lt most_history_bytes (length text)) (text_read (lines_in false text)) _ all e)
