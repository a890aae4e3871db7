-- What a line of a history says.
use Rattle.std.specs.Prelude.{ℕ, ◌==◌, not, List, length, codes, Option, Some, None, Result, Ok, Err, if◌then◌else◌}
use Rattle.sc_base.specs.declared.ops.Op.TheVariants as op
use Rattle.sc_texts.specs.lines.Definitions.{same, nth, count_in, key_in, value_in}
use Rattle.sc_history.specs.Reasons.{or_reason, then_on}
use Rattle.sc_history.specs.declared.events.Act.{Act}
use Rattle.sc_history.specs.declared.events.Act.TheVariants.{Begin, End}
use Rattle.sc_history.specs.declared.events.End.TheVariants as told
use Rattle.sc_history.specs.declared.kinds.LineKind.{LineKind}
use Rattle.sc_history.specs.declared.kinds.LineKind.TheVariants.{Get, Put, Del, Add, Cas, Absent, Value, Done, No, Fail, Lost}
use Rattle.sc_history.specs.declared.reasons.HistoryReason.{HistoryReason}
use Rattle.sc_history.specs.declared.reasons.HistoryReason.TheVariants.{UnknownLine, BadNumber, BadKey, BadValue}

-- the greatest number of a process
abbrev pub last_process : ℕ
last_process = 4294967295

-- the kind of a line, by its second word
abbrev pub kind_of : List ℕ → Option LineKind
kind_of word =
    if same word (codes "get") then Some Get
    else if same word (codes "put") then Some Put
    else if same word (codes "del") then Some Del
    else if same word (codes "add") then Some Add
    else if same word (codes "cas") then Some Cas
    else if same word (codes "none") then Some Absent
    else if same word (codes "value") then Some Value
    else if same word (codes "ok") then Some Done
    else if same word (codes "no") then Some No
    else if same word (codes "fail") then Some Fail
    else if same word (codes "lost") then Some Lost
    else None

-- the number of words of a line, of which the first is the process
abbrev pub word_count : LineKind → ℕ
word_count Get = 3
word_count Put = 4
word_count Del = 3
word_count Add = 4
word_count Cas = 5
word_count Absent = 2
word_count Value = 3
word_count Done = 2
word_count No = 2
word_count Fail = 2
word_count Lost = 2

-- the key that the word at this place spells; else the key is bad
abbrev pub key_at : List (List ℕ) → ℕ → Result (List ℕ) HistoryReason
key_at words place = or_reason (key_in (nth words place)) BadKey (λ key. Ok key)

-- the value that the word at this place spells; else the value is bad
abbrev pub value_at : List (List ℕ) → ℕ → Result (List ℕ) HistoryReason
value_at words place = or_reason (value_in (nth words place)) BadValue (λ value. Ok value)

-- the act that a line of this kind spells, `P get K`, `P put K V`, `P del K`, `P add K V`, `P cas K E V`, `P none`, `P value V`, `P ok`, `P no`, `P fail` or `P lost`; of several bad words the first counts
abbrev pub act_in : LineKind → List (List ℕ) → Result Act HistoryReason
act_in Get words = then_on (key_at words 2) (λ key. Ok (Begin (op.Get key)))
act_in Put words = then_on (key_at words 2) (λ key. then_on (value_at words 3) (λ value. Ok (Begin (op.Put key value))))
act_in Del words = then_on (key_at words 2) (λ key. Ok (Begin (op.Del key)))
act_in Add words = then_on (key_at words 2) (λ key. then_on (value_at words 3) (λ value. Ok (Begin (op.Add key value))))
act_in Cas words = then_on (key_at words 2) (λ key. then_on (value_at words 3) (λ expected. then_on (value_at words 4) (λ value. Ok (Begin (op.Cas key expected value)))))
act_in Absent words = Ok (End told.Absent)
act_in Value words = then_on (value_at words 2) (λ value. Ok (End (told.Value value)))
act_in Done words = Ok (End told.Done)
act_in No words = Ok (End told.No)
act_in Fail words = Ok (End told.Fail)
act_in Lost words = Ok (End told.Lost)

-- the process and the act that a line with these words spells: the kind and the number of words count first, then the process
abbrev pub statement_in : List (List ℕ) → Result (ℕ × Act) HistoryReason
statement_in words =
    or_reason (kind_of (nth words 1)) UnknownLine (λ kind.
    if not (length words == word_count kind) then Err UnknownLine
    else or_reason (count_in last_process (nth words 0)) BadNumber (λ process. then_on (act_in kind words) (λ act. Ok (process, act))))
