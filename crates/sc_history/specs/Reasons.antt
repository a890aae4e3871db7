-- The reasons why a text is no history.
use Rattle.std.specs.Prelude.{◌≡◌, ⊤, ℕ, List, codes, Option, Some, None, Result, Ok, Err, MatchResult, OnOk}
use Rattle.sc_history.specs.declared.reasons.HistoryReason.{HistoryReason}
use Rattle.sc_history.specs.declared.reasons.HistoryReason.TheVariants.{MissingHeader, UnknownLine, BadNumber, BadKey, BadValue, HasRequest, HasNone, IsLost, TooLarge}
use Rattle.sc_history.specs.declared.reasons.LineError.{LineError}
use Rattle.sc_history.specs.declared.reasons.LineError.TheVariants.{Bad, OutOfMemory}

-- the printed text of a reason
abbrev pub reason_text : HistoryReason → List ℕ
reason_text MissingHeader = codes "not a history"
reason_text UnknownLine = codes "not a line of a history"
reason_text BadNumber = codes "bad number"
reason_text BadKey = codes "bad key"
reason_text BadValue = codes "bad value"
reason_text HasRequest = codes "process has a request"
reason_text HasNone = codes "process has no request"
reason_text IsLost = codes "process is lost"
reason_text TooLarge = codes "file too large"

-- the parser goes on with what was read; where nothing was, this is the reason
abbrev pub or_reason : {X Y : Type 0} → Option X → HistoryReason → (X → Result Y HistoryReason) → Result Y HistoryReason
or_reason (Some x) reason onward = onward x
or_reason None reason onward = Err reason

-- the parser goes on with a result that is no error; an error stays
abbrev pub then_on : {X Y : Type 0} → Result X HistoryReason → (X → Result Y HistoryReason) → Result Y HistoryReason
then_on (Ok x) onward = onward x
then_on (Err reason) onward = Err reason

-- an error agrees with what a line says: a reason is the one why the line is bad, and out of memory says nothing of the line
abbrev pub HasReason : {X : Type 0} → Result X HistoryReason → LineError → Type 0
HasReason said (Bad reason) = said ≡ Err reason
HasReason said OutOfMemory = ⊤

-- a call returns what a line says, or an error that agrees with it
abbrev pub IsSaid : {X : Type 0} → Result X HistoryReason → Result X LineError → Type 0
IsSaid said result = MatchResult result (λ x. said ≡ Ok x) (λ error. HasReason said error)
