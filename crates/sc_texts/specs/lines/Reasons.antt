-- The reasons why a line is bad.
use Rattle.std.specs.Prelude.{◌≡◌, ⊤, ℕ, List, codes, Option, Some, None, Result, Ok, Err, MatchResult}
use Rattle.sc_texts.specs.declared.lines.reasons.LineError.{LineError}
use Rattle.sc_texts.specs.declared.lines.reasons.LineError.TheVariants.{Bad, OutOfMemory}
use Rattle.sc_texts.specs.declared.lines.reasons.Reason.{Reason}
use Rattle.sc_texts.specs.declared.lines.reasons.Reason.TheVariants.{MissingHeader, BadByte, UnknownWord, OutOfPlace, WrongCount, BadNumber, BadKey, BadValue, UnknownName, Repeated, BadBoundary, TooMany, UnendedClient, MissingPart, TooLarge, MissingJournal, BadRow, FileTooLarge}

-- the number of a reason: up to 15 those of scenarios, then those of files of stored journals
abbrev pub reason_code : Reason → ℕ
reason_code MissingHeader = 1
reason_code BadByte = 2
reason_code UnknownWord = 3
reason_code OutOfPlace = 4
reason_code WrongCount = 5
reason_code BadNumber = 6
reason_code BadKey = 7
reason_code BadValue = 8
reason_code UnknownName = 9
reason_code Repeated = 10
reason_code BadBoundary = 11
reason_code TooMany = 12
reason_code UnendedClient = 13
reason_code MissingPart = 14
reason_code TooLarge = 15
reason_code MissingJournal = 16
reason_code BadRow = 17
reason_code FileTooLarge = 18

-- the printed text of a reason
abbrev pub reason_text : Reason → List ℕ
reason_text MissingHeader = codes "missing header"
reason_text BadByte = codes "bad byte"
reason_text UnknownWord = codes "unknown word"
reason_text OutOfPlace = codes "out of place"
reason_text WrongCount = codes "wrong count"
reason_text BadNumber = codes "bad number"
reason_text BadKey = codes "bad key"
reason_text BadValue = codes "bad value"
reason_text UnknownName = codes "unknown name"
reason_text Repeated = codes "repeated"
reason_text BadBoundary = codes "bad boundary"
reason_text TooMany = codes "too many"
reason_text UnendedClient = codes "unended client"
reason_text MissingPart = codes "missing part"
reason_text TooLarge = codes "too large"
reason_text MissingJournal = codes "missing journal"
reason_text BadRow = codes "bad row"
reason_text FileTooLarge = codes "file too large"

-- the parser goes on with what was read; where nothing was, this is the reason
abbrev pub or_reason : {X Y : Type 0} → Option X → Reason → (X → Result Y Reason) → Result Y Reason
or_reason (Some x) reason onward = onward x
or_reason None reason onward = Err reason

-- the parser goes on with a result that is no error; an error stays
abbrev pub then_on : {X Y : Type 0} → Result X Reason → (X → Result Y Reason) → Result Y Reason
then_on (Ok x) onward = onward x
then_on (Err reason) onward = Err reason

-- an error agrees with what a line says: a reason is the one why the line is bad, and out of memory says nothing of the line
abbrev pub HasReason : {X : Type 0} → Result X Reason → LineError → Type 0
HasReason said (Bad reason) = said ≡ Err reason
HasReason said OutOfMemory = ⊤

-- a call returns what a line says, or an error that agrees with it
abbrev pub IsSaid : {X : Type 0} → Result X Reason → Result X LineError → Type 0
IsSaid said result = MatchResult result (λ x. said ≡ Ok x) (λ error. HasReason said error)
