-- Whether a row was made, or why none could be.
use Rattle.std.specs.Prelude.{ℕ, Bool, true, false, Result, Ok, Err, IsErrOf}
use Rattle.sc_thread_ledger.specs.declared.errors.PostError.{PostError}
use Rattle.sc_thread_ledger.specs.declared.errors.PostError.TheVariants.{JournalFull, OutOfMemory}
use Rattle.sc_thread_work.specs.declared.shell.turns.Turn.{Turn}
use Rattle.sc_thread_work.specs.declared.shell.turns.Turn.TheVariants as turn

-- Whether a turn made a row, or why the schedule stops at it.
abbrev pub row_made : Turn → Result Bool PostError
row_made (turn.Did at) = Ok true
row_made (turn.Empty seen) = Ok false
row_made turn.Spent = Ok false
row_made (turn.Full bytes) = Err (JournalFull bytes)
row_made turn.OutOfMemory = Err OutOfMemory

-- The claim, where the result is that the journal is full.
abbrev pub OnFull : {T : Type 0} → Result T PostError → Type 0 → Type 0
OnFull result claim = (bytes : ℕ) → IsErrOf result (JournalFull bytes) → claim
