-- The cause of a row that was not appended.
use Rattle.std.specs.Prelude.{◌≡◌, ℕ, ◌+◌, ◌<◌, ⊤}
use Rattle.sc_thread_ledger.specs.declared.errors.PostError.{PostError}
use Rattle.sc_thread_ledger.specs.declared.errors.PostError.TheVariants.{JournalFull, OutOfMemory}

-- `JournalFull` is the cause only where the journal has `bytes` counted bytes, which it names, and with `more` bytes it would pass the limit. `OutOfMemory` may come at any time.
abbrev pub IsCause : PostError → ℕ → ℕ → ℕ → Type 0
IsCause (JournalFull reported) bytes more limit = (reported ≡ bytes) × (limit < bytes + more)
IsCause OutOfMemory bytes more limit = ⊤
