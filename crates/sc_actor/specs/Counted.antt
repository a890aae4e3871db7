-- Counted bytes of rows and journals.
use Rattle.std.specs.Prelude.{ℕ, ◌+◌, ◌≤◌, ◌<◌, List, [], ◌∷◌, ◌++◌, sum_by}
use Rattle.sc_actor.specs.declared.rows.Row.{Row}
use Rattle.sc_actor.specs.declared.schedules.Line.{Line}
use Rattle.sc_actor.specs.System.{System}
use Rattle.sc_actor.specs.Walk.{IsLawful, IsNext}

-- a mail counts 256 bytes and its weight
abbrev pub mail_bytes : {M : Type 0} → (M → ℕ) → M → ℕ
mail_bytes weighs mail = 256 + weighs mail

-- a row counts 64 bytes and what its mails count
abbrev pub row_bytes : {M O : Type 0} → (M → ℕ) → Row M O → ℕ
row_bytes weighs row = 64 + sum_by (mail_bytes weighs) row.sent

-- a journal counts the sum of what its rows count
abbrev pub journal_bytes : {M O : Type 0} → (M → ℕ) → List (Row M O) → ℕ
journal_bytes weighs rows = sum_by (row_bytes weighs) rows

-- The journal is lawful and within the limit, and with some row that may come next it would exceed the limit.
pub record IsFull {A M O : Type 0} (s : System A M O) (weighs : M → ℕ) (lines : List (Line O)) (limit : ℕ) (journal : List (Row M O)) : Type 0 where
  pub lawful : IsLawful s lines journal
  pub within : journal_bytes weighs journal ≤ limit
  pub row : Row M O
  pub next : IsNext s lines journal row
  pub passes : limit < journal_bytes weighs (journal ++ row ∷ [])
