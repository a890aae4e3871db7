-- The place of each mail among the rows of the journal.
use Rattle.std.specs.Prelude.{ℕ, suc, ◌+◌, List, [], ◌∷◌, ◌++◌, length, replicate}
use Rattle.sc_actor.specs.declared.rows.Row.{Row}

module _ {M O : Type 0} where
  -- For each mail sent in the rows, in order, the place of its row, where `place` is that of the first row.
  abbrev pub homes_from : ℕ → List (Row M O) → List ℕ
  homes_from place [] = []
  homes_from place (row ∷ rows) = replicate (length row.sent) place ++ homes_from (suc place) rows

  -- For each row, the number of mails sent before it, where `before` mails were sent before the first row.
  abbrev pub firsts_from : ℕ → List (Row M O) → List ℕ
  firsts_from before [] = []
  firsts_from before (row ∷ rows) = before ∷ firsts_from (before + length row.sent) rows
