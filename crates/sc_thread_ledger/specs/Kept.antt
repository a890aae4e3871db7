-- What the ledger keeps beside the rows.
use Rattle.std.specs.Prelude.{ℕ, ◌+◌, ◌==◌, nat_lt, List, [], ◌∷◌, ◌++◌, Bool, ◌&&◌, ◌||◌, not, if◌then◌else◌}
use Rattle.std.specs.List.{list_any}
use Rattle.sc_actor.specs.declared.rows.Row.{Row}
use Rattle.sc_actor.specs.Definitions.{is_crash}

-- The actors that crashed in the rows, in the order of the rows.
abbrev pub crashed_in : {M O : Type 0} → List (Row M O) → List ℕ
crashed_in [] = []
crashed_in (row ∷ rows) = (if is_crash row.event then row.who ∷ [] else []) ++ crashed_in rows

-- Whether `who` is the number of an actor, from 1 to `actors`, that is not among the crashed.
abbrev pub runs : ℕ → List ℕ → ℕ → Bool
runs actors crashed who = nat_lt 0 who && (nat_lt who (actors + 1) && not (list_any (λ c. c == who) crashed))

-- Whether mail to `receiver` can be pending for `who`, or for any actor where `who` is 0: the receiver is an actor that has not crashed.
abbrev pub counts_for : ℕ → List ℕ → ℕ → ℕ → Bool
counts_for actors crashed who receiver = (who == 0 || receiver == who) && runs actors crashed receiver
