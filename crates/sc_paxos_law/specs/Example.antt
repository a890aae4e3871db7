-- An example of a history: a lost message and an election.
use Rattle.std.specs.Prelude.{ℕ, List, [], ◌∷◌}
use Rattle.std.proofs.Common.{lit≤}
use Rattle.sc_base.specs.declared.names.Ballot.{Ballot}
use Rattle.sc_paxos_law.specs.Steps.{Step, Prepared, Promised, Offered, Accepted, Cut}
use Rattle.sc_paxos_law.specs.Chosen.{Rule}

-- the members 1, 2 and 3 at every slot, known four slots ahead
abbrev pub three : Rule ℕ
three = record { ahead = 4; some = lit≤ tt; members = λ entries. 1 ∷ 2 ∷ 3 ∷ [] }

-- the first ballot, which is node 1's
abbrev pub first : Ballot
first = record { round = 1; node = 1 }

-- the second ballot, which is node 2's
abbrev pub second : Ballot
second = record { round = 2; node = 2 }

-- the steps of the example, newest first. Only node 2 gets what node 1 offers in slot 1. Node 2 asks for promises, and node 1 never gets that. Node 2 is elected by itself and node 3, and must offer the same value again. Nodes 2 and 3 accept it, node 3 twice, and a value at slot 2. Node 2 forgets slot 1
abbrev pub example_steps : List (Step ℕ)
example_steps =
    Cut 2 1 ∷ Accepted 3 second 1 7 ∷ Accepted 2 second 2 8 ∷ Accepted 3 second 2 8 ∷ Offered second 2 8
    ∷ Accepted 3 second 1 7 ∷ Accepted 2 second 1 7 ∷ Offered second 1 7
    ∷ Promised 3 second 1 [] ∷ Promised 2 second 1 (record { slot = 1; ballot = first; value = 7 } ∷ []) ∷ Prepared second 1
    ∷ Accepted 2 first 1 7 ∷ Offered first 1 7 ∷ []
