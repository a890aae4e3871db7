-- Ballots and their rounds.
use Rattle.std.proofs.Common.{◌≡◌, ◌≤◌, true, inl, inr, arith}
use Rattle.sc_node_table.specs.Values.{Ballot}
use Rattle.sc_words.specs.paxos.PaxosDefinitions.{IsAtLeast, below}
use Rattle.sc_words.proofs.PaxosProofs.PaxosLemmas.{below_parts, not_below_parts}

-- a ballot below another is of no later round
pub below_round : (a b : Ballot) → below a b ≡ true → a.round ≤ b.round
below_round a b e = elim (below_parts a b e) [ inl lt ↦ omega (arith, lt) | inr p ↦ omega (arith, p.0) ]

-- a ballot that is at least another is of no earlier round
pub at_least_round : (a b : Ballot) → IsAtLeast a b → b.round ≤ a.round
at_least_round a b e = elim (not_below_parts a b e) [ inl lt ↦ omega (arith, lt) | inr p ↦ omega (arith, p.0) ]
