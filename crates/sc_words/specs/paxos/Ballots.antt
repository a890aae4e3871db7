-- The order of ballots.
use Rattle.std.specs.Prelude.{◌≡◌, Bool, false}
use Rattle.std.specs.Ordering.{nat_cmp, ordering_then, is_lt}
use Rattle.std.specs.declared.cmp.Ordering.{Ordering}
use Rattle.sc_base.specs.declared.names.Ballot.{Ballot}

-- the order of ballots: by round, and then by node
abbrev pub ballot_cmp : Ballot → Ballot → Ordering
ballot_cmp a b = ordering_then (nat_cmp a.round b.round) (nat_cmp a.node b.node)

-- whether a ballot is below another
abbrev pub below : Ballot → Ballot → Bool
below a b = is_lt (ballot_cmp a b)

-- the first ballot is not below the second: it is equal or above
abbrev pub IsAtLeast : Ballot → Ballot → Type 0
IsAtLeast a b = below a b ≡ false
