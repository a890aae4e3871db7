-- Equality of names and of ballots.
use Rattle.std.specs.Prelude.{Bool, ◌==◌, ◌&&◌}
use Rattle.sc_base.specs.declared.names.Draw.{Draw}
use Rattle.sc_base.specs.declared.names.Ballot.{Ballot}

-- whether two names are equal
abbrev pub same_draw : Draw → Draw → Bool
same_draw a b = (a.node == b.node) && (a.count == b.count)

-- whether two ballots are equal
abbrev pub same_ballot : Ballot → Ballot → Bool
same_ballot a b = (a.round == b.round) && (a.node == b.node)
