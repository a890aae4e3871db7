use Rattle.std.proofs.Common.{◌≡◌, map, fold, None}
use Rattle.std.specs.Map.Iter.{deref_pair}
use Rattle.sc_client_table.specs.lookup.LookupDefinitions.{better}
use Rattle.sc_client_table.proofs.lookup.routes.Routes.choose.Given as goal

-- the best of the groups so far
abbrev pub invariant-loop-group : goal.invariant-loop-group
invariant-loop-group l = l.best ≡ fold (better l.p) None (map deref_pair l.yielded)
