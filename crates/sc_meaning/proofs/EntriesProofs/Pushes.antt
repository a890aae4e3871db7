-- What more entries make of a world.
use Rattle.std.proofs.Common.{◌≡◌, List, [], ◌∷◌, ◌++◌, refl}
use Rattle.sc_meaning.specs.declared.entries.LogEntry.{LogEntry}
use Rattle.sc_meaning.specs.entries.EntryDefinitions.{StoreWorld, recorded, world_after}

-- the world after more entries is made of the world before them
pub world_append : (world : StoreWorld) (entries more : List LogEntry) → world_after world (entries ++ more) ≡ world_after (world_after world entries) more
world_append world [] more = refl
world_append world (entry ∷ entries) more = world_append (recorded world entry) entries more
