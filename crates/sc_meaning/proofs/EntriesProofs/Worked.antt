-- Words for worked lists of entries: the groups at the start, entries, and what is seen of a world after each entry.
use Rattle.std.proofs.Common.{ℕ, List, [], ◌∷◌, None, map}
use Rattle.std.specs.List.{flat_map}
use Rattle.std.specs.Option.{option_to_list}
use Rattle.sc_base.specs.Definitions.{Arc}
use Rattle.sc_base.specs.declared.names.Draw.{Draw}
use Rattle.sc_words.specs.declared.commands.commands.Command.{Command}
use Rattle.sc_words.specs.declared.commands.cores.Base.{Base}
use Rattle.sc_words.specs.declared.commands.cores.Lock.TheVariants.{Free}
use Rattle.sc_group_table.specs.machine.MachineDefinitions.{Group}
use Rattle.sc_meaning.specs.declared.entries.LogEntry.{LogEntry}
use Rattle.sc_meaning.specs.entries.EntryDefinitions.{effective, StoreWorld, recorded}
use Rattle.sc_meaning.specs.declared.entries.Cut.{Cut}

-- a name
abbrev pub draw : ℕ → ℕ → Draw
draw node count = record { node = node; count = count }

-- a group of a scenario: its name and arc, its members, and its neighbours with theirs
abbrev pub born : ℕ → ℕ → ℕ → List ℕ → ℕ → List ℕ → ℕ → List ℕ → Base
born name lo len members succ after pred before = record {
  core = record {
    id = draw 0 name;
    first = 1;
    arc = record { lo = lo; len = len };
    members = members;
    succ = record { group = draw 0 succ; members = after };
    pred = record { group = draw 0 pred; members = before };
    lock = Free;
    begun = 0;
    decided = [];
    voted = [];
    born = [];
    gone = None;
  };
  pairs = [];
  clients = [];
}

-- an entry of a log
abbrev pub entry : Draw → ℕ → Command → LogEntry
entry group slot command = record { group = group; slot = slot; command = command }

-- a cut of the ring
abbrev pub cut : ℕ → ℕ → Draw → Cut
cut lo len group = record { arc = record { lo = lo; len = len }; group = group }

-- what is seen of an effective record: its name, its arc and its neighbours
pub record Shown : Type 0 where
  pub group : Draw
  pub arc : Arc
  pub succ : Draw
  pub pred : Draw

-- the same by its numbers
abbrev pub shown : Draw → ℕ → ℕ → Draw → Draw → Shown
shown group lo len succ pred = record { group = group; arc = record { lo = lo; len = len }; succ = succ; pred = pred }

-- what is seen of a group
abbrev pub seen : Group → Shown
seen group = record { group = group.core.id; arc = group.core.arc; succ = group.core.succ.group; pred = group.core.pred.group }

-- what is seen of a world: the ring, and the effective record of each of its groups
pub record Shape : Type 0 where
  pub ring : List Cut
  pub records : List Shown

-- the same by its parts
abbrev pub shape : List Cut → List Shown → Shape
shape ring records = record { ring = ring; records = records }

-- the effective records of the groups that have a cut
abbrev pub records_of : StoreWorld → List Cut → List Shown
records_of world ring = map seen (flat_map (λ cut. option_to_list (effective world cut.group)) ring)

-- the shape of a world
abbrev pub shape_of : StoreWorld → Shape
shape_of world = shape world.ring (records_of world world.ring)

-- the shapes of a world before any entry and after each
abbrev pub shapes : StoreWorld → List LogEntry → List Shape
shapes world [] = shape_of world ∷ []
shapes world (entry ∷ entries) = shape_of world ∷ shapes (recorded world entry) entries
