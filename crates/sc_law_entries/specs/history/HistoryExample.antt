-- Two worked examples. By moves: one group is divided, serves put a x, and gives a to its child, which serves get a. By entries: one group serves put a x and is split, and its child serves get a.
use Rattle.std.specs.Prelude.{◌≡◌, ℕ, ◌^◌, ◌==◌, List, [], ◌∷◌, Option, Some, None, if◌then◌else◌}
use Rattle.std.specs.FinMap.{empty}
use Rattle.sc_base.specs.declared.names.Draw.{Draw}
use Rattle.sc_base.specs.declared.ops.Op.{Op}
use Rattle.sc_base.specs.declared.ops.Op.TheVariants.{Get, Put}
use Rattle.sc_words.specs.declared.ideal.Entry.{Entry}
use Rattle.sc_words.specs.declared.commands.commands.Command.TheVariants.{Call, Split}
use Rattle.sc_words.specs.declared.commands.cores.Base.{Base}
use Rattle.sc_words.specs.declared.commands.cores.Lock.TheVariants.{Free}
use Rattle.sc_meaning.specs.declared.entries.LogEntry.{LogEntry}
use Rattle.sc_meaning.specs.entries.EntryDefinitions.{first_world, world_of}
use Rattle.sc_law_entries.specs.history.AppliedEntries.{AllMayBeApplied}
use Rattle.sc_law_entries.specs.history.Worlds.{BeginBare}
use Rattle.sc_law_entries.specs.history.Moves.{Holding, Holdings, Move, DividedAt, GivenFrom, ServedBy, RequestOf, AreBare, MayMakeAll, history_by, with_holding}

-- the name of the group
abbrev pub parent : Draw
parent = record { node = 0; count = 1 }

-- the name of the child
abbrev pub offspring : Draw
offspring = record { node = 1; count = 1 }

-- a holding of the whole ring with no pairs and an empty client table
abbrev pub bare_ring : Holding
bare_ring = record { arc = record { lo = 0; len = 2 ^ 32 }; pairs = empty; clients = empty }

-- one group has the whole ring
abbrev pub lone_holdings : Holdings
lone_holdings = with_holding parent (Some bare_ring) (λ name. None)

-- the put of client 1: x at the key a, whose position is 1627389952
abbrev pub put_a : Op
put_a = Put (97 ∷ []) (120 ∷ [])

-- the get of client 2, at the key a
abbrev pub get_a : Op
get_a = Get (97 ∷ [])

-- the operation of each request: client 1 puts, any other client gets
abbrev pub two_requests : RequestOf
two_requests client seq = if client == 1 then put_a else get_a

-- the moves of the example
abbrev pub example_moves : List Move
example_moves = DividedAt parent 2147483648 offspring ∷ ServedBy parent 1 1 put_a ∷ GivenFrom parent 1610612736 offspring ∷ ServedBy offspring 2 1 get_a ∷ []

-- a history of the two requests with these two values before them
abbrev pub answers_with : Option (List ℕ) → Option (List ℕ) → List Entry
answers_with first second =
    (record { client = 1; seq = 1; op = put_a; reply = record { old = first } })
    ∷ (record { client = 2; seq = 1; op = get_a; reply = record { old = second } })
    ∷ []

-- the moves may be made from an empty start, and have the history in which the put answers none and the get answers x
pub record ExampleOfMoves : Type 0 where
  pub bare : AreBare lone_holdings
  pub may : MayMakeAll two_requests lone_holdings example_moves
  pub history : history_by lone_holdings example_moves ≡ answers_with None (Some (120 ∷ []))

-- ---- by entries

-- the birth record of a group of nodes 1 and 2 that has the whole ring
abbrev pub lone_base : Base
lone_base = record {
  core = record {
    id = parent;
    first = 1;
    arc = record { lo = 0; len = 2 ^ 32 };
    members = 1 ∷ 2 ∷ [];
    succ = record { group = parent; members = 1 ∷ 2 ∷ [] };
    pred = record { group = parent; members = 1 ∷ 2 ∷ [] };
    lock = Free;
    begun = 0;
    decided = [];
    voted = [];
    born = [];
    gone = None;
  };
  pairs = [];
  clients = [];
}

-- the entry of the put, in the log of the group
abbrev pub put_entry : LogEntry
put_entry = record { group = parent; slot = 1; command = Call 1 1 put_a }

-- the entry by which the group is split at 1610612736
abbrev pub split_entry : LogEntry
split_entry = record { group = parent; slot = 2; command = Split 1610612736 offspring 1 }

-- the entry of the get, in the log of the child
abbrev pub get_entry : LogEntry
get_entry = record { group = offspring; slot = 1; command = Call 2 1 get_a }

-- the three entries, in the order in which they are decided
abbrev pub example_log : List LogEntry
example_log = put_entry ∷ split_entry ∷ get_entry ∷ []

-- the group begins empty, each entry may be applied, and the history is both requests
pub record ExampleOfEntries : Type 0 where
  pub bare : BeginBare (lone_base ∷ [])
  pub may : AllMayBeApplied two_requests (first_world (lone_base ∷ [])) example_log
  pub history : (world_of (lone_base ∷ []) example_log).history ≡ answers_with None (Some (120 ∷ []))
