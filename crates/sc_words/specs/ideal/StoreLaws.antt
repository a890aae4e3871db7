-- Laws of the ideal store's parts, and of client tables.
use Rattle.std.specs.Prelude.{◌≡◌, ℕ, ◌<◌, ◌^◌, Bool, List, Option, Some, None, if◌then◌else◌}
use Rattle.std.specs.Option.{option_map}
use Rattle.std.specs.FinMap.{retain_keys, get, entries}
use Rattle.sc_base.specs.Definitions.{Arc, IsArc, CanJoin, joined}
use Rattle.sc_base.specs.declared.ops.Op.{Op}
use Rattle.sc_base.specs.declared.ops.Noted.{Noted}
use Rattle.sc_words.specs.ideal.IdealStore.{Contents, key_of, after, part_of, with_pairs}
use Rattle.sc_words.specs.ideal.Clients.{ClientTable, joined_with, later}

-- an operation changes the part of the map that has its key as it changes the whole map, and leaves any other part unchanged
abbrev pub ServesApart : Type 0
ServesApart = (op : Op) (contents : Contents) (part : List ℕ → Bool) → retain_keys (after op contents) part ≡ (if part (key_of op) then after op (retain_keys contents part) else retain_keys contents part)

-- the parts of the map on two arcs that meet, joined, are the part on the joined arc
abbrev pub MapPartsJoin : Type 0
MapPartsJoin = (arc next : Arc) (contents : Contents) → arc.lo < 2 ^ 32 → IsArc arc → IsArc next → CanJoin arc next → with_pairs (part_of arc contents) (entries (part_of next contents)) ≡ part_of (joined arc next) contents

-- a joined table has for each client the entry with the greater number, and its own where they are equal
abbrev pub JoinedByNumber : Type 0
JoinedByNumber = (table other : ClientTable) (client : ℕ) → get (joined_with table (entries other)) client ≡ later (get table client) (get other client)

-- the number of an entry, if there is one
abbrev pub noted_number : Option Noted → Option ℕ
noted_number = option_map (λ noted. noted.seq)

-- two entries of one client that have the same number have the same reply
abbrev pub Agree : Option Noted → Option Noted → Type 0
Agree (Some first) (Some second) = first.seq ≡ second.seq → first ≡ second
Agree (Some first) None = Unit {0}
Agree None second = Unit {0}

-- two tables joined in either order have the same numbers, and are the same table if their entries agree
pub record SameJoined (table other : ClientTable) : Type 0 where
  pub numbers : (client : ℕ) → noted_number (get (joined_with table (entries other)) client) ≡ noted_number (get (joined_with other (entries table)) client)
  pub whole : ((client : ℕ) → Agree (get table client) (get other client)) → joined_with table (entries other) ≡ joined_with other (entries table)

-- any two tables join in either order to the same numbers, and to the same table if their entries agree
abbrev pub JoinedInAnyOrder : Type 0
JoinedInAnyOrder = (table other : ClientTable) → SameJoined table other
