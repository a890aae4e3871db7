-- Arcs, sets of nodes, pairs of keys and values, and client tables as JSON.
use Rattle.std.specs.Prelude.{ℕ, List}
use Rattle.std.specs.Cmp.Lexicographic.{slice_cmp}
use Rattle.std.specs.Ordering.{nat_cmp}
use Rattle.serde_json.specs.Data.{Data, string, array, item, no_items}
use Rattle.sc_base.specs.Definitions.{Arc}
use Rattle.sc_base.specs.declared.ops.Noted.{Noted}
use Rattle.sc_json_text.specs.rows.Shapes.{number_json, list_json, pair_json}
use Rattle.sc_json_text.specs.rows.Held.{FitsU16, FitsU32, FitsKey, FitsValue, OrderedFits}
use Rattle.sc_json_text.specs.rows.Ops.{reply_json, FitsReply}

-- The JSON of an arc: the array [lo,len].
unfoldable pub arc_json : Arc → Data
arc_json arc = array (item (number_json arc.lo) (item (number_json arc.len) no_items))

-- The JSON of a set of nodes: the array of the nodes, in the order of the list.
unfoldable pub nodes_json : List ℕ → Data
nodes_json = list_json number_json

-- The JSON of the pairs of a group: the array of [key,value], in the order of the list.
unfoldable pub pairs_json : List (List ℕ × List ℕ) → Data
pairs_json = list_json (pair_json string string)

-- The pairs of a group that the program's type can hold: each key and value is valid, and the keys ascend.
unfoldable pub FitsPairs : List (List ℕ × List ℕ) → Type 0
FitsPairs = OrderedFits (slice_cmp nat_cmp) FitsKey FitsValue

-- The JSON of an entry of a client table: the array [client,number,reply].
unfoldable pub client_json : ℕ × Noted → Data
client_json entry = array (item (number_json entry.0) (item (number_json entry.1.seq) (item (reply_json entry.1.reply) no_items)))

-- The JSON of a client table: the array of its entries, in the order of the list.
unfoldable pub clients_json : List (ℕ × Noted) → Data
clients_json = list_json client_json

-- What a client table notes of a client's last request, as the program's type can hold it: each of its parts is valid.
unfoldable pub FitsNoted : Noted → Type 0
FitsNoted noted = FitsU32 noted.seq × FitsReply noted.reply

-- A client table that the program's type can hold: each entry is valid, and the clients ascend.
unfoldable pub FitsClients : List (ℕ × Noted) → Type 0
FitsClients = OrderedFits nat_cmp FitsU16 FitsNoted
