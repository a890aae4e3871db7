-- Names of groups and transactions, and ballots, as JSON.
use Rattle.std.specs.Prelude.{◌++◌, codes, decimal}
use Rattle.serde_json.specs.Data.{Data, string, array, item, no_items}
use Rattle.sc_base.specs.declared.names.Ballot.{Ballot}
use Rattle.sc_base.specs.declared.names.Draw.{Draw}
use Rattle.sc_json_text.specs.rows.Shapes.{number_json}
use Rattle.sc_json_text.specs.rows.Held.{FitsU16, FitsU32}

-- The JSON of a name: the string A.B, with the node that drew it and the number of the draw.
unfoldable pub draw_json : Draw → Data
draw_json draw = string (decimal draw.node ++ codes "." ++ decimal draw.count)

-- A name that the program's type can hold: its numbers are in their ranges.
unfoldable pub FitsDraw : Draw → Type 0
FitsDraw draw = FitsU16 draw.node × FitsU32 draw.count

-- The JSON of a ballot: the array [round,node].
unfoldable pub ballot_json : Ballot → Data
ballot_json ballot = array (item (number_json ballot.round) (item (number_json ballot.node) no_items))

-- A ballot that the program's type can hold: its numbers are in their ranges.
unfoldable pub FitsBallot : Ballot → Type 0
FitsBallot ballot = FitsU32 ballot.round × FitsU16 ballot.node
