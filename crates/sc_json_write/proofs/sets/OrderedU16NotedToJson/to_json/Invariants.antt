use Rattle.std.proofs.Common.{◌≡◌, map, take}
use Rattle.serde_json.specs.View.{view}
use Rattle.sc_base.specs.Among.{Each}
use Rattle.sc_json_text.specs.rows.Held.{FitsU16, PairFits}
use Rattle.sc_json_text.specs.rows.Sets.{client_json, FitsNoted}
use Rattle.sc_json_write.proofs.sets.OrderedU16NotedToJson.to_json.Given as goal

abbrev pub invariant-loop-entry : goal.invariant-loop-entry
invariant-loop-entry l = (map view l.list.items ≡ map client_json (take l.entry-index l.entry-items)) × Each (PairFits FitsU16 FitsNoted) (take l.entry-index l.entry-items)
