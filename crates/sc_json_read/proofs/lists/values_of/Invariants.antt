use Rattle.std.proofs.Common.{◌≡◌, List, map, take}
use Rattle.serde_json.specs.View.{view, items_view}
use Rattle.sc_base.specs.Among.{Each}
use Rattle.sc_json_text.specs.rows.Shapes.{items_json}
use Rattle.sc_json_read.proofs.lists.values_of.Given as goal

abbrev pub invariant-loop-json : goal.invariant-loop-json
invariant-loop-json g l = ((values : List g.row.T.Denot) → Each g.T.FromJson.Fits values → items_view l.list ≡ items_json g.T.FromJson.json_of values → l.values.items ≡ take l.json-index values) × (map view (take l.json-index l.list) ≡ map g.T.FromJson.json_of l.values.items)
