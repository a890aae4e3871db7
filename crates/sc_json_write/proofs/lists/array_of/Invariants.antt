use Rattle.std.proofs.Common.{◌≡◌, map, take}
use Rattle.serde_json.specs.View.{view}
use Rattle.sc_base.specs.Among.{Each}
use Rattle.sc_json_write.proofs.lists.array_of.Given as goal

abbrev pub invariant-loop-item : goal.invariant-loop-item
invariant-loop-item g l = (map view l.list.items ≡ map g.T.ToJson.json_of (take l.item-index l.items)) × Each g.T.ToJson.Fits (take l.item-index l.items)
