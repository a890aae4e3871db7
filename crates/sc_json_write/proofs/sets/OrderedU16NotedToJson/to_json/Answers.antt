use Rattle.std.proofs.Common.{◌∙◌, ap}
use Rattle.sc_json_text.specs.rows.Sets.{client_json, clients_json}
use Rattle.sc_json_text.specs.rows.Shapes.{list_json}
use Rattle.sc_json_write.proofs.ListsAsArrays.{array_full}
use Rattle.sc_json_write.proofs.sets.OrderedU16NotedToJson.to_json.Goals as goal

pub returns-clause-json : goal.returns-clause-json
unfolding clients_json
returns-clause-json c = array_full client_json c.loop-entry.list c.as_slice-entry-items.result.now c.loop-entry.entry-index c.loop-entry-test.false c.loop-entry.invariant.0 ∙ ap (list_json client_json) c.as_slice-entry-items.ensures.same
