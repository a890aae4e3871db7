use Rattle.sc_json_write.proofs.ListsAsArrays.{array_full}
use Rattle.sc_json_write.proofs.lists.array_of.Goals as goal

pub returns-clause-json : goal.returns-clause-json
returns-clause-json g c = array_full g.T.ToJson.json_of c.loop-item.list c.args.items.now c.loop-item.item-index c.loop-item-test.false c.loop-item.invariant.0
