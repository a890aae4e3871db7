use Rattle.std.proofs.Common.{◌∙◌}
use Rattle.sc_json_read.proofs.Arrays.{all_seen, item_at, one_more, seen_more, values_full}
use Rattle.sc_json_read.proofs.Finding.{failed_as}
use Rattle.sc_json_read.proofs.lists.values_of.Goals as goal

pub returns-in_err-value-clause-finds : goal.returns-in_err-value-clause-finds
returns-in_err-value-clause-finds g c values fits same =
    let at = item_at g.T.FromJson.json_of g.T.FromJson.Fits c.args.list.now values c.loop-json.json-index c.json-item.result c.loop-json-test.true c.json-item.is fits same in
    failed_as c.from_residual.result (λ found. found.items) values c.in_err-value.field-0.0 c.from_residual.ensures (c.in_err-value.ensures.finds at.0 at.1.0 at.1.1)

pub loop-json-preserved : goal.loop-json-preserved
loop-json-preserved g c = (
  (λ values fits same. let at = item_at g.T.FromJson.json_of g.T.FromJson.Fits c.args.list.now values c.loop-json.json-index c.json-item.result c.loop-json-test.true c.json-item.is fits same in one_more values c.loop-json.json-index c.in_ok-value.value at.0 c.loop-json.values.items c.push.new.self.items (c.loop-json.invariant.0 values fits same) c.in_ok-push.ensures.items (c.in_ok-value.ensures.finds at.0 at.1.0 at.1.1) at.1.2),
  seen_more g.T.FromJson.json_of c.args.list.now c.loop-json.json-index c.json-item.result c.in_ok-value.value c.loop-json.values.items c.push.new.self.items c.loop-json-test.true c.json-item.is c.in_ok-value.ensures.exact c.in_ok-push.ensures.items c.loop-json.invariant.1,
)

pub returns-clause-finds : goal.returns-clause-finds
returns-clause-finds g c values fits same = c.loop-json.invariant.0 values fits same ∙ values_full g.T.FromJson.json_of c.args.list.now values c.loop-json.json-index c.loop-json-test.false same

pub returns-clause-exact : goal.returns-clause-exact
returns-clause-exact g c = all_seen g.T.FromJson.json_of c.args.list.now c.loop-json.values.items c.loop-json.json-index c.loop-json-test.false c.loop-json.invariant.1
