use Rattle.std.proofs.Common.{◌∙◌}
use Rattle.sc_json_text.specs.rows.Held.{FitsU16, PairFits}
use Rattle.sc_json_text.specs.rows.Sets.{client_json, FitsNoted}
use Rattle.sc_json_read.proofs.Arrays.{all_seen, item_at, one_more, seen_more, values_full}
use Rattle.sc_json_read.proofs.Finding.{failed_as}
use Rattle.sc_json_read.proofs.sets.clients_of.Goals as goal

pub returns-in_err-entry-clause-finds : goal.returns-in_err-entry-clause-finds
returns-in_err-entry-clause-finds c entries fits same =
    let at = item_at client_json (PairFits FitsU16 FitsNoted) c.args.list.now entries c.loop-json.json-index c.json-item.result c.loop-json-test.true c.json-item.is fits same in
    failed_as c.from_residual.result (λ found. found.items) entries c.in_err-entry.field-0.0 c.from_residual.ensures (c.in_err-entry.ensures.finds at.0 at.1.0 at.1.1)

pub loop-json-preserved : goal.loop-json-preserved
loop-json-preserved c = (
  (λ entries fits same. let at = item_at client_json (PairFits FitsU16 FitsNoted) c.args.list.now entries c.loop-json.json-index c.json-item.result c.loop-json-test.true c.json-item.is fits same in one_more entries c.loop-json.json-index c.in_ok-entry.entry at.0 c.loop-json.entries.items c.push.new.self.items (c.loop-json.invariant.0 entries fits same) c.in_ok-push.ensures.items (c.in_ok-entry.ensures.finds at.0 at.1.0 at.1.1) at.1.2),
  seen_more client_json c.args.list.now c.loop-json.json-index c.json-item.result c.in_ok-entry.entry c.loop-json.entries.items c.push.new.self.items c.loop-json-test.true c.json-item.is c.in_ok-entry.ensures.exact c.in_ok-push.ensures.items c.loop-json.invariant.1,
)

pub returns-clause-finds : goal.returns-clause-finds
returns-clause-finds c entries fits same = c.loop-json.invariant.0 entries fits same ∙ values_full client_json c.args.list.now entries c.loop-json.json-index c.loop-json-test.false same

pub returns-clause-exact : goal.returns-clause-exact
returns-clause-exact c = all_seen client_json c.args.list.now c.loop-json.entries.items c.loop-json.json-index c.loop-json-test.false c.loop-json.invariant.1
