use Rattle.std.proofs.Common.{[]}
use Rattle.std.proofs.lemmas.Result.{IfOk-weaker}
use Rattle.sc_explain.specs.rows.Explained.{no_world}
use Rattle.sc_explain.proofs.rows.explaining.begin.Goals as goal

pub returns : goal.returns
returns c = IfOk-weaker c.say.result _ _ (λ said h. (let done = h c.in_ok-groups.ensures in (done.0, done.1 no_world [] c.nothing-none.ensures c.new.ensures.items))) c.say.ensures
