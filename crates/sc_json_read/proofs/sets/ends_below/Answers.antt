use Rattle.sc_json_read.proofs.Risen.{ends_by}
use Rattle.sc_json_read.proofs.sets.ends_below.Goals as goal

pub returns-in-Some : goal.returns-in-Some
returns-in-Some g c = ends_by g.K.Ord.cmp c.args.list.now c.as_slice.result.now c.in-Some.last.now c.args.key.now c.cmp.result c.eq.result c.as_slice.ensures.same c.in-Some.ensures.value c.cmp.ensures c.eq.ensures
